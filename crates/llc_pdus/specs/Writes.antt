-- A frame written to lent bytes.
use Rattle.std.specs.Prelude.{ℕ, ◌+◌, ◌^◌, ◌-◌, min, ◌&&◌, List, leb, length}
use Rattle.bits.specs.Bits.{part, splice}
use Rattle.questions.specs.Outcome.{accepted}
use Rattle.questions.specs.Effect.{Effect, effect, asked}
use Rattle.fcs.specs.Fcs.{fcs_bits}
use Rattle.llc_pdus.specs.Headers.{Kind, adata, length_of}
use Rattle.llc_pdus.specs.Frames.{frame_bits}
use Rattle.llc_pdus.specs.declared.Pdu.{Pdu}

-- "The SDU, at most 2,595 bits outgoing."
abbrev pub longest : ℕ
longest = 2595

-- The most bits of a frame that is sent with a header of a type: with check bits. And of any frame that is sent: "outgoing frames
-- then reach 2,633 bits".
abbrev pub longest_of : Kind → ℕ
longest_of k = length_of k + longest + fcs_bits

abbrev pub longest_sent : ℕ
longest_sent = longest_of adata

-- The frame of a PDU with n bits of s from a place on as its SDU.
abbrev pub frame : Pdu → List ℕ → ℕ → ℕ → List ℕ
frame p s from n = frame_bits p (part s from n)

-- Writing to the front of the bits l, which answers the frame's length: question 5 asks for the SDU's length and whether its
-- bits lie in s, up to the last place that a number of 64 bits can name; question 8 whether the frame fits.
abbrev pub written : Pdu → List ℕ → List ℕ → ℕ → ℕ → Effect ℕ
written p l s from n =
    asked 5 (leb n longest && leb (from + n) (min (length s) (2 ^ 64 - 1))) l
    (asked 8 (leb (length (frame p s from n)) (length l)) l
    (effect (accepted (length (frame p s from n))) (splice l 0 (frame p s from n))))
