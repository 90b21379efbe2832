-- A received frame: questions 9 to 12, its header, and its SDU.
use Rattle.std.specs.Prelude.{ℕ, ◌-◌, Bool, not, ◌&&◌, ◌||◌, List, eqb, leb, length, take, drop}
use Rattle.bits.specs.Bits.{value}
use Rattle.fcs.specs.Fcs.{fcs_bits, fcs}
use Rattle.questions.specs.Outcome.{Outcome, accepted, refused, ask}
use Rattle.llc_pdus.specs.Headers.{Reading, reading, has_fcs}
use Rattle.llc_pdus.specs.Frames.{check_bits}
use Rattle.llc_pdus.specs.declared.Pdu.{Pdu}

-- A frame taken apart: its header, and its SDU.
pub record Received : Type 0 where
  pub header : Pdu
  pub sdu : List ℕ

-- "At least 32 bits left and the check right?" of what is behind the header. "The check runs over the part between header and
-- last 32 bits."
unfoldable pub checks : List ℕ → Bool
checks l = leb fcs_bits (length l) && eqb (value (fcs (take (length l - fcs_bits) l))) (value (drop (length l - fcs_bits) l))

-- "A received SDU ends before its 32 check bits": it is what stands behind the header, less the last 32 bits where the flag is set.
abbrev pub sdu_before : Pdu → List ℕ → List ℕ
sdu_before p l = take (length l - check_bits p) l

-- "12. FCS flag 0, or at least 32 bits left and the check right?"
unfoldable pub checked : List ℕ → Outcome Reading → Outcome Received
checked l (refused n) = refused n
checked l (accepted r) =
    ask 12 (not (has_fcs r.pdu) || checks (drop r.size l))
    (accepted (record { header = r.pdu; sdu = sdu_before r.pdu (drop r.size l) }))

-- Questions 9 to 12 put to the bits of a frame.
unfoldable pub received : List ℕ → Outcome Received
received l = checked l (reading l)
