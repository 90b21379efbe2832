-- A frame put together: how long it is, and what the questions 5 and 8 say.
use Prim.Native.Nat.{ℕ, ◌+◌, ◌-◌, ◌^◌, ◌≤◌, ◌<◌, min}
use native.Mathlib.Omega.{arith}
use mathlib.Core.Path.{◌≡◌, ◌∙◌, refl, ap, ap₂}
use mathlib.Core.Bool.{Bool, true, false, cond}
use mathlib.Core.List.{List, [], ◌++◌, append_assoc}
use borrow.Author.Tests.{le-leb, lt-leb}
use lib.ListN.{length, length-append}
use Rattle.bits.specs.Bits.{part, splice, AllBits}
use Rattle.bits.proofs.Laws.{length_part, splice-splice, all_append}
use Rattle.fcs.specs.Fcs.{fcs_bits, fcs}
use Rattle.fcs.proofs.Laws.{length-fcs, all-fcs}
use Rattle.questions.specs.Outcome.{accepted, refused}
use Rattle.questions.specs.Effect.{effect}
use Rattle.llc_pdus.specs.Headers.{bit, header, has_fcs, Kind, adata, length_of}
use Rattle.llc_pdus.specs.Frames.{check_bits, check_sequence, frame_bits}
use Rattle.llc_pdus.specs.Writes.{longest, longest_of, longest_sent, frame, written}
use Rattle.llc_pdus.specs.declared.Pdu.{Pdu}
use Rattle.llc_pdus.specs.declared.Pdu.TheVariants.{BlAdata, BlData, BlUdata, BlAck}
use Rattle.llc_pdus.proofs.Laws.{header-short}

-- A header is a list of bits.
bit_below : (b : Bool) → bit b < 2
bit_below true = omega arith
bit_below false = omega arith

pub all-header : (p : Pdu) → AllBits (header p)
all-header (BlAdata f r s) =
    (omega arith, (bit_below f, (omega arith, (omega arith, (bit_below r, (bit_below s, tt))))))
all-header (BlData f s) = (omega arith, (bit_below f, (omega arith, (omega arith, (bit_below s, tt)))))
all-header (BlUdata f) = (omega arith, (bit_below f, (omega arith, (omega arith, tt))))
all-header (BlAck f r) = (omega arith, (bit_below f, (omega arith, (omega arith, (bit_below r, tt)))))

-- Check bits: how many, and that they are bits.
pub check-few : (p : Pdu) → check_bits p ≤ fcs_bits
check-few p = go (has_fcs p)
  where
    go : (b : Bool) → cond b fcs_bits 0 ≤ fcs_bits
    go true = omega arith
    go false = omega arith

pub length-check : (p : Pdu) (sdu : List ℕ) → length (check_sequence p sdu) ≡ check_bits p
length-check p sdu = go (has_fcs p)
  where
    go : (b : Bool) → length (cond b (fcs sdu) []) ≡ cond b fcs_bits 0
    go true = length-fcs sdu
    go false = refl

all-check : (p : Pdu) (sdu : List ℕ) → AllBits (check_sequence p sdu)
all-check p sdu = go (has_fcs p)
  where
    go : (b : Bool) → AllBits (cond b (fcs sdu) [])
    go true = all-fcs sdu
    go false = tt

-- The laws of a frame, for callers: how long it is, for an SDU that is not too long, and that it is a list of bits.
pub length-frame : (p : Pdu) (sdu : List ℕ) → length (frame_bits p sdu) ≡ length (header p) + length sdu + check_bits p
unfolding frame_bits
length-frame p sdu =
    omega
    (arith, length-append (header p) (sdu ++ check_sequence p sdu), length-append sdu (check_sequence p sdu), length-check p sdu)

pub frame-least : (k : Kind) (p : Pdu) (sdu : List ℕ) → length_of k ≤ length (header p) → length_of k ≤ length (frame_bits p sdu)
frame-least k p sdu h = omega (arith, length-frame p sdu)

pub frame-most : (k : Kind) (p : Pdu) (sdu : List ℕ) → length (header p) ≤ length_of k → length sdu ≤ longest → length (frame_bits p sdu) ≤ longest_of k
frame-most k p sdu h short = omega (arith, length-frame p sdu, check-few p)

pub frame-short : (p : Pdu) (sdu : List ℕ) → length sdu ≤ longest → length (frame_bits p sdu) ≤ longest_sent
frame-short p sdu short = frame-most adata p sdu (header-short p) short

pub all-frame : (p : Pdu) (sdu : List ℕ) → AllBits sdu → AllBits (frame_bits p sdu)
unfolding frame_bits
all-frame p sdu all =
    all_append (header p) (sdu ++ check_sequence p sdu) (all-header p) (all_append sdu (check_sequence p sdu) all (all-check p sdu))

-- And with a part of bits as its SDU.
pub length-frame-of :
    (p : Pdu) (s : List ℕ) (from n : ℕ) → from + n ≤ length s → length (frame p s from n) ≡ length (header p) + n + check_bits p
length-frame-of p s from n there =
    length-frame p (part s from n) ∙ ap (λ (k : ℕ). length (header p) + k + check_bits p) (length_part s from n there)

module _ (p : Pdu) (l s : List ℕ) (from n : ℕ) where
  -- Question 8 fails, and none does.
  pub no_room :
      n ≤ longest
      → from + n ≤ min (length s) (2 ^ 64 - 1)
      → length l < length (frame p s from n)
      → written p l s from n ≡ effect (refused 8) l
  no_room few there short =
      rw (le-leb n longest few, le-leb (from + n) (min (length s) (2 ^ 64 - 1)) there, lt-leb (length (frame p s from n)) (length l) short)

  pub has_room :
      n ≤ longest
      → from + n ≤ min (length s) (2 ^ 64 - 1)
      → length (frame p s from n) ≤ length l
      → written p l s from n ≡ effect (accepted (length (frame p s from n))) (splice l 0 (frame p s from n))
  has_room few there fits =
      rw (le-leb n longest few, le-leb (from + n) (min (length s) (2 ^ 64 - 1)) there, le-leb (length (frame p s from n)) (length l) fits)

  -- The header, the SDU behind it and the check sequence behind that are the frame.
  pub in_three :
      from + n ≤ length s
      → length (header p) + n + check_bits p ≤ length l
      → splice (splice (splice l 0 (header p)) (length (header p)) (part s from n)) (length (header p) + n) (check_sequence p (part s from n))
      ≡ splice l 0 (frame p s from n)
  unfolding frame_bits
  in_three there fits =
      let sdu : List ℕ = part s from n in
      let check : List ℕ = check_sequence p sdu in
      let long : length sdu ≡ n = length_part s from n there in
      let front : length (header p ++ sdu) ≡ length (header p) + length sdu = length-append (header p) sdu in
      let here : length (header p) ≡ 0 + length (header p) = omega arith in
      let behind : length (header p) + n ≡ 0 + length (header p ++ sdu) = omega arith in
      let checks = length-check p sdu in
      ap₂ (λ (t : List ℕ) (k : ℕ). splice t k check)
      (ap (λ (k : ℕ). splice (splice l 0 (header p)) k sdu) here ∙ splice-splice l 0 (header p) sdu (omega arith))
      behind
      ∙ splice-splice l 0 (header p ++ sdu) check (omega arith)
      ∙ ap (splice l 0) (append_assoc (header p) sdu check)
