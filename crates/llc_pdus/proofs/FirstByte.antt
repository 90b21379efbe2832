-- The header of a frame is in its first byte: what the questions 9, 10 and 11 say of it.
use Prim.Native.Nat.{ℕ, ◌≤◌, ◌<◌}
use native.Mathlib.Omega.{arith}
use mathlib.Core.Path.{◌≡◌, ◌∙◌, refl, ap, ap₂}
use mathlib.Core.Bool.{Bool, true, false}
use mathlib.Core.List.{List}
use borrow.Author.Tests.{le-leb, lt-leb}
use lib.Dec.{leb, eqb}
use lib.ListN.{length, get_or, take, drop, get_or-append}
use lib.Seq.{get_or-take, length-take-le}
use Rattle.bits.specs.Bits.{to_bits, bits}
use Rattle.bits.proofs.Laws.{length-bits, length-to_bits, byte-bits}
use Rattle.questions.specs.Outcome.{accepted, refused, ask}
use Rattle.llc_pdus.specs.Headers.{header, Kind, adata, bdata, udata, ack, kind_of, length_of, pdu_of, one, kind_at, reading_of, reading}
use Rattle.llc_pdus.specs.declared.Pdu.{Pdu}

-- The first eight bits of a frame.
abbrev pub first : List ℕ → List ℕ
first f = to_bits 8 (get_or f 0 0)

-- A PDU's header has the length of its type's.
pub header-length : (k : Kind) (fcs x y : Bool) → length (header (pdu_of k fcs x y)) ≡ length_of k
header-length adata fcs x y = refl
header-length bdata fcs x y = refl
header-length udata fcs x y = refl
header-length ack fcs x y = refl

-- A PDU does not depend on what is behind its header.
same-pdu :
    (k : Kind) {fcs fcs' x x' y y' : Bool} (n : ℕ)
    → length_of k ≤ n
    → fcs ≡ fcs'
    → (4 < n → x ≡ x')
    → (5 < n → y ≡ y')
    → pdu_of k fcs x y ≡ pdu_of k fcs' x' y'
same-pdu adata n h e f g = λ i. pdu_of adata (e i) (f (omega arith) i) (g (omega arith) i)
same-pdu bdata {y = y} n h e f g = λ i. pdu_of bdata (e i) (f (omega arith) i) y
same-pdu udata {x = x} {y = y} n h e f g = λ i. pdu_of udata (e i) x y
same-pdu ack {y = y} n h e f g = λ i. pdu_of ack (e i) (f (omega arith) i) y

module _ (f : List ℕ) (n : ℕ) (four : 4 ≤ n) (fits : n ≤ length (bits f)) where
  pub has_first : 0 < length f
  has_first = let e = length-bits f in omega arith

  taken : length (take n (bits f)) ≡ n
  taken = length-take-le n (bits f) fits

  one-is : (i : ℕ) → i < n → i < 8 → one (take n (bits f)) i ≡ one (first f) i
  unfolding bits
  one-is i below eight =
      let long = length-to_bits 8 (get_or f 0 0) in
      ap (λ (b : ℕ). eqb b 1)
      (get_or-take n (bits f) i 0 below
      ∙ ap (λ (t : List ℕ). get_or t i 0) (byte-bits 0 f has_first)
      ∙ get_or-append (first f) (bits (drop 1 f)) 0 i (omega arith))

  kind-is : kind_at (take n (bits f)) ≡ kind_at (first f)
  kind-is = ap₂ kind_of (one-is 2 (omega arith) (omega arith)) (one-is 3 (omega arith) (omega arith))

  reading-is : length_of (kind_at (first f)) ≤ n → reading_of (take n (bits f)) ≡ reading_of (first f)
  reading-is whole =
      let l : List ℕ = take n (bits f) in
      let t : List ℕ = first f in
      let pdu : pdu_of (kind_at t) (one l 1) (one l 4) (one l 5) ≡ pdu_of (kind_at t) (one t 1) (one t 4) (one t 5) =
      same-pdu (kind_at t) n whole (one-is 1 (omega arith) (omega arith)) (λ h. one-is 4 h (omega arith)) (λ h. one-is 5 h (omega arith)) in
      ap (λ (k : Kind). record { pdu = pdu_of k (one l 1) (one l 4) (one l 5); size = length_of k }) kind-is
      ∙ ap (λ (p : Pdu). record { pdu = p; size = length_of (kind_at t) }) pdu

  -- Question 10 fails, question 11 fails, none does.
  pub not-basic : one (first f) 0 ≡ true → reading (take n (bits f)) ≡ refused 10
  unfolding reading
  not-basic h = rw (taken, le-leb 4 n four, one-is 0 (omega arith) (omega arith), h)

  pub no_header : one (first f) 0 ≡ false → n < length_of (kind_at (first f)) → reading (take n (bits f)) ≡ refused 11
  unfolding reading
  no_header h short =
      rw (taken, le-leb 4 n four, one-is 0 (omega arith) (omega arith), h, kind-is, lt-leb (length_of (kind_at (first f))) n short)

  pub whole-header : one (first f) 0 ≡ false → length_of (kind_at (first f)) ≤ n → reading (take n (bits f)) ≡ accepted (reading_of (first f))
  unfolding reading
  whole-header h whole =
      rw (taken, le-leb 4 n four, one-is 0 (omega arith) (omega arith), h)
      (ap (λ (k : Kind). ask 11 (leb (length_of k) n) (accepted (reading_of (take n (bits f))))) kind-is
      ∙ rw (le-leb (length_of (kind_at (first f))) n whole) (ap accepted (reading-is whole)))

-- Question 9 fails.
pub too_short : (f : List ℕ) (n : ℕ) → n < 4 → n ≤ length (bits f) → reading (take n (bits f)) ≡ refused 9
unfolding reading
too_short f n short fits = rw (length-take-le n (bits f) fits, lt-leb 4 n short)
