-- Reading undoes framing: a frame with its SDU, and with the check bits of that where the FCS flag announces them, is received as
-- that PDU with that SDU, and nothing else is received.
use Prim.Native.Nat.{ℕ, ◌+◌, ◌-◌, ◌≤◌}
use native.Mathlib.Omega.{arith}
use mathlib.Core.Path.{◌≡◌, ◌∙◌, refl, sym, ap, ap₂}
use mathlib.Core.Bool.{Bool, true, false, not, ◌||◌, cond}
use mathlib.Core.List.{List, [], ◌++◌, append-nil}
use borrow.Author.Tests.{le-leb, leb-true, eqb-true, eq-eqb}
use lib.Dec.{leb, eqb}
use lib.ListN.{length, take, drop, length-append, length-drop, take-append-drop}
use lib.Seq.{take_all, take_at, drop_at}
use Rattle.std.proofs.lemmas.Bool.{and_parts}
use Rattle.bits.specs.Bits.{AllBits, value, part, splice}
use Rattle.bits.proofs.Laws.{all_drop, value-determines}
use Rattle.fcs.specs.Fcs.{fcs_bits, fcs}
use Rattle.fcs.proofs.Laws.{length-fcs, all-fcs}
use Rattle.questions.specs.Outcome.{Outcome, accepted, refused, ask}
use Rattle.questions.proofs.Asked.{content, accepted-passed}
use Rattle.llc_pdus.specs.Headers.{header, Reading, reading, has_fcs}
use Rattle.llc_pdus.specs.Frames.{check_sequence, frame_bits}
use Rattle.llc_pdus.specs.Received.{Received, checks, sdu_before, checked, received}
use Rattle.llc_pdus.specs.Writes.{frame}
use Rattle.llc_pdus.specs.declared.Pdu.{Pdu}
use Rattle.llc_pdus.specs.declared.Pdu.TheVariants.{BlAck}
use Rattle.llc_pdus.proofs.Laws.{header-reads, reading-header}
use Rattle.llc_pdus.proofs.RoundTrip.{in-front}
use Rattle.llc_pdus.proofs.Received.{behind, parts_of, asked_of, size_of}

-- What stands behind the header of a frame.
module _ (p : Pdu) (sdu : List ℕ) where
  abbrev rest : List ℕ
  rest = sdu ++ check_sequence p sdu

  -- Its check is right, if it has one, and the SDU is what ends before it.
  check-right : not (has_fcs p) || checks rest ≡ true
  unfolding checks
  check-right = go (has_fcs p) refl
    where
      go : (b : Bool) → has_fcs p ≡ b → not b || checks (sdu ++ cond b (fcs sdu) []) ≡ true
      go false e = refl
      go true e =
          let l : List ℕ = sdu ++ fcs sdu in
          let long : length l ≡ length sdu + 32 = omega (arith, length-append sdu (fcs sdu), length-fcs sdu) in
          let m : length l - fcs_bits ≡ length sdu = omega arith in
          rw (le-leb fcs_bits (length l) (omega arith), m, take_at sdu (fcs sdu) (length sdu) refl, drop_at sdu (fcs sdu) (length sdu) refl)
          (eq-eqb (value (fcs sdu)) (value (fcs sdu)) refl)

  sdu-is : sdu_before p rest ≡ sdu
  sdu-is = go (has_fcs p)
    where
      go : (b : Bool) → take (length (sdu ++ cond b (fcs sdu) []) - cond b fcs_bits 0) (sdu ++ cond b (fcs sdu) []) ≡ sdu
      go false = take_at sdu [] (length (sdu ++ []) - 0) (omega (arith, length-append sdu []))
      go true =
          take_at sdu (fcs sdu) (length (sdu ++ fcs sdu) - fcs_bits) (omega (arith, length-append sdu (fcs sdu), length-fcs sdu))

  pub frame-received : received (frame_bits p sdu) ≡ accepted (record { header = p; sdu = sdu })
  unfolding received checked frame_bits
  frame-received =
      let k : ℕ = length (header p) in
      let e : drop k (header p ++ rest) ≡ rest = drop_at (header p) rest k refl in
      ap (checked (header p ++ rest)) (header-reads p rest)
      ∙ ap
      (λ (l : List ℕ). ask 12 (not (has_fcs p) || checks l) (accepted (record { header = p; sdu = sdu_before p l })))
      e
      ∙ rw (check-right, sdu-is)

-- A BL-ACK without the flag that stands alone.
pub reply-received : (nr : Bool) → received (header (BlAck false nr)) ≡ accepted (record { header = BlAck false nr; sdu = [] })
unfolding frame_bits
reply-received nr = frame-received (BlAck false nr) []

-- What stands behind the header is the SDU with its check bits.
sdu-with-check : (p : Pdu) (l : List ℕ) → AllBits l → not (has_fcs p) || checks l ≡ true → l ≡ sdu_before p l ++ check_sequence p (sdu_before p l)
unfolding checks
sdu-with-check p l h q = go (has_fcs p) q
  where
    go :
        (b : Bool)
        → not b || checks l ≡ true
        → l ≡ take (length l - cond b fcs_bits 0) l ++ cond b (fcs (take (length l - cond b fcs_bits 0) l)) []
    go false e = sym (append-nil (take (length l - 0) l) ∙ take_all (length l - 0) l (omega arith))
    go true e =
        let m : ℕ = length l - fcs_bits in
        let t = and_parts (leb fcs_bits (length l)) (eqb (value (fcs (take m l))) (value (drop m l))) e in
        let long : fcs_bits ≤ length l = leb-true fcs_bits (length l) t.0 in
        let same : fcs (take m l) ≡ drop m l =
        value-determines (fcs (take m l)) (drop m l) (all-fcs (take m l)) (all_drop m l h)
        (omega (arith, length-fcs (take m l), length-drop m l))
        (eqb-true (value (fcs (take m l))) (value (drop m l)) t.1) in
        sym (ap (λ (x : List ℕ). take m l ++ x) same ∙ take-append-drop m l)

pub received-frame : (l : List ℕ) (r : Received) → AllBits l → received l ≡ accepted r → l ≡ frame_bits r.header r.sdu
unfolding received checked frame_bits
received-frame l r h e = go (reading l) refl e
  where
    go : (o : Outcome Reading) → reading l ≡ o → checked l o ≡ accepted r → l ≡ frame_bits r.header r.sdu
    go (refused n) q t = let z : ◌≡◌ {A = ℕ} 0 1 = cc in absurd (omega arith)
    go (accepted x) q t =
        let p : Pdu = x.pdu in
        let s = size_of l x (sym q) in
        let a = accepted-passed 12 (not (has_fcs p) || checks (behind p l)) (sym t ∙ asked_of l x s) in
        let is : r ≡ parts_of p l = ap (content r) a.1 in
        let front : take (length (header p)) l ≡ header p = sym (ap (λ (k : ℕ). take k l) s.is) ∙ reading-header l x h q in
        let back = sdu-with-check p (behind p l) (all_drop (length (header p)) l h) a.0 in
        rw is (sym (take-append-drop (length (header p)) l) ∙ ap₂ ◌++◌ front back)

-- A frame that was written is received as it was meant.
pub received-back :
    (p : Pdu) (l s : List ℕ) (from n : ℕ)
    → received (take (length (frame p s from n)) (splice l 0 (frame p s from n))) ≡ accepted (record { header = p; sdu = part s from n })
received-back p l s from n = ap received (in-front p l s from n) ∙ frame-received p (part s from n)
