-- What was written reads back: the same PDU, and behind its header the same SDU bits.
use Prim.Native.Nat.{ℕ, ◌+◌, ◌≤◌}
use native.Mathlib.Omega.{arith}
use mathlib.Core.Path.{◌≡◌, ◌∙◌, refl, ap}
use mathlib.Core.List.{List, ◌++◌, append_assoc}
use lib.ListN.{length, take, drop}
use lib.Seq.{take_at, drop-append-le, drop_at}
use Rattle.bits.specs.Bits.{part, splice}
use Rattle.bits.proofs.Laws.{length_part}
use Rattle.questions.specs.Outcome.{accepted}
use Rattle.llc_pdus.specs.Headers.{header, reading}
use Rattle.llc_pdus.specs.Frames.{check_sequence, frame_bits}
use Rattle.llc_pdus.specs.Writes.{frame}
use Rattle.llc_pdus.specs.declared.Pdu.{Pdu}
use Rattle.llc_pdus.proofs.Laws.{frame-reads}
use Rattle.llc_pdus.proofs.Framing.{length-frame-of}

module _ (p : Pdu) (l s : List ℕ) (from n : ℕ) where
  -- The frame stands in front of the bits that it was written to.
  pub in-front : take (length (frame p s from n)) (splice l 0 (frame p s from n)) ≡ frame p s from n
  in-front = take_at (frame p s from n) (drop (0 + length (frame p s from n)) l) (length (frame p s from n)) refl

  -- It reads as the same PDU.
  pub reads-back :
      reading (take (length (frame p s from n)) (splice l 0 (frame p s from n)))
      ≡ accepted (record { pdu = p; size = length (header p) })
  reads-back = ap reading in-front ∙ frame-reads p (part s from n)

  -- And the SDU is the same.
  pub sdu-back : from + n ≤ length s → part (splice l 0 (frame p s from n)) (length (header p)) n ≡ part s from n
  unfolding frame_bits
  sdu-back there =
      let k : ℕ = length (header p) in
      let sdu : List ℕ = part s from n in
      let check : List ℕ = check_sequence p sdu in
      let rest : List ℕ = drop (0 + length (frame p s from n)) l in
      let long = length-frame-of p s from n there in
      ap (take n)
      (drop-append-le k (frame p s from n) rest (omega arith)
      ∙ ap (λ (t : List ℕ). t ++ rest) (drop_at (header p) (sdu ++ check) k refl)
      ∙ append_assoc sdu check rest)
      ∙ take_at sdu (check ++ rest) n (length_part s from n there)
