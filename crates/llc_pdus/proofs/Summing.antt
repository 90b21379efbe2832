-- The check sequence of an SDU, as it is summed and put behind it.
use Prim.Native.Nat.{ℕ}
use mathlib.Core.Path.{◌≡◌, ◌∙◌, sym, ap, ap₂}
use mathlib.Core.Bool.{Bool, true, false, cond}
use mathlib.Core.List.{List, []}
use Rattle.bits.specs.Bits.{to_bits, value, splice}
use Rattle.bits.proofs.Laws.{splice-none, to_bits-value}
use Rattle.fcs.specs.Fcs.{fcs_bits, fcs}
use Rattle.fcs.proofs.Laws.{length-fcs, all-fcs}
use Rattle.llc_pdus.specs.Headers.{has_fcs}
use Rattle.llc_pdus.specs.Frames.{check_sequence}
use Rattle.llc_pdus.specs.declared.Pdu.{Pdu}

module _ (p : Pdu) where
  -- Without the flag nothing is put; with it the sum is put.
  pub none-put : (l : List ℕ) (at : ℕ) (sdu : List ℕ) → has_fcs p ≡ false → l ≡ splice l at (check_sequence p sdu)
  none-put l at sdu e = sym (ap (λ (b : Bool). splice l at (cond b (fcs sdu) [])) e ∙ splice-none l at)

  pub sum-put :
      (l : List ℕ) (at sum : ℕ) (sdu : List ℕ)
      → has_fcs p ≡ true
      → sum ≡ value (fcs sdu)
      → splice l at (to_bits fcs_bits sum) ≡ splice l at (check_sequence p sdu)
  sum-put l at sum sdu flag same =
      ap (splice l at)
      (ap₂ to_bits (sym (length-fcs sdu)) same
      ∙ to_bits-value (fcs sdu) (all-fcs sdu)
      ∙ sym (ap (λ (b : Bool). cond b (fcs sdu) []) flag))
