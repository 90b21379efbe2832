-- Reports and releases: what is answered on each path.
use Prim.Native.Nat.{ℕ}
use mathlib.Core.Path.{◌≡◌, ◌∙◌, ap}
use mathlib.Core.Bool.{Bool, true, false, not, ◌&&◌}
use mathlib.Core.List.{List}
use Rattle.std.specs.Prelude.{Option, Ok, Err}
use Rattle.std.specs.Option.{ok_or}
use Rattle.lists.proofs.Choices.{by-test}
use Rattle.questions.specs.declared.Refusal.{Refusal}
use Rattle.questions.specs.Refusals.{number_of}
use Rattle.tx_receipt.specs.States.{is, final}
use Rattle.tx_receipt.specs.Marks.{Mark}
use Rattle.tx_receipt.specs.declared.TxReceipt.{TxReceipt}
use Rattle.tx_receipt.specs.declared.TxState.TheVariants.{Pending}
use Rattle.llc_rule.specs.Messages.{mark_of}
use Rattle.llc_rule.specs.Records.{all_bytes}
use Rattle.llc_state.specs.Receipts.{receipt_of, receipt_in, place_of, mark_receipt, free_receipt}
use Rattle.llc_state.specs.declared.ReceiptPlace.{ReceiptPlace}
use Rattle.llc_state.specs.declared.State.{State}
use Rattle.llc_steps.specs.Answers.{answer, laid_out, WithAny}
use Rattle.llc_steps.specs.declared.Answer.{Answer}
use Rattle.llc_steps.specs.Calls.{held, waits, on_report, on_release}

-- What the code reads of a place: its receipt if it is taken, else a refusal.
is_taken :
    (p : ReceiptPlace) {o : Option TxReceipt} (e : Refusal) {tx : TxReceipt}
    → o ≡ receipt_in p
    → Ok tx ≡ ok_or o e
    → (p.taken ≡ true) × (receipt_of p ≡ tx)
is_taken p e f g =
    by-test p.taken
    (λ t. let h = rw (rw t at f) at g in (t, cc))
    (λ t. let h = rw (rw t at f) at g in absurd (cc))

is_free :
    (p : ReceiptPlace) {o : Option TxReceipt} (e : Refusal) {d : Refusal}
    → o ≡ receipt_in p
    → Err d ≡ ok_or o e
    → (p.taken ≡ false) × (d ≡ e)
is_free p e f g =
    by-test p.taken
    (λ t. let h = rw (rw t at f) at g in absurd (cc))
    (λ t. let h = rw (rw t at f) at g in (t, cc))

-- Reports and releases that are refused, and those that are not.
module _ (s : State) (i : ℕ) where
  abbrev place : ReceiptPlace
  place = place_of s.receipts i

  abbrev may_report : Bool
  may_report = place.taken && is Pending (receipt_of place) && not (waits i s)

  abbrev may_release : Bool
  may_release = place.taken && final (receipt_of place) && not (held i s)

  abbrev Reports : ℕ → Answer → Type 0
  Reports how r = WithAny r s (λ (store : List ℕ). on_report i how s store)

  abbrev Releases : Answer → Type 0
  Releases r = WithAny r s (λ (store : List ℕ). on_release i s store)

  not-reported : (how : ℕ) → may_report ≡ false → Reports how (answer 15 s 0)
  unfolding on_report
  not-reported how h = record { each = λ store out. rw h }

  not-released : may_release ≡ false → Releases (answer 16 s 0)
  unfolding on_release
  not-released h = record { each = λ store out. rw h }

  module _ {o : Option TxReceipt} (f : o ≡ receipt_in place) where
    -- The receipt is not taken.
    pub report-free : (how : ℕ) {d : Refusal} → Err d ≡ ok_or o Refusal.NotPending → Reports how (answer (number_of d) s 0)
    report-free how g = let p = is_free place Refusal.NotPending f g in rw p.1 (not-reported how (ap (λ (t : Bool). t && is Pending (receipt_of place) && not (waits i s)) p.0))

    pub release-free : {d : Refusal} → Err d ≡ ok_or o Refusal.NotFinal → Releases (answer (number_of d) s 0)
    release-free g = let p = is_free place Refusal.NotFinal f g in rw p.1 (not-released (ap (λ (t : Bool). t && final (receipt_of place) && not (held i s)) p.0))

    module _ {tx : TxReceipt} (e : Refusal) (g : Ok tx ≡ ok_or o e) where
      taken : place.taken ≡ true
      taken = (is_taken place e f g).0

      read : receipt_of place ≡ tx
      read = (is_taken place e f g).1

      may_report-is : may_report ≡ is Pending tx && not (waits i s)
      may_report-is j = taken j && is Pending (read j) && not (waits i s)

      may_release-is : may_release ≡ final tx && not (held i s)
      may_release-is j = taken j && final (read j) && not (held i s)

      pub report-refused : (how : ℕ) → is Pending tx && not (waits i s) ≡ false → Reports how (answer 15 s 0)
      report-refused how h = not-reported how (may_report-is ∙ h)

      pub reported :
          (how : ℕ) {m : Mark} {t : State}
          → t ≡ mark_receipt s i m
          → m ≡ mark_of how
          → is Pending tx && not (waits i s) ≡ true
          → Reports how (answer 0 t 0)
      unfolding on_report all_bytes laid_out
      reported how {m} {t} l n h = let k = may_report-is ∙ h in rw (l, n) (record { each = λ store out. rw k })

      pub release-refused : final tx && not (held i s) ≡ false → Releases (answer 16 s 0)
      release-refused h = not-released (may_release-is ∙ h)

      pub released : {t : State} → t ≡ free_receipt s i → final tx && not (held i s) ≡ true → Releases (answer 0 t 0)
      unfolding on_release all_bytes laid_out
      released l h = let k = may_release-is ∙ h in rw l (record { each = λ store out. rw k })
