-- The laws of marks, for callers and for the functions that mark.
use mathlib.Core.Path.{◌≡◌, refl}
use mathlib.Core.Bool.{Bool, true, false, not, ◌||◌}
use lib.Dec.{eqb}
use Rattle.std.specs.Prelude.{Ok}
use Rattle.tx_receipt.specs.declared.Mark.TheVariants as V
use Rattle.tx_receipt.specs.States.{number, numbered, final}
use Rattle.tx_receipt.specs.Marks.{Mark, transmitted, discarded, acknowledged, lost, target, allowed, at, question, answer, marked}
use Rattle.tx_receipt.specs.declared.TxState.{TxState}
use Rattle.tx_receipt.specs.declared.TxState.TheVariants.{Pending, Discarded, Transmitted, Lost, Acknowledged}
use Rattle.tx_receipt.specs.declared.TxReceipt.{TxReceipt}

-- A state is the one with its number.
pub numbered-number : (s : TxState) → numbered (number s) ≡ s
numbered-number Pending = refl
numbered-number Discarded = refl
numbered-number Transmitted = refl
numbered-number Lost = refl
numbered-number Acknowledged = refl

-- A mark that the table allows is made, and leads to its state.
pub made : (m : Mark) (r : TxReceipt) → allowed m r ≡ true → marked m r ≡ answer r (Ok (at (target m) r))
made m r h = rw h

-- Another is refused by its number, and the receipt stays as it was.
pub refused : (m : Mark) (r : TxReceipt) → allowed m r ≡ false → marked m r ≡ record { number = question m; receipt = r }
refused m r h = rw h

-- The number is 0 exactly if the mark is made.
pub made-by-number : (m : Mark) (r : TxReceipt) → eqb (marked m r).number 0 ≡ allowed m r
made-by-number m r = by (allowed m r) refl
  where
    asked : (m : Mark) (r : TxReceipt) → allowed m r ≡ false → eqb (question m) 0 ≡ false
    asked V.Transmitted r h = refl
    asked V.Discarded r h = refl
    asked V.Acknowledged r h = refl
    asked V.Lost r h = refl
    asked V.Reset r h = h

    by : (b : Bool) → allowed m r ≡ b → eqb (marked m r).number 0 ≡ allowed m r
    by true h = rw h
    by false h = rw h (asked m r h)

-- Is one of the four marks allowed that say how a message went?
abbrev pub unsettled : TxReceipt → Bool
unsettled r = allowed transmitted r || allowed discarded r || allowed acknowledged r || allowed lost r

-- A receipt is final exactly if none of them is.
pub final-is-last : (r : TxReceipt) → final r ≡ not (unsettled r)
final-is-last r = by_state r.state r.expects_ack
  where
    by_state :
        (s : TxState) (e : Bool)
        → final (record { expects_ack = e; state = s }) ≡ not (unsettled (record { expects_ack = e; state = s }))
    by_state Pending true = refl
    by_state Pending false = refl
    by_state Discarded true = refl
    by_state Discarded false = refl
    by_state Transmitted true = refl
    by_state Transmitted false = refl
    by_state Lost true = refl
    by_state Lost false = refl
    by_state Acknowledged true = refl
    by_state Acknowledged false = refl
