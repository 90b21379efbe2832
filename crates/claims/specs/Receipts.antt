-- Receipts (tx_receipt).
use Rattle.std.specs.Prelude.{◌≡◌, false, not, true, eqb, Ok}
use Rattle.tx_receipt.specs.States.{final, number, numbered}
use Rattle.tx_receipt.specs.Marks.{Mark, allowed, answer, at, marked, question, target}
use Rattle.tx_receipt.specs.declared.TxState.{TxState}
use Rattle.tx_receipt.specs.declared.TxReceipt.{TxReceipt}
use Rattle.tx_receipt.proofs.Laws.{unsettled}

pub record Receipts : Type 0 where
  -- A state is the one with its number.
  pub numbered-number : (s : TxState) → numbered (number s) ≡ s
  -- A mark that the table allows is made, and leads to its state.
  pub made : (m : Mark) (r : TxReceipt) → allowed m r ≡ true → marked m r ≡ answer r (Ok (at (target m) r))
  -- Another is refused by its number, and the receipt stays as it was.
  pub refused : (m : Mark) (r : TxReceipt) → allowed m r ≡ false → marked m r ≡ record { number = question m; receipt = r }
  -- Its number is 0 exactly if the table allows it.
  pub made-by-number : (m : Mark) (r : TxReceipt) → eqb (marked m r).number 0 ≡ allowed m r
  -- A receipt is final exactly if no mark but a reset can change it.
  pub final-is-last : (r : TxReceipt) → final r ≡ not (unsettled r)
