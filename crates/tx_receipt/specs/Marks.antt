-- The marks that a receipt can take, and what a function that marks one answers.
use Rattle.std.specs.Prelude.{ℕ, Bool, true, ◌&&◌, cond, Result, Ok, Err}
use Rattle.questions.specs.declared.Refusal.{Refusal}
use Rattle.questions.specs.Refusals.{number_of}
use Rattle.tx_receipt.specs.States.{is}
use Rattle.tx_receipt.specs.declared.TxState.{TxState}
use Rattle.tx_receipt.specs.declared.TxState.TheVariants.{Pending, Discarded, Transmitted, Lost, Acknowledged}
use Rattle.tx_receipt.specs.declared.TxReceipt.{TxReceipt}
use Rattle.tx_receipt.specs.declared.Mark as D

-- The marks by names of their own. They are no constructors: a definition by cases matches on D.Mark's, as `lost` would match any mark.
abbrev pub Mark : Type 0
Mark = D.Mark

abbrev pub transmitted : Mark
transmitted = D.Mark.Transmitted

abbrev pub discarded : Mark
discarded = D.Mark.Discarded

abbrev pub acknowledged : Mark
acknowledged = D.Mark.Acknowledged

abbrev pub lost : Mark
lost = D.Mark.Lost

abbrev pub reset : Mark
reset = D.Mark.Reset

-- The state that a mark leads to.
abbrev pub target : Mark → TxState
target D.Mark.Transmitted = Transmitted
target D.Mark.Discarded = Discarded
target D.Mark.Acknowledged = Acknowledged
target D.Mark.Lost = Lost
target D.Mark.Reset = Pending

-- A receipt, in another state.
abbrev pub at : TxState → TxReceipt → TxReceipt
at s r = record { expects_ack = r.expects_ack; state = s }

-- The table of the allowed marks.
abbrev pub allowed : Mark → TxReceipt → Bool
allowed D.Mark.Transmitted r = is Pending r
allowed D.Mark.Discarded r = is Pending r
allowed D.Mark.Acknowledged r = r.expects_ack && is Transmitted r
allowed D.Mark.Lost r = r.expects_ack && is Transmitted r
allowed D.Mark.Reset r = true

-- Document 01's number where a mark is not allowed: 15 asks whether the receipt is Pending, 14 whether it is Transmitted.
abbrev pub question : Mark → ℕ
question D.Mark.Transmitted = 15
question D.Mark.Discarded = 15
question D.Mark.Acknowledged = 14
question D.Mark.Lost = 14
question D.Mark.Reset = 0

-- A number, 0 where the mark is made, and the receipt that is handed back.
pub record Answer : Type 0 where
  pub number : ℕ
  pub receipt : TxReceipt

-- What a mark's result says of the receipt r: where the mark is refused the receipt is as it was.
abbrev pub answer : TxReceipt → Result TxReceipt Refusal → Answer
answer r (Ok t) = record { number = 0; receipt = t }
answer r (Err e) = record { number = number_of e; receipt = r }

-- What marking a receipt answers: the receipt in the mark's state where the table allows it, else as it was.
abbrev pub marked : Mark → TxReceipt → Answer
marked m r =
    cond (allowed m r)
    (record { number = 0; receipt = at (target m) r })
    (record { number = question m; receipt = r })
