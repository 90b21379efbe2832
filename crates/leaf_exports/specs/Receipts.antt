-- Receipts for a caller in another language: whether an acknowledgement is expected, and the state's number.
use Rattle.std.specs.Prelude.{ℕ, Bool}
use Rattle.tx_receipt.specs.States as S
use Rattle.tx_receipt.specs.Marks as M
use Rattle.tx_receipt.specs.declared.TxReceipt.{TxReceipt}
use Rattle.leaf_exports.specs.declared.receipts.ReceiptAnswer.{ReceiptAnswer}

-- The receipt that a caller names.
abbrev pub receipt_of : Bool → ℕ → TxReceipt
receipt_of expects n = record { expects_ack = expects; state = S.numbered n }

-- The number of an answer, and its receipt.
abbrev pub to_receipt : ℕ → TxReceipt → ReceiptAnswer
to_receipt k r = record { number = k; expects_ack = r.expects_ack; state = S.number r.state }

abbrev pub answer_of : M.Answer → ReceiptAnswer
answer_of a = to_receipt a.number a.receipt
