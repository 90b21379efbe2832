-- Receipts, as document 01's paragraph of that name and its question 16 give them.
use Rattle.std.specs.Prelude.{ℕ, Bool, true, false, not, cond, leb, eqb}
use Rattle.tx_receipt.specs.declared.TxState.{TxState}
use Rattle.tx_receipt.specs.declared.TxState.TheVariants.{Pending, Discarded, Transmitted, Lost, Acknowledged}
use Rattle.tx_receipt.specs.declared.TxReceipt.{TxReceipt}

-- "Pending 0, Discarded 1, Transmitted 2, Lost 3, Acknowledged 4."
abbrev pub number : TxState → ℕ
number Pending = 0
number Discarded = 1
number Transmitted = 2
number Lost = 3
number Acknowledged = 4

-- The state with a number; Acknowledged for each number from 4 on.
abbrev pub numbered : ℕ → TxState
numbered n =
    cond (eqb n 0)
    Pending
    (cond (eqb n 1)
    Discarded
    (cond (eqb n 2)
    Transmitted
    (cond (eqb n 3)
    Lost
    Acknowledged)))

-- Is a receipt in a state?
abbrev pub is : TxState → TxReceipt → Bool
is s r = eqb (number r.state) (number s)

-- Is a receipt in a state, or in one with a higher number?
abbrev pub at_least : TxState → TxReceipt → Bool
at_least s r = leb (number s) (number r.state)

-- "Final: Discarded, Lost, Acknowledged, or Transmitted expecting none."
abbrev pub final_state : TxState → Bool → Bool
final_state Pending expects = false
final_state Discarded expects = true
final_state Transmitted expects = not expects
final_state Lost expects = true
final_state Acknowledged expects = true

abbrev pub final : TxReceipt → Bool
final r = final_state r.state r.expects_ack
