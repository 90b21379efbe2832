-- What a function's answer says in document 01's numbers.
use Rattle.std.specs.Prelude.{ℕ, Result, Ok, Err}
use Rattle.questions.specs.declared.Refusal.{Refusal}
use Rattle.questions.specs.Outcome.{Outcome, accepted, refused}

-- The number of the question that a refusal names.
abbrev pub number_of : Refusal → ℕ
number_of Refusal.BadState = 1
number_of Refusal.Unfilled = 2
number_of Refusal.UnknownTag = 3
number_of Refusal.NotStarted = 4
number_of Refusal.OutOfRange = 5
number_of Refusal.ReceiptTaken = 6
number_of Refusal.NoRow = 7
number_of Refusal.NoRoom = 8
number_of Refusal.ShortFrame = 9
number_of Refusal.OtherType = 10
number_of Refusal.ShortHeader = 11
number_of Refusal.WrongCheck = 12
number_of Refusal.AcksFull = 13
number_of Refusal.NotAwaiting = 14
number_of Refusal.NotPending = 15
number_of Refusal.NotFinal = 16

-- What a result says: its value is accepted, a refusal by its number.
abbrev pub outcome : {A : Type 0} → Result A Refusal → Outcome A
outcome (Ok a) = accepted a
outcome (Err r) = refused (number_of r)
