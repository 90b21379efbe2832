-- Document 01, "Questions put to a call, in this order": a no gives the number, without a no the call is accepted.
use Rattle.std.specs.Prelude.{ℕ, Bool, true, false}

-- What comes of being asked: a value, or the number of the first question failed.
pub data Outcome (A : Type 0) : Type 0 where
  accepted : A → Outcome A
  refused : ℕ → Outcome A

-- One question, by its number, and then the rest.
abbrev pub ask : {A : Type 0} → ℕ → Bool → Outcome A → Outcome A
ask n true rest = rest
ask n false rest = refused n

-- The number of an outcome: 0 where it is accepted.
abbrev pub number : {A : Type 0} → Outcome A → ℕ
number (accepted a) = 0
number (refused n) = n
