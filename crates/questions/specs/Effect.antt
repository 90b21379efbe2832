-- A call over lent bits: what it answers, and the bits after it.
use Rattle.std.specs.Prelude.{ℕ, Bool, true, false, List}
use Rattle.questions.specs.Outcome.{Outcome, refused}

pub record Effect (A : Type 0) : Type 0 where
  pub answer : Outcome A
  pub bits : List ℕ

abbrev pub effect : {A : Type 0} → Outcome A → List ℕ → Effect A
effect o l = record { answer = o; bits = l }

-- One question, by its number, put to the bits l, and then the rest: a no leaves them as they were.
abbrev pub asked : {A : Type 0} → ℕ → Bool → List ℕ → Effect A → Effect A
asked n true l e = e
asked n false l e = effect (refused n) l
