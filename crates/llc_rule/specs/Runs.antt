-- A run: any list of calls, refused ones too, each from what the last one left.
use Rattle.std.specs.Prelude.{ℕ, List, [], ◌∷◌}
use Rattle.questions.specs.Outcome.{Outcome, accepted, refused, number}
use Rattle.llc_rule.specs.Records.{Record}
use Rattle.llc_rule.specs.Done.{Done}
use Rattle.llc_rule.specs.Link.{Link}
use Rattle.llc_rule.specs.Step.{step}

-- What an outcome leaves, and the records that it gives: "a no gives the number; state .. as before".
abbrev pub left : {S : Type 0} → S → Outcome (Done S) → S
left s (accepted d) = d.state
left s (refused n) = s

abbrev pub given : {S : Type 0} → Outcome (Done S) → List Record
given (accepted d) = d.records
given (refused n) = []

-- A call with its number and its records.
pub record Exchange : Type 0 where
  pub call : List ℕ
  pub number : ℕ
  pub records : List Record

abbrev pub exchange : {S : Type 0} → List ℕ → Outcome (Done S) → Exchange
exchange c o = record { call = c; number = number o; records = given o }

-- The exchanges of a run from a link, and the link after it.
unfoldable pub run : Link → List (List ℕ) → List Exchange
run l [] = []
run l (c ∷ cs) = exchange c (step l c) ∷ run (left l (step l c)) cs

unfoldable pub after : Link → List (List ℕ) → Link
after l [] = l
after l (c ∷ cs) = after (left l (step l c)) cs
