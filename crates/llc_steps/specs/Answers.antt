-- What a call answers, and what store and output hold after it.
use Rattle.std.specs.Prelude.{ℕ, ◌≡◌, List, ◌++◌, length, drop, Result, Ok, Err}
use Rattle.questions.specs.declared.Refusal.{Refusal}
use Rattle.questions.specs.Refusals.{number_of}
use Rattle.questions.specs.Outcome.{Outcome, accepted, refused}
use Rattle.llc_rule.specs.Records.{Record, all_bytes}
use Rattle.llc_state.specs.declared.State.{State}
use Rattle.llc_steps.specs.declared.Answer.{Answer}
use Rattle.llc_steps.specs.States.{Kept}

-- The answer, the bits of the store and the bytes of the output.
pub record Effect : Type 0 where
  pub answer : Answer
  pub store : List ℕ
  pub out : List ℕ

abbrev pub effect : Answer → List ℕ → List ℕ → Effect
effect a b out = record { answer = a; store = b; out = out }

abbrev pub answer : ℕ → State → ℕ → Answer
answer n s len = record { number = n; state = s; len = len }

-- The answer of a call that left a state and either gave so many bytes of records or was refused; that of one without records.
abbrev pub answered : State → Result ℕ Refusal → Answer
answered s (Ok n) = answer 0 s n
answered s (Err r) = answer (number_of r) s 0

abbrev pub done : Result (Unit {0}) Refusal → Result ℕ Refusal
done (Ok x) = Ok 0
done (Err r) = Err r

-- The records from the front of the output on, and then the bytes that it held.
unfoldable pub laid_out : List Record → List ℕ → List ℕ
laid_out rs out = all_bytes rs ++ drop (length (all_bytes rs)) out

-- "A no gives the number; state, store and output then hold the bytes they held before. Without a no the call is accepted."
abbrev pub delivered : State → List ℕ → List ℕ → Outcome Kept → Effect
delivered s b out (accepted k) = effect (answer 0 k.state (length (all_bytes k.records))) k.store (laid_out k.records out)
delivered s b out (refused n) = effect (answer n s 0) b out

-- The effect of a call that writes no record, whatever the output holds; of one that leaves the store alone, whatever that
-- holds; of one that touches neither.
pub record WithAnyOut (r : Answer) (after : List ℕ) (s : State) (before : List ℕ) (o : Outcome Kept) : Type 0 where
  pub each : (out : List ℕ) → effect r after out ≡ delivered s before out o

pub record WithAnyStore (r : Answer) (after : List ℕ) (s : State) (before : List ℕ) (o : List ℕ → Outcome Kept) : Type 0 where
  pub each : (store : List ℕ) → effect r store after ≡ delivered s store before (o store)

pub record WithAny (r : Answer) (s : State) (o : List ℕ → Outcome Kept) : Type 0 where
  pub each : (store out : List ℕ) → effect r store out ≡ delivered s store out (o store)
