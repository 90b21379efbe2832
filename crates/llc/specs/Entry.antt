-- The entry point: question 1, then `step` on the link that state and store hold, then where everything lies afterwards.
use Rattle.std.specs.Prelude.{ℕ, ◌*◌, Bool, ◌&&◌, List, eqb, leb, length}
use Rattle.questions.specs.Outcome.{Outcome, ask}
use Rattle.llc_rule.specs.Limits.{output_bytes, store_bytes}
use Rattle.llc_state.specs.Ranges.{state_in_range}
use Rattle.llc_state.specs.declared.State.{State}
use Rattle.llc_steps.specs.States.{Kept}
use Rattle.llc_steps.specs.Answers.{Effect, delivered}
use Rattle.llc_steps.specs.Steps.{steps}

-- "1. Is the store 32,256 bytes and the output at least 47,040, and every count and value in the state handed in within its
-- range?" The store is given by its bits.
unfoldable pub lent_right : List ℕ → List ℕ → Bool
lent_right store out = eqb (length store) (8 * store_bytes) && leb output_bytes (length out)

-- All questions, and what an accepted call leaves and gives.
unfoldable pub outcome_of : State → List ℕ → List ℕ → List ℕ → Outcome Kept
outcome_of s store out bytes = ask 1 (lent_right store out && state_in_range s) (steps s store bytes)

-- One call: number, next state, the store's bits and every byte of the output.
unfoldable pub call_of : State → List ℕ → List ℕ → List ℕ → Effect
call_of s store out bytes = delivered s store out (outcome_of s store out bytes)
