-- Before a start nothing of a state is looked at but that it is not started.
use Prim.Native.Nat.{ℕ}
use mathlib.Core.Path.{◌≡◌, refl}
use mathlib.Core.Bool.{false}
use mathlib.Core.List.{List}
use Rattle.questions.specs.Outcome.{Outcome, accepted, refused}
use Rattle.llc_rule.specs.Calls.{Call, start, tick_start, tick_end, request, frame, by_receipt, parsed}
use Rattle.llc_state.specs.States.{empty_state, new_state}
use Rattle.llc_state.specs.declared.State.{State}
use Rattle.llc_steps.specs.Steps.{acts, called, steps}

not-started : (s : State) (store : List ℕ) (o : Outcome Call) → s.started ≡ false → called s store o ≡ called new_state store o
unfolding called acts empty_state
not-started s store (refused n) e = refl
not-started s store (accepted (start carrier t251)) e = refl
not-started s store (accepted (tick_start time)) e = rw e
not-started s store (accepted tick_end) e = rw e
not-started s store (accepted (request v r)) e = rw e
not-started s store (accepted (frame f)) e = rw e
not-started s store (accepted (by_receipt i a)) e = rw e

-- A call does what it does on the new state.
pub steps-not-started : (s : State) (store bytes : List ℕ) → s.started ≡ false → steps s store bytes ≡ steps new_state store bytes
unfolding steps
steps-not-started s store bytes e = not-started s store (parsed bytes) e
