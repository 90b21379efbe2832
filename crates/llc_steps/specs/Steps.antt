-- One call on a state and a store: what `step` is on the link that they hold, with where everything lies afterwards.
use Rattle.std.specs.Prelude.{ℕ, ◌||◌, List, []}
use Rattle.questions.specs.Outcome.{Outcome, accepted, refused, ask}
use Rattle.llc_pdus.specs.Received.{received}
use Rattle.llc_rule.specs.Calls.{Call, start, tick_start, tick_end, request, frame, by_receipt, is_start, parsed}
use Rattle.llc_rule.specs.Ranges.{in_range}
use Rattle.llc_state.specs.States.{started_state, at_time}
use Rattle.llc_state.specs.declared.State.{State}
use Rattle.llc_steps.specs.States.{Kept, kept}
use Rattle.llc_steps.specs.TickEnd.{ticked, tick_records}
use Rattle.llc_steps.specs.Calls.{on_request, on_received, on_receipt}

-- What each call does, after questions 2 to 5; the store is given by its bits.
unfoldable pub acts : Call → State → List ℕ → Outcome Kept
acts (start carrier t251) s b = accepted (kept (started_state carrier t251) b [])
acts (tick_start time) s b = accepted (kept (at_time s time) b [])
acts tick_end s b = accepted (kept (ticked s) b (tick_records s b))
acts (request v r) s b = on_request v r s b
acts (frame f) s b = on_received f (received f.pdu) s b
acts (by_receipt i a) s b = on_receipt i a s b

-- "4. Started, or is this a start?", question 5, and then what the call is asked and does.
unfoldable pub called : State → List ℕ → Outcome Call → Outcome Kept
called s b (refused n) = refused n
called s b (accepted c) = ask 4 (is_start c || s.started) (ask 5 (in_range c) (acts c s b))

-- A call of any bytes.
unfoldable pub steps : State → List ℕ → List ℕ → Outcome Kept
steps s b bytes = called s b (parsed bytes)
