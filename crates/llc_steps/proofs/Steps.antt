-- A call on a state and a store is `step` on the link that they hold.
use Prim.Native.Nat.{ℕ}
use mathlib.Core.Path.{◌≡◌, refl, ap}
use mathlib.Core.Bool.{Bool, true, ◌||◌}
use mathlib.Core.List.{List, []}
use Rattle.questions.specs.Outcome.{Outcome, accepted, refused}
use Rattle.llc_pdus.specs.Received.{received}
use Rattle.llc_rule.specs.Calls.{Call, start, tick_start, tick_end, request, frame, by_receipt, is_start, parsed}
use Rattle.llc_rule.specs.Ranges.{in_range}
use Rattle.llc_rule.specs.Done.{done}
use Rattle.llc_rule.specs.Link as Link
use Rattle.llc_rule.specs.Step as Step
use Rattle.llc_rule.proofs.Ranges.{request-lengths}
use Rattle.llc_state.specs.View.{link_in}
use Rattle.llc_state.specs.declared.State.{State}
use Rattle.llc_state.proofs.View.{started-in, time-in}
use Rattle.llc_steps.specs.Steps.{acts, called, steps}
use Rattle.llc_steps.proofs.TickEnd.{ticked-in, records-in}
use Rattle.llc_steps.specs.Holds.{kept_in, Ready}
use Rattle.llc_steps.proofs.Calls.{kept-ask, received-in, by-receipt-in}
use Rattle.llc_steps.proofs.Requests.{request-in}

acts-in : (c : Call) (s : State) (store : List ℕ) → Ready s store → in_range c ≡ true → kept_in (acts c s store) ≡ Step.act c (link_in s store)
unfolding acts Step.act kept_in in_range Step.on_frame
acts-in (start carrier t251) s store ok r = ap (λ (l : Link.Link). accepted (done l [])) (started-in carrier t251 store)
acts-in (tick_start time) s store ok r = ap (λ (l : Link.Link). accepted (done l [])) (time-in s time store)
acts-in tick_end s store ok r = λ i. accepted (record { state = ticked-in store s i; records = records-in store s i })
acts-in (request v q) s store ok r = let n = request-lengths q r in request-in q s store ok n.0 n.1 v
acts-in (frame f) s store ok r = received-in f s store ok.counted (received f.pdu)
acts-in (by_receipt i a) s store ok r = by-receipt-in s store i a

started-is : (s : State) (store : List ℕ) → s.started ≡ (link_in s store).started
unfolding link_in
started-is s store = refl

called-in : (c : Outcome Call) (s : State) (store : List ℕ) → Ready s store → kept_in (called s store c) ≡ Step.called (link_in s store) c
unfolding called Step.called kept_in
called-in (refused n) s store ok = refl
called-in (accepted c) s store ok =
    kept-ask 4 _ (ap (λ (b : Bool). is_start c || b) (started-is s store)) (λ t. kept-ask 5 _ refl (λ r. acts-in c s store ok r))

-- What a call on a state and a store gives, as a link, is what `step` gives on the link that they hold.
pub steps-in : (s : State) (store : List ℕ) → Ready s store → (bytes : List ℕ) → kept_in (steps s store bytes) ≡ Step.step (link_in s store) bytes
unfolding steps Step.step
steps-in s store ok bytes = called-in (parsed bytes) s store ok
