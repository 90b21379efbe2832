-- Every state that a call leaves passes question 1.
use Prim.Native.Nat.{ℕ, ◌*◌, ◌<◌}
use native.Mathlib.Omega.{arith}
use mathlib.Core.Path.{◌≡◌, refl}
use mathlib.Core.Bool.{Bool, true, false, ◌||◌}
use mathlib.Core.List.{List}
use borrow.Author.Tests.{not-true, eqb-false, lt-ltb}
use lib.Dec.{eqb}
use lib.ListN.{length}
use Rattle.lists.specs.Lists.{All}
use Rattle.questions.specs.Outcome.{Outcome, accepted, refused}
use Rattle.questions.proofs.Asked.{by-question}
use Rattle.llc_pdus.specs.Received.{received}
use Rattle.llc_rule.specs.Limits.{store_bytes}
use Rattle.llc_rule.specs.Calls.{Call, start, tick_start, tick_end, request, frame, by_receipt, is_start, parsed}
use Rattle.llc_rule.specs.Ranges.{in_range}
use Rattle.llc_rule.proofs.Values.{CallFits, CallFitsIn, parsed-fits}
use Rattle.llc_state.specs.Ranges as Ranges
use Rattle.llc_state.specs.States.{empty_state, new_state}
use Rattle.llc_state.specs.declared.State.{State}
use Rattle.llc_state.proofs.View.{new-in-range, started-in-range, time-in-range}
use Rattle.llc_steps.specs.Steps.{acts, called, steps}
use Rattle.llc_steps.specs.Sane.{Sane, SaneAfter}
use Rattle.llc_steps.proofs.SaneTickEnd.{ticked-sane}
use Rattle.llc_steps.proofs.SaneRequests.{request-sane}
use Rattle.llc_steps.proofs.SaneCalls.{received-sane, receipt-sane}

empty-sane :
    (started : Bool) (carrier t251 : ℕ) (store : List ℕ)
    → Ranges.state_in_range (empty_state started carrier t251) ≡ true
    → length store ≡ 8 * store_bytes
    → Sane (empty_state started carrier t251) store
unfolding empty_state
empty-sane started carrier t251 store r long =
    record { messages = refl; udata = refl; acks = refl; places = refl; rows = refl; range = r; long = long }

pub new-sane : (store : List ℕ) → length store ≡ 8 * store_bytes → Sane new_state store
new-sane store long = empty-sane false 0 0 store new-in-range long

acts-sane : (c : Call) (s : State) (store : List ℕ) → Sane s store → CallFits c → is_start c || s.started ≡ true → in_range c ≡ true → SaneAfter (acts c s store)
unfolding acts in_range
acts-sane (start carrier t251) s store ok v on r =
    let other : t251 ≡ 0 → ⊥ = eqb-false t251 0 (not-true (eqb t251 0) r) in
    empty-sane true carrier t251 store (started-in-range carrier t251 (lt-ltb 0 t251 (omega arith))) ok.long
acts-sane (tick_start time) s store ok v on r =
    record {
      messages = ok.messages;
      udata = ok.udata;
      acks = ok.acks;
      places = ok.places;
      rows = ok.rows;
      range = time-in-range s time ok.range r;
      long = ok.long;
    }
acts-sane tick_end s store ok v on r = ticked-sane s store ok on
acts-sane (request w q) s store ok v on r = request-sane q s store ok v.ssi r w
acts-sane (frame f) s store ok v on r = received-sane f s store ok v.ssi r (received f.pdu)
acts-sane (by_receipt i a) s store ok v on r = receipt-sane s store ok i a

called-sane : (o : Outcome Call) (s : State) (store : List ℕ) → Sane s store → CallFitsIn o → SaneAfter (called s store o)
unfolding called
called-sane (refused n) s store ok v = tt
called-sane (accepted c) s store ok v =
    by-question SaneAfter 4 (is_start c || s.started) tt
    (λ t. by-question SaneAfter 5 (in_range c) tt (λ r. acts-sane c s store ok v t r))

-- What a call of any bytes leaves of a state and a store that passed question 1 passes it.
pub steps-sane :
    (s : State) (store bytes : List ℕ)
    → All (λ (b : ℕ). b < 256) bytes
    → Sane s store
    → SaneAfter (steps s store bytes)
unfolding steps
steps-sane s store bytes a ok = called-sane (parsed bytes) s store ok (parsed-fits bytes a)
