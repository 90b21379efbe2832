-- The states that the link begins with are in range, and the links that lie in them are those of the rule.
use Prim.Native.Nat.{ℕ}
use mathlib.Core.Path.{◌≡◌, refl}
use mathlib.Core.Bool.{true}
use mathlib.Core.List.{List}
use lib.Dec.{ltb}
use Rattle.lists.specs.Lists.{all}
use Rattle.tdma_time.specs.Slots.{valid}
use Rattle.tdma_time.specs.declared.TdmaTime.{TdmaTime}
use Rattle.llc_rule.specs.Messages.{no_receipts}
use Rattle.llc_rule.specs.Keeps.{with_time}
use Rattle.llc_rule.specs.Link.{new, started_with}
use Rattle.llc_state.specs.Ranges.{place_in_range, head_in_range, state_in_range}
use Rattle.llc_state.specs.States.{empty_state, new_state, started_state, at_time}
use Rattle.llc_state.specs.View.{place_in, link_in}
use Rattle.llc_state.specs.declared.State.{State}
use Rattle.llc_state.proofs.InRange.{range-tells, in-range}

pub new_in : (store : List ℕ) → link_in new_state store ≡ new
unfolding link_in empty_state new no_receipts place_in
new_in store = refl

pub started-in : (carrier t251 : ℕ) (store : List ℕ) → link_in (started_state carrier t251) store ≡ started_with carrier t251
unfolding link_in empty_state started_with no_receipts place_in
started-in carrier t251 store = refl

pub time-in : (s : State) (ts : TdmaTime) (store : List ℕ) → link_in (at_time s ts) store ≡ with_time (link_in s store) ts
unfolding link_in
time-in s ts store = refl

pub new-in-range : state_in_range new_state ≡ true
unfolding state_in_range head_in_range place_in_range empty_state all valid
new-in-range = refl

pub started-in-range : (carrier t251 : ℕ) → ltb 0 t251 ≡ true → state_in_range (started_state carrier t251) ≡ true
unfolding state_in_range head_in_range place_in_range empty_state all valid
started-in-range carrier t251 h = rw h

pub time-in-range : (s : State) (ts : TdmaTime) → state_in_range s ≡ true → valid ts ≡ true → state_in_range (at_time s ts) ≡ true
time-in-range s ts h v =
    let r = range-tells s h in
    let q = r.head in
    in-range (at_time s ts)
    (record {
      head = record { messages = q.messages; udata = q.udata; acks = q.acks; rows = q.rows; timer = q.timer; time = λ t. v };
      messages = r.messages;
      udata = r.udata;
      acks = r.acks;
      rows = r.rows;
      places = r.places;
    })
