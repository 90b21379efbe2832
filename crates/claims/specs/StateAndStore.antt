-- State and store (llc_state, llc_steps).
use Rattle.std.specs.Prelude.{ℕ, ◌*◌, ◌+◌, ◌<◌, ◌≤◌, ◌≡◌, false, true, List, eqb, ltb, length, take}
use Rattle.lists.specs.Lists.{All}
use Rattle.bits.specs.Bits.{part, splice}
use Rattle.tdma_time.specs.Slots.{valid}
use Rattle.tdma_time.specs.declared.TdmaTime.{TdmaTime}
use Rattle.llc_rule.specs.Limits.{place_bits, store_bytes, store_places}
use Rattle.llc_rule.specs.Keeps.{with_time}
use Rattle.llc_rule.specs.Link.{new, started_with}
use Rattle.llc_rule.specs.Step.{step}
use Rattle.llc_state.specs.View.{frame_at, link_in, place_bit}
use Rattle.llc_state.specs.States.{at_time, new_state, started_state}
use Rattle.llc_state.specs.InUse.{used}
use Rattle.llc_state.specs.Ranges.{state_in_range}
use Rattle.llc_state.specs.declared.State.{State}
use Rattle.llc_state.specs.declared.Entry.{Entry}
use Rattle.llc_state.specs.Lengths.{Lengths}
use Rattle.llc_steps.specs.Holds.{Ready, kept_in}
use Rattle.llc_steps.specs.Steps.{steps}
use Rattle.llc_steps.specs.Sane.{Sane, SaneAfter}
use Rattle.llc_steps.specs.Places.{free_place}

pub record StateAndStore : Type 0 where
  -- The new state, the state that a start leaves and a state at another time.
  pub new_in : (store : List ℕ) → link_in new_state store ≡ new
  pub started-in : (carrier t251 : ℕ) (store : List ℕ) → link_in (started_state carrier t251) store ≡ started_with carrier t251
  pub time-in : (s : State) (ts : TdmaTime) (store : List ℕ) → link_in (at_time s ts) store ≡ with_time (link_in s store) ts
  pub new-in-range : state_in_range new_state ≡ true
  pub started-in-range : (carrier t251 : ℕ) → ltb 0 t251 ≡ true → state_in_range (started_state carrier t251) ≡ true
  pub time-in-range : (s : State) (ts : TdmaTime) → state_in_range s ≡ true → valid ts ≡ true → state_in_range (at_time s ts) ≡ true
  -- Question 1 and the link look only at what is in use, and before a start a call looks only at that.
  pub used-asked : (s : State) → state_in_range (used s) ≡ state_in_range s
  pub used-seen : (s : State) (store : List ℕ) → link_in (used s) store ≡ link_in s store
  pub steps-not-started : (s : State) (store bytes : List ℕ) → s.started ≡ false → steps s store bytes ≡ steps new_state store bytes
  -- What a call on a state and a store gives, as a link, is what `step` gives on the link that they hold.
  pub steps-in : (s : State) (store : List ℕ) → Ready s store → (bytes : List ℕ) → kept_in (steps s store bytes) ≡ step (link_in s store) bytes
  -- The arrays have their lengths in every state that the code has (`lengths` of llc_state).
  pub ready : (s : State) (store : List ℕ) → Lengths s → state_in_range s ≡ true → length store ≡ 8 * store_bytes → Ready s store
  -- What a call of any bytes leaves of a state and a store that passed question 1 passes it.
  pub steps-sane :
      (s : State) (store bytes : List ℕ)
      → All (λ (b : ℕ). b < 256) bytes
      → Sane s store
      → SaneAfter (steps s store bytes)
  pub new-sane : (store : List ℕ) → length store ≡ 8 * store_bytes → Sane new_state store
  -- The place that a new message takes is in the store, and no held message has it.
  pub free-place :
      (s : State)
      → length (take s.n_messages s.outbound_messages) + length (take s.n_udata s.outbound_udata_messages) < store_places
      → (free_place s < store_places)
      × All (λ (e : Entry). eqb e.frame.place (free_place s) ≡ false) (take s.n_messages s.outbound_messages)
      × All (λ (e : Entry). eqb e.frame.place (free_place s) ≡ false) (take s.n_udata s.outbound_udata_messages)
  -- A frame that was put into a place is read there.
  pub part-there :
      (store : List ℕ) (p : ℕ) (vs : List ℕ)
      → length store ≡ 8 * store_bytes
      → p < store_places
      → length vs ≤ place_bits
      → part (splice store (place_bit p) vs) (place_bit p) (length vs) ≡ vs
  -- The frame of a message in another place is as it was.
  pub frame-elsewhere :
      (store : List ℕ) (p : ℕ) (vs : List ℕ) (e : Entry)
      → length store ≡ 8 * store_bytes
      → p < store_places
      → e.frame.place < store_places
      → eqb e.frame.place p ≡ false
      → length vs ≤ place_bits
      → e.frame.len ≤ place_bits
      → frame_at (splice store (place_bit p) vs) e ≡ frame_at store e
