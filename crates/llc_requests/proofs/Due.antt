-- The acknowledgement that is due to the address of a request, as the search finds it and as the state is without it.
use Prim.Native.Nat.{ℕ, ◌≤◌, ◌<◌}
use native.Mathlib.Omega.{arith}
use mathlib.Core.Path.{◌≡◌, ◌∙◌, sym, ap}
use mathlib.Core.List.{List}
use Rattle.std.specs.Prelude.{Option, Some, None, MatchOption}
use lib.ListN.{length, get_or, length-take}
use lib.Seq.{length-take-le}
use Rattle.lists.specs.Lists.{nothing, first, others}
use Rattle.lists.specs.Arrays.{position, place_in, without}
use Rattle.lists.proofs.Arrays.{found_at, found_none, take-laid}
use Rattle.llc_rule.specs.Calls.{Request}
use Rattle.llc_state.specs.States.{no_ack}
use Rattle.llc_state.specs.declared.ScheduledOutAck.{ScheduledOutAck}
use Rattle.llc_state.specs.declared.State.{State}
use Rattle.llc_steps.specs.Calls.{ack_for, carrier_for}
use Rattle.llc_steps.specs.States.{acks_of, with_acks}
use Rattle.llc_steps.proofs.Updates.{same-acks}
use Rattle.llc_queues.specs.Queues.{ack_on}

-- Those that are due in a state where others are.
acks-then : (s : State) (ds : List ScheduledOutAck) → acks_of (with_acks s ds) ≡ ds
acks-then s ds = take-laid no_ack s.n_acks ds s.scheduled_out_acks

-- The search for it ends at a place.
module _
    (r : Request) (s : State) {carrier : ℕ} (o : Option ℕ)
    (on : carrier ≡ carrier_for r s) (at : place_in s.n_acks o ≡ position (ack_on r.ssi carrier) (acks_of s))
    (count : length (acks_of s) ≡ s.n_acks) where
  few : s.n_acks ≤ length s.scheduled_out_acks
  few = omega (arith, length-take s.n_acks s.scheduled_out_acks, count)

  place : place_in s.n_acks o ≡ position (ack_on r.ssi (carrier_for r s)) (acks_of s)
  place = at ∙ ap (λ (k : ℕ). position (ack_on r.ssi k) (acks_of s)) on

  -- There is none.
  pub none-due : o ≡ None → ack_for r s ≡ nothing
  unfolding ack_for
  none-due e =
      let p = rw e at place in
      found_none (ack_on r.ssi (carrier_for r s)) (acks_of s) (omega (arith, length-take s.n_acks s.scheduled_out_acks, p))

  pub left-whole : o ≡ None → s ≡ with_acks s (others (ack_for r s) (acks_of s))
  left-whole e = rw (none-due e) (sym (same-acks s few))

  -- There is one, and it is taken out.
  module _ {i : ℕ} {d : ScheduledOutAck} {t : State} (e : o ≡ Some i) (below : i < s.n_acks)
      (got : d ≡ get_or (acks_of s) i no_ack) (left : t ≡ with_acks s (without i (acks_of s))) where
    one-due : ack_for r s ≡ first d (without i (acks_of s))
    unfolding ack_for
    one-due =
        let p = rw e at place in
        rw got
        (rw p (found_at (ack_on r.ssi (carrier_for r s)) (acks_of s) no_ack (omega (arith, length-take-le s.n_acks s.scheduled_out_acks few, p))))

    pub first-due : ack_for r s ≡ first d (acks_of t)
    first-due = one-due ∙ ap (first d) (sym (acks-then s (without i (acks_of s))) ∙ ap acks_of (sym left))

    pub left-without : t ≡ with_acks s (others (ack_for r s) (acks_of s))
    left-without = rw one-due left

  -- What taking it out gives is that one.
  pub taken-due :
      {i : ℕ} {t : State}
      → o ≡ Some i
      → i < s.n_acks
      → (out : Option ScheduledOutAck)
      → MatchOption out (s.n_acks ≤ i) (λ (d : ScheduledOutAck). (i < s.n_acks) × (d ≡ get_or (acks_of s) i no_ack))
      → t ≡ with_acks s (without i (acks_of s))
      → MatchOption out (ack_for r s ≡ nothing) (λ (d : ScheduledOutAck). ack_for r s ≡ first d (acks_of t))
  taken-due e below None h left = absurd (omega (arith, below, h))
  taken-due e below (Some d) h left = first-due e below h.1 left
