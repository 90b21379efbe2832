-- Which of the places of the store a new message takes: the first that no held message has.
use Rattle.std.specs.Prelude.{ℕ, zero, suc, cond, List, ◌++◌, map, take}
use Rattle.lists.specs.Lists.{among}
use Rattle.llc_rule.specs.Limits.{store_places}
use Rattle.llc_state.specs.declared.Entry.{Entry}
use Rattle.llc_state.specs.declared.State.{State}

-- The places of the messages that are held.
unfoldable pub used_places : State → List ℕ
used_places s =
    map (λ (e : Entry). e.frame.place) (take s.n_messages s.outbound_messages)
    ++ map (λ (e : Entry). e.frame.place) (take s.n_udata s.outbound_udata_messages)

-- The first of n numbers from p on that is not among others; 0 where there is none.
unfoldable pub first_free : ℕ → ℕ → List ℕ → ℕ
first_free zero p us = 0
first_free (suc n) p us = cond (among p us) (first_free n (suc p) us) p

unfoldable pub free_place : State → ℕ
free_place s = first_free store_places 0 (used_places s)
