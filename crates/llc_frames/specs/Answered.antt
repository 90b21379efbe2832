-- What an acknowledgement does to the message of a place.
use Rattle.std.specs.Prelude.{ℕ, Option as Given, Some, None, List, [], ◌∷◌, drop}
use Rattle.lists.specs.Lists.{Found, nothing, first}
use Rattle.lists.specs.Arrays.{without}
use Rattle.llc_state.specs.declared.State.{State}
use Rattle.llc_steps.specs.Calls.{answered_by}
use Rattle.llc_steps.specs.States.{messages_of}
use Rattle.llc_frames.specs.declared.acked.AckPlace.{AckPlace}

-- What stands in a place of a queue, if anything does, and the others.
abbrev pub found_in : {A : Type 0} → List A → List A → Found A
found_in [] others = nothing
found_in (x ∷ xs) others = first x others

abbrev pub found_at : {A : Type 0} → ℕ → List A → Found A
found_at i l = found_in (drop i l) (without i l)

-- The state after an N(R), for the message of its place; as it was where there is none.
abbrev pub acked_at : Given AckPlace → State → State
acked_at (Some a) s = answered_by a.nr (found_at a.place (messages_of s)) s
acked_at None s = s
