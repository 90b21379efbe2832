-- Where a frame's numbers lead: to the row of its SSI, and to the message that it answers.
use Rattle.std.specs.Prelude.{ℕ, Bool, cond, ltb, Option as Given, Some, None}
use Rattle.std.proofs.Math.Option.{Option, none, some}
use Rattle.lists.specs.Arrays.{position}
use Rattle.llc_state.specs.declared.State.{State}
use Rattle.llc_steps.specs.Calls.{row_of}
use Rattle.llc_steps.specs.States.{messages_of, rows_of}
use Rattle.llc_queues.specs.Queues.{expected_on}
use Rattle.llc_frames.specs.declared.acked.AckPlace.{AckPlace}
use Rattle.llc_frames.specs.declared.numbered.SeqRow.{SeqRow}

-- An N(S), with the place of the row of its SSI; and the N(S) of the two.
abbrev pub row_place : ℕ → Option Bool → State → Given SeqRow
row_place ssi none s = None
row_place ssi (some ns) s = Some (record { row = position (row_of ssi) (rows_of s); ns = ns })

abbrev pub ns_in : Given SeqRow → Option Bool
ns_in None = none
ns_in (Some r) = some r.ns

-- An N(R) with a place, if that is one of the first n.
abbrev pub below : ℕ → ℕ → Bool → Given AckPlace
below n i nr = cond (ltb i n) (Some (record { place = i; nr = nr })) None

-- An N(R), with the place of the message that it is for, if there is one.
abbrev pub ack_place : ℕ → ℕ → Option Bool → State → Given AckPlace
ack_place ssi carrier none s = None
ack_place ssi carrier (some nr) s = below s.n_messages (position (expected_on ssi carrier) (messages_of s)) nr
