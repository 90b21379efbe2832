-- What a frame's N(S) does: an acknowledgement becomes due, and its row holds it as the last one.
use Prim.Native.Nat.{ℕ, ◌≤◌}
use native.Mathlib.Omega.{arith}
use mathlib.Core.Path.{◌≡◌, ◌∙◌, sym, ap}
use mathlib.Core.Bool.{Bool, true, ◌&&◌, beq}
use mathlib.Core.List.{[], ◌∷◌, ◌++◌}
use mathlib.Core.Option.{Option, none, some}
use lib.ListN.{get_or}
use Rattle.std.specs.Prelude.{Option as Given, Some, None}
use Rattle.lists.specs.Lists.{all}
use Rattle.lists.specs.Arrays.{position, placed}
use Rattle.lists.proofs.Arrays.{position-within}
use Rattle.llc_rule.specs.Messages.{slot_before}
use Rattle.llc_state.specs.Ranges.{message_in_range, state_in_range}
use Rattle.llc_state.specs.States.{new_seq}
use Rattle.llc_state.specs.declared.LinkSendSeq.{LinkSendSeq}
use Rattle.llc_state.specs.declared.State.{State}
use Rattle.llc_state.proofs.InRange.{range-tells}
use Rattle.llc_steps.specs.Calls.{row_of, heard_seq, numbered, repeats, is_repeat}
use Rattle.llc_steps.specs.States.{messages_of, acks_of, rows_of, with_acks, with_rows}
use Rattle.llc_steps.proofs.Rows.{seq-at, placed-seq}
use Rattle.llc_frames.specs.Numbers.{row_place, ns_in}
use Rattle.llc_frames.specs.declared.numbered.SeqRow.{SeqRow}

-- The row of an SSI is in the place that stands with an N(S).
pub row-there :
    (s : State) (ssi : ℕ) {g : Given SeqRow} {h : SeqRow}
    → g ≡ row_place ssi (ns_in g) s
    → g ≡ Some h
    → h.row ≡ position (row_of ssi) (rows_of s)
row-there s ssi there is = ap row_in (sym is ∙ there ∙ ap (λ (g : Given SeqRow). row_place ssi (ns_in g) s) is)
  where
    row_in : Given SeqRow → ℕ
    row_in None = 0
    row_in (Some h) = h.row

module _ (s : State) (ssi : ℕ) {row : ℕ} (place : row ≡ position (row_of ssi) (rows_of s)) where
  -- Whether it is a repeat.
  pub repeat-found :
      (ns : Bool) {seq : LinkSendSeq}
      → seq ≡ get_or (rows_of s) row (new_seq ssi)
      → seq.has_last_ns && beq seq.last_ns ns ≡ is_repeat ssi (some ns) s
  repeat-found ns g = ap (repeats ns) (g ∙ seq-at ssi (rows_of s) place)

  -- The place is that of a row, or the next.
  pub row_within : row ≤ s.n_rows
  row_within = omega (arith, place, position-within (row_of ssi) s.n_rows s.link_send_seq)

  -- The state then.
  pub is-numbered :
      (type carrier : ℕ) (ns : Bool) {slot : ℕ} {seq : LinkSendSeq} {next r : State}
      → seq ≡ get_or (rows_of s) row (new_seq ssi)
      → slot ≡ slot_before s.dltime
      → next
      ≡ with_acks s (acks_of s ++ (record { ssi = ssi; ssi_type = type; carrier_num = carrier; nr = ns; ts = slot } ∷ []))
      → r ≡ with_rows next (placed (heard_seq ssi ns seq) row (rows_of next))
      → r ≡ numbered ssi type carrier (some ns) s
  is-numbered type carrier ns {slot} {seq} {next} {r} g at next-is r-is =
      let rows = placed-seq ssi (rows_of s) place (ap (heard_seq ssi ns) (g ∙ seq-at ssi (rows_of s) place)) in
      r-is
      ∙ ap (λ (t : State). with_rows t (placed (heard_seq ssi ns seq) row (rows_of t))) next-is
      ∙ (λ i.
      with_rows
      (with_acks s (acks_of s ++ (record { ssi = ssi; ssi_type = type; carrier_num = carrier; nr = ns; ts = at i } ∷ [])))
      (rows i))

-- The messages are as they were.
queue-is :
    (s : State) (ssi type carrier : ℕ) (x : Option Bool)
    → state_in_range s ≡ true
    → ((numbered ssi type carrier x s).n_messages ≤ 64) × (all message_in_range (messages_of (numbered ssi type carrier x s)) ≡ true)
queue-is s ssi type carrier none h = let r = range-tells s h in (r.head.messages, r.messages)
queue-is s ssi type carrier (some ns) h = let r = range-tells s h in (r.head.messages, r.messages)

module _ (s next : State) (ssi type carrier : ℕ) (x : Option Bool) (is : next ≡ numbered ssi type carrier x s) (h : state_in_range s ≡ true) where
  pub still_few : next.n_messages ≤ 64
  still_few = rw is (queue-is s ssi type carrier x h).0

  pub still_ranged : all message_in_range (messages_of next) ≡ true
  still_ranged = rw is (queue-is s ssi type carrier x h).1
