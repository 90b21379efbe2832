-- What a state with other elements in use holds, as a link.
use Prim.Native.Nat.{ℕ}
use mathlib.Core.Path.{◌≡◌, refl, ap}
use mathlib.Core.List.{List, map}
use Rattle.lists.proofs.Arrays.{take-laid}
use Rattle.llc_rule.specs.Keeps as Keeps
use Rattle.llc_state.specs.Receipts.{with_places}
use Rattle.llc_state.specs.View.{sent_in, message_in, due_in, place_in, row_in, link_in}
use Rattle.llc_state.specs.declared.Entry.{Entry}
use Rattle.llc_state.specs.declared.ScheduledOutAck.{ScheduledOutAck}
use Rattle.llc_state.specs.declared.ReceiptPlace.{ReceiptPlace}
use Rattle.llc_state.specs.declared.LinkSendSeq.{LinkSendSeq}
use Rattle.llc_state.specs.declared.State.{State}
use Rattle.llc_state.specs.States.{no_entry, no_ack, no_row}
use Rattle.llc_steps.specs.States.{with_messages, with_udata, with_acks, with_rows}

-- Each setter of the state is the setter of the link.
module _ (s : State) (store : List ℕ) where
  pub messages-in : (ms : List Entry) → link_in (with_messages s ms) store ≡ Keeps.acknowledged_now (link_in s store) (map (message_in store) ms)
  unfolding link_in
  messages-in ms =
      ap (λ (l : List Entry). Keeps.acknowledged_now (link_in s store) (map (message_in store) l))
      (take-laid no_entry s.n_messages ms s.outbound_messages)

  pub udata-in : (us : List Entry) → link_in (with_udata s us) store ≡ Keeps.unacknowledged_now (link_in s store) (map (sent_in store) us)
  unfolding link_in
  udata-in us =
      ap (λ (l : List Entry). Keeps.unacknowledged_now (link_in s store) (map (sent_in store) l))
      (take-laid no_entry s.n_udata us s.outbound_udata_messages)

  pub acks-in : (ds : List ScheduledOutAck) → link_in (with_acks s ds) store ≡ Keeps.due_now (link_in s store) (map due_in ds)
  unfolding link_in
  acks-in ds =
      ap (λ (l : List ScheduledOutAck). Keeps.due_now (link_in s store) (map due_in l))
      (take-laid no_ack s.n_acks ds s.scheduled_out_acks)

  pub places-in : (ps : List ReceiptPlace) → link_in (with_places s ps) store ≡ Keeps.with_receipts (link_in s store) (map place_in ps)
  unfolding link_in
  places-in ps = refl

  pub rows_in : (rs : List LinkSendSeq) → link_in (with_rows s rs) store ≡ Keeps.with_rows (link_in s store) (map row_in rs)
  unfolding link_in
  rows_in rs =
      ap (λ (l : List LinkSendSeq). Keeps.with_rows (link_in s store) (map row_in l))
      (take-laid no_row s.n_rows rs s.link_send_seq)
