-- What of a state's arrays is in use, and a state with other elements in use.
use Rattle.std.specs.Prelude.{ℕ, List, length, take}
use Rattle.lists.specs.Arrays.{laid}
use Rattle.llc_rule.specs.Records.{Record}
use Rattle.llc_state.specs.declared.Entry.{Entry}
use Rattle.llc_state.specs.declared.ScheduledOutAck.{ScheduledOutAck}
use Rattle.llc_state.specs.declared.LinkSendSeq.{LinkSendSeq}
use Rattle.llc_state.specs.declared.State.{State}
use Rattle.llc_state.specs.States.{no_entry, no_ack, no_row}

-- What of the arrays is in use.
abbrev pub messages_of : State → List Entry
messages_of s = take s.n_messages s.outbound_messages

abbrev pub udata_of : State → List Entry
udata_of s = take s.n_udata s.outbound_udata_messages

abbrev pub acks_of : State → List ScheduledOutAck
acks_of s = take s.n_acks s.scheduled_out_acks

abbrev pub rows_of : State → List LinkSendSeq
rows_of s = take s.n_rows s.link_send_seq

-- A state with another array and number in use: of messages, of unacknowledged ones, of acknowledgements due, of rows.
abbrev pub put_messages : State → ℕ → List Entry → State
put_messages s n l =
    record {
      started = s.started;
      main_carrier = s.main_carrier;
      t251 = s.t251;
      dltime = s.dltime;
      n_messages = n;
      outbound_messages = l;
      n_udata = s.n_udata;
      outbound_udata_messages = s.outbound_udata_messages;
      n_acks = s.n_acks;
      scheduled_out_acks = s.scheduled_out_acks;
      receipts = s.receipts;
      n_rows = s.n_rows;
      link_send_seq = s.link_send_seq;
    }

abbrev pub put_udata : State → ℕ → List Entry → State
put_udata s n l =
    record {
      started = s.started;
      main_carrier = s.main_carrier;
      t251 = s.t251;
      dltime = s.dltime;
      n_messages = s.n_messages;
      outbound_messages = s.outbound_messages;
      n_udata = n;
      outbound_udata_messages = l;
      n_acks = s.n_acks;
      scheduled_out_acks = s.scheduled_out_acks;
      receipts = s.receipts;
      n_rows = s.n_rows;
      link_send_seq = s.link_send_seq;
    }

abbrev pub put_acks : State → ℕ → List ScheduledOutAck → State
put_acks s n l =
    record {
      started = s.started;
      main_carrier = s.main_carrier;
      t251 = s.t251;
      dltime = s.dltime;
      n_messages = s.n_messages;
      outbound_messages = s.outbound_messages;
      n_udata = s.n_udata;
      outbound_udata_messages = s.outbound_udata_messages;
      n_acks = n;
      scheduled_out_acks = l;
      receipts = s.receipts;
      n_rows = s.n_rows;
      link_send_seq = s.link_send_seq;
    }

abbrev pub put_rows : State → ℕ → List LinkSendSeq → State
put_rows s n l =
    record {
      started = s.started;
      main_carrier = s.main_carrier;
      t251 = s.t251;
      dltime = s.dltime;
      n_messages = s.n_messages;
      outbound_messages = s.outbound_messages;
      n_udata = s.n_udata;
      outbound_udata_messages = s.outbound_udata_messages;
      n_acks = s.n_acks;
      scheduled_out_acks = s.scheduled_out_acks;
      receipts = s.receipts;
      n_rows = n;
      link_send_seq = l;
    }

-- A state with other messages in use, other unacknowledged ones, other acknowledgements due, other rows.
abbrev pub with_messages : State → List Entry → State
with_messages s ms = put_messages s (length ms) (laid no_entry s.n_messages ms s.outbound_messages)

abbrev pub with_udata : State → List Entry → State
with_udata s us = put_udata s (length us) (laid no_entry s.n_udata us s.outbound_udata_messages)

abbrev pub with_acks : State → List ScheduledOutAck → State
with_acks s ds = put_acks s (length ds) (laid no_ack s.n_acks ds s.scheduled_out_acks)

abbrev pub with_rows : State → List LinkSendSeq → State
with_rows s rs = put_rows s (length rs) (laid no_row s.n_rows rs s.link_send_seq)

-- What an accepted call leaves: the state, the bits of the store, and the records that it gives.
pub record Kept : Type 0 where
  pub state : State
  pub store : List ℕ
  pub records : List Record

abbrev pub kept : State → List ℕ → List Record → Kept
kept s b rs = record { state = s; store = b; records = rs }
