-- The states that the link begins with, and a state at another time.
use Rattle.std.specs.Prelude.{ℕ, Bool, true, false, replicate}
use Rattle.tdma_time.specs.Slots.{first}
use Rattle.tdma_time.specs.declared.TdmaTime.{TdmaTime}
use Rattle.llc_state.specs.Progress.{new_progress}
use Rattle.llc_state.specs.declared.TmaUnitdataReq.{TmaUnitdataReq}
use Rattle.llc_state.specs.declared.FramePlace.{FramePlace}
use Rattle.llc_state.specs.declared.Progress.{Progress}
use Rattle.llc_state.specs.declared.Entry.{Entry}
use Rattle.llc_state.specs.declared.ScheduledOutAck.{ScheduledOutAck}
use Rattle.llc_state.specs.declared.ReceiptPlace.{ReceiptPlace}
use Rattle.llc_state.specs.declared.LinkSendSeq.{LinkSendSeq}
use Rattle.llc_state.specs.declared.State.{State}

-- What stands in the elements that are not in use.
abbrev pub no_sent : TmaUnitdataReq
no_sent =
    record {
      ssi = 0;
      ssi_type = 0;
      carrier_num = 0;
      link_id = 0;
      endpoint_id = 0;
      req_handle = 0;
      stealing_permission = false;
      has_mask = false;
      mask = 0;
      receipt = 0;
      block_len = 0;
      block = replicate 64 0;
    }

abbrev pub no_frame : FramePlace
no_frame = record { place = 0; len = 0 }

abbrev pub no_progress : Progress
no_progress = new_progress false

unfoldable pub no_entry : Entry
no_entry = record { sent = no_sent; frame = no_frame; progress = no_progress }

abbrev pub no_ack : ScheduledOutAck
no_ack = record { ssi = 0; ssi_type = 0; carrier_num = 0; nr = false; ts = 0 }

abbrev pub no_receipt : ReceiptPlace
no_receipt = record { taken = false; expects_ack = false; state = 0 }

-- A row of an SSI that has sent and heard nothing, and one that is not in use.
abbrev pub new_seq : ℕ → LinkSendSeq
new_seq ssi = record { ssi = ssi; vs = false; has_last_ns = false; last_ns = false }

abbrev pub no_row : LinkSendSeq
no_row = new_seq 0

-- A state that holds nothing, at the first time.
unfoldable pub empty_state : Bool → ℕ → ℕ → State
empty_state started carrier t251 =
    record {
      started = started;
      main_carrier = carrier;
      t251 = t251;
      dltime = first;
      n_messages = 0;
      outbound_messages = replicate 64 no_entry;
      n_udata = 0;
      outbound_udata_messages = replicate 32 no_entry;
      n_acks = 0;
      scheduled_out_acks = replicate 64 no_ack;
      receipts = replicate 128 no_receipt;
      n_rows = 0;
      link_send_seq = replicate 256 no_row;
    }

-- "The library's new state, which is empty and not started"; the state that a start leaves.
abbrev pub new_state : State
new_state = empty_state false 0 0

abbrev pub started_state : ℕ → ℕ → State
started_state carrier t251 = empty_state true carrier t251

-- A state at another time.
abbrev pub at_time : State → TdmaTime → State
at_time s ts =
    record {
      started = s.started;
      main_carrier = s.main_carrier;
      t251 = s.t251;
      dltime = ts;
      n_messages = s.n_messages;
      outbound_messages = s.outbound_messages;
      n_udata = s.n_udata;
      outbound_udata_messages = s.outbound_udata_messages;
      n_acks = s.n_acks;
      scheduled_out_acks = s.scheduled_out_acks;
      receipts = s.receipts;
      n_rows = s.n_rows;
      link_send_seq = s.link_send_seq;
    }
