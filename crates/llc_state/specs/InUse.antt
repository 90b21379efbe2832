-- A state with nothing in it but the values in use: those beyond a count are left out, and the others are the empty ones. Main
-- carrier, T251 and time are as they are, also before a start.
use Rattle.std.specs.Prelude.{false, cond, map, take}
use Rattle.tdma_time.specs.Slots.{first}
use Rattle.llc_state.specs.States.{no_progress}
use Rattle.llc_state.specs.declared.TmaUnitdataReq.{TmaUnitdataReq}
use Rattle.llc_state.specs.declared.Progress.{Progress}
use Rattle.llc_state.specs.declared.Entry.{Entry}
use Rattle.llc_state.specs.declared.ReceiptPlace.{ReceiptPlace}
use Rattle.llc_state.specs.declared.LinkSendSeq.{LinkSendSeq}
use Rattle.llc_state.specs.declared.State.{State}

-- What of the values that are handed down is in use, and of how far an acknowledged message has come.
unfoldable pub used_sent : TmaUnitdataReq → TmaUnitdataReq
used_sent r =
    record {
      ssi = r.ssi;
      ssi_type = r.ssi_type;
      carrier_num = r.carrier_num;
      link_id = r.link_id;
      endpoint_id = r.endpoint_id;
      req_handle = r.req_handle;
      stealing_permission = r.stealing_permission;
      has_mask = r.has_mask;
      mask = cond r.has_mask r.mask 0;
      receipt = r.receipt;
      block_len = r.block_len;
      block = take r.block_len r.block;
    }

unfoldable pub used_progress : Progress → Progress
used_progress p =
    record {
      ns = p.ns;
      submitted_to_umac = p.submitted_to_umac;
      has_umac_done = p.has_umac_done;
      t_umac_done = cond p.has_umac_done p.t_umac_done first;
      retransmit_count = p.retransmit_count;
    }

-- What an entry of either queue uses; how far it has come is the acknowledged queue's alone.
abbrev pub used_of : Entry → Progress → Entry
used_of e p = record { sent = used_sent e.sent; frame = e.frame; progress = p }

abbrev pub used_message : Entry → Entry
used_message e = used_of e (used_progress e.progress)

abbrev pub used_udata : Entry → Entry
used_udata e = used_of e no_progress

abbrev pub used_place : ReceiptPlace → ReceiptPlace
used_place p =
    record { taken = p.taken; expects_ack = cond p.taken p.expects_ack false; state = cond p.taken p.state 0 }

abbrev pub used_row : LinkSendSeq → LinkSendSeq
used_row r =
    record { ssi = r.ssi; vs = r.vs; has_last_ns = r.has_last_ns; last_ns = cond r.has_last_ns r.last_ns false }

unfoldable pub used : State → State
used s =
    record {
      started = s.started;
      main_carrier = s.main_carrier;
      t251 = s.t251;
      dltime = s.dltime;
      n_messages = s.n_messages;
      outbound_messages = map used_message (take s.n_messages s.outbound_messages);
      n_udata = s.n_udata;
      outbound_udata_messages = map used_udata (take s.n_udata s.outbound_udata_messages);
      n_acks = s.n_acks;
      scheduled_out_acks = take s.n_acks s.scheduled_out_acks;
      receipts = map used_place s.receipts;
      n_rows = s.n_rows;
      link_send_seq = map used_row (take s.n_rows s.link_send_seq);
    }
