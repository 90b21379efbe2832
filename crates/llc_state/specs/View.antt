-- How a link lies in a state and a store: what the arrays and the bits of the store hold, as the lists that `step` is about.
use Rattle.std.specs.Prelude.{ℕ, ◌*◌, cond, List, map, take}
use Rattle.std.proofs.Math.Option.{none, some}
use Rattle.bits.specs.Bits.{part}
use Rattle.llc_rule.specs.Limits.{place_bytes}
use Rattle.llc_rule.specs.Records.{Sent}
use Rattle.llc_rule.specs.Messages.{Message, Due, Place, free, taken}
use Rattle.llc_rule.specs.Keeps.{Numbers}
use Rattle.llc_rule.specs.Link.{Link, Row, row_with}
use Rattle.llc_state.specs.Receipts.{receipt_of}
use Rattle.llc_state.specs.declared.TmaUnitdataReq.{TmaUnitdataReq}
use Rattle.llc_state.specs.declared.Progress.{Progress}
use Rattle.llc_state.specs.declared.Entry.{Entry}
use Rattle.llc_state.specs.declared.ScheduledOutAck.{ScheduledOutAck}
use Rattle.llc_state.specs.declared.ReceiptPlace.{ReceiptPlace}
use Rattle.llc_state.specs.declared.LinkSendSeq.{LinkSendSeq}
use Rattle.llc_state.specs.declared.State.{State}

-- Where a place of the store begins, in bits.
abbrev pub place_bit : ℕ → ℕ
place_bit p = 8 * (place_bytes * p)

-- The frame of a message.
unfoldable pub frame_at : List ℕ → Entry → List ℕ
frame_at store e = part store (place_bit e.frame.place) e.frame.len

-- What is handed down, with a frame; a message as it is handed down.
abbrev pub sent_with : List ℕ → TmaUnitdataReq → Sent
sent_with pdu r =
    record {
      ssi = r.ssi;
      type = r.ssi_type;
      carrier = r.carrier_num;
      link = r.link_id;
      endpoint = r.endpoint_id;
      handle = r.req_handle;
      steal = r.stealing_permission;
      mask = cond r.has_mask (some r.mask) none;
      receipt = r.receipt;
      block = take r.block_len r.block;
      pdu = pdu;
    }

unfoldable pub sent_in : List ℕ → Entry → Sent
sent_in store e = sent_with (frame_at store e) e.sent

-- A message that has come so far; an acknowledged message.
abbrev pub message_with : Sent → Progress → Message
message_with sent p =
    record {
      sent = sent;
      ns = p.ns;
      submitted = p.submitted_to_umac;
      done = cond p.has_umac_done (some p.t_umac_done) none;
      resends = p.retransmit_count;
    }

unfoldable pub message_in : List ℕ → Entry → Message
message_in store e = message_with (sent_in store e) e.progress

-- An acknowledgement that is due.
unfoldable pub due_in : ScheduledOutAck → Due
due_in a = record { ssi = a.ssi; type = a.ssi_type; carrier = a.carrier_num; nr = a.nr; slot = a.ts }

-- The place of a receipt; the numbers of an address, and its row.
unfoldable pub place_in : ReceiptPlace → Place
place_in p = cond p.taken (taken (receipt_of p)) free

abbrev pub numbers_in : LinkSendSeq → Numbers
numbers_in r = record { bit = r.vs; last = cond r.has_last_ns (some r.last_ns) none }

unfoldable pub row_in : LinkSendSeq → Row
row_in r = row_with r.ssi (numbers_in r)

-- The link.
unfoldable pub link_in : State → List ℕ → Link
link_in s store =
    record {
      started = s.started;
      carrier = s.main_carrier;
      t251 = s.t251;
      time = s.dltime;
      acknowledged = map (message_in store) (take s.n_messages s.outbound_messages);
      unacknowledged = map (sent_in store) (take s.n_udata s.outbound_udata_messages);
      due = map due_in (take s.n_acks s.scheduled_out_acks);
      receipts = map place_in s.receipts;
      rows = map row_in (take s.n_rows s.link_send_seq);
    }
