use Rattle.bits.specs.Bits.{bits}
use Rattle.llc_calls.specs.Decoded.{request_of}
use Rattle.llc_requests.proofs.Puts.{put-acknowledged}
use Rattle.llc_requests.proofs.requests.put_acknowledged.Goals as goal

pub returns : goal.returns
unfolding request_of
returns c =
    put-acknowledged
    (request_of c.args.q.now)
    c.args.state.now
    (bits c.args.store.now)
    (bits c.put_frame-len.new.store)
    c.args.row
    c.take_due_ack-due.result
    c.data_pdu-pdu.result
    c.requires.row_value
    c.preferred_carrier-carrier.ensures
    c.send_seq-seq.ensures
    c.take_due_ack-due.ensures.value
    c.take_due_ack-due.ensures.state_after
    c.data_pdu-pdu.ensures
    c.free_place-place.ensures
    c.put_frame-len.ensures.store_after
    c.put_frame-len.ensures.value
    c.entry_of.ensures
    c.push_message.ensures
    c.take_receipt.ensures
    c.set_send_seq.ensures
