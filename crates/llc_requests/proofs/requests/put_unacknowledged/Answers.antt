use Rattle.bits.specs.Bits.{bits}
use Rattle.llc_calls.specs.Decoded.{request_of}
use Rattle.llc_requests.proofs.Puts.{put-unacknowledged}
use Rattle.llc_requests.proofs.requests.put_unacknowledged.Goals as goal

pub returns : goal.returns
unfolding request_of
returns c s ds was =
    put-unacknowledged
    (request_of c.args.q.now)
    s
    ds
    (bits c.args.store.now)
    (bits c.put_frame-len.new.store)
    c.args.link
    c.args.pdu
    was
    c.preferred_carrier-carrier.ensures
    c.free_place-place.ensures
    c.put_frame-len.ensures.store_after
    c.put_frame-len.ensures.value
    c.entry_of.ensures
    c.push_udata_message.ensures
    c.take_receipt.ensures
