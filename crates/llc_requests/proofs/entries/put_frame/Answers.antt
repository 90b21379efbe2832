use Rattle.llc_requests.proofs.Stores.{put, is_written, length-is}
use Rattle.llc_requests.proofs.entries.put_frame.Goals as goal

-- The call is never refused.
pub unwrap-requires : goal.unwrap-requires
unwrap-requires c =
    let d =
    put c.args.pdu c.args.q.now c.args.place c.args.store.now c.to_bitbuf.new.out c.to_bitbuf.result
    c.requires.store_len c.requires.place_lt_store_places c.requires.sdu_len_bound c.to_bitbuf.ensures
    in
    is_written c.to_bitbuf.result d

pub returns : goal.returns
returns c =
    let d =
    put c.args.pdu c.args.q.now c.args.place c.args.store.now c.to_bitbuf.new.out c.to_bitbuf.result
    c.requires.store_len c.requires.place_lt_store_places c.requires.sdu_len_bound c.to_bitbuf.ensures
    in
    record {
      store_after = d.store;
      value = length-is d _ c.unwrap.ensures;
    }
