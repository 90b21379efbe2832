use Rattle.lists.proofs.Writes.{◌⨾◌, same_bytes}
use Rattle.llc_records.proofs.Whole.{reply-is}
use Rattle.llc_records.proofs.records.put_reply.Goals as goal

pub returns : goal.returns
returns c = same_bytes (reply-is c.args.s) (c.put_head-p.ensures ⨾ (c.put_route-p.ensures ⨾ (c.put_steal-p.ensures ⨾ c.put_ack.ensures)))
