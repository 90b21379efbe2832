use Rattle.lists.proofs.Writes.{◌⨾◌, same_bytes}
use Rattle.llc_records.proofs.Whole.{sent_is}
use Rattle.llc_records.proofs.records.put_sent.Goals as goal

pub returns : goal.returns
returns c = same_bytes (sent_is c.args.kind c.args.s) (c.put_head-p.ensures ⨾ (c.put_route-p.ensures ⨾ (c.put_steal-p.ensures ⨾ c.put_down.ensures)))
