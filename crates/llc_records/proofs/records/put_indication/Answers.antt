use Rattle.lists.proofs.Writes.{◌⨾◌, same_bytes}
use Rattle.llc_records.proofs.Whole.{indication-is}
use Rattle.llc_records.proofs.records.put_indication.Goals as goal

pub returns : goal.returns
returns c = same_bytes (indication-is c.args.kind c.args.s) (c.put_head-p.ensures ⨾ (c.put_ends-p.ensures ⨾ c.put_up.ensures))
