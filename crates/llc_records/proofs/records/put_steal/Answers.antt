use Rattle.lists.proofs.Writes.{◌⨾◌}
use Rattle.llc_records.proofs.records.put_steal.Goals as goal

pub returns : goal.returns
returns c = c.put_flag-p.ensures ⨾ c.put_mask.ensures
