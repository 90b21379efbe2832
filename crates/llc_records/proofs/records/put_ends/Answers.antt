use Rattle.lists.proofs.Writes.{◌⨾◌}
use Rattle.llc_records.proofs.records.put_ends.Goals as goal

pub returns : goal.returns
returns c = c.put_number-p.ensures ⨾ c.put_number.ensures
