use Rattle.lists.proofs.Writes.{◌⨾◌}
use Rattle.llc_records.proofs.records.put_down.Goals as goal

pub returns : goal.returns
returns c = c.put_number-p.ensures ⨾ (c.put_block-p.ensures ⨾ c.put_counted.ensures)
