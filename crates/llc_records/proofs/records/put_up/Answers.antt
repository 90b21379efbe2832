use Rattle.lists.proofs.Writes.{◌⨾◌}
use Rattle.llc_records.proofs.records.put_up.Goals as goal

pub returns : goal.returns
returns c = c.put_block-p.ensures ⨾ (c.put_flag-p.ensures ⨾ c.put_counted_if_any.ensures)
