use Rattle.lists.proofs.Writes.{◌⨾◌}
use Rattle.llc_records.proofs.fields.put_block.Goals as goal

pub returns : goal.returns
returns c = c.put_tag-p.ensures ⨾ c.put_bytes.ensures
