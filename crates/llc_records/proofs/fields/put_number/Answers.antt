use Rattle.lists.proofs.Writes.{◌⨾◌, same_bytes}
use Rattle.llc_records.proofs.Parts.{number_is}
use Rattle.llc_records.proofs.fields.put_number.Goals as goal

pub returns : goal.returns
returns c = same_bytes (number_is c.args.tag c.args.n c.args.v) (c.put_tag-p.ensures ⨾ c.put_lowest.ensures)
