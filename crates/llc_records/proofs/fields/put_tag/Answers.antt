use Rattle.lists.proofs.Writes.{◌⨾◌, wrote_one}
use Rattle.llc_records.proofs.fields.put_tag.Goals as goal

pub returns : goal.returns
returns c = wrote_one c.args.out.now c.args.at c.args.tag ⨾ c.put_lowest.ensures
