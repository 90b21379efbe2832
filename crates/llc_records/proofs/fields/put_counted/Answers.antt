use Rattle.lists.proofs.Writes.{◌⨾◌, same_bytes}
use Rattle.bits.specs.Parts.{bits_of}
use Rattle.bits.proofs.PartLaws.{length-bits_of}
use Rattle.llc_records.proofs.Parts.{counted_is}
use Rattle.llc_records.proofs.fields.put_counted.Goals as goal

pub returns : goal.returns
returns c =
    let p = c.args.bits in
    same_bytes (counted_is (bits_of p) p.len (length-bits_of p)) (c.put_tag-p.ensures ⨾ (c.put_lowest-p.ensures ⨾ c.put_packed.ensures))
