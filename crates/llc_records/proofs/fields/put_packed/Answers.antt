use Rattle.std.proofs.Common.{◌-◌, ◌%◌, arith, ap}
use Rattle.lists.proofs.Writes.{◌⨾◌, same_bytes}
use Rattle.bits.specs.Parts.{bits_of}
use Rattle.llc_rule.specs.Records.{pack}
use Rattle.bits.proofs.PartLaws.{length-bits_of}
use Rattle.llc_rule.proofs.Records.{length-pack}
use Rattle.llc_records.proofs.Parts.{pack-parts}
use Rattle.llc_records.proofs.fields.put_packed.Goals as goal

pub put_last-requires-clause-len_in_bounds : goal.put_last-requires-clause-len_in_bounds
put_last-requires-clause-len_in_bounds c =
    omega (arith, length-pack (bits_of c.before-2.result), length-bits_of c.before-2.result)

pub returns : goal.returns
returns c =
    let p = c.args.bits in
    same_bytes (pack-parts (p.len - p.len % 8) (bits_of p) (omega (arith, length-bits_of p)) (omega arith))
    (same_bytes (ap pack c.before-2.ensures.value) c.put_whole-p.ensures ⨾ same_bytes (ap pack c.behind.ensures.value) c.put_last.ensures)
