use Rattle.std.proofs.Common.{◌∙◌, ap, length, arith}
use Rattle.lists.proofs.Writes.{same_bytes, wrote_none}
use Rattle.bits.specs.Parts.{bits_of}
use Rattle.llc_rule.proofs.Records.{length-counted}
use Rattle.bits.proofs.PartLaws.{length-bits_of}
use Rattle.llc_records.proofs.Parts.{any_none, any_some}
use Rattle.llc_records.proofs.fields.put_counted_if_any.Goals as goal

pub returns-then-bits-eq0 : goal.returns-then-bits-eq0
returns-then-bits-eq0 c = same_bytes (any_none (bits_of c.args.bits) (length-bits_of c.args.bits ∙ omega arith)) (wrote_none c.args.out.now c.args.at)

pub put_counted-requires-clause-len_in_bounds : goal.put_counted-requires-clause-len_in_bounds
put_counted-requires-clause-len_in_bounds c =
    let x = bits_of c.args.bits in
    let long = length-bits_of c.args.bits in
    omega (arith, length-counted x, ap length (any_some x (omega arith)))

pub returns : goal.returns
returns c = same_bytes (any_some (bits_of c.args.bits) (omega (arith, length-bits_of c.args.bits))) c.put_counted.ensures
