use Rattle.std.proofs.Common.{◌≡◌, ◌∙◌, ◌/◌, List, ℕ, length, arith}
use Rattle.bits.specs.Parts.{bits_of}
use Rattle.bits.proofs.PartLaws.{length-bits_of}
use Rattle.llc_rule.specs.Records.{pack}
use Rattle.llc_rule.proofs.Records.{length-pack}
use Rattle.llc_records.proofs.Parts.{copied, packed_by_bits}
use Rattle.llc_records.proofs.fields.put_whole.Goals as goal

pub returns : goal.returns
returns c =
    let a = c.args in
    let m = c.copy_bytes.new.dst in
    let x : List ℕ = bits_of a.bits in
    let long : length (pack x) ≡ a.bits.len / 8 = length-pack x ∙ omega (arith, length-bits_of a.bits) in
    rw long at (copied a.out.now (pack x) m a.at (omega (arith, long)) (packed_by_bits _ m _ x (λ i. (c.type_inv.out i).fits) c.copy_bytes.ensures))
