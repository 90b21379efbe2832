use Prim.Native.Nat.{ℕ}
use mathlib.Core.List.{List}
use mathlib.Core.Path.{◌∙◌, ap}
use Rattle.bits.proofs.Laws.{to_bits-of-part}
use Rattle.bits.specs.Bits.{to_bits, bits, splice}
use Rattle.bit_fields.proofs.copy_field.Goals as goal

pub returns : goal.returns
returns c =
    let a = c.args in
    let p = a.src in
    c.put.ensures
    ∙ ap (λ (t : List ℕ). splice (bits a.dst.now) a.at t)
    (ap (λ (v : ℕ). to_bits p.len v) c.get.ensures ∙ to_bits-of-part p.bytes.now p.place p.len p.inside)
