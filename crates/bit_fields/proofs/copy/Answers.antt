use Prim.Native.Nat.{ℕ, ◌+◌, ◌-◌, ◌*◌, ◌/◌, ◌%◌, ◌≤◌}
use native.Mathlib.Omega.{arith}
use mathlib.Core.List.{List}
use mathlib.Core.Path.{◌≡◌, ◌∙◌, ap, ap₂}
use lib.ListN.{length, take, drop}
use Rattle.bits.proofs.Laws.{length-bits}
use Rattle.bits.proofs.PartLaws.{length-bits_of}
use Rattle.bits.specs.Bits.{bits, splice}
use Rattle.bits.specs.Parts.{bits_of}
use Rattle.bit_fields.proofs.Copying.{over, in_three}
use Rattle.bit_fields.proofs.copy.Goals as goal

pub returns : goal.returns
returns c =
    let a = c.args in
    let m : List ℕ = bits_of a.src in
    let room : ℕ = 8 - a.at % 8 in
    let q : ℕ = a.at / 8 + 1 in
    let rest = c.behind-rest in
    let k : ℕ = rest.result.len / 8 in
    let first = c.copy_field-2.new.dst in
    let middle = c.before-3.result in
    let few : 8 * k ≤ rest.result.len = omega arith in
    let long : length (bits_of middle) ≡ 8 * k = length-bits_of middle ∙ c.before-3.ensures.count ∙ omega arith in
    in_three (bits a.dst.now) m (bits first) _ (bits c.copy_field-3.new.dst) a.at room (8 * k)
    (omega (arith, length-bits a.dst.now, length-bits_of a.src, c.requires.len_bound))
    (omega (arith, length-bits_of a.src, rest.ensures.count, c.if-src-room.false))
    (c.copy_field-2.ensures ∙ ap (splice (bits a.dst.now) a.at) c.before-2.ensures.value)
    (over first c.copy_bytes.new.dst (bits_of middle) q k long c.copy_bytes.ensures
    ∙ ap₂ (splice (bits first)) (omega arith) (c.before-3.ensures.value ∙ ap (take (8 * k)) rest.ensures.value))
    (c.copy_field-3.ensures
    ∙ ap₂ (splice _) (omega arith) (c.behind.ensures.value ∙ ap (drop (8 * k)) rest.ensures.value))
