use Rattle.std.proofs.Common.{◌≡◌, ◌∙◌, ◌+◌, ◌-◌, ◌*◌, ◌/◌, ◌<◌, ℕ, suc, length, get_or, sym, ap, arith, rules}
use Prim.Native.Nat.{◌^◌}
use native.Mathlib.Nat.{div-one}
use native.Mathlib.Numerals.{add-one}
use Rattle.bits.specs.Bits.{to_bits}
use Rattle.bits.proofs.Laws.{to_bits-mod, bits-part}
use Rattle.bits.proofs.Bytes.{in-two-bytes}
use Rattle.bits.proofs.PartLaws.{cut-bits}
use Rattle.bit_fields.proofs.byte.Goals as goal

pub returns-then-src-eq0 : goal.returns-then-src-eq0
returns-then-src-eq0 c =
    let p = c.args.src in
    let i : ℕ = c.args.i in
    let l = p.bytes.now in
    let e : 8 * i + 0 ≡ p.place + 8 * i = omega arith in
    sym
    (cut-bits p (8 * i) 8 c.requires ∙ (rw e at (bits-part l i 0 8 0 (omega (arith, p.inside, c.requires)) (omega arith)))
    ∙ ap (to_bits 8) (div-one (get_or l i 0)))

pub returns : goal.returns
returns c =
    let p = c.args.src in
    let i : ℕ = c.args.i in
    let l = p.bytes.now in
    let e : 8 * i + p.place ≡ p.place + 8 * i = omega arith in
    let b : get_or l (suc i) 0 < 256 = search rules in
    let h : suc i < length l = omega (arith, p.inside, c.requires, c.if-src-eq0.false) in
    rw (add-one i)
    (to_bits-mod 8 ((get_or l i 0 * 256 + get_or l (suc i) 0) / 2 ^ (8 - p.place))
    ∙ sym (cut-bits p (8 * i) 8 c.requires ∙ (rw e at (in-two-bytes l i p.place 8 (8 - p.place) (omega arith) h b))))
