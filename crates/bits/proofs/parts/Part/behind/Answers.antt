use Prim.Native.Nat.{ℕ, ◌+◌, ◌-◌, ◌*◌, ◌/◌, ◌%◌, min}
use native.Mathlib.Omega.{arith}
use mathlib.Core.Path.{◌≡◌, ◌∙◌, sym, ap}
use mathlib.Core.List.{List}
use lib.ListN.{length, drop}
use Rattle.std.proofs.lemmas.List.{drop_min}
use Rattle.bits.specs.Bits.{bits, part}
use Rattle.bits.proofs.PartLaws.{part-rest, drop-part, length-bits_of}
use Rattle.bits.proofs.parts.Part.behind.Goals as goal

pub returns-clause-value : goal.returns-clause-value
returns-clause-value c =
    let s = c.args.self in
    let l : List ℕ = bits s.bytes.now in
    let m : ℕ = c.min-n.result in
    let over : ℕ = s.place + m % 8 in
    let e : 8 * (m / 8 + over / 8) + over % 8 ≡ s.place + m = omega arith in
    let least : m ≡ min c.args.n (length (part l s.place s.len)) = omega (arith, c.min-n.ensures, length-bits_of s) in
    part-rest s.bytes.now (m / 8 + over / 8) (over % 8) (s.len - m)
    ∙ ap (λ (p : ℕ). part l p (s.len - m)) e
    ∙ sym (drop-part l s.place s.len m (omega (arith, c.min-n.ensures)))
    ∙ ap (λ (k : ℕ). drop k (part l s.place s.len)) least
    ∙ drop_min c.args.n (part l s.place s.len)
