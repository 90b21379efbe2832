use Prim.Native.Nat.{ℕ, ◌+◌, ◌-◌, ◌*◌, ◌/◌, ◌%◌, ◌^◌, ◌<◌}
use native.Mathlib.Omega.{arith}
use mathlib.Core.Path.{◌≡◌, ◌∙◌, sym}
use lib.ListN.{length, get_or}
use Rattle.bits.proofs.Laws.{to_bits-mod, bits-part}
use Rattle.bits.proofs.PartLaws.{cut-bits}
use Rattle.fcs.proofs.bit_at.Goals as goal

pub returns-clause-result_value : goal.returns-clause-result_value
returns-clause-result_value c =
    let p = c.args.part in
    let l = p.bytes.now in
    let o : ℕ = p.place + c.args.i % 8 in
    let q : ℕ = c.args.i / 8 + o / 8 in
    let e : 8 * q + o % 8 ≡ p.place + c.args.i = omega arith in
    let h : q < length l = omega (arith, p.inside, c.requires) in
    to_bits-mod 1 (get_or l q 0 / 2 ^ (7 - o % 8))
    ∙ sym (cut-bits p c.args.i 1 (omega (arith, c.requires)) ∙ (rw e at (bits-part l q (o % 8) 1 (7 - o % 8) h (omega arith))))
