use Prim.Native.Nat.{ℕ, ◌+◌, ◌-◌, ◌*◌, ◌/◌, ◌^◌}
use native.Mathlib.Omega.{arith}
use borrow.Author.Rules.{rules}
use mathlib.Core.Path.{◌≡◌, ◌∙◌, ap}
use lib.ListN.{replicate}
use Rattle.std.specs.Prelude.{cond}
use Rattle.bits.specs.Bits.{to_bits, bits, splice}
use Rattle.bit_fields.proofs.Filling.{as_bit, few, goes_on}
use Rattle.bit_fields.proofs.fill.Goals as goal

pub loop-i-preserved : goal.loop-i-preserved
loop-i-preserved c =
    let a = c.args in
    let i = c.loop-i in
    let next : 64 * (i.i + 1) ≡ 64 * i.i + 64 = omega arith in
    rw next
    (goes_on a.bytes.now a.at (cond a.bit 1 0) i.bytes (64 * i.i) 64 _ i.invariant (omega arith) (few a.bit) (omega arith) (search rules)
    (c.put.ensures ∙ ap (λ (v : ℕ). splice (bits i.bytes) (a.at + 64 * i.i) (to_bits 64 (v * (2 ^ 64 - 1)))) (c.from-pattern.ensures ∙ as_bit a.bit)))

pub returns : goal.returns
returns c =
    let a = c.args in
    let done : ℕ = 64 * (a.n / 64) in
    let all : done + (a.n - done) ≡ a.n = omega arith in
    let last : c.loop-i.i ≡ a.n / 64 = omega arith in
    let whole = rw last at c.loop-i.invariant in
    (goes_on a.bytes.now a.at (cond a.bit 1 0) c.loop-i.bytes done (a.n - done) _ whole (omega arith) (few a.bit) (omega arith) (search rules)
    (c.put-2.ensures ∙ ap (λ (v : ℕ). splice (bits c.loop-i.bytes) (a.at + done) (to_bits (a.n - done) (v * (2 ^ 64 - 1)))) (c.from-pattern.ensures ∙ as_bit a.bit))).so_far
    ∙ ap (λ (k : ℕ). splice (bits a.bytes.now) a.at (replicate k (cond a.bit 1 0))) all
