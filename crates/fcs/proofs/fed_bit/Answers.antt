use Prim.Native.Nat.{ℕ, ◌*◌, ◌/◌, ◌%◌, ◌^◌}
use native.Mathlib.Omega.{arith}
use mathlib.Core.Path.{◌≡◌, ◌∙◌, refl, sym, ap}
use lib.Bits.{bit_xor, xor_zero_r, xor_lt}
use Rattle.fcs.specs.Register.{entry}
use Rattle.fcs.proofs.Register.{fed-step}
use Rattle.fcs.proofs.Ends.{entry-none, entry-one}
use Rattle.fcs.proofs.fed_bit.Goals as goal

pub returns-then-crc-bit-eq0 : goal.returns-then-crc-bit-eq0
returns-then-crc-bit-eq0 c =
    let crc : ℕ = c.args.crc in
    let bit : ℕ = c.args.bit in
    sym
    (fed-step 31 1 crc bit refl
    ∙ ap (bit_xor (crc * 2 % 2 ^ 32)) (ap (entry 1) c.if-crc-bit-eq0.true ∙ entry-none)
    ∙ xor_zero_r (crc * 2 % 2 ^ 32))

pub returns-else-crc-bit-eq0 : goal.returns-else-crc-bit-eq0
returns-else-crc-bit-eq0 c =
    let crc : ℕ = c.args.crc in
    let bit : ℕ = c.args.bit in
    let q : bit_xor (crc / 2 ^ 31) bit ≡ 1 = omega (arith, c.if-crc-bit-eq0.false, xor_lt 1 (crc / 2 ^ 31) bit (omega arith) (omega arith)) in
    sym (fed-step 31 1 crc bit refl ∙ ap (bit_xor (crc * 2 % 2 ^ 32)) (ap (entry 1) q ∙ entry-one))
