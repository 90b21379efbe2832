use Prim.Native.Nat.{ℕ, ◌*◌, ◌/◌, ◌%◌, ◌^◌}
use native.Mathlib.Omega.{arith}
use mathlib.Core.Path.{◌∙◌, refl, sym, ap}
use lib.Bits.{bit_xor, xor_lt}
use Rattle.fcs.proofs.Register.{fed-step}
use Rattle.fcs.proofs.fed_byte.Goals as goal

pub returns : goal.returns
returns c =
    let crc : ℕ = c.args.crc in
    let byte : ℕ = c.args.byte in
    sym
    (fed-step 24 8 crc byte refl
    ∙ ap (bit_xor (crc * 256 % 2 ^ 32)) (sym (c.requires.entries (bit_xor (crc / 2 ^ 24) byte) (xor_lt 8 (crc / 2 ^ 24) byte (omega arith) (omega arith)))))
