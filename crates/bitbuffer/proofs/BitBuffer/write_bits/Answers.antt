use Prim.Native.Nat.{◌≤◌}
use native.Mathlib.Omega.{arith}
use borrow.Author.Rules.{rules}
use mathlib.Core.Path.{◌≡◌}
use Rattle.bitbuffer.specs.Writes.{widths, after_all, after}
use Rattle.bitbuffer.proofs.Widths.{one_width}
use Rattle.bitbuffer.proofs.BitBuffer.write_bits.Goals as goal

pub returns-in_err-after : goal.returns-in_err-after
returns-in_err-after c =
    let w = c.args.self in
    let n = c.args.num_bits in
    let few : n ≤ 64 = search rules in
    let one : after_all w (widths n) ≡ after w n = one_width w n c.in_ok-checked.ensures.ok.2 few in grind arith
