use Prim.Native.Nat.{ℕ, ◌+◌, ◌*◌}
use native.Mathlib.Omega.{arith}
use mathlib.Core.Path.{◌≡◌, ◌∙◌, sym, ap, ap₂}
use lib.ListN.{take}
use Rattle.bits.specs.Parts.{bits_of}
use Rattle.fcs.specs.Register.{fed}
use Rattle.fcs.proofs.Register.{fed-none, fed-more}
use Rattle.bits.proofs.PartLaws.{all-bits_of, whole-front}
use Rattle.fcs.proofs.fed_bytes.Goals as goal

-- After i bytes the loop has fed the first 8 * i bits.

pub loop-i-init : goal.loop-i-init
loop-i-init c =
    sym (fed-none c.args.crc (omega arith))

pub loop-i-preserved : goal.loop-i-preserved
loop-i-preserved c =
    let p = c.args.part in
    let i : ℕ = c.loop-i.i in
    let e : 8 * i + 8 ≡ 8 * (i + 1) = omega arith in
    c.fed_byte-carried.ensures ∙ ap₂ fed c.loop-i.invariant c.byte.ensures
    ∙ sym (fed-more c.args.crc (bits_of p) (8 * i) 8 (all-bits_of p))
    ∙ ap (λ (n : ℕ). fed c.args.crc (take n (bits_of p))) e

pub returns : goal.returns
returns c =
    c.loop-i.invariant ∙ ap (fed c.args.crc) (whole-front c.args.part (8 * c.loop-i.i) (omega (arith, c.requires.whole)))
