use Prim.Native.Nat.{◌*◌}
use native.Mathlib.Omega.{arith}
use mathlib.Core.Path.{◌∙◌, sym, ap, refl}
use lib.Seq.{take_all}
use Rattle.bits.specs.Bits.{bits}
use Rattle.bits.specs.Parts.{bits_of}
use Rattle.bits.proofs.PartLaws.{whole-front}
use Rattle.bit_fields.proofs.Copying.{one_more}
use Rattle.bit_fields.proofs.copy_bytes.Goals as goal

pub loop-i-init : goal.loop-i-init
unfolding bits
loop-i-init c = refl

pub loop-i-preserved : goal.loop-i-preserved
loop-i-preserved c =
    let i = c.loop-i in
    one_more i.dst (bits_of c.args.src) i.i c.byte.result (omega arith) i.invariant c.byte.ensures

pub returns : goal.returns
returns c =
    let i = c.loop-i in
    sym (ap bits (take_all i.i i.dst (omega arith))) ∙ i.invariant ∙ whole-front c.args.src (8 * i.i) (omega arith)
