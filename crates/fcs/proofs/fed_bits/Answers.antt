use native.Mathlib.Omega.{arith}
use mathlib.Core.Path.{◌∙◌, sym, ap, ap₂}
use Rattle.bits.specs.Parts.{bits_of}
use Rattle.fcs.specs.Register.{fed}
use Rattle.fcs.proofs.Register.{fed-none, fed-more}
use Rattle.bits.proofs.PartLaws.{all-bits_of, whole-front}
use Rattle.fcs.proofs.fed_bits.Goals as goal

-- After i bits the loop has fed the first i of them.

pub loop-i-init : goal.loop-i-init
loop-i-init c =
    sym (fed-none c.args.crc (omega arith))

pub loop-i-preserved : goal.loop-i-preserved
loop-i-preserved c =
    let p = c.args.part in
    c.fed_bit-carried.ensures ∙ ap₂ fed c.loop-i.invariant c.bit_at.ensures.result_value
    ∙ sym (fed-more c.args.crc (bits_of p) c.loop-i.i 1 (all-bits_of p))

pub returns : goal.returns
returns c =
    c.loop-i.invariant ∙ ap (fed c.args.crc) (whole-front c.args.part c.loop-i.i (omega arith))
