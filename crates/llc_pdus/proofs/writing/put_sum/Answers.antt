use Prim.Native.Nat.{◌+◌}
use native.Mathlib.Omega.{arith}
use mathlib.Core.Bool.{false}
use mathlib.Core.Path.{◌∙◌, ap}
use Rattle.bitbuffer.proofs.Laws.{written-inside}
use Rattle.bitbuffer.specs.declared.BitBuffer.{BitBuffer}
use Rattle.bits.specs.Bits.{bits}
use Rattle.fcs.specs.Fcs.{fcs_bits}
use Rattle.questions.specs.Effect.{Effect}
use Rattle.llc_pdus.proofs.writing.put_sum.Goals as goal

pub returns : goal.returns
returns c =
    let a = c.args in
    let w : BitBuffer = record { start = 0; pos = a.at; end = a.at + fcs_bits; flag_autoexpand = false } in
    ap (λ (e : Effect BitBuffer). e.bits) c.write_bits.ensures
    ∙ written-inside w (bits a.out.now) a.sum fcs_bits (omega arith) (omega arith) (omega arith) (omega arith)
