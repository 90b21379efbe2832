use Prim.Native.Nat.{◌+◌}
use native.Mathlib.Omega.{arith}
use mathlib.Core.Bool.{false}
use mathlib.Core.Path.{◌∙◌, ap}
use Rattle.bitbuffer.proofs.Laws.{copied-inside}
use Rattle.questions.specs.Effect.{Effect}
use Rattle.bitbuffer.specs.declared.Windows.{Windows}
use Rattle.bitbuffer.specs.declared.BitBuffer.{BitBuffer}
use Rattle.bits.specs.Bits.{bits}
use Rattle.bits.proofs.Laws.{length-bits}
use Rattle.llc_pdus.proofs.writing.put_sdu.Goals as goal

pub returns : goal.returns
returns c =
    let a = c.args in
    let s = a.sdu in
    let w : BitBuffer = record { start = 0; pos = a.size; end = a.size + s.len; flag_autoexpand = false } in
    let v : BitBuffer = record { start = s.place; pos = s.place; end = s.place + s.len; flag_autoexpand = false } in
    ap (λ (e : Effect Windows). e.bits) c.copy_bits.ensures
    ∙ copied-inside w (bits a.out.now) v (bits s.bytes.now) s.len (omega arith) (omega (arith, s.inside, length-bits s.bytes.now)) (omega arith) (omega arith)
