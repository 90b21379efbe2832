use Prim.Native.Nat.{◌-◌, ◌%◌}
use native.Mathlib.Omega.{arith}
use Rattle.bit_fields.proofs.Writing.{begins, goes_on}
use Rattle.bit_fields.proofs.put_from.Goals as goal

pub loop-left-init : goal.loop-left-init
loop-left-init c =
    let a = c.args in begins a.bytes.now a.first a.place a.n a.v

pub loop-left-preserved : goal.loop-left-preserved
loop-left-preserved c =
    let a = c.args in
    let i = c.loop-left in
    let h = c.min-h.result in
    goes_on a.bytes.now a.first a.place a.n a.v i.bytes i.p i.left h (8 - i.p % 8 - h) c.replaced.result i.invariant (omega arith) (omega arith) (omega (arith, i.invariant.total, i.invariant.long)) (omega arith) c.replaced.ensures
