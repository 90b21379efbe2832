use Prim.Native.Nat.{◌-◌, ◌%◌}
use native.Mathlib.Omega.{arith}
use Rattle.bit_fields.proofs.Reading.{goes_on, ends}
use Rattle.bit_fields.proofs.get_from.Goals as goal

pub loop-left-preserved : goal.loop-left-preserved
loop-left-preserved c =
    let a = c.args in
    let i = c.loop-left in
    let h = c.min-h.result in
    rw (c.joined-r.ensures, c.piece.ensures)
    (goes_on a.bytes.now a.first a.place a.n i.r i.p i.left h (8 - i.p % 8 - h) i.invariant (omega arith) (omega arith) (omega (arith, i.invariant.total)) (omega arith))

pub returns : goal.returns
returns c =
    let a = c.args in
    let i = c.loop-left in
    ends a.bytes.now a.first a.place a.n i.r i.p i.left i.invariant (omega arith)
