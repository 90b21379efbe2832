use Prim.Native.Nat.{◌*◌}
use Rattle.std.specs.Prelude.{cond}
use Rattle.bit_fields.proofs.Filling.{Filling}
use Rattle.bit_fields.proofs.fill.Given as goal

abbrev pub invariant-loop-i : goal.invariant-loop-i
invariant-loop-i l = Filling l.initial.bytes l.at (cond l.bit 1 0) l.bytes (64 * l.i)
