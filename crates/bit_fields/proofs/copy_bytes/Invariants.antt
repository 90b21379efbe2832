use Prim.Native.Nat.{◌*◌}
use mathlib.Core.Path.{◌≡◌}
use lib.ListN.{take}
use Rattle.bits.specs.Bits.{bits}
use Rattle.bits.specs.Parts.{bits_of}
use Rattle.bit_fields.proofs.copy_bytes.Given as goal

abbrev pub invariant-loop-i : goal.invariant-loop-i
invariant-loop-i l = bits (take l.i l.dst) ≡ take (8 * l.i) (bits_of l.src)
