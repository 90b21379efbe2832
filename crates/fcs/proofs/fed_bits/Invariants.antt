use mathlib.Core.Path.{◌≡◌}
use lib.ListN.{take}
use Rattle.bits.specs.Parts.{bits_of}
use Rattle.fcs.specs.Register.{fed}
use Rattle.fcs.proofs.fed_bits.Given as goal

abbrev pub invariant-loop-i : goal.invariant-loop-i
invariant-loop-i l = l.carried ≡ fed l.fn.crc (take l.i (bits_of l.fn.part))
