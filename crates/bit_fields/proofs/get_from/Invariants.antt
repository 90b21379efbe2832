use Rattle.bit_fields.proofs.Reading.{Reading}
use Rattle.bit_fields.proofs.get_from.Given as goal

abbrev pub invariant-loop-left : goal.invariant-loop-left
invariant-loop-left l = Reading l.bytes l.first l.place l.n l.r l.p l.left

abbrev pub decreases-loop-left : goal.decreases-loop-left
decreases-loop-left l = l.left
