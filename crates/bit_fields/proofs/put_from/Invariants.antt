use Rattle.bit_fields.proofs.Writing.{Writing}
use Rattle.bit_fields.proofs.put_from.Given as goal

abbrev pub invariant-loop-left : goal.invariant-loop-left
invariant-loop-left l = Writing l.initial.bytes l.first l.place l.n l.v l.bytes l.p l.left

abbrev pub decreases-loop-left : goal.decreases-loop-left
decreases-loop-left l = l.left
