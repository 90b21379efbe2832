use Rattle.std.proofs.Common.{◌-◌, length}
use Rattle.record_lines.proofs.Cuts.{Under}
use Rattle.record_lines.proofs.record_end.Given as goal

abbrev pub invariant-loop-end : goal.invariant-loop-end
invariant-loop-end l = Under l.records l.end

abbrev pub decreases-loop-end : goal.decreases-loop-end
decreases-loop-end l = length l.records - l.end
