use Rattle.std.proofs.Common.{length}
use Rattle.runner.proofs.run.Run.answer_lines.Given as goal

abbrev pub decreases-loop-behind : goal.decreases-loop-behind
decreases-loop-behind l = length l.rest
