use Rattle.std.proofs.Common.{length}
use Rattle.record_lines.proofs.Lines.{Written}
use Rattle.record_lines.proofs.put_records.Given as goal

abbrev pub invariant-loop-rest : goal.invariant-loop-rest
invariant-loop-rest l = Written l.fn.text l.at l.records l.text l.rest l.p

abbrev pub decreases-loop-rest : goal.decreases-loop-rest
decreases-loop-rest l = length l.rest
