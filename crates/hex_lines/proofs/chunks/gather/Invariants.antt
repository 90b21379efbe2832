use Rattle.hex_lines.proofs.Gathering.{Under}
use Rattle.hex_lines.proofs.chunks.gather.Given as goal

abbrev pub invariant-loop-i : goal.invariant-loop-i
invariant-loop-i l = Under l.chunk l.fn.line l.fn.bytes l.line l.bytes l.i
