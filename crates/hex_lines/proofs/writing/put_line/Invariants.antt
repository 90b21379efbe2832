use Rattle.std.proofs.Common.{take}
use Rattle.lists.specs.Writes.{Wrote}
use Rattle.hex_lines.specs.Lines.{hex_of}
use Rattle.hex_lines.proofs.writing.put_line.Given as goal

abbrev pub invariant-loop-b : goal.invariant-loop-b
invariant-loop-b l = Wrote l.fn.out l.at (hex_of (take l.b-index l.bytes)) l.out l.p
