use Rattle.std.proofs.Common.{arith}
use Rattle.hex_lines.proofs.Writes.{no-digits, two-more, behind-all}
use Rattle.hex_lines.proofs.writing.put_line.Goals as goal

pub loop-b-init : goal.loop-b-init
loop-b-init c = no-digits _ c.args.bytes.now _

pub loop-b-preserved : goal.loop-b-preserved
loop-b-preserved c = two-more c.args.bytes.now _ c.loop-b.invariant (omega arith) c.put_hex-p.ensures

pub returns : goal.returns
returns c = behind-all c.args.bytes.now _ c.loop-b.invariant (omega arith) c.put.ensures
