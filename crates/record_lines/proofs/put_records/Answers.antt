use Rattle.std.proofs.Common.{rules}
use Rattle.record_lines.proofs.Lines.{all-written}
use Rattle.record_lines.proofs.put_records.Goals as goal

pub returns-clause-wrote : goal.returns-clause-wrote
returns-clause-wrote c = all-written c.loop-rest.invariant (search rules)
