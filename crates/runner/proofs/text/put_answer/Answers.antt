use Rattle.std.proofs.Common.{arith}
use Rattle.lists.proofs.Writes.{◌⨾◌, as_long}
use Rattle.hex_lines.proofs.Writes.{number-length}
use Rattle.runner.proofs.text.put_answer.Goals as goal

pub put_records-requires : goal.put_records-requires
put_records-requires c = omega (arith, number-length c.args.number, as_long c.put_number-p.ensures, c.put_number-p.ensures.next)

pub returns-clause-wrote : goal.returns-clause-wrote
returns-clause-wrote c = c.put_number-p.ensures ⨾ c.put_records.ensures.wrote

pub returns-clause-upper_bound : goal.returns-clause-upper_bound
returns-clause-upper_bound c = omega (arith, number-length c.args.number, as_long c.put_number-p.ensures, c.put_number-p.ensures.next, as_long c.put_records.ensures.wrote)
