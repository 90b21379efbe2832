use mathlib.Core.Path.{sym}
use Rattle.lists.proofs.Arrays.{laid-last}
use Rattle.llc_queues.proofs.updates.push.Goals as goal

pub returns-clause-after : goal.returns-clause-after
returns-clause-after g c empty =
    sym (laid-last empty c.args.n.now c.args.elements.now c.args.element c.requires)
