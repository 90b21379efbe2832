use Rattle.llc_queues.proofs.Shifting.{taken-out}
use Rattle.llc_queues.proofs.updates.take_out.Goals as goal

pub returns-clause-after : goal.returns-clause-after
returns-clause-after g c =
    rw c.rotate_left.ensures.after
    (taken-out c.args.n.now c.args.i c.args.elements.now c.requires.i_bound c.requires.n_bound c.args.empty)
