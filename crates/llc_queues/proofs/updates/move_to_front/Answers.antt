use Rattle.llc_queues.proofs.Shifting.{turned}
use Rattle.llc_queues.proofs.updates.move_to_front.Goals as goal

pub returns : goal.returns
returns g c = rw c.rotate_right.ensures.after (turned c.args.i c.args.elements.now c.requires)
