use Rattle.bits.proofs.Laws.{within-bytes}
use Rattle.bits.proofs.within.Goals as goal

pub returns : goal.returns
returns c =
    within-bytes c.args.count c.args.bytes.now
