use Rattle.std.proofs.Common.{rules}
use Rattle.llc_tick_end.proofs.Overdue.{by-result}
use Rattle.llc_tick_end.proofs.retransmissions.overdue.Goals as goal

pub returns : goal.returns
returns c =
    by-result c.args.dltime c.args.done c.requires.dltime_value c.requires.done_value c.args.t251 _ _ _ (λ z p. search rules) _ c.diff.ensures c.map_or.ensures
