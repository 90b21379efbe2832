use Rattle.llc_tick_end.proofs.Retransmitting.{Passing}
use Rattle.llc_tick_end.proofs.retransmissions.submit_retransmissions_to_umac.Given as goal

abbrev pub invariant-loop-i : goal.invariant-loop-i
invariant-loop-i l = Passing l.initial.state l.store l.initial.out l.initial.at l.state l.i l.kept l.out l.at
