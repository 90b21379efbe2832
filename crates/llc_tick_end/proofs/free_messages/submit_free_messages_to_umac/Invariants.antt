use Rattle.llc_tick_end.proofs.FreeMessages.{Passing}
use Rattle.llc_tick_end.proofs.free_messages.submit_free_messages_to_umac.Given as goal

abbrev pub invariant-loop-i : goal.invariant-loop-i
invariant-loop-i l = Passing l.initial.state l.store l.initial.out l.initial.at l.out l.state l.at l.blocked l.k l.i
