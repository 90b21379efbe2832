use lib.ListN.{take}
use Rattle.bits.specs.Bits.{bits}
use Rattle.lists.specs.Writes.{Wrote}
use Rattle.llc_tick_end.specs.Passes.{udata_bytes_of}
use Rattle.llc_tick_end.proofs.udata.submit_udata_msgs_to_umac.Given as goal

abbrev pub invariant-loop-message : goal.invariant-loop-message
invariant-loop-message l = Wrote l.initial.out l.initial.at (udata_bytes_of (bits l.store) (take l.message-index l.message-items)) l.out l.at
