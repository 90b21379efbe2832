use lib.ListN.{take}
use Rattle.lists.specs.Writes.{Wrote}
use Rattle.llc_tick_end.specs.Passes.{reply_bytes_of}
use Rattle.llc_tick_end.proofs.replies.submit_ack_replies_to_umac.Given as goal

abbrev pub invariant-loop-ack : goal.invariant-loop-ack
invariant-loop-ack l = Wrote l.initial.out l.initial.at (reply_bytes_of (take l.ack-index l.ack-items)) l.out l.at
