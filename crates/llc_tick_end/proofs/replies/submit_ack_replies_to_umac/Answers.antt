use native.Mathlib.Omega.{arith}
use mathlib.Core.Path.{ap}
use Rattle.llc_rule.specs.Messages.{reply_to}
use Rattle.llc_rule.specs.Records.{Record, bytes}
use Rattle.llc_state.specs.States.{no_ack}
use Rattle.llc_state.specs.View.{due_in}
use Rattle.llc_state.specs.declared.ScheduledOutAck.{ScheduledOutAck}
use Rattle.llc_steps.specs.States.{put_acks}
use Rattle.llc_tick_end.specs.Passes.{reply_bytes_of}
use Rattle.llc_tick_end.proofs.Clearing.{none-left}
use Rattle.llc_tick_end.proofs.Records.{none-written, room-next, written-next}
use Rattle.llc_tick_end.proofs.replies.submit_ack_replies_to_umac.Goals as goal

abbrev replies : ScheduledOutAck → Record
replies d = reply_to (due_in d)

pub loop-ack-init : goal.loop-ack-init
unfolding reply_bytes_of
loop-ack-init c = none-written replies _ _

pub put_reply-at-requires : goal.put_reply-at-requires
unfolding reply_bytes_of bytes
put_reply-at-requires c =
    rw (ap bytes c.ack_reply.ensures) (room-next replies _ _ c.loop-ack.invariant c.loop-ack-test.true _ c.requires.room)

pub loop-ack-preserved : goal.loop-ack-preserved
unfolding reply_bytes_of bytes
loop-ack-preserved c =
    written-next replies _ _ c.loop-ack.invariant c.loop-ack-test.true _ (rw (ap bytes c.ack_reply.ensures) at c.put_reply-at.ensures)

pub returns-clause-after : goal.returns-clause-after
returns-clause-after c =
    let s = c.args.state.now in
    ap (put_acks s 0) (none-left no_ack s.n_acks s.scheduled_out_acks (omega arith) c.empty.ensures (c.fill.ensures.after (λ y e. e)))
