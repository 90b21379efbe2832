use Prim.Native.Nat.{ℕ}
use native.Mathlib.Omega.{arith}
use mathlib.Core.Path.{ap}
use mathlib.Core.List.{List}
use Rattle.lists.proofs.Tests.{all-at}
use Rattle.bits.specs.Bits.{bits}
use Rattle.llc_rule.specs.Records.{Record, unacknowledged, bytes}
use Rattle.llc_state.specs.Ranges.{udata_in_range}
use Rattle.llc_state.specs.States.{no_entry}
use Rattle.llc_state.specs.View.{sent_in}
use Rattle.llc_state.specs.declared.Entry.{Entry}
use Rattle.llc_steps.specs.States.{put_udata, udata_of}
use Rattle.llc_tick_end.specs.Passes.{udata_bytes_of}
use Rattle.llc_tick_end.proofs.Clearing.{none-left}
use Rattle.llc_tick_end.proofs.Entries.{udata-measures}
use Rattle.llc_tick_end.proofs.Records.{none-written, room-next, written-next}
use Rattle.llc_tick_end.proofs.udata.submit_udata_msgs_to_umac.Goals as goal

abbrev handed_down : List ℕ → Entry → Record
handed_down store e = unacknowledged (sent_in (bits store) e)

pub loop-message-init : goal.loop-message-init
unfolding udata_bytes_of
loop-message-init c = none-written (handed_down c.args.store.now) _ _

pub put_message-at-requires : goal.put_message-at-requires
unfolding bytes udata_bytes_of
put_message-at-requires c =
    let test = c.loop-message-test.true in
    let told = udata-measures _ (all-at udata_in_range (udata_of c.args.state.now) c.loop-message.message-index _ c.requires.in_range test) in record {
      store_len = c.requires.store_len;
      block_len = told.block;
      place = told.place;
      frame_len = told.len;
      room = room-next (handed_down c.args.store.now) _ _ c.loop-message.invariant test _ c.requires.room;
    }

pub loop-message-preserved : goal.loop-message-preserved
unfolding bytes udata_bytes_of
loop-message-preserved c =
    written-next (handed_down c.args.store.now) _ _ c.loop-message.invariant c.loop-message-test.true _ c.put_message-at.ensures

pub returns-clause-after : goal.returns-clause-after
returns-clause-after c =
    let s = c.args.state.now in
    ap (put_udata s 0) (none-left no_entry s.n_udata s.outbound_udata_messages (omega arith) c.empty.ensures (c.fill.ensures.after (λ y e. e)))
