use native.Mathlib.Omega.{arith}
use mathlib.Core.Path.{◌∙◌, sym}
use Rattle.llc_tick_end.proofs.Retransmitting.{passes, at-join, held-measures, visited-measures, visited-done, stays, room, sends-again, leaves, all-wrote, all-cleared}
use Rattle.llc_tick_end.proofs.retransmissions.submit_retransmissions_to_umac.Goals as goal
use Rattle.llc_tick_end.proofs.retransmissions.submit_retransmissions_to_umac.Goals.{then-is_due+else-e-ge-N252_BL_MAX_TLSDU_RETRANSMITS_ACKED, else-is_due}

pub loop-i-init : goal.loop-i-init
loop-i-init c =
    passes c.args.state.now c.args.store.now c.args.out.now c.args.at c.requires.in_range c.requires.started c.requires.messages_len

pub receipt_place-requires : goal.receipt_place-requires
receipt_place-requires c =
    (held-measures c.loop-i.invariant c.loop-i-test.true _).receipt

pub is_due-requires-clause-t_umac_done_value : goal.is_due-requires-clause-t_umac_done_value
is_due-requires-clause-t_umac_done_value c =
    visited-done c.loop-i.invariant c.loop-i-test.true _ (rw c.receipt_place.ensures at c.timed-e.ensures)

pub mark_receipt-requires : goal.mark_receipt-requires
mark_receipt-requires c =
    (held-measures c.loop-i.invariant c.loop-i-test.true _).receipt

pub loop-i-preserved-then-e-ge-N252_BL_MAX_TLSDU_RETRANSMITS_ACKED : goal.loop-i-preserved-then-e-ge-N252_BL_MAX_TLSDU_RETRANSMITS_ACKED
loop-i-preserved-then-e-ge-N252_BL_MAX_TLSDU_RETRANSMITS_ACKED c =
    let due = sym c.is_due.ensures ∙ c.if-is_due.true in
    rw c.mark_receipt.ensures
    (leaves c.loop-i.invariant c.loop-i-test.true _ (rw c.receipt_place.ensures at c.timed-e.ensures) due c.if-e-ge-N252_BL_MAX_TLSDU_RETRANSMITS_ACKED.true)

pub put_message-at-requires : goal.put_message-at-requires
put_message-at-requires c =
    let inv = c.loop-i.invariant in
    let test = c.loop-i-test.true in
    let due = sym c.is_due.ensures ∙ c.if-is_due.true in
    let tells = visited-measures inv test _ (rw c.receipt_place.ensures at c.timed-e.ensures) in record {
      store_len = c.requires.store_len;
      block_len = tells.block;
      place = tells.place;
      frame_len = tells.len;
      room = room inv test _ (rw c.receipt_place.ensures at c.timed-e.ensures) due c.if-e-ge-N252_BL_MAX_TLSDU_RETRANSMITS_ACKED.false c.requires.room;
    }

pub mark_receipt-requires-then-is_due : goal.mark_receipt-requires-then-is_due
mark_receipt-requires-then-is_due c =
    (held-measures c.loop-i.invariant c.loop-i-test.true _).receipt

pub loop-i-preserved : goal.loop-i-preserved
loop-i-preserved c =
    let inv = c.loop-i.invariant in
    let test = c.loop-i-test.true in
    let timed = rw c.receipt_place.ensures at c.timed-e.ensures in
    elim c.if-is_due.branch [
      | then-is_due+else-e-ge-N252_BL_MAX_TLSDU_RETRANSMITS_ACKED w ↦
          at-join _ (w.state-is ∙ w.mark_receipt-then-is_due.ensures) w.e-is w.out-is w.at-is
          (sends-again inv test _ timed (sym c.is_due.ensures ∙ w.if-is_due.true) w.if-e-ge-N252_BL_MAX_TLSDU_RETRANSMITS_ACKED.false w.put_message-at.ensures w.submitted-e.ensures)
      | else-is_due w ↦
          at-join _ w.state-is w.e-is w.out-is w.at-is (stays inv test _ timed (sym c.is_due.ensures ∙ w.if-is_due.false))
    ]

pub returns : goal.returns
returns c =
    let inv = c.loop-i.invariant in
    let last = c.loop-i-test.false in record {
      after = all-cleared inv last (omega arith) c.empty.ensures (c.fill.ensures.after (λ y e. e));
      wrote = all-wrote inv last;
    }
