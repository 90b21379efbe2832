use mathlib.Core.Path.{◌∙◌, sym}
use Rattle.llc_tick_end.proofs.FreeMessages.{begins, in-range, is-under-way, waits, room, is-sent, left-state, all-written}
use Rattle.llc_tick_end.proofs.free_messages.submit_free_messages_to_umac.Goals as goal

pub loop-i-init : goal.loop-i-init
loop-i-init c =
    begins c.requires.n_messages_bound c.requires.messages_len

pub loop-i-preserved-then-message : goal.loop-i-preserved-then-message
loop-i-preserved-then-message c =
    is-under-way c.loop-i.invariant _ c.loop-i-test.true c.if-message.true

pub loop-i-preserved-then-has_ssi : goal.loop-i-preserved-then-has_ssi
loop-i-preserved-then-has_ssi c =
    waits c.loop-i.invariant _ c.loop-i-test.true c.if-message.false (sym c.has_ssi.ensures ∙ c.if-has_ssi.true)

pub put_message-at-requires : goal.put_message-at-requires
put_message-at-requires c =
    let inv = c.loop-i.invariant in
    let test = c.loop-i-test.true in
    let e = in-range inv _ test c.requires.in_range in record {
      store_len = c.requires.store_len;
      block_len = e.block;
      place = e.place;
      frame_len = e.len;
      room = room inv _ test c.if-message.false (sym c.has_ssi.ensures ∙ c.if-has_ssi.false) c.requires.room;
    }

pub mark_receipt-requires : goal.mark_receipt-requires
mark_receipt-requires c =
    (in-range c.loop-i.invariant _ c.loop-i-test.true c.requires.in_range).receipt

pub loop-i-preserved : goal.loop-i-preserved
loop-i-preserved c =
    rw (c.mark_receipt.ensures, c.submitted.ensures)
    (is-sent c.loop-i.invariant _ c.loop-i-test.true c.if-message.false (sym c.has_ssi.ensures ∙ c.if-has_ssi.false) c.put_message-at.ensures)

pub returns : goal.returns
returns c =
    record {
      after = left-state c.loop-i.invariant c.loop-i-test.false;
      wrote = all-written c.loop-i.invariant c.loop-i-test.false;
    }
