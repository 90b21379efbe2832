use Prim.Native.Nat.{◌≤◌}
use native.Mathlib.Omega.{arith}
use mathlib.Core.Path.{◌∙◌, sym, ap}
use lib.ListN.{length}
use Rattle.llc_state.specs.declared.Entry.{Entry}
use Rattle.llc_frames.specs.Answered.{acked_at}
use Rattle.llc_frames.proofs.Found.{message-is, receipt-in, fit-answered, unfit-answered}
use Rattle.llc_frames.proofs.acked.process_incoming_ack.Goals as goal

pub mark_receipt-requires : goal.mark_receipt-requires
mark_receipt-requires c =
    let s = c.args.state.now in
    let i = c.in-Some.ack.place in
    let there = rw c.in-Some.is at c.requires.within in
    let long : s.n_messages ≤ length s.outbound_messages = omega arith in
    receipt-in s i long there _ c.take_expected_ack-e.ensures.message c.requires.messages_value

pub returns-then-fits : goal.returns-then-fits
returns-then-fits c =
    let s = c.args.state.now in
    let i = c.in-Some.ack.place in
    let there = rw c.in-Some.is at c.requires.within in
    let long : s.n_messages ≤ length s.outbound_messages = omega arith in
    let taken = c.take_expected_ack-e in
    fit-answered s i _ _ long there (sym c.fits.ensures ∙ c.if-fits.true) taken.ensures.after
    (ap (λ (e : Entry). e.sent.receipt) (message-is s i long there _ _ taken.ensures.message))
    c.mark_receipt.ensures
    ∙ sym (ap (λ g. acked_at g s) c.in-Some.is)

pub returns-else-fits : goal.returns-else-fits
returns-else-fits c =
    let s = c.args.state.now in
    let i = c.in-Some.ack.place in
    let there = rw c.in-Some.is at c.requires.within in
    let long : s.n_messages ≤ length s.outbound_messages = omega arith in
    unfit-answered s i _ _ long there (sym c.fits.ensures ∙ c.if-fits.false) c.push_front_expected_ack.ensures
    ∙ sym (ap (λ g. acked_at g s) c.in-Some.is)
