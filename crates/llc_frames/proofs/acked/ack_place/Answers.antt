use Prim.Native.Nat.{◌≤◌}
use native.Mathlib.Omega.{arith}
use mathlib.Core.Path.{◌∙◌, sym}
use lib.ListN.{length}
use lib.Seq.{get_or-take}
use Rattle.llc_state.proofs.InRange.{range-tells}
use Rattle.llc_state.proofs.Counts.{few_messages}
use Rattle.llc_frames.proofs.Found.{none-asked, receipt-in, refused-asked, unfit-asked, fit-asked}
use Rattle.llc_frames.proofs.acked.ack_place.Goals as goal
use Rattle.llc_frames.proofs.acked.ack_place.Goals.{else-fits-via-then-fits+else-not-is_awaiting, else-fits-via-else-fits}

pub returns-in_default-expected_ack_for_ssi : goal.returns-in_default-expected_ack_for_ssi
returns-in_default-expected_ack_for_ssi c =
    rw c.in-Some.is (none-asked c.args.state.now c.args.f.now c.in-Some.nr c.in_default-expected_ack_for_ssi.ensures.place)

pub receipt_place-requires : goal.receipt_place-requires
receipt_place-requires c =
    let s = c.args.state.now in
    let i = c.in-Some-expected_ack_for_ssi.place in
    let there = c.in-Some-expected_ack_for_ssi.ensures.bound in
    let few = few_messages s c.requires in
    let long : s.n_messages ≤ length s.outbound_messages = omega arith in
    receipt-in s i long there _ (sym (get_or-take s.n_messages s.outbound_messages i _ there)) (range-tells s c.requires).messages

pub returns-then-not-is_awaiting : goal.returns-then-not-is_awaiting
returns-then-not-is_awaiting c =
    let s = c.args.state.now in
    let there = c.in-Some-expected_ack_for_ssi.ensures in
    let few = few_messages s c.requires in
    let long : s.n_messages ≤ length s.outbound_messages = omega arith in
    rw c.in-Some.is
    (refused-asked s c.args.f.now c.in-Some.nr _ long there.place there.bound
    (sym c.fits.ensures ∙ c.if-fits.true)
    (sym (rw c.receipt_place.ensures at c.is_awaiting.ensures) ∙ c.if-not-is_awaiting.true))

pub returns : goal.returns
returns c =
    let s = c.args.state.now in
    let there = c.in-Some-expected_ack_for_ssi.ensures in
    let few = few_messages s c.requires in
    let long : s.n_messages ≤ length s.outbound_messages = omega arith in
    elim c.else-fits.branch [
      | else-fits-via-then-fits+else-not-is_awaiting w ↦
          rw c.in-Some.is
          (fit-asked s c.args.f.now c.in-Some.nr _ long there.place there.bound
          (sym c.fits.ensures ∙ w.if-fits.true)
          (sym (rw w.receipt_place.ensures at w.is_awaiting.ensures) ∙ w.if-not-is_awaiting.false))
      | else-fits-via-else-fits w ↦
          rw c.in-Some.is (unfit-asked s c.args.f.now c.in-Some.nr _ long there.place there.bound (sym c.fits.ensures ∙ w.if-fits.false))
    ]
