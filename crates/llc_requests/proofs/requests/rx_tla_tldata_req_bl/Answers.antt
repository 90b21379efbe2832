use Prim.Native.Nat.{◌≤◌}
use native.Mathlib.Omega.{arith}
use lib.ListN.{length}
use Rattle.std.proofs.lemmas.Bool.Decides.{nat_tests}
use Rattle.std.proofs.lemmas.Result.{err_from_is_err_and}
use Rattle.lists.specs.Lists.{others}
use Rattle.bits.specs.Bits.{bits}
use Rattle.llc_calls.specs.Decoded.{request_of}
use Rattle.llc_state.proofs.InRange.{range-tells}
use Rattle.llc_steps.specs.States.{acks_of}
use Rattle.llc_requests.proofs.Asked.{as-asked, refuses, data-6, data-7, data-8, data-acknowledged, data-full, data-with, data-without, stolen, Stolen, stolen-due, none-stolen}
use Rattle.llc_requests.proofs.requests.rx_tla_tldata_req_bl.Goals as goal
use Rattle.llc_requests.proofs.requests.rx_tla_tldata_req_bl.Goals.{then-steals, else-steals}

pub returns-then-state-q : goal.returns-then-state-q
unfolding request_of
returns-then-state-q c =
    refuses (data-6 (request_of c.args.q.now) c.args.state.now (bits c.args.store.now) c.if-state-q.true)

pub returns-in_err-row : goal.returns-in_err-row
unfolding request_of
returns-in_err-row c =
    let p = err_from_is_err_and c.from_residual.result c.from_residual.ensures.1 in
    rw (p.1, p.2)
    (refuses (data-7 (request_of c.args.q.now) c.args.state.now (bits c.args.store.now) c.if-state-q.false (grind (arith, nat_tests))
    c.in_err-row.field-0.0 c.in_err-row.ensures.place))

pub returns-then-state-ge64 : goal.returns-then-state-ge64
unfolding request_of
returns-then-state-ge64 c =
    refuses
    (data-8 (request_of c.args.q.now) c.args.state.now (bits c.args.store.now) c.if-state-q.false (grind (arith, nat_tests))
    c.in_ok-row.ensures.place (omega arith))

pub returns-then-not-steals : goal.returns-then-not-steals
unfolding request_of
returns-then-not-steals c =
    as-asked
    (data-acknowledged (request_of c.args.q.now) c.args.state.now (bits c.args.store.now) c.if-state-q.false (grind (arith, nat_tests))
    c.in_ok-row.ensures.place (omega arith))
    c.put_acknowledged.ensures

pub returns-then-state-ge32 : goal.returns-then-state-ge32
unfolding request_of
returns-then-state-ge32 c =
    refuses
    (data-full (request_of c.args.q.now) c.args.state.now (bits c.args.store.now) c.if-state-q.false (grind (arith, nat_tests)) c.if-state-ge32.true)

pub returns-in-Some : goal.returns-in-Some
unfolding request_of
returns-in-Some c =
    let s = c.args.state.now in
    let r = request_of c.args.q.now in
    let few : s.n_acks ≤ length s.scheduled_out_acks = omega (arith, (range-tells s c.requires.state_value).head.acks) in
    let d : Stolen r s c.if-steals.due c.if-steals.state =
    elim c.if-steals.branch [
      | then-steals w ↦ rw (w.due-is, w.state-is)
          (stolen-due r s w.take_due_ack-due.result c.steals-2.ensures w.if-steals.true w.take_due_ack-due.ensures.value w.take_due_ack-due.ensures.state_after)
      | else-steals w ↦ rw (w.due-is, w.state-is) (none-stolen r s c.steals-2.ensures w.if-steals.false few)
    ]
    in
    as-asked
    (data-with r s (bits c.args.store.now) c.if-state-q.false (grind (arith, nat_tests)) c.if-state-ge32.false (rw c.in-Some.is at d.value))
    (rw c.wants_fcs.ensures at c.put_unacknowledged.ensures s (others (stolen r s) (acks_of s)) d.left)

pub returns-in-None : goal.returns-in-None
unfolding request_of
returns-in-None c =
    let s = c.args.state.now in
    let r = request_of c.args.q.now in
    let few : s.n_acks ≤ length s.scheduled_out_acks = omega (arith, (range-tells s c.requires.state_value).head.acks) in
    let d : Stolen r s c.if-steals.due c.if-steals.state =
    elim c.if-steals.branch [
      | then-steals w ↦ rw (w.due-is, w.state-is)
          (stolen-due r s w.take_due_ack-due.result c.steals-2.ensures w.if-steals.true w.take_due_ack-due.ensures.value w.take_due_ack-due.ensures.state_after)
      | else-steals w ↦ rw (w.due-is, w.state-is) (none-stolen r s c.steals-2.ensures w.if-steals.false few)
    ]
    in
    as-asked
    (data-without r s (bits c.args.store.now) c.if-state-q.false (grind (arith, nat_tests)) c.if-state-ge32.false (rw c.in-None.is at d.value))
    (c.put_unacknowledged-in-None.ensures s (others (stolen r s) (acks_of s)) d.left)
