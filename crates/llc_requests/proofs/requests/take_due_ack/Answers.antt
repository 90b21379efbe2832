use mathlib.Core.Path.{refl}
use Rattle.std.specs.Prelude.{None, Some}
use Rattle.llc_calls.specs.Decoded.{request_of}
use Rattle.llc_requests.proofs.Due.{none-due, left-whole, taken-due, left-without}
use Rattle.llc_requests.proofs.requests.take_due_ack.Goals as goal

pub returns-in_err-i : goal.returns-in_err-i
unfolding request_of
returns-in_err-i c =
    let s = c.args.state.now in
    let r = request_of c.args.q.now in
    rw c.from_residual.ensures
    (record {
      value = none-due r s None c.preferred_carrier.ensures c.in_err-i.ensures.place c.in_err-i.ensures.count refl;
      state_after = left-whole r s None c.preferred_carrier.ensures c.in_err-i.ensures.place c.in_err-i.ensures.count refl;
    })

pub returns : goal.returns
unfolding request_of
returns c =
    let s = c.args.state.now in
    let r = request_of c.args.q.now in
    let i = c.in_ok-i.i in
    let e = c.in_ok-i.ensures in
    let left = c.take_out_ack.ensures in
    record {
      value = taken-due r s (Some i) c.preferred_carrier.ensures e.place e.count refl e.bound c.take_out_ack.result left.ack left.after;
      state_after = left-without r s (Some i) c.preferred_carrier.ensures e.place e.count refl e.bound refl left.after;
    }
