use Prim.Native.Nat.{◌≤◌}
use native.Mathlib.Omega.{arith}
use mathlib.Core.Path.{sym}
use lib.ListN.{length}
use Rattle.bits.specs.Bits.{bits}
use Rattle.llc_calls.specs.Decoded.{request_of}
use Rattle.llc_state.proofs.InRange.{range-tells}
use Rattle.llc_steps.specs.States.{acks_of}
use Rattle.llc_steps.proofs.Updates.{same-acks}
use Rattle.llc_requests.proofs.Asked.{as-asked, refuses, unitdata-6, unitdata-8, unitdata-put}
use Rattle.llc_requests.proofs.requests.rx_tla_tlunitdata_req_bl.Goals as goal

pub returns-then-state-q : goal.returns-then-state-q
unfolding request_of
returns-then-state-q c =
    refuses (unitdata-6 (request_of c.args.q.now) c.args.state.now (bits c.args.store.now) c.if-state-q.true)

pub returns-then-state-ge32 : goal.returns-then-state-ge32
unfolding request_of
returns-then-state-ge32 c =
    refuses (unitdata-8 (request_of c.args.q.now) c.args.state.now (bits c.args.store.now) c.if-state-q.false c.if-state-ge32.true)

pub returns : goal.returns
unfolding request_of
returns c =
    let s = c.args.state.now in
    let few : s.n_acks ≤ length s.scheduled_out_acks = omega (arith, (range-tells s c.requires.state_value).head.acks) in
    as-asked
    (unitdata-put (request_of c.args.q.now) s (bits c.args.store.now) c.if-state-q.false c.if-state-ge32.false)
    (c.put_unacknowledged.ensures s (acks_of s) (sym (same-acks s few)))
