use native.Mathlib.Omega.{arith}
use mathlib.Core.Path.{ap}
use Rattle.llc_state.specs.declared.State.{State}
use Rattle.llc_state.proofs.InRange.{range-tells}
use Rattle.llc_frames.proofs.Heard.{row-there, row_within, is-numbered}
use Rattle.llc_frames.proofs.numbered.acknowledge.Goals as goal

pub slot_before-ts-requires : goal.slot_before-ts-requires
slot_before-ts-requires c = (range-tells c.args.state.now c.requires.state_value).head.time c.requires.started_value

pub set_send_seq-requires-clause-i_bound : goal.set_send_seq-requires-clause-i_bound
set_send_seq-requires-clause-i_bound c =
    let a = c.args in
    let there = row-there a.state.now a.f.now.ssi c.requires.row_value c.in-Some.is in
    omega (arith, row_within a.state.now a.f.now.ssi there, ap (λ (t : State). t.n_rows) c.schedule_outgoing_ack.ensures)

pub returns : goal.returns
returns c =
    let a = c.args in
    let there = row-there a.state.now a.f.now.ssi c.requires.row_value c.in-Some.is in
    rw c.in-Some.is
    (is-numbered a.state.now a.f.now.ssi there a.f.now.ssi_type a.f.now.carrier c.in-Some.heard.ns c.send_seq-seq.ensures c.slot_before-ts.ensures
    c.schedule_outgoing_ack.ensures
    c.set_send_seq.ensures)
