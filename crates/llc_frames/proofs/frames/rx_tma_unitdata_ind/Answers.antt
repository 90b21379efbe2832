use native.Mathlib.Omega.{arith}
use mathlib.Core.Path.{subst, sym}
use Rattle.std.proofs.Common.{ℕ, List, rules}
use Rattle.questions.specs.Outcome.{Outcome}
use Rattle.llc_pdus.specs.Received.{Received}
use Rattle.llc_calls.specs.Decoded.{frame_of}
use Rattle.llc_steps.specs.Answers.{answered, WithAnyStore}
use Rattle.llc_steps.specs.Calls.{on_received}
use Rattle.llc_received.proofs.SentUp.{frame_small}
use Rattle.llc_frames.proofs.Paths.{read-refused, handed-back, never-refused}
use Rattle.llc_frames.proofs.frames.rx_tma_unitdata_ind.Goals as goal

pub returns-in_err-pdu : goal.returns-in_err-pdu
returns-in_err-pdu c =
    let a = c.args in
    let refused = read-refused a.f.now c.requires.pdu_place a.state.now c.in_err-pdu.field-0.0 a.out.now c.in_err-pdu.ensures in
    search rules

pub returns-in_err-sdu_bytes : goal.returns-in_err-sdu_bytes
returns-in_err-sdu_bytes c =
    never-refused c.args.f.now c.requires.pdu_place c.in_ok-pdu.pdu c.in_ok-pdu.sdu c.in_ok-pdu.ensures c.in_err-sdu_bytes.ensures

pub invariant_of-part : goal.invariant_of-part
invariant_of-part c =
    let h = handed-back c.args.f.now c.requires.pdu_place c.in_ok-pdu.pdu c.in_ok-pdu.sdu c.in_ok-pdu.ensures c.in_ok-sdu_bytes.ensures in
    record { begins = h.early; inside = h.inside }

pub rx_tma_unitdata_ind_bl-requires-clause-sdu_short : goal.rx_tma_unitdata_ind_bl-requires-clause-sdu_short
rx_tma_unitdata_ind_bl-requires-clause-sdu_short c =
    let h = handed-back c.args.f.now c.requires.pdu_place c.in_ok-pdu.pdu c.in_ok-pdu.sdu c.in_ok-pdu.ensures c.in_ok-sdu_bytes.ensures in
    omega (arith, (frame_small c.args.f.now c.requires.f_value).1)

pub returns : goal.returns
returns c =
    let a = c.args in
    let w = c.rx_tma_unitdata_ind_bl in
    let h = handed-back a.f.now c.requires.pdu_place c.in_ok-pdu.pdu c.in_ok-pdu.sdu c.in_ok-pdu.ensures c.in_ok-sdu_bytes.ensures in
    subst
    (λ (o : Outcome Received).
    WithAnyStore (answered w.new.state w.result) w.new.out a.state.now a.out.now (λ (store : List ℕ). on_received (frame_of a.f.now) o a.state.now store))
    (sym h.same)
    w.ensures
