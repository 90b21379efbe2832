use native.Mathlib.Omega.{arith}
use mathlib.Core.Bool.{cond}
use lib.ListN.{length}
use Rattle.std.proofs.Common.{◌≤◌, rules, []}
use Rattle.lists.specs.Writes.{Wrote}
use Rattle.lists.proofs.Writes.{wrote_none}
use Rattle.bits.specs.Parts.{bits_of}
use Rattle.bits.proofs.PartLaws.{length-bits_of}
use Rattle.llc_calls.specs.Decoded.{frame_of}
use Rattle.llc_rule.specs.Limits.{longest_frame}
use Rattle.llc_rule.specs.Records.{all_bytes}
use Rattle.llc_rule.specs.Upward.{upward}
use Rattle.llc_received.proofs.SentUp.{up-most}
use Rattle.llc_frames.proofs.Heard.{still_few, still_ranged}
use Rattle.llc_frames.proofs.Paths.{row-refused, numbers, place-refused, answers, frame-heard}
use Rattle.llc_frames.proofs.frames.rx_tma_unitdata_ind_bl.Goals.{then-is_repeat, else-is_repeat}
use Rattle.llc_frames.proofs.frames.rx_tma_unitdata_ind_bl.Goals as goal

pub returns-in_err-heard : goal.returns-in_err-heard
returns-in_err-heard c =
    let a = c.args in
    let refused = row-refused a.state.now a.f.now a.pdu (bits_of a.sdu) c.in_err-heard.field-0.0 a.out.now (rw c.ns.ensures at c.in_err-heard.ensures.place) in
    search rules

pub returns-in_err-ack : goal.returns-in_err-ack
returns-in_err-ack c =
    let a = c.args in
    let n = numbers a.state.now a.f.now a.pdu (bits_of a.sdu) (rw c.ns.ensures at c.in_ok-heard.ensures.place) in
    let refused = place-refused a.state.now a.f.now a.pdu (bits_of a.sdu) c.in_err-ack.field-0.0 a.out.now n (rw c.nr.ensures at c.in_err-ack.ensures) in
    search rules

pub put_upward-len-requires-clause-len_in_bounds : goal.put_upward-len-requires-clause-len_in_bounds
put_upward-len-requires-clause-len_in_bounds c =
    let a = c.args in
    omega (arith, up-most a.f.now a.sdu a.pdu c.requires.f_value c.requires.sdu_short)

pub process_incoming_ack-requires-clause-n_messages_bound : goal.process_incoming_ack-requires-clause-n_messages_bound
process_incoming_ack-requires-clause-n_messages_bound c =
    still_few c.args.state.now _ _ _ _ _ c.acknowledge.ensures c.requires.state_value

pub process_incoming_ack-requires-clause-messages_value : goal.process_incoming_ack-requires-clause-messages_value
process_incoming_ack-requires-clause-messages_value c =
    still_ranged c.args.state.now _ _ _ _ _ c.acknowledge.ensures c.requires.state_value

pub returns : goal.returns
unfolding all_bytes
returns c =
    let a = c.args in
    let sent = c.if-is_repeat in
    let n = numbers a.state.now a.f.now a.pdu (bits_of a.sdu) (rw c.ns.ensures at c.in_ok-heard.ensures.place) in
    let answer = answers a.state.now a.f.now a.pdu (bits_of a.sdu) (rw c.nr.ensures at c.in_ok-ack.ensures) in
    let short : length (bits_of a.sdu) ≤ longest_frame = omega (arith, length-bits_of a.sdu) in
    let wrote : Wrote a.out.now 0 (all_bytes (cond c.is_repeat.result [] (upward (frame_of a.f.now) a.pdu (bits_of a.sdu)))) sent.out sent.len =
    elim sent.branch [
      | then-is_repeat w ↦ rw (w.if-is_repeat.true, w.out-is, w.len-is) (wrote_none a.out.now 0)
      | else-is_repeat w ↦ rw (w.if-is_repeat.false, w.out-is, w.len-is) w.put_upward-len.ensures
    ]
    in
    frame-heard a.state.now a.f.now a.pdu (bits_of a.sdu) answer (rw n.number at c.acknowledge.ensures) n (rw n.number at c.is_repeat.ensures)
    c.process_incoming_ack.ensures
    c.requires.f_value
    short
    c.requires.output_bytes_in_bounds
    wrote
