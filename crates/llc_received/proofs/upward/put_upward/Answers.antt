use native.Mathlib.Omega.{arith}
use mathlib.Core.Path.{◌≡◌, ap}
use lib.ListN.{length}
use Rattle.lists.proofs.Writes.{same_bytes}
use Rattle.bits.specs.Parts.{bits_of}
use Rattle.llc_rule.specs.Upward.{upward}
use Rattle.llc_rule.specs.Records.{all_bytes}
use Rattle.llc_calls.specs.Decoded.{frame_of}
use Rattle.llc_received.proofs.SentUp.{chosen, adata-lent, data-lent, udata-lent, ack-lent}
use Rattle.llc_received.proofs.upward.put_upward.Goals.{in-BlAdata, in-BlData, in-BlUdata, in-BlAck-2}
use Rattle.llc_received.proofs.upward.put_upward.Goals as goal

pub put_indication-requires-clause-len_in_bounds : goal.put_indication-requires-clause-len_in_bounds
unfolding frame_of
put_indication-requires-clause-len_in_bounds c =
    let f = frame_of c.args.f.now in
    let sdu = c.args.sdu in
    let same : chosen f sdu c.match-pdu.kind ≡ all_bytes (upward f c.args.pdu (bits_of sdu)) =
    elim c.match-pdu.branch [
      | in-BlAdata w ↦ adata-lent f sdu w.in-BlAdata.is w.kind-is
      | in-BlData w ↦ data-lent f sdu w.in-BlData.is w.kind-is
      | in-BlUdata w ↦ udata-lent f sdu w.in-BlUdata.is w.kind-is
      | in-BlAck-2 w ↦ ack-lent f sdu w.in-BlAck-2.is (omega arith) w.kind-is
    ]
    in
    omega (arith, ap length same)

pub returns : goal.returns
unfolding frame_of
returns c =
    let f = frame_of c.args.f.now in
    let sdu = c.args.sdu in
    let same : chosen f sdu c.match-pdu.kind ≡ all_bytes (upward f c.args.pdu (bits_of sdu)) =
    elim c.match-pdu.branch [
      | in-BlAdata w ↦ adata-lent f sdu w.in-BlAdata.is w.kind-is
      | in-BlData w ↦ data-lent f sdu w.in-BlData.is w.kind-is
      | in-BlUdata w ↦ udata-lent f sdu w.in-BlUdata.is w.kind-is
      | in-BlAck-2 w ↦ ack-lent f sdu w.in-BlAck-2.is (omega arith) w.kind-is
    ]
    in
    same_bytes same c.put_indication.ensures
