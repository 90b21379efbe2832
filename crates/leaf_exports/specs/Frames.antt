-- Frames for a caller in another language: a PDU is its type, 0 to 3, its FCS flag, N(R) and N(S), which are false where the
-- type has none.
use Rattle.std.specs.Prelude.{ℕ, Bool, false, cond, eqb}
use Rattle.questions.specs.Outcome.{Outcome, accepted, refused}
use Rattle.llc_pdus.specs.Answers.{Frame}
use Rattle.llc_pdus.specs.declared.Pdu.{Pdu}
use Rattle.llc_pdus.specs.declared.Pdu.TheVariants.{BlAdata, BlData, BlUdata, BlAck}
use Rattle.llc_pdus.specs.declared.Sdu.{Sdu}
use Rattle.leaf_exports.specs.declared.frames.FrameAnswer.{FrameAnswer}

-- "Type 0 BL-ADATA: then N(R), N(S). 1 BL-DATA: N(S). 2 BL-UDATA: none. 3 BL-ACK: N(R)."; 3 for each number from 3 on.
abbrev pub pdu_numbered : ℕ → Bool → Bool → Bool → Pdu
pdu_numbered k fcs nr ns =
    cond (eqb k 0)
    (BlAdata fcs nr ns)
    (cond (eqb k 1)
    (BlData fcs ns)
    (cond (eqb k 2)
    (BlUdata fcs)
    (BlAck fcs nr)))

-- A frame that is read, and a refusal by a number.
abbrev pub to_frame : Pdu → Sdu → FrameAnswer
to_frame (BlAdata fcs nr ns) s = record { number = 0; kind = 0; has_fcs = fcs; nr = nr; ns = ns; first = s.first; len = s.len; place = s.place }
to_frame (BlData fcs ns) s = record { number = 0; kind = 1; has_fcs = fcs; nr = false; ns = ns; first = s.first; len = s.len; place = s.place }
to_frame (BlUdata fcs) s = record { number = 0; kind = 2; has_fcs = fcs; nr = false; ns = false; first = s.first; len = s.len; place = s.place }
to_frame (BlAck fcs nr) s = record { number = 0; kind = 3; has_fcs = fcs; nr = nr; ns = false; first = s.first; len = s.len; place = s.place }

abbrev pub to_refusal : ℕ → FrameAnswer
to_refusal k = record { number = k; kind = 0; has_fcs = false; nr = false; ns = false; first = 0; len = 0; place = 0 }

abbrev pub frame_answer : Outcome Frame → FrameAnswer
frame_answer (accepted f) = to_frame f.pdu f.sdu
frame_answer (refused k) = to_refusal k
