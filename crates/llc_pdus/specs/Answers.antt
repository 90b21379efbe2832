-- What reading a frame answers: document 01's number and the values, for each of its cases.
use Rattle.std.specs.Prelude.{ℕ, ◌-◌, List, leb, length, take, Result, Ok, Err}
use Rattle.questions.specs.Outcome.{Outcome, accepted, refused, ask}
use Rattle.questions.specs.Refusals.{number_of}
use Rattle.questions.specs.declared.Refusal.{Refusal}
use Rattle.llc_pdus.specs.Headers.{Reading, reading, header}
use Rattle.llc_pdus.specs.Frames.{check_bits}
use Rattle.llc_pdus.specs.Received.{Received, received}
use Rattle.llc_pdus.specs.Sdus.{sdu_at}
use Rattle.llc_pdus.specs.declared.Pdu.{Pdu}
use Rattle.llc_pdus.specs.declared.Sdu.{Sdu}

-- A frame taken apart: its PDU, and where its SDU lies.
pub record Frame : Type 0 where
  pub pdu : Pdu
  pub sdu : Sdu

-- What reading a frame answers.
abbrev pub answered : Result (Pdu × Sdu) Refusal → Outcome Frame
answered (Ok f) = accepted (record { pdu = f.0; sdu = f.1 })
answered (Err r) = refused (number_of r)

-- The PDU that a header is.
abbrev pub pdu_in : Outcome Reading → Outcome Pdu
pdu_in (accepted r) = accepted r.pdu
pdu_in (refused k) = refused k

-- Reading the header of the first n of the bits l: question 5 asks whether there are so many.
abbrev pub head_from : List ℕ → ℕ → Outcome Pdu
head_from l n = ask 5 (leb n (length l)) (pdu_in (reading (take n l)))

-- Where the SDU of a frame of n bits lies: behind the header, and before the check bits.
abbrev pub sdu_of : ℕ → Pdu → Sdu
sdu_of n p = sdu_at (length (header p)) (n - length (header p) - check_bits p)

-- A frame of n bits that was received, by where its SDU lies.
abbrev pub framed : ℕ → Outcome Received → Outcome Frame
framed n (accepted r) = accepted (record { pdu = r.header; sdu = sdu_of n r.header })
framed n (refused k) = refused k

-- Reading the first n of the bits l: question 5 asks whether there are so many.
abbrev pub read_from : List ℕ → ℕ → Outcome Frame
read_from l n = ask 5 (leb n (length l)) (framed n (received (take n l)))
