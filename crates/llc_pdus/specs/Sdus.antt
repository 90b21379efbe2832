-- Where a header ends and an SDU lies in a frame, and the bytes of the frame that hold it.
use denote.Ref.{Bor}
use Rattle.std.specs.Prelude.{ℕ, ◌+◌, ◌-◌, ◌*◌, ◌/◌, ◌%◌, cond, List, [], leb, ltb, eqb, length, take, drop, Result, Ok, Err}
use Rattle.questions.specs.Outcome.{Outcome, accepted, refused, ask}
use Rattle.questions.specs.Refusals.{number_of}
use Rattle.questions.specs.declared.Refusal.{Refusal}
use Rattle.llc_pdus.specs.Headers.{header}
use Rattle.llc_pdus.specs.declared.headers.HeaderEnd.{HeaderEnd}
use Rattle.llc_pdus.specs.declared.Pdu.{Pdu}
use Rattle.llc_pdus.specs.declared.Sdu.{Sdu}

-- n bits from a place on, with "the bit place beside it": the first bit's place in the bytes that hold them, 0 for no bits.
abbrev pub sdu_at : ℕ → ℕ → Sdu
sdu_at first n = record { first = first; len = n; place = cond (eqb n 0) 0 (first % 8) }

-- The bytes of a frame that hold n bits from a place on, from the first to the last; none for no bits.
unfoldable pub holding : List ℕ → ℕ → ℕ → List ℕ
holding f first n = cond (ltb 0 n) (take ((first + n + 7) / 8 - first / 8) (drop (first / 8) f)) []

-- "The reader hands back the bytes of the caller's frame that hold the SDU": question 5 asks whether it lies in the frame.
abbrev pub handed : List ℕ → Sdu → Outcome (List ℕ)
handed f s = ask 5 (leb (s.first + s.len) (8 * length f)) (accepted (holding f s.first s.len))

-- What the code hands back: the bytes, or the number of the question failed.
abbrev pub handed_back : Result (Bor (List ℕ)) Refusal → Outcome (List ℕ)
handed_back (Ok b) = accepted b.now
handed_back (Err r) = refused (number_of r)

-- Where a header ends: the byte that holds its last bit, and how many bits of that byte are the header's.
abbrev pub header_end : Pdu → HeaderEnd
header_end p = record { byte = (length (header p) - 1) / 8; bits = (length (header p) - 1) % 8 + 1 }
