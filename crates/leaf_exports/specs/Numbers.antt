-- An answer as one number, for a caller in another language: a refusal is 2 ^ 32 and document 01's number.
use Rattle.std.specs.Prelude.{ℕ, ◌+◌, ◌^◌}
use Rattle.questions.specs.Outcome.{Outcome, accepted, refused}
use Rattle.llc_pdus.specs.Answers.{Frame}
use Rattle.llc_pdus.specs.Types.{raw}
use Rattle.llc_pdus.specs.declared.llc_pdu_type.LlcPduType.{LlcPduType}

abbrev pub sum_or : Outcome ℕ → ℕ
sum_or (accepted n) = n
sum_or (refused k) = 2 ^ 32 + k

-- Of a frame that is read, the SDU's first bit's place.
abbrev pub first_or : Outcome Frame → ℕ
first_or (accepted f) = f.sdu.first
first_or (refused k) = 2 ^ 32 + k

-- Of a type, its number.
abbrev pub raw_or : Outcome LlcPduType → ℕ
raw_or (accepted t) = raw t
raw_or (refused k) = 2 ^ 32 + k
