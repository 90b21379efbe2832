-- What a function on a slot time answers, for a caller in another language: document 01's number, 0 where it is accepted, and
-- the time or the slots; a refusal leaves the time as it was, and counts no slots.
use Rattle.std.specs.Prelude.{ℕ, ℤ, pos}
use Rattle.questions.specs.Outcome.{Outcome, accepted, refused}
use Rattle.tdma_time.specs.declared.TdmaTime.{TdmaTime}
use Rattle.leaf_exports.specs.declared.times.SlotsAnswer.{SlotsAnswer}
use Rattle.leaf_exports.specs.declared.times.TimeAnswer.{TimeAnswer}

abbrev pub to_time : ℕ → TdmaTime → TimeAnswer
to_time k a = record { number = k; time = a }

abbrev pub time_of : TdmaTime → Outcome TdmaTime → TimeAnswer
time_of a (accepted b) = to_time 0 b
time_of a (refused k) = to_time k a

abbrev pub slots_of : Outcome ℤ → SlotsAnswer
slots_of (accepted n) = record { number = 0; slots = n }
slots_of (refused k) = record { number = k; slots = pos 0 }
