-- What each function on a slot time answers: question 5 put to the times and the slot that it is given, then the value.
use Rattle.std.specs.Prelude.{ℕ, Bool, ◌&&◌, leb, ℤ, pos}
use Rattle.questions.specs.Outcome.{Outcome, accepted, ask}
use Rattle.tdma_time.specs.Slots.{valid, slots, plus, minus, forward}
use Rattle.tdma_time.specs.declared.TdmaTime.{TdmaTime}

-- to_int
abbrev pub counted_from : TdmaTime → Outcome ℤ
counted_from a = ask 5 (valid a) (accepted (pos (slots a)))

-- add_timeslots
abbrev pub added : TdmaTime → ℤ → Outcome TdmaTime
added a n = ask 5 (valid a) (accepted (plus a n))

-- diff
abbrev pub difference : TdmaTime → TdmaTime → Outcome ℤ
difference a b = ask 5 (valid a) (ask 5 (valid b) (accepted (minus a b)))

-- Is ts a slot of a frame?
abbrev pub slot : ℕ → Bool
slot ts = leb 1 ts && leb ts 4

-- forward_to_timeslot
abbrev pub forwarded : TdmaTime → ℕ → Outcome TdmaTime
forwarded a ts = ask 5 (valid a) (ask 5 (slot ts) (accepted (forward a ts)))
