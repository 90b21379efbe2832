-- What a function on a window answers, for a caller in another language: document 01's number, 0 where it is accepted; whether a
-- value was found, and the value; the window after it, which a refusal and a read that finds nothing leave as it was.
use Rattle.std.specs.Prelude.{ℕ, true, false}
use Rattle.questions.specs.Outcome.{Outcome, accepted, refused}
use Rattle.bitbuffer.specs.Reads as R
use Rattle.bitbuffer.specs.declared.BitBuffer.{BitBuffer}
use Rattle.bitbuffer.specs.declared.Windows.{Windows}
use Rattle.leaf_exports.specs.declared.answers.WindowAnswer.{WindowAnswer}
use Rattle.leaf_exports.specs.declared.answers.CopyAnswer.{CopyAnswer}

-- A value, and the window w; no value, and w with a number.
abbrev pub to_value : ℕ → BitBuffer → WindowAnswer
to_value v w = record { number = 0; is_found = true; value = v; window = w }

abbrev pub to_none : ℕ → BitBuffer → WindowAnswer
to_none k w = record { number = k; is_found = false; value = 0; window = w }

-- The answers of the functions on the window w: a window, a number of bits, what a peek finds, what a read gives.
abbrev pub window_of : BitBuffer → Outcome BitBuffer → WindowAnswer
window_of w (accepted v) = to_none 0 v
window_of w (refused k) = to_none k w

abbrev pub count_of : BitBuffer → Outcome ℕ → WindowAnswer
count_of w (accepted n) = to_value n w
count_of w (refused k) = to_none k w

abbrev pub found_of : BitBuffer → Outcome R.Found → WindowAnswer
found_of w (accepted (R.found n)) = to_value n w
found_of w (accepted R.Found.nothing) = to_none 0 w
found_of w (refused k) = to_none k w

abbrev pub got_of : BitBuffer → Outcome R.Got → WindowAnswer
got_of w (accepted (R.got n v)) = to_value n v
got_of w (accepted R.Got.nothing) = to_none 0 w
got_of w (refused k) = to_none k w

-- Of a copy to the window w from the window v: the number, and both after it.
abbrev pub to_copy : ℕ → Windows → CopyAnswer
to_copy k ws = record { number = k; windows = ws }

abbrev pub copy_of : BitBuffer → BitBuffer → Outcome Windows → CopyAnswer
copy_of w v (accepted ws) = to_copy 0 ws
copy_of w v (refused k) = to_copy k (record { to = w; from = v })
