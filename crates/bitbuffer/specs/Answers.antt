-- What a peek and a read answer: document 01's number, or the value that was found.
use Rattle.std.specs.Prelude.{ℕ, Option, Some, None, Result, Ok, Err}
use Rattle.questions.specs.Outcome.{Outcome, accepted, refused}
use Rattle.questions.specs.Refusals.{number_of}
use Rattle.questions.specs.declared.Refusal.{Refusal}
use Rattle.bitbuffer.specs.Reads as R
use Rattle.bitbuffer.specs.declared.BitBuffer.{BitBuffer}

abbrev pub to_found : Option ℕ → R.Found
to_found (Some v) = R.found v
to_found None = R.Found.nothing

abbrev pub peeked : Result (Option ℕ) Refusal → Outcome R.Found
peeked (Ok o) = accepted (to_found o)
peeked (Err r) = refused (number_of r)

abbrev pub to_got : Option (ℕ × BitBuffer) → R.Got
to_got (Some p) = R.got p.0 p.1
to_got None = R.Got.nothing

abbrev pub read : Result (Option (ℕ × BitBuffer)) Refusal → Outcome R.Got
read (Ok o) = accepted (to_got o)
read (Err r) = refused (number_of r)
