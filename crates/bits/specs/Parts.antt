-- Bits that are lent, as a list.
use Rattle.std.specs.Prelude.{ℕ, List, Result, Ok, Err}
use Rattle.questions.specs.Outcome.{Outcome, accepted, refused}
use Rattle.questions.specs.Refusals.{number_of}
use Rattle.questions.specs.declared.Refusal.{Refusal}
use Rattle.bits.specs.Bits.{bits, part}
use Rattle.bits.specs.declared.parts.Part.{Part}

-- The bits of a part.
abbrev pub bits_of : Part → List ℕ
bits_of p = part (bits p.bytes.now) p.place p.len

-- What a part that is asked for says.
abbrev pub parted : Result Part Refusal → Outcome (List ℕ)
parted (Ok p) = accepted (bits_of p)
parted (Err r) = refused (number_of r)
