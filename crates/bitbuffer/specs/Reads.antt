-- Reads: "reads past the end or above 64 bits give nothing", and move nothing.
use Rattle.std.specs.Prelude.{ℕ, ◌+◌, cond, ◌&&◌, List, leb, ℤ, pos, nat_abs, ◌+ℤ◌}
use Rattle.std.specs.Int.Signed.{le_z}
use Rattle.bits.specs.Bits.{value, part}
use Rattle.questions.specs.Outcome.{Outcome, accepted, ask}
use Rattle.bitbuffer.specs.Window.{valid, with_pos}
use Rattle.bitbuffer.specs.declared.BitBuffer.{BitBuffer}

-- What a peek finds: the number that the bits spell, or nothing.
pub data Found : Type 0 where
  found : ℕ → Found
  nothing : Found

-- n bits from a place on, up to the window's end.
abbrev pub peeked_at : BitBuffer → List ℕ → ℕ → ℕ → Found
peeked_at w l at n = cond (leb n 64 && leb (at + n) w.end) (found (value (part l at n))) nothing

-- peek_bits, peek_bits_startoffset, peek_bits_posoffset: from the position, from a place counted from the start, and from
-- one counted from the position that is not before the start.
abbrev pub peeked : BitBuffer → List ℕ → ℕ → Outcome Found
peeked w l n = ask 5 (valid w l) (accepted (peeked_at w l w.pos n))

abbrev pub peeked_from_start : BitBuffer → List ℕ → ℕ → ℕ → Outcome Found
peeked_from_start w l k n = ask 5 (valid w l) (accepted (peeked_at w l (w.start + k) n))

abbrev pub peeked_from_pos : BitBuffer → List ℕ → ℤ → ℕ → Outcome Found
peeked_from_pos w l z n =
    ask 5 (valid w l)
    (accepted (cond (le_z (pos w.start) (pos w.pos +ℤ z)) (peeked_at w l (nat_abs (pos w.pos +ℤ z)) n) nothing))

-- What a read gives: the number and the window moved past it, or nothing.
pub data Got : Type 0 where
  got : ℕ → BitBuffer → Got
  nothing : Got

-- read_bits, and read_bit with n 1.
abbrev pub moved : BitBuffer → ℕ → Found → Got
moved w n (found v) = got v (with_pos w (w.pos + n))
moved w n Found.nothing = Got.nothing

abbrev pub read : BitBuffer → List ℕ → ℕ → Outcome Got
read w l n = ask 5 (valid w l) (accepted (moved w n (peeked_at w l w.pos n)))
