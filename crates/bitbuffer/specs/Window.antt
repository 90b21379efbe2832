-- A window of start, position and end over lent bits, as document 01's paragraph on bits and its question 5 give it.
use Rattle.std.specs.Prelude.{ℕ, ◌+◌, ◌-◌, ◌^◌, min, Bool, true, false, ◌&&◌, List, leb, ℤ, pos, nat_abs, ◌+ℤ◌, length}
use Rattle.std.specs.Int.Signed.{le_z}
use Rattle.questions.specs.Outcome.{Outcome, accepted, ask}
use Rattle.bitbuffer.specs.declared.BitBuffer.{BitBuffer}

-- "Start, position and end in order and inside the lent bytes?"
unfoldable pub valid : BitBuffer → List ℕ → Bool
valid w l = leb w.start w.pos && leb w.pos w.end && leb w.end (length l)

-- The lent bits that a position, a number of 64 bits, can reach: all of them on any machine there is.
abbrev pub reach : List ℕ → ℕ
reach l = min (length l) (2 ^ 64 - 1)

-- The window with another start, position or end.
abbrev pub with_start : BitBuffer → ℕ → BitBuffer
with_start w s = record { start = s; pos = w.pos; end = w.end; flag_autoexpand = w.flag_autoexpand }

abbrev pub with_pos : BitBuffer → ℕ → BitBuffer
with_pos w p = record { start = w.start; pos = p; end = w.end; flag_autoexpand = w.flag_autoexpand }

abbrev pub with_end : BitBuffer → ℕ → BitBuffer
with_end w e = record { start = w.start; pos = w.pos; end = e; flag_autoexpand = w.flag_autoexpand }

-- new: the first n of the lent bits, which do not expand.
abbrev pub first_bits : List ℕ → ℕ → Outcome BitBuffer
first_bits l n = ask 5 (leb n (length l)) (accepted (record { start = 0; pos = 0; end = n; flag_autoexpand = false }))

-- from_bytes: all of them.
abbrev pub all_bits : List ℕ → BitBuffer
all_bits l = record { start = 0; pos = 0; end = reach l; flag_autoexpand = false }

-- new_autoexpand: none of them yet, and it expands as it is written.
abbrev pub no_bits : BitBuffer
no_bits = record { start = 0; pos = 0; end = 0; flag_autoexpand = true }

-- get_len, get_len_remaining, get_pos: from start to end, from position to end, from start to position.
abbrev pub len : BitBuffer → List ℕ → Outcome ℕ
len w l = ask 5 (valid w l) (accepted (w.end - w.start))

abbrev pub remaining : BitBuffer → List ℕ → Outcome ℕ
remaining w l = ask 5 (valid w l) (accepted (w.end - w.pos))

abbrev pub position : BitBuffer → List ℕ → Outcome ℕ
position w l = ask 5 (valid w l) (accepted (w.pos - w.start))

-- seek: to a place counted from the start.
abbrev pub sought : BitBuffer → List ℕ → ℕ → Outcome BitBuffer
sought w l n = ask 5 (valid w l) (ask 5 (leb (w.start + n) w.end) (accepted (with_pos w (w.start + n))))

-- seek_rel: to a place counted from the position, backwards where z is negative.
abbrev pub sought_by : BitBuffer → List ℕ → ℤ → Outcome BitBuffer
sought_by w l z =
    ask 5 (valid w l)
    (ask 5 (le_z (pos w.start) (pos w.pos +ℤ z) && le_z (pos w.pos +ℤ z) (pos w.end))
    (accepted (with_pos w (nat_abs (pos w.pos +ℤ z)))))

-- set_raw_start, set_raw_pos, set_raw_end: a new bound, which leaves the three in order and inside the lent bytes.
abbrev pub start_set : BitBuffer → List ℕ → ℕ → Outcome BitBuffer
start_set w l s = ask 5 (valid w l) (ask 5 (leb s w.pos) (accepted (with_start w s)))

abbrev pub pos_set : BitBuffer → List ℕ → ℕ → Outcome BitBuffer
pos_set w l p = ask 5 (valid w l) (ask 5 (leb w.start p && leb p w.end) (accepted (with_pos w p)))

abbrev pub end_set : BitBuffer → List ℕ → ℕ → Outcome BitBuffer
end_set w l e = ask 5 (valid w l) (ask 5 (leb w.pos e && leb e (length l)) (accepted (with_end w e)))
