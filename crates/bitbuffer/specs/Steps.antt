-- A step of the position inside a window that is in order: seek and seek_rel past their question whether it is.
use Rattle.std.specs.Prelude.{ℕ, ◌+◌, ◌-◌, ◌&&◌, leb, ℤ, pos, nat_abs, ◌+ℤ◌}
use Rattle.std.specs.Int.Signed.{le_z}
use Rattle.questions.specs.Outcome.{Outcome, accepted, ask}
use Rattle.bitbuffer.specs.Window.{with_pos}
use Rattle.bitbuffer.specs.declared.BitBuffer.{BitBuffer}

-- n bits on, and n bits back.
abbrev pub ahead : BitBuffer → ℕ → Outcome BitBuffer
ahead w n = ask 5 (leb (w.pos + n) w.end) (accepted (with_pos w (w.pos + n)))

abbrev pub back : BitBuffer → ℕ → Outcome BitBuffer
back w n = ask 5 (leb (w.start + n) w.pos) (accepted (with_pos w (w.pos - n)))

-- By an offset with sign.
abbrev pub stepped : BitBuffer → ℤ → Outcome BitBuffer
stepped w z =
    ask 5 (le_z (pos w.start) (pos w.pos +ℤ z) && le_z (pos w.pos +ℤ z) (pos w.end))
    (accepted (with_pos w (nat_abs (pos w.pos +ℤ z))))
