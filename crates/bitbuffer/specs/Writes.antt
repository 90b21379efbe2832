-- Writes: "an expanding write that crosses the end moves the end by its whole width"; questions 5 and 8.
use Rattle.std.specs.Prelude.{ℕ, ◌+◌, ◌-◌, ◌*◌, ◌/◌, ◌%◌, ◌^◌, Bool, false, cond, ◌&&◌, ◌||◌, List, [], ◌∷◌, ◌++◌, leb, ltb, length, replicate}
use Rattle.bits.specs.Bits.{to_bits, part, splice}
use Rattle.questions.specs.Outcome.{accepted}
use Rattle.questions.specs.Effect.{Effect, effect, asked}
use Rattle.bitbuffer.specs.Window.{valid, reach, with_pos}
use Rattle.bitbuffer.specs.declared.BitBuffer.{BitBuffer}
use Rattle.bitbuffer.specs.declared.Windows.{Windows}

-- The end after a write of n bits: where it was, or n further if the write crosses it.
abbrev pub end_after : BitBuffer → ℕ → ℕ
end_after w n = cond (leb (w.pos + n) w.end) w.end (w.end + n)

-- The window after it.
abbrev pub after : BitBuffer → ℕ → BitBuffer
after w n = record { start = w.start; pos = w.pos + n; end = end_after w n; flag_autoexpand = w.flag_autoexpand }

-- "The end after it within the lent bytes, and unmoved if it may not expand?"
abbrev pub room : BitBuffer → List ℕ → ℕ → Bool
room w l e = leb e w.end || (w.flag_autoexpand && leb e (reach l))

-- write_bits, and write_bit with n 1: "width up to 64, value fits?"
abbrev pub written : BitBuffer → List ℕ → ℕ → ℕ → Effect BitBuffer
written w l v n =
    asked 5 (valid w l) l
    (asked 5 (leb n 64 && ltb v (2 ^ n)) l
    (asked 8 (room w l (end_after w n)) l (effect (accepted (after w n)) (splice l w.pos (to_bits n v)))))

-- A longer write goes by widths of 64 and then what is left, each as above.
unfoldable pub widths : ℕ → List ℕ
widths n = replicate (n / 64) 64 ++ (n % 64 ∷ [])

unfoldable pub after_all : BitBuffer → List ℕ → BitBuffer
after_all w [] = w
after_all w (n ∷ ns) = after_all (after w n) ns

-- Any number of bits vs: write_zeroes, write_ones, and copy_bits with the bits of its source.
abbrev pub written_all : BitBuffer → List ℕ → List ℕ → Effect BitBuffer
written_all w l vs =
    asked 5 (valid w l) l
    (asked 8 (room w l (after_all w (widths (length vs))).end) l
    (effect (accepted (after_all w (widths (length vs)))) (splice l w.pos vs)))

-- copy_bits: n bits of the source, whose window is v over the bits s; both windows move past them.
abbrev pub copied : BitBuffer → List ℕ → BitBuffer → List ℕ → ℕ → Effect Windows
copied w l v s n =
    asked 5 (valid w l) l
    (asked 5 (valid v s && leb (v.pos + n) v.end) l
    (asked 8 (room w l (after_all w (widths n)).end) l
    (effect
    (accepted (record { to = after_all w (widths n); from = with_pos v (v.pos + n) }))
    (splice l w.pos (part s v.pos n)))))

-- from_bitbuffer_pos: the bytes that hold the bits from the position to the end, copied to the front of other bytes, whose
-- bits are d, and a window over those bits there.
abbrev pub first_byte : BitBuffer → ℕ
first_byte w = w.pos / 8

abbrev pub byte_count : BitBuffer → ℕ
byte_count w = (w.end + 7) / 8 - first_byte w

abbrev pub copied_from_pos : BitBuffer → List ℕ → List ℕ → Effect BitBuffer
copied_from_pos w l d =
    asked 5 (valid w l) d
    (asked 8 (leb (8 * byte_count w) (length d)) d
    (effect
    (accepted
    (record {
      start = w.pos % 8;
      pos = w.pos % 8;
      end = w.pos % 8 + (w.end - w.pos);
      flag_autoexpand = false;
    }))
    (splice d 0 (part l (8 * first_byte w) (8 * byte_count w)))))
