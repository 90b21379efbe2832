-- What the definitions give on examples that were written from document 01's paragraph on bits and its questions 5 and 8: code
-- and definition wrong alike are refused here.
use Prim.Native.Nat.{ℕ}
use mathlib.Core.Path.{◌≡◌, refl}
use mathlib.Core.Bool.{true, false}
use mathlib.Core.List.{List, [], ◌∷◌}
use lib.IntN.{pos, negsuc}
use Rattle.bits.specs.Bits.{to_bits, value, bits}
use Rattle.questions.specs.Outcome.{accepted, refused}
use Rattle.questions.specs.Effect.{effect}
use Rattle.bitbuffer.specs.Reads as R
use Rattle.bitbuffer.specs.Window.{valid, first_bits, all_bits, no_bits, len, remaining, position, sought, sought_by, start_set, pos_set, end_set}
use Rattle.bitbuffer.specs.Writes.{widths, after_all, written, written_all, copied, copied_from_pos}
use Rattle.bitbuffer.specs.declared.BitBuffer.{BitBuffer}

-- A window, and one that expands.
abbrev pub window : ℕ → ℕ → ℕ → BitBuffer
window s p e = record { start = s; pos = p; end = e; flag_autoexpand = false }

abbrev pub expanding : ℕ → ℕ → ℕ → BitBuffer
expanding s p e = record { start = s; pos = p; end = e; flag_autoexpand = true }

-- The bits of nine bytes that differ, a window inside them, and two bytes of zeros.
pub lent : List ℕ
lent = bits (0x01 ∷ 0x23 ∷ 0x45 ∷ 0x67 ∷ 0x89 ∷ 0xab ∷ 0xcd ∷ 0xef ∷ 0x96 ∷ [])

abbrev pub inside : BitBuffer
inside = window 4 12 68

pub zeros : List ℕ
zeros = bits (0x00 ∷ 0x00 ∷ [])

-- New windows: the first bits, all, and none yet.
pub news :
    (first_bits lent 72 ≡ accepted (window 0 0 72))
    × (first_bits lent 73 ≡ refused 5)
    × (all_bits lent ≡ window 0 0 72)
    × (no_bits ≡ expanding 0 0 0)
unfolding lent bits to_bits
news = (refl, refl, refl, refl)

-- "Start, position and end in order and inside the lent bytes?"
pub orders :
    (valid inside lent ≡ true)
    × (valid (window 12 12 12) lent ≡ true)
    × (valid (window 13 12 68) lent ≡ false)
    × (valid (window 4 12 11) lent ≡ false)
    × (valid (window 72 72 72) lent ≡ true)
    × (valid (window 4 12 73) lent ≡ false)
unfolding lent bits to_bits valid
orders = (refl, refl, refl, refl, refl, refl)

-- From start to end, from position to end, from start to position.
pub lengths :
    (len inside lent ≡ accepted 64)
    × (remaining inside lent ≡ accepted 56)
    × (position inside lent ≡ accepted 8)
    × (remaining (window 4 12 73) lent ≡ refused 5)
unfolding lent bits to_bits valid
lengths = (refl, refl, refl, refl)

-- A seek counts from the start, one by an offset from the position; neither leaves the window.
pub seeks :
    (sought inside lent 0 ≡ accepted (window 4 4 68))
    × (sought inside lent 64 ≡ accepted (window 4 68 68))
    × (sought inside lent 65 ≡ refused 5)
    × (sought_by inside lent (pos 56) ≡ accepted (window 4 68 68))
    × (sought_by inside lent (pos 57) ≡ refused 5)
    × (sought_by inside lent (negsuc 7) ≡ accepted (window 4 4 68))
    × (sought_by inside lent (negsuc 8) ≡ refused 5)
unfolding lent bits to_bits valid
seeks = (refl, refl, refl, refl, refl, refl, refl)

-- New bounds: the start up to the position, the position between both, the end from the position up to the last lent bit.
pub bounds :
    (start_set inside lent 12 ≡ accepted (window 12 12 68))
    × (start_set inside lent 13 ≡ refused 5)
    × (pos_set inside lent 3 ≡ refused 5)
    × (pos_set inside lent 4 ≡ accepted (window 4 4 68))
    × (pos_set inside lent 68 ≡ accepted (window 4 68 68))
    × (pos_set inside lent 69 ≡ refused 5)
    × (end_set inside lent 11 ≡ refused 5)
    × (end_set inside lent 12 ≡ accepted (window 4 12 12))
    × (end_set inside lent 72 ≡ accepted (window 4 12 72))
    × (end_set inside lent 73 ≡ refused 5)
unfolding lent bits to_bits valid
bounds = (refl, refl, refl, refl, refl, refl, refl, refl, refl, refl)

-- "First bit of a byte is its highest. Reads past the end or above 64 bits give nothing."
pub reads :
    (R.read (window 0 0 72) lent 64 ≡ accepted (R.got 0x0123456789abcdef (window 0 64 72)))
    × (R.read (window 0 4 72) lent 64 ≡ accepted (R.got 0x123456789abcdef9 (window 0 68 72)))
    × (R.read (window 0 4 72) lent 33 ≡ accepted (R.got 0x2468acf1 (window 0 37 72)))
    × (R.read (window 0 0 72) lent 65 ≡ accepted R.Got.nothing)
    × (R.read (window 0 64 72) lent 8 ≡ accepted (R.got 0x96 (window 0 72 72)))
    × (R.read (window 0 64 72) lent 9 ≡ accepted R.Got.nothing)
    × (R.read (window 0 64 71) lent 8 ≡ accepted R.Got.nothing)
    × (R.read (window 0 64 72) lent 1 ≡ accepted (R.got 1 (window 0 65 72)))
    × (R.read (window 0 65 72) lent 1 ≡ accepted (R.got 0 (window 0 66 72)))
    × (R.read (window 0 72 72) lent 0 ≡ accepted (R.got 0 (window 0 72 72)))
unfolding lent bits to_bits valid value
reads = (refl, refl, refl, refl, refl, refl, refl, refl, refl, refl)

-- Peeks: from the position, from the start, and from the position by an offset, not before the start.
pub peeks :
    (R.peeked inside lent 8 ≡ accepted (R.found 0x34))
    × (R.peeked_from_start inside lent 0 8 ≡ accepted (R.found 0x12))
    × (R.peeked_from_start inside lent 56 8 ≡ accepted (R.found 0xf9))
    × (R.peeked_from_start inside lent 57 8 ≡ accepted R.Found.nothing)
    × (R.peeked_from_pos inside lent (negsuc 7) 8 ≡ accepted (R.found 0x12))
    × (R.peeked_from_pos inside lent (negsuc 8) 8 ≡ accepted R.Found.nothing)
    × (R.peeked_from_pos inside lent (pos 4) 8 ≡ accepted (R.found 0x45))
    × (R.peeked_from_pos inside lent (pos 49) 8 ≡ accepted R.Found.nothing)
unfolding lent bits to_bits valid value
peeks = (refl, refl, refl, refl, refl, refl, refl, refl)

-- "An expanding write that crosses the end moves the end by its whole width: end 8, position 7, two bits give end 10,
-- position 9." One that does not cross it leaves it; "width up to 64, value fits? .. the end after it within the lent bytes,
-- and unmoved if it may not expand?"
pub writes :
    (written (expanding 0 7 8) zeros 3 2 ≡ effect (accepted (expanding 0 9 10)) (bits (0x01 ∷ 0x80 ∷ [])))
    × (written (window 0 7 8) zeros 3 2 ≡ effect (refused 8) zeros)
    × (written (window 0 7 9) zeros 2 2 ≡ effect (accepted (window 0 9 9)) (bits (0x01 ∷ 0x00 ∷ [])))
    × (written (expanding 0 7 9) zeros 2 2 ≡ effect (accepted (expanding 0 9 9)) (bits (0x01 ∷ 0x00 ∷ [])))
    × (written (expanding 0 14 14) zeros 1 2 ≡ effect (accepted (expanding 0 16 16)) (bits (0x00 ∷ 0x01 ∷ [])))
    × (written (expanding 0 13 15) zeros 1 3 ≡ effect (refused 8) zeros)
    × (written (expanding 0 7 8) zeros 4 2 ≡ effect (refused 5) zeros)
    × (written (expanding 0 0 0) zeros 0 65 ≡ effect (refused 5) zeros)
    × (written (window 0 0 72) lent 0xfedcba9876543210 64 ≡ effect (accepted (window 0 64 72)) (bits (0xfe ∷ 0xdc ∷ 0xba ∷ 0x98 ∷ 0x76 ∷ 0x54 ∷ 0x32 ∷ 0x10 ∷ 0x96 ∷ [])))
unfolding lent zeros bits to_bits valid
writes = (refl, refl, refl, refl, refl, refl, refl, refl, refl)

-- Many bits, bits of another window, and the bytes that hold the bits from the position on.
pub copies :
    (written_all (expanding 0 7 8) zeros (1 ∷ 1 ∷ 0 ∷ 1 ∷ []) ≡ effect (accepted (expanding 0 11 12)) (bits (0x01 ∷ 0xa0 ∷ [])))
    × (written_all (window 0 7 8) zeros (1 ∷ 1 ∷ []) ≡ effect (refused 8) zeros)
    × (copied (expanding 0 7 8) zeros inside lent 8 ≡ effect (accepted (record { to = expanding 0 15 16; from = window 4 20 68 })) (bits (0x00 ∷ 0x68 ∷ [])))
    × (copied (window 0 0 16) zeros (window 4 12 14) lent 3 ≡ effect (refused 5) zeros)
    × (copied (window 0 0 8) zeros inside lent 9 ≡ effect (refused 8) zeros)
    × (copied_from_pos (window 4 12 23) lent zeros ≡ effect (accepted (window 4 4 15)) (bits (0x23 ∷ 0x45 ∷ [])))
    × (copied_from_pos (window 4 12 25) lent zeros ≡ effect (refused 8) zeros)
unfolding lent zeros bits to_bits valid widths after_all
copies = (refl, refl, refl, refl, refl, refl, refl)
