-- Slot time, as document 01's paragraph of that name gives it: t 1 to 4, f 1 to 18, m 1 to 60, h 0 to 65,535;
-- W slots in all, sums wrap at W, a difference lies from -W/2 up to W/2 - 1.
use Rattle.std.specs.Prelude.{ℕ, ◌+◌, ◌-◌, ◌*◌, ◌/◌, ◌%◌, Bool, ◌&&◌, leb, ℤ, pos, neg_ℤ, ◌+ℤ◌, ◌-ℤ◌, ◌≤ℤ◌, ◌<ℤ◌}
use Rattle.tdma_time.specs.Modulo.{modulo}
use Rattle.tdma_time.specs.declared.TdmaTime.{TdmaTime}

-- W, the slots of 65,536 hyperframes of 60 multiframes of 18 frames of 4 slots.
abbrev pub W : ℕ
W = 4 * 18 * 60 * 65_536

abbrev pub half : ℕ
half = W / 2

-- Is each of the four in its range?
unfoldable pub valid : TdmaTime → Bool
valid a =
    leb 1 a.t && leb a.t 4
    && leb 1 a.f && leb a.f 18
    && leb 1 a.m && leb a.m 60
    && leb a.h 65535

-- The slots of a time, counted from the first time.
unfoldable pub slots : TdmaTime → ℕ
slots a = (a.t - 1) + 4 * (a.f - 1) + 72 * (a.m - 1) + 4320 * a.h

-- The time with s slots, for s below W.
unfoldable pub time_at : ℕ → TdmaTime
time_at s = record { t = s % 4 + 1; f = s / 4 % 18 + 1; m = s / 72 % 60 + 1; h = s / 4320 }

-- The first time, which has no slots: h 0, m 1, f 1, t 1.
abbrev pub first : TdmaTime
first = record { t = 1; f = 1; m = 1; h = 0 }

-- The time n slots after a, before it where n is negative: slots add up modulo W.
unfoldable pub plus : TdmaTime → ℤ → TdmaTime
plus a n = time_at (modulo (pos (slots a) +ℤ n) W)

-- d lies where a difference lies, from -W/2 up to W/2 - 1.
pub record Near (d : ℤ) : Type 0 where
  pub low : neg_ℤ (pos half) ≤ℤ d
  pub high : d <ℤ pos half

-- x brought there by whole multiples of W.
unfoldable pub centred : ℤ → ℤ
centred x = pos (modulo (x +ℤ pos half) W) -ℤ pos half

-- The slots from b to a, around the wrap.
unfoldable pub minus : TdmaTime → TdmaTime → ℤ
minus a b = centred (pos (slots a) -ℤ pos (slots b))

-- The slots from a to the next slot ts, 0 where a is in it.
unfoldable pub ahead : TdmaTime → ℕ → ℕ
ahead a ts = modulo (pos ts -ℤ pos a.t) 4

-- The first time from a on that is in slot ts.
unfoldable pub forward : TdmaTime → ℕ → TdmaTime
forward a ts = plus a (pos (ahead a ts))
