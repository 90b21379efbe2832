-- Slot time (tdma_time).
use Rattle.std.specs.Prelude.{ℕ, ◌<◌, ◌≤◌, ◌≡◌, true, ℤ, pos, ◌*ℤ◌, ◌+ℤ◌, ◌-ℤ◌}
use Rattle.tdma_time.specs.Slots.{Near, W, ahead, centred, forward, minus, plus, slots, time_at, valid}
use Rattle.tdma_time.specs.Modulo.{Congruent, modulo}
use Rattle.tdma_time.specs.declared.TdmaTime.{TdmaTime}

pub record SlotTime : Type 0 where
  -- The slots in whole numbers with sign: of a time in range each 1 is taken from at least 1.
  pub slots-signed :
      (a : TdmaTime)
      → valid a ≡ true
      → pos (slots a) ≡ (pos a.t -ℤ pos 1) +ℤ pos 4 *ℤ (pos a.f -ℤ pos 1) +ℤ pos 72 *ℤ (pos a.m -ℤ pos 1) +ℤ pos 4320 *ℤ pos a.h
  -- The time with s slots has s slots.
  pub slots-time_at : (s : ℕ) → s < W → slots (time_at s) ≡ s
  -- A time in range is the one with its slots.
  pub time_at-slots : (a : TdmaTime) → valid a ≡ true → time_at (slots a) ≡ a
  -- The slots of a sum are the sum of the slots, modulo W, and it is in range.
  pub slots-plus : (a : TdmaTime) (n : ℤ) → slots (plus a n) ≡ modulo (pos (slots a) +ℤ n) W
  pub plus-valid : (a : TdmaTime) (n : ℤ) → valid (plus a n) ≡ true
  -- The sum is the only time in range whose slots are congruent to it.
  pub plus-only : (a b : TdmaTime) (n : ℤ) → valid b ≡ true → Congruent W (pos (slots b)) (pos (slots a) +ℤ n) → b ≡ plus a n
  -- A difference lies from -W/2 up to W/2 - 1, is congruent to that of the slots, and is the only such number.
  pub minus-near : (a b : TdmaTime) → Near (minus a b)
  pub minus-congruent : (a b : TdmaTime) → Congruent W (minus a b) (pos (slots a) -ℤ pos (slots b))
  pub minus-only : (a b : TdmaTime) (d : ℤ) → Near d → Congruent W d (pos (slots a) -ℤ pos (slots b)) → d ≡ minus a b
  -- Going forward adds 0 to 3 slots, and leads to slot ts; a time in that slot is left as it is.
  pub ahead-below : (a : TdmaTime) (ts : ℕ) → ahead a ts < 4
  pub forward-slot : (a : TdmaTime) (ts : ℕ) → valid a ≡ true → 1 ≤ ts → ts ≤ 4 → (forward a ts).t ≡ ts
  pub forward-here : (a : TdmaTime) → valid a ≡ true → forward a a.t ≡ a
  -- The time with s slots is in range.
  pub time_at-valid : (s : ℕ) → s < W → valid (time_at s) ≡ true
  -- Two times in range with the same slots are equal.
  pub same-slots : {a b : TdmaTime} → valid a ≡ true → valid b ≡ true → slots a ≡ slots b → a ≡ b
  -- Adding n and then m is adding n + m; adding 0 changes nothing.
  pub plus-plus : (a : TdmaTime) (n m : ℤ) → plus (plus a n) m ≡ plus a (n +ℤ m)
  pub plus-zero : (a : TdmaTime) → valid a ≡ true → plus a (pos 0) ≡ a
  -- The difference of a sum is what was added, brought to where a difference lies; so it is n itself, if that lies there.
  pub minus_plus : (a : TdmaTime) (n : ℤ) → minus (plus a n) a ≡ centred n
  pub minus-plus-near : (a : TdmaTime) (n : ℤ) → Near n → minus (plus a n) a ≡ n
  -- A time less itself is 0.
  pub minus-self : (a : TdmaTime) → minus a a ≡ pos 0
  -- The sum of a difference is the time that it leads to.
  pub plus-minus : (a b : TdmaTime) → valid a ≡ true → plus b (minus a b) ≡ a
