-- Shifts inside 64 bits, as products and quotients of powers of two.
use Prim.Native.Nat.{ℕ, ◌+◌, ◌*◌, ◌%◌, ◌^◌, ◌≤◌, ◌<◌}
use native.Mathlib.Nat.{mod-eq_of_lt, lt_of_lt_of_le}
use mathlib.Core.Path.{◌≡◌, ◌∙◌, ap}
use lib.Arith.{digits_lt}
use lib.Bits.{bit_or, or_shifted}
use lib.Pow.{pow-add, pow_mono, shl_lt}

-- (r << h) | x
pub shifted-or : (r h x : ℕ) → r * 2 ^ h < 2 ^ 64 → x < 2 ^ h → bit_or ((r * 2 ^ h) % 2 ^ 64) x ≡ r * 2 ^ h + x
shifted-or r h x fits low = ap (λ (a : ℕ). bit_or a x) (mod-eq_of_lt fits) ∙ or_shifted r h x low

-- t << k
pub shifted_fits : (p k t : ℕ) → t < 2 ^ p → p + k ≤ 64 → t * 2 ^ k < 2 ^ 64
shifted_fits p k t small fits = lt_of_lt_of_le (shl_lt p k small) (pow_mono fits)

-- t, and h bits x behind it.
pub joined-below : (p h t x : ℕ) → t < 2 ^ p → x < 2 ^ h → t * 2 ^ h + x < 2 ^ (p + h)
joined-below p h t x small low = rw (pow-add 2 p h) (digits_lt small low)

pub ruleset shifts = (shifted-or, shifted_fits)
