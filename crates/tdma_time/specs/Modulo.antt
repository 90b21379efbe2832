-- Whole numbers with sign, modulo a number of slots.
use Rattle.std.specs.Prelude.{ℕ, suc, ◌-◌, ◌%◌, ◌≡◌, ℤ, pos, negsuc, ◌+ℤ◌, ◌*ℤ◌}

-- The remainder of z by w, from 0 up to w - 1: that of -(n + 1) is w - 1 less the remainder of n.
unfoldable pub modulo : ℤ → ℕ → ℕ
modulo (pos n) w = n % w
modulo (negsuc n) w = w - suc (n % w)

-- x and y are congruent modulo w: they differ by a whole multiple of w.
pub record Congruent (w : ℕ) (x y : ℤ) : Type 0 where
  pub times : ℤ
  pub differ : x ≡ y +ℤ times *ℤ pos w
