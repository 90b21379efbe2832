-- Whole numbers with sign: a difference by its two cases, and what a cast to an unsigned type asks.
use Prim.Native.Nat.{ℕ, zero, suc, ◌+◌, ◌-◌, ◌*◌, ◌≤◌, ◌<◌}
use native.Mathlib.Nat.{zero-mul}
use native.Mathlib.Omega.{arith}
use mathlib.Core.Path.{◌≡◌, refl, ap}
use mathlib.Core.Bool.{Bool, true, false, cond}
use borrow.Author.Tests.{ltb-true, ltb-false}
use lib.Dec.{ltb}
use lib.IntN.{ℤ, pos, negsuc, sub_ℕ, neg_ℤ, ◌-ℤ◌, ◌*ℤ◌}

-- What holds of a - b, shown where b is at most a and where a is below b.
pub by_order : (P : ℤ → Type 0) (a b : ℕ) → (b ≤ a → P (pos (a - b))) → (a < b → P (negsuc (b - suc a))) → P (sub_ℕ a b)
by_order P a b above below = go (ltb a b) refl
  where
    go : (t : Bool) → ltb a b ≡ t → P (cond t (negsuc (b - suc a)) (pos (a - b)))
    go true h = below (ltb-true a b h)
    go false h = above (ltb-false a b h)

-- A difference as the operators write it.
pub sub_is : (a b : ℕ) → pos a -ℤ pos b ≡ sub_ℕ a b
sub_is a zero = by_order (λ z. pos (a + 0) ≡ z) a 0 (λ h. ap pos (omega arith)) (λ h. absurd (omega arith))
sub_is a (suc b) = refl

-- m less than a negative number.
pub sub-negsuc : (n m : ℕ) → negsuc n -ℤ pos m ≡ negsuc (n + m)
sub-negsuc n zero = by_order (λ z. z ≡ negsuc (n + 0)) 0 (suc n) (λ h. absurd (omega arith)) (λ h. ap negsuc (omega arith))
sub-negsuc n (suc m) = ap negsuc (omega arith)

-- A product with a negative factor.
pub neg-times : (q w : ℕ) → neg_ℤ (pos q) *ℤ pos w ≡ neg_ℤ (pos (q * w))
neg-times zero w = rw zero-mul
neg-times (suc q) w = refl

pub sub-ge : (a b : ℕ) → b ≤ a → sub_ℕ a b ≡ pos (a - b)
sub-ge a b h = by_order (λ z. z ≡ pos (a - b)) a b (λ _. refl) (λ l. absurd (omega arith))

-- z is a number without sign, below b.
pub record Natural (z : ℤ) (b : ℕ) : Type 0 where
  pub by : ℕ
  pub is : z ≡ pos by
  pub below : by < b
