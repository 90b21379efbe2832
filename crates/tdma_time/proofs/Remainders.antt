-- Remainders by W, of numbers with sign, from those of numbers without.
use Prim.Native.Nat.{ℕ, suc, ◌+◌, ◌-◌, ◌*◌, ◌/◌, ◌%◌, ◌≤◌, ◌<◌}
use native.Mathlib.Nat.{mod-lt}
use native.Mathlib.Omega.{arith}
use mathlib.Core.Path.{◌≡◌, ◌∙◌, refl, ap}
use Rattle.std.specs.Int.{int_rem_euclid}
use lib.IntN.{ℤ, pos, negsuc, neg_ℤ, ◌+ℤ◌, ◌-ℤ◌, ◌*ℤ◌}
use Rattle.tdma_time.specs.Modulo.{modulo, Congruent}
use Rattle.tdma_time.specs.Slots.{W}
use Rattle.signed.proofs.Integers.{by_order, sub_is, sub-negsuc, neg-times}

-- Rust's remainder that is never negative is this one.
pub euclid_is_modulo : (z : ℤ) → int_rem_euclid z (pos W) ≡ pos (modulo z W)
unfolding modulo
euclid_is_modulo (pos n) = refl
euclid_is_modulo (negsuc n) = ap pos (omega arith)

-- The slots from t to the next ts, within a frame of four.
pub modulo_frame : (ts t : ℕ) → t ≤ 4 → modulo (pos ts -ℤ pos t) 4 ≡ (ts + 4 - t) % 4
unfolding modulo
modulo_frame ts t h =
    rw sub_is (by_order (λ z. modulo z 4 ≡ (ts + 4 - t) % 4) ts t (λ l. omega arith) (λ l. omega arith))

-- A remainder by w is below w, and of a number below W it is that number.
pub modulo-below : (z : ℤ) (w : ℕ) → 0 < w → modulo z w < w
unfolding modulo
modulo-below (pos n) w h = mod-lt n h
modulo-below (negsuc n) w h = omega arith

pub modulo-small : (n : ℕ) → n < W → modulo (pos n) W ≡ n
unfolding modulo
modulo-small n h = omega arith

-- A remainder is congruent to what it is the remainder of.
pub modulo-congruent : (z : ℤ) → Congruent W (pos (modulo z W)) z
unfolding modulo
modulo-congruent (pos n) =
    record {
      times = neg_ℤ (pos (n / W));
      differ =
          rw (neg-times (n / W) W, sub_is n (n / W * W))
          (by_order (λ z. pos (n % W) ≡ z) n (n / W * W) (λ l. ap pos (omega arith)) (λ l. absurd (omega arith)));
    }
modulo-congruent (negsuc n) =
    record {
      times = pos (suc (n / W));
      differ =
          by_order (λ z. pos (W - suc (n % W)) ≡ z) (suc (n / W) * W) (suc n)
          (λ l. ap pos (omega arith))
          (λ l. absurd (omega arith));
    }

-- A whole multiple of W more leaves the remainder as it is.
modulo-multiple : (y k : ℤ) → modulo (y +ℤ k *ℤ pos W) W ≡ modulo y W
unfolding modulo
modulo-multiple (pos n) (pos k) = omega arith
modulo-multiple (pos n) (negsuc k) =
    rw (sub_is n (suc k * W))
    (by_order (λ z. modulo z W ≡ n % W) n (suc k * W) (λ l. omega arith) (λ l. omega arith))
modulo-multiple (negsuc n) (pos k) =
    by_order (λ z. modulo z W ≡ W - suc (n % W)) (k * W) (suc n) (λ l. omega arith) (λ l. omega arith)
modulo-multiple (negsuc n) (negsuc k) = rw (sub-negsuc n (suc k * W)) (omega arith)

-- Numbers that are congruent have the same remainder.
pub modulo-same : {x y : ℤ} → Congruent W x y → modulo x W ≡ modulo y W
modulo-same {x} {y} c = ap (λ (z : ℤ). modulo z W) c.differ ∙ modulo-multiple y c.times
