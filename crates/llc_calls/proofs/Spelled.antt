-- Numbers in bytes, one byte behind another.
use Prim.Native.Nat.{ℕ, zero, suc, ◌+◌, ◌*◌, ◌^◌, ◌≤◌, ◌<◌}
use native.Mathlib.Nat.{zero-mul, add-mul, mul_assoc}
use native.Mathlib.Omega.{arith}
use mathlib.Core.Path.{◌≡◌}
use mathlib.Core.List.{List, [], ◌∷◌, ◌++◌}
use lib.ListN.{length, get_or, take, drop, length-append}
use lib.Pow.{pow-add}
use lib.Seq.{take_all}
use Rattle.std.proofs.lemmas.List.{take_more, drop_more}
use Rattle.llc_rule.specs.Calls.{from_bytes}

from_bytes-append : (l m : List ℕ) → from_bytes (l ++ m) ≡ from_bytes l * 256 ^ length m + from_bytes m
unfolding from_bytes
from_bytes-append [] m = omega (arith, zero-mul (256 ^ length m))
from_bytes-append (b ∷ l) m =
    rw (from_bytes-append l m, length-append l m, pow-add 256 (length l) (length m), add-mul, mul_assoc b (256 ^ length l) (256 ^ length m))
    (omega arith)

-- The number in one byte more, what such numbers are below, and the number in all.
pub number-next : (l : List ℕ) (i : ℕ) → i < length l → from_bytes (take (i + 1) l) ≡ from_bytes (take i l) * 256 + get_or l i 0
unfolding from_bytes
number-next l i h =
    rw (take_more l i 0 h) (omega (arith, from_bytes-append (take i l) (get_or l i 0 ∷ [])))

pub pow-next : (n : ℕ) → 256 ^ (n + 1) ≡ 256 ^ n * 256
pow-next n = pow-add 256 n 1

pub pow_word : (n : ℕ) → n < 4 → 256 ^ n ≤ 2 ^ 24
pow_word zero h = omega arith
pow_word (suc zero) h = omega arith
pow_word (suc (suc zero)) h = omega arith
pow_word (suc (suc (suc zero))) h = omega arith
pow_word (suc (suc (suc (suc n)))) h = absurd (omega arith)

-- The number that one byte more makes.
pub ruleset one_more = (number-next, pow-next, pow_word, take_all)

-- The number in two bytes from a place on.
pub two : (l : List ℕ) (i : ℕ) → i + 1 < length l → from_bytes (take 2 (drop i l)) ≡ get_or l i 0 * 256 + get_or l (i + 1) 0
unfolding from_bytes
two l i h = rw (drop_more l i 0 (omega (arith, h)), drop_more l (i + 1) 0 h) (omega arith)
