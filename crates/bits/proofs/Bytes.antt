-- The laws for code that takes bits byte by byte: zeros behind a number, two bytes as one number, and a part with a byte more.
use Prim.Native.Nat.{ℕ, zero, suc, ◌+◌, ◌*◌, ◌/◌, ◌%◌, ◌^◌, ◌<◌, ◌≤◌}
use native.Mathlib.Nat.{mod-eq_of_lt, add-zero, zero-div}
use native.Mathlib.Omega.{arith}
use mathlib.Core.Path.{◌≡◌, ◌∙◌, refl, sym, ap, ap₂}
use mathlib.Core.List.{List, [], ◌∷◌, ◌++◌, append-nil}
use lib.ListN.{length, take, drop, get_or, replicate, length-drop}
use lib.Pow.{high, shl-shr}
use lib.Seq.{drop_at, drop-cons, drop-drop}
use Rattle.bits.specs.Bits.{to_bits, value, bits, part, AllBits}
use Rattle.bits.proofs.Laws.{length-to_bits, length-bits, to_bits-append, to_bits-above, value-append, value-to_bits, drop_bits, take-bits, to_bits-part, part-append, part-take, all-bits, all_take, all_drop}

pub all-zeros : (n : ℕ) → AllBits (replicate n 0)
all-zeros zero = tt
all-zeros (suc n) = (omega arith, all-zeros n)

pub all-part : (l : List ℕ) (at n : ℕ) → AllBits (part (bits l) at n)
all-part l at n = all_take n (drop at (bits l)) (all_drop at (bits l) (all-bits l))

pub drop-to_bits : (j n v : ℕ) → drop j (to_bits (j + n) v) ≡ to_bits n v
drop-to_bits j n v = rw (to_bits-append j n v) (drop_at (to_bits j (v / 2 ^ n)) (to_bits n v) j (length-to_bits j (v / 2 ^ n)))

to_bits-zero : (k : ℕ) → to_bits k 0 ≡ replicate k 0
unfolding to_bits
to_bits-zero zero = refl
to_bits-zero (suc k) = ap₂ ◌∷◌ (ap (λ (x : ℕ). x % 2) (zero-div (2 ^ k))) (to_bits-zero k)

-- Shifted left by k.
pub shifted : (j k v : ℕ) → to_bits (j + k) (v * 2 ^ k) ≡ to_bits j v ++ replicate k 0
shifted j k v =
    to_bits-append j k (v * 2 ^ k)
    ∙ ap₂ (λ (x y : List ℕ). x ++ y) (ap (to_bits j) (shl-shr v k))
    (ap (to_bits k) (sym (add-zero (v * 2 ^ k))) ∙ to_bits-above k v 0 ∙ to_bits-zero k)

two_bytes : (a b : ℕ) → b < 256 → to_bits 16 (a * 256 + b) ≡ to_bits 8 a ++ to_bits 8 b
two_bytes a b h = to_bits-append 8 8 (a * 256 + b) ∙ ap₂ (λ (x y : List ℕ). x ++ y) (ap (to_bits 8) (high a 8 h)) (to_bits-above 8 a b)

-- h bits inside the bytes q and q + 1, s behind the highest of the first, with t behind them.
pub in-two-bytes :
    (l : List ℕ) (q s h t : ℕ)
    → s + (h + t) ≡ 16
    → suc q < length l
    → get_or l (suc q) 0 < 256
    → part (bits l) (8 * q + s) h ≡ to_bits h ((get_or l q 0 * 256 + get_or l (suc q) 0) / 2 ^ t)
unfolding bits
in-two-bytes l q s h t e k b =
    let v : ℕ = get_or l q 0 * 256 + get_or l (suc q) 0 in
    let first : q < length l = omega arith in
    let there : s ≤ length (bits (drop q l)) = rw (length-bits (drop q l), length-drop q l) (omega arith) in
    let two : take 16 (bits (drop q l)) ≡ to_bits 16 v =
    take-bits 2 (drop q l)
    ∙ rw (drop-cons l q 0 first, drop-cons l (suc q) 0 k, append-nil (to_bits 8 (get_or l (suc q) 0)))
    (sym (two_bytes (get_or l q 0) (get_or l (suc q) 0) b)) in
    rw (← drop-drop s (8 * q) (bits l), drop_bits q l, ← part-take (bits (drop q l)) 16 s h (omega arith) there, two)
    (rw e at (to_bits-part s h t v))

pub value-nil : value [] ≡ 0
unfolding value
value-nil = refl

-- A byte more of a part, as a number.
pub value-more : (l : List ℕ) (at n b : ℕ) → b < 256 → to_bits 8 b ≡ part l (at + n) 8
    → value (part l at (n + 8)) ≡ value (part l at n) * 256 + b
value-more l at n b h e =
    rw (part-append l at n 8, ← e, value-append (part l at n) (to_bits 8 b), length-to_bits 8 b, value-to_bits 8 b)
    (ap (λ (x : ℕ). value (part l at n) * 256 + x) (mod-eq_of_lt h))
