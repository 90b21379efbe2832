-- The laws of the sum of polynomials and of long division.
use Prim.Native.Nat.{ℕ, zero, suc, ◌+◌, ◌*◌, ◌/◌, ◌%◌, ◌^◌, ◌<◌, ◌≤◌, max}
use native.Mathlib.Nat.{suc-add, zero-add}
use native.Mathlib.Omega.{arith}
use mathlib.Core.Path.{◌≡◌, ◌∙◌, refl, sym, ap, ap₂}
use mathlib.Core.List.{List, [], ◌∷◌, ◌++◌}
use lib.ListN.{length, replicate, length-map}
use lib.Bits.{bit_xor, differ, xor_shr, xor_step}
use Rattle.bits.specs.Bits.{to_bits, AllBits}
use Rattle.bits.proofs.Laws.{length-to_bits, all-to_bits}
use Rattle.fcs.specs.Polynomials.{plus, rest, sum, divisor, scaled}

pub plus_nil : (xs : List ℕ) → plus xs [] ≡ xs
unfolding plus
plus_nil [] = refl
plus_nil (x ∷ xs) = refl

pub plus_comm : (xs ys : List ℕ) → plus xs ys ≡ plus ys xs
unfolding plus
plus_comm [] [] = refl
plus_comm [] (y ∷ ys) = refl
plus_comm (x ∷ xs) [] = refl
plus_comm (x ∷ xs) (y ∷ ys) = ap₂ ◌∷◌ (omega arith) (plus_comm xs ys)

pub plus_assoc : (xs ys zs : List ℕ) → plus (plus xs ys) zs ≡ plus xs (plus ys zs)
unfolding plus
plus_assoc [] ys zs = refl
plus_assoc (x ∷ xs) [] zs = refl
plus_assoc (x ∷ xs) (y ∷ ys) [] = refl
plus_assoc (x ∷ xs) (y ∷ ys) (z ∷ zs) = ap₂ ◌∷◌ (omega arith) (plus_assoc xs ys zs)

pub exchange : (a b c d : List ℕ) → plus (plus a b) (plus c d) ≡ plus (plus a c) (plus b d)
exchange a b c d = rw (plus_assoc a b (plus c d), ← plus_assoc b c d, plus_comm b c, plus_assoc c b d, ← plus_assoc a c (plus b d))

differ-sum : (p q : ℕ) → p < 2 → q < 2 → differ p q ≡ (p + q) % 2
differ-sum zero zero h k = refl
differ-sum zero (suc zero) h k = refl
differ-sum zero (suc (suc q)) h k = absurd (omega arith)
differ-sum (suc zero) zero h k = refl
differ-sum (suc zero) (suc zero) h k = refl
differ-sum (suc zero) (suc (suc q)) h k = absurd (omega arith)
differ-sum (suc (suc p)) q h k = absurd (omega arith)

xor-odd : (x y : ℕ) → bit_xor x y % 2 ≡ (x % 2 + y % 2) % 2
xor-odd x y = rw (xor_step x y) (omega (arith, differ-sum (x % 2) (y % 2) (omega arith) (omega arith)))

-- The exclusive or of two numbers is the sum of their bits.
pub to_bits-xor : (n a b : ℕ) → to_bits n (bit_xor a b) ≡ plus (to_bits n a) (to_bits n b)
unfolding to_bits plus
to_bits-xor zero a b = refl
to_bits-xor (suc n) a b =
    ap₂ ◌∷◌ (ap (λ (x : ℕ). x % 2) (xor_shr a b n) ∙ xor-odd (a / 2 ^ n) (b / 2 ^ n)) (to_bits-xor n a b)

scaled-bit : (x y d : ℕ) → d < 2 → sum (x * d) (y * d) ≡ sum x y * d
scaled-bit x y zero h = omega arith
scaled-bit x y (suc zero) h = omega arith
scaled-bit x y (suc (suc d)) h = omega arith

pub scaled-plus : (x y : ℕ) (d : List ℕ) → AllBits d → plus (scaled x d) (scaled y d) ≡ scaled (sum x y) d
unfolding plus
scaled-plus x y [] h = refl
scaled-plus x y (b ∷ d) h = ap₂ ◌∷◌ (scaled-bit x y b h.0) (scaled-plus x y d h.1)

pub all-divisor : AllBits divisor
unfolding divisor
all-divisor = all-to_bits 32 0x04C11DB7

pub rest-zero : (l : List ℕ) → rest 0 l ≡ l
unfolding rest
rest-zero l = refl

rest-nil : (n : ℕ) → rest n [] ≡ []
unfolding rest
rest-nil zero = refl
rest-nil (suc n) = refl

-- The division goes over to sums.
pub rest-plus : (n : ℕ) (a b : List ℕ) → rest n (plus a b) ≡ plus (rest n a) (rest n b)
unfolding rest plus
rest-plus zero a b = refl
rest-plus (suc n) [] b = refl
rest-plus (suc n) (x ∷ a) [] = sym (plus_nil (rest (suc n) (x ∷ a)))
rest-plus (suc n) (x ∷ a) (y ∷ b) =
    rw (← scaled-plus x y divisor all-divisor, exchange (scaled x divisor) (scaled y divisor) a b)
    (rest-plus n (plus (scaled x divisor) a) (plus (scaled y divisor) b))

-- m steps, and then n more.
pub rest-add : (m n : ℕ) (l : List ℕ) → rest (m + n) l ≡ rest n (rest m l)
unfolding rest
rest-add zero n l = rw (zero-add n)
rest-add (suc m) n [] = rw (suc-add m n) (sym (rest-nil n))
rest-add (suc m) n (b ∷ l) = rw (suc-add m n) (rest-add m n (plus (scaled b divisor) l))

pub length-plus : (xs ys : List ℕ) → length (plus xs ys) ≡ max (length xs) (length ys)
unfolding plus
length-plus [] ys = omega arith
length-plus (x ∷ xs) [] = omega arith
length-plus (x ∷ xs) (y ∷ ys) = omega (arith, length-plus xs ys)

pub length-scaled : (b : ℕ) → length (scaled b divisor) ≡ 32
unfolding divisor
length-scaled b = length-map (to_bits 32 0x04C11DB7) (λ (x : ℕ). b * x) ∙ length-to_bits 32 0x04C11DB7

pub length_rest : (n : ℕ) (l : List ℕ) → n + 32 ≤ length l → n + length (rest n l) ≡ length l
unfolding rest
length_rest zero l h = zero-add (length l)
length_rest (suc n) [] h = absurd (omega arith)
length_rest (suc n) (b ∷ l) h =
    let e : length (plus (scaled b divisor) l) ≡ length l = omega (arith, length-plus (scaled b divisor) l, length-scaled b) in
    omega (arith, length_rest n (plus (scaled b divisor) l) (omega arith))

pub all-plus : (l m : List ℕ) → AllBits l → AllBits m → AllBits (plus l m)
unfolding plus
all-plus [] m h k = k
all-plus (x ∷ l) [] h k = h
all-plus (x ∷ l) (y ∷ m) h k = (omega arith, all-plus l m h.1 k.1)

scaled-lt : (b d : ℕ) → b < 2 → d < 2 → b * d < 2
scaled-lt zero d h k = omega arith
scaled-lt (suc zero) d h k = omega arith
scaled-lt (suc (suc b)) d h k = absurd (omega arith)

pub all-scaled : (b : ℕ) (d : List ℕ) → b < 2 → AllBits d → AllBits (scaled b d)
all-scaled b [] h k = tt
all-scaled b (x ∷ d) h k = (scaled-lt b x h k.0, all-scaled b d h k.1)

pub all_rest : (n : ℕ) (l : List ℕ) → AllBits l → AllBits (rest n l)
unfolding rest
all_rest zero l h = h
all_rest (suc n) [] h = tt
all_rest (suc n) (b ∷ l) h = all_rest n (plus (scaled b divisor) l) (all-plus (scaled b divisor) l (all-scaled b divisor h.0 all-divisor) h.1)

-- Zeros add nothing to bits.
pub zeros-plus : (n : ℕ) (l : List ℕ) → AllBits l → n ≤ length l → plus (replicate n 0) l ≡ l
unfolding plus
zeros-plus zero l h k = refl
zeros-plus (suc n) [] h k = absurd (omega arith)
zeros-plus (suc n) (x ∷ l) h k = ap₂ ◌∷◌ (omega arith) (zeros-plus n l h.1 (omega arith))

-- Bits and more zeros than they are: zeros take the places after them.
pub plus-zeros : (l : List ℕ) (n : ℕ) → AllBits l → plus l (replicate (length l + n) 0) ≡ l ++ replicate n 0
unfolding plus
plus-zeros [] n h = rw (zero-add n)
plus-zeros (x ∷ l) n h = rw (suc-add (length l) n) (ap₂ ◌∷◌ (omega arith) (plus-zeros l n h.1))

pub plus-append : (a b v w : List ℕ) → length a ≡ length v → plus (a ++ b) (v ++ w) ≡ plus a v ++ plus b w
unfolding plus
plus-append [] b [] w h = refl
plus-append [] b (y ∷ v) w h = absurd (omega arith)
plus-append (x ∷ a) b [] w h = absurd (omega arith)
plus-append (x ∷ a) b (y ∷ v) w h = ap (◌∷◌ (sum x y)) (plus-append a b v w (omega arith))

-- The division of the first coefficients leaves the others, with its own remainder added.
pub rest-head : (xs w : List ℕ) → AllBits w → 32 ≤ length w → rest (length xs) (xs ++ w) ≡ plus (rest (length xs) (xs ++ replicate 32 0)) w
unfolding rest
rest-head [] w h k = sym (zeros-plus 32 w h k)
rest-head (x ∷ xs) w h k =
    rw (
      rest-plus (length xs) (scaled x divisor) (xs ++ w),
      rest-head xs w h k,
      rest-plus (length xs) (scaled x divisor) (xs ++ replicate 32 0),
    )
    (sym (plus_assoc (rest (length xs) (scaled x divisor)) (rest (length xs) (xs ++ replicate 32 0)) w))
