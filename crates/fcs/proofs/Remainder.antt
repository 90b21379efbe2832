-- `rest` is the remainder of the division by the whole divisor of 33 bits: there is a quotient (`remainder`), and no other
-- 32 bits are left by any quotient (`only-remainder`). So the check bits, inverted, are one (`fcs-divided`).
use Prim.Native.Nat.{ℕ, zero, suc, ◌+◌, ◌≤◌, ◌<◌}
use native.Mathlib.Omega.{arith}
use mathlib.Core.Path.{◌≡◌, ◌∙◌, refl, sym, ap, ap₂}
use mathlib.Core.List.{List, [], ◌∷◌, ◌++◌}
use lib.ListN.{length, replicate, length-append, length-replicate}
use Rattle.bits.specs.Bits.{to_bits, AllBits}
use Rattle.bits.proofs.Laws.{all_append}
use Rattle.bits.proofs.Bytes.{all-zeros}
use Rattle.fcs.specs.Polynomials.{sum, plus, scaled, times, divisor, rest, Divided}
use Rattle.fcs.specs.Fcs.{start, inverted, fcs}
use Rattle.fcs.proofs.Division.{plus_assoc, scaled-plus, all-divisor, length-plus, length-scaled, all-plus, all-scaled, all_rest, zeros-plus, rest-zero}
use Rattle.fcs.proofs.Register.{length-dividend, all-dividend}
use Rattle.fcs.proofs.Ends.{start-bits}

scaled-zero : scaled 0 divisor ≡ replicate 32 0
unfolding divisor to_bits
scaled-zero = refl

-- The same multiple of the divisor, added twice, is nothing.
twice : (b : ℕ) (l : List ℕ) → AllBits l → 32 ≤ length l → plus (scaled b divisor) (plus (scaled b divisor) l) ≡ l
twice b l h k =
    let e : sum b b ≡ 0 = omega arith in
    rw (← plus_assoc (scaled b divisor) (scaled b divisor) l, scaled-plus b b divisor all-divisor, e, scaled-zero) (zeros-plus 32 l h k)

-- One more coefficient of the quotient.
times-cons : (b n : ℕ) (q r : List ℕ) → b < 2
    → plus (times (b ∷ q) (1 ∷ divisor)) (replicate (suc n) 0 ++ r)
    ≡ b ∷ plus (scaled b divisor) (plus (times q (1 ∷ divisor)) (replicate n 0 ++ r))
unfolding times plus
times-cons b n q r h = ap₂ ◌∷◌ (omega arith) (plus_assoc (scaled b divisor) (times q (1 ∷ divisor)) (replicate n 0 ++ r))

none-times : (r : List ℕ) → plus (times [] (1 ∷ divisor)) r ≡ r
unfolding times plus
none-times r = refl

rest-cons : (n b : ℕ) (l : List ℕ) → rest (suc n) (b ∷ l) ≡ rest n (plus (scaled b divisor) l)
unfolding rest
rest-cons n b l = refl

next-long : (b n : ℕ) (l : List ℕ) → length l ≡ n + 32 → length (plus (scaled b divisor) l) ≡ n + 32
next-long b n l e = omega (arith, length-plus (scaled b divisor) l, length-scaled b)

next-bits : (b : ℕ) (l : List ℕ) → b < 2 → AllBits l → AllBits (plus (scaled b divisor) l)
next-bits b l h k = all-plus (scaled b divisor) l (all-scaled b divisor h all-divisor) k

-- With some quotient, `rest` is what is left.
pub remainder : (n : ℕ) (l : List ℕ) → AllBits l → length l ≡ n + 32 → Divided n l (rest n l)
unfolding rest
remainder zero l h e = record { quotient = []; long = refl; bits = tt; below = omega arith; left = h; exact = sym (none-times l) }
remainder (suc n) [] h e = absurd (omega arith)
remainder (suc n) (b ∷ l) h e =
    let f : length l ≡ n + 32 = omega arith in
    let d = remainder n (plus (scaled b divisor) l) (next-bits b l h.0 h.1) (next-long b n l f) in
    record {
      quotient = b ∷ d.quotient;
      long = ap suc d.long;
      bits = (h.0, d.bits);
      below = d.below;
      left = d.left;
      exact =
          sym
          (times-cons b n d.quotient (rest n (plus (scaled b divisor) l)) h.0
          ∙ ap (◌∷◌ b) (ap (plus (scaled b divisor)) (sym d.exact) ∙ twice b l h.1 (omega arith)));
    }

length-times : (q : List ℕ) → length (times q (1 ∷ divisor)) ≤ length q + 32
unfolding times plus
length-times [] = omega arith
length-times (b ∷ q) =
    omega (arith, length-plus (scaled b divisor) (times q (1 ∷ divisor)), length-scaled b, length-times q)

all-times : (q : List ℕ) → AllBits q → AllBits (times q (1 ∷ divisor))
unfolding times
all-times [] h = tt
all-times (b ∷ q) h =
    all-plus (scaled b (1 ∷ divisor)) (0 ∷ times q (1 ∷ divisor))
    (all-scaled b (1 ∷ divisor) h.0 (omega arith, all-divisor))
    (omega arith, all-times q h.1)

module _ (r : List ℕ) (below : length r ≡ 32) (bits : AllBits r) where
  -- q times the divisor, and r in the lowest places.
  abbrev whole : List ℕ → List ℕ
  whole q = plus (times q (1 ∷ divisor)) (replicate (length q) 0 ++ r)

  length_whole : (q : List ℕ) → length (whole q) ≡ length q + 32
  length_whole q =
      let z : List ℕ = replicate (length q) 0 in
      omega (arith, length-plus (times q (1 ∷ divisor)) (z ++ r), length-times q, length-append z r, length-replicate {A = ℕ} (length q) 0)

  all_whole : (q : List ℕ) → AllBits q → AllBits (whole q)
  all_whole q h =
      all-plus (times q (1 ∷ divisor)) (replicate (length q) 0 ++ r) (all-times q h)
      (all_append (replicate (length q) 0) r (all-zeros (length q)) bits)

  rest-whole : (q : List ℕ) → AllBits q → rest (length q) (whole q) ≡ r
  rest-whole [] h = rest-zero (plus (times [] (1 ∷ divisor)) r) ∙ none-times r
  rest-whole (b ∷ q) h =
      ap (rest (suc (length q))) (times-cons b (length q) q r h.0)
      ∙ rest-cons (length q) b (plus (scaled b divisor) (whole q))
      ∙ ap (rest (length q)) (twice b (whole q) (all_whole q h.1) (rw (length_whole q) (omega arith)))
      ∙ rest-whole q h.1

-- With any quotient, it is.
pub only-remainder : (n : ℕ) (l r : List ℕ) → Divided n l r → rest n l ≡ r
only-remainder n l r d = rw (d.exact, ← d.long) (rest-whole r d.below d.left d.quotient d.bits)

inverted-twice : (l : List ℕ) → AllBits l → inverted (inverted l) ≡ l
inverted-twice [] h = refl
inverted-twice (b ∷ l) h = ap₂ ◌∷◌ (omega arith) (inverted-twice l h.1)

-- The check bits, inverted, are what is left of the message times x ^ 32 with the start added.
pub fcs-divided : (m : List ℕ) → AllBits m → Divided (length m) (plus (start (length m)) (m ++ replicate 32 0)) (inverted (fcs m))
unfolding fcs
fcs-divided m h =
    let s = start-bits (length m) in
    let l : List ℕ = plus (to_bits 32 s.0) (m ++ replicate 32 0) in
    rw (← s.1, inverted-twice (rest (length m) l) (all_rest (length m) l (all-dividend s.0 m h)))
    (remainder (length m) l (all-dividend s.0 m h) (length-dividend s.0 m h))
