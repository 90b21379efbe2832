-- The start of the 32 bits that are carried, and the check bits that they end in.
use Prim.Native.Nat.{ℕ, zero, suc, ◌+◌, ◌*◌, ◌%◌, ◌^◌, ◌<◌, ◌≤◌, ◌-◌}
use native.Mathlib.Nat.{suc-add, zero-add, pow-suc, mod-eq_of_lt}
use native.Mathlib.Omega.{arith}
use mathlib.Core.Path.{◌≡◌, ◌∙◌, refl, sym, ap}
use mathlib.Core.Bool.{Bool, true, false}
use mathlib.Core.List.{List, [], ◌∷◌, ◌++◌}
use borrow.Author.Tests.{le-leb, lt-ltb, le-ltb, ltb-true, ltb-false}
use lib.Dec.{ltb}
use lib.ListN.{length, drop, replicate, length-map}
use Rattle.bits.specs.Bits.{to_bits, value, AllBits}
use Rattle.bits.proofs.Laws.{length-to_bits, to_bits-mod, value-to_bits, all-to_bits}
use Rattle.bits.proofs.Bytes.{drop-to_bits, shifted}
use Rattle.fcs.specs.Polynomials.{plus, rest, sum, divisor}
use Rattle.fcs.specs.Register.{fed, entry}
use Rattle.fcs.specs.Fcs.{start, inverted, fcs}
use Rattle.fcs.proofs.Register.{fed-to_bits, fed-lt}

pub entry-none : entry 1 0 ≡ 0
unfolding entry rest plus divisor value to_bits
entry-none = refl

pub entry-one : entry 1 1 ≡ 0x04C11DB7
unfolding entry rest plus divisor value to_bits
entry-one = refl

all_ones : to_bits 32 0xFFFFFFFF ≡ replicate 32 1
unfolding to_bits
all_ones = refl

drop-replicate : (j n a : ℕ) → drop j (replicate (j + n) a) ≡ replicate n a
drop-replicate zero n a = rw (zero-add n)
drop-replicate (suc j) n a = rw (suc-add j n) (drop-replicate j n a)

ones : (j n : ℕ) → j + n ≡ 32 → to_bits n 0xFFFFFFFF ≡ replicate n 1
ones j n e = sym (rw e at (drop-to_bits j n 0xFFFFFFFF)) ∙ ap (drop j) all_ones ∙ (rw e at (drop-replicate j n 1))

pub start_none : to_bits 32 0xFFFFFFFF ≡ start 0
unfolding start
start_none = all_ones

pub start-long : (n : ℕ) → 32 ≤ n → to_bits 32 0xFFFFFFFF ≡ start n
unfolding start
start-long n h = rw (le-leb 1 n (omega arith), le-ltb n 32 h) all_ones

pub start-short : (n : ℕ) → 0 < n → n < 32 → to_bits 32 (0xFFFFFFFF * 2 ^ (32 - n) % 2 ^ 32) ≡ start n
unfolding start
start-short n h k =
    let e : n + (32 - n) ≡ 32 = omega arith in
    rw (to_bits-mod 32 (0xFFFFFFFF * 2 ^ (32 - n)), le-leb 1 n h, lt-ltb n 32 k)
    ((rw e at (shifted n (32 - n) 0xFFFFFFFF)) ∙ ap (λ (l : List ℕ). l ++ replicate (32 - n) 0) (ones (32 - n) n (omega arith)))

pub start-bits : (n : ℕ) → (s : ℕ) × (to_bits 32 s ≡ start n)
start-bits zero = (0xFFFFFFFF, start_none)
start-bits (suc n) = go (ltb (suc n) 32) refl
  where
    go : (t : Bool) → ltb (suc n) 32 ≡ t → (s : ℕ) × (to_bits 32 s ≡ start (suc n))
    go true e = (0xFFFFFFFF * 2 ^ (32 - suc n) % 2 ^ 32, start-short (suc n) (omega arith) (ltb-true (suc n) 32 e))
    go false e = (0xFFFFFFFF, start-long (suc n) (ltb-false (suc n) 32 e))

turned : (b p v w : ℕ) → b < 2 → v + w + 1 ≡ p → sum b 1 * p + v + (b * p + w) + 1 ≡ p * 2
turned zero p v w h e = omega arith
turned (suc zero) p v w h e = omega arith
turned (suc (suc b)) p v w h e = absurd (omega arith)

value-inverted : (l : List ℕ) → AllBits l → value (inverted l) + value l + 1 ≡ 2 ^ length l
unfolding value
value-inverted [] h = refl
value-inverted (b ∷ l) h =
    rw (length-map l (λ (x : ℕ). sum x 1), pow-suc 2 (length l))
    (turned b (2 ^ length l) (value (inverted l)) (value l) h.0 (value-inverted l h.1))

-- The check bits are what is carried at the end, inverted.
pub fcs-fed : (s : ℕ) (m : List ℕ) → AllBits m → to_bits 32 s ≡ start (length m) → value (fcs m) ≡ 0xFFFFFFFF - fed s m
unfolding fcs
fcs-fed s m h e =
    let i = value-inverted (to_bits 32 (fed s m)) (all-to_bits 32 (fed s m)) in
    let v = value-to_bits 32 (fed s m) ∙ mod-eq_of_lt (fed-lt s m h) in
    let w : value (inverted (to_bits 32 (fed s m))) + fed s m + 1 ≡ 2 ^ 32 = rw (v, length-to_bits 32 (fed s m)) at i in
    rw (← e, ← fed-to_bits s m h) (omega arith)
