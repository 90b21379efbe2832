-- The laws of the 32 bits that the code carries: one part of a message after the other, and k bits at once.
use Prim.Native.Nat.{ℕ, ◌+◌, ◌*◌, ◌/◌, ◌%◌, ◌^◌, ◌<◌, ◌≤◌}
use native.Mathlib.Nat.{mod-eq_of_lt}
use native.Mathlib.Omega.{arith}
use mathlib.Core.Path.{◌≡◌, ◌∙◌, refl, sym, ap}
use mathlib.Core.List.{List, [], ◌++◌, append_assoc}
use lib.ListN.{length, take, drop, length-append, take-append-drop, replicate}
use lib.Bits.{bit_xor, xor_lt}
use lib.Seq.{take-add}
use Rattle.bits.specs.Bits.{to_bits, value, part, AllBits}
use Rattle.bits.proofs.Laws.{length-to_bits, to_bits-append, to_bits-mod, value-to_bits, all-to_bits, all_append, all_take, all_drop, value-below, to_bits-value}
use Rattle.bits.proofs.Bytes.{all-zeros, shifted}
use Rattle.fcs.specs.Polynomials.{plus, rest}
use Rattle.fcs.specs.Register.{fed, entry}
use Rattle.fcs.proofs.Division.{plus_comm, plus_assoc, to_bits-xor, rest-zero, rest-plus, rest-add, length-plus, length_rest, all-plus, all_rest, zeros-plus, plus-zeros, plus-append, rest-head}

-- What is left of n coefficients and 32 more is 32 bits.
module _ (n : ℕ) (l : List ℕ) (long : length l ≡ n + 32) (h : AllBits l) where
  length-left : length (rest n l) ≡ 32
  length-left = omega (arith, length_rest n l (omega arith))

  left-to_bits : to_bits 32 (value (rest n l)) ≡ rest n l
  left-to_bits = rw length-left at (to_bits-value (rest n l) (all_rest n l h))

  left_lt : value (rest n l) < 2 ^ 32
  left_lt = rw length-left at (value-below (rest n l) (all_rest n l h))

length-tail : (m : List ℕ) → length (m ++ replicate 32 0) ≡ length m + 32
length-tail m = length-append m (replicate 32 0)

module _ (crc : ℕ) (m : List ℕ) (h : AllBits m) where
  pub length-dividend : length (plus (to_bits 32 crc) (m ++ replicate 32 0)) ≡ length m + 32
  length-dividend = omega (arith, length-plus (to_bits 32 crc) (m ++ replicate 32 0), length-to_bits 32 crc, length-tail m)

  pub all-dividend : AllBits (plus (to_bits 32 crc) (m ++ replicate 32 0))
  all-dividend =
      all-plus (to_bits 32 crc) (m ++ replicate 32 0) (all-to_bits 32 crc) (all_append m (replicate 32 0) h (all-zeros 32))

  pub fed-to_bits : to_bits 32 (fed crc m) ≡ rest (length m) (plus (to_bits 32 crc) (m ++ replicate 32 0))
  unfolding fed
  fed-to_bits = left-to_bits (length m) (plus (to_bits 32 crc) (m ++ replicate 32 0)) length-dividend all-dividend

  pub fed-lt : fed crc m < 2 ^ 32
  unfolding fed
  fed-lt = left_lt (length m) (plus (to_bits 32 crc) (m ++ replicate 32 0)) length-dividend all-dividend

fed-is : (crc : ℕ) (m : List ℕ) → fed crc m ≡ value (rest (length m) (plus (to_bits 32 crc) (m ++ replicate 32 0)))
unfolding fed
fed-is crc m = refl

-- After the first part its 32 bits stand before the second.
carried : (crc : ℕ) (l w : List ℕ) → AllBits l → AllBits w → 32 ≤ length w
    → rest (length l) (plus (to_bits 32 crc) (l ++ w)) ≡ plus (to_bits 32 (fed crc l)) w
carried crc l w h k long =
    rw (
      rest-plus (length l) (to_bits 32 crc) (l ++ w),
      rest-head l w k long,
      ← plus_assoc (rest (length l) (to_bits 32 crc)) (rest (length l) (l ++ replicate 32 0)) w,
      ← rest-plus (length l) (to_bits 32 crc) (l ++ replicate 32 0),
      fed-to_bits crc l h,
    )

-- The second part goes on where the first one stops.
pub fed-append : (crc : ℕ) (l m : List ℕ) → AllBits l → AllBits m → fed crc (l ++ m) ≡ fed (fed crc l) m
fed-append crc l m h k =
    fed-is crc (l ++ m)
    ∙ ap value
    (rw (
      length-append l m,
      append_assoc l m (replicate 32 0),
      rest-add (length l) (length m) (plus (to_bits 32 crc) (l ++ (m ++ replicate 32 0))),
      carried crc l (m ++ replicate 32 0) h (all_append m (replicate 32 0) k (all-zeros 32)) (rw (length-tail m) (omega arith)),
    ))
    ∙ sym (fed-is (fed crc l) m)

pub fed-none : (crc : ℕ) → crc < 2 ^ 32 → fed crc [] ≡ crc
fed-none crc h =
    fed-is crc []
    ∙ ap value
    (rest-zero (plus (to_bits 32 crc) (replicate 32 0)) ∙ plus_comm (to_bits 32 crc) (replicate 32 0)
    ∙ zeros-plus 32 (to_bits 32 crc) (all-to_bits 32 crc) (rw (length-to_bits 32 crc) (omega arith)))
    ∙ value-to_bits 32 crc
    ∙ mod-eq_of_lt h

module _ (k q : ℕ) where
  length-entry : length (to_bits k q ++ replicate 32 0) ≡ k + 32
  length-entry = rw (length-tail (to_bits k q), length-to_bits k q)

  all-entry : AllBits (to_bits k q ++ replicate 32 0)
  all-entry = all_append (to_bits k q) (replicate 32 0) (all-to_bits k q) (all-zeros 32)

  entry-to_bits : to_bits 32 (entry k q) ≡ rest k (to_bits k q ++ replicate 32 0)
  unfolding entry
  entry-to_bits = left-to_bits k (to_bits k q ++ replicate 32 0) length-entry all-entry

  pub entry_lt : entry k q < 2 ^ 32
  unfolding entry
  entry_lt = left_lt k (to_bits k q ++ replicate 32 0) length-entry all-entry

  entry-rest : (w : List ℕ) → AllBits w → 32 ≤ length w → rest k (to_bits k q ++ w) ≡ plus (to_bits 32 (entry k q)) w
  entry-rest w h long = rw entry-to_bits (rw (length-to_bits k q) at (rest-head (to_bits k q) w h long))

-- k bits to be divided, and the 32 less k bits behind them.
module _ (j k crc : ℕ) where
  ahead : (v : ℕ) (z : List ℕ) → plus (to_bits (k + j) crc) (to_bits k v ++ z) ≡ to_bits k (bit_xor (crc / 2 ^ j) v) ++ plus (to_bits j crc) z
  ahead v z =
      rw (
        to_bits-append k j crc,
        plus-append (to_bits k (crc / 2 ^ j)) (to_bits j crc) (to_bits k v) z (length-to_bits k (crc / 2 ^ j) ∙ sym (length-to_bits k v)),
        to_bits-xor k (crc / 2 ^ j) v,
      )

  behind : plus (to_bits j crc) (replicate (j + k) 0) ≡ to_bits (j + k) (crc * 2 ^ k)
  behind = rw (length-to_bits j crc) at (plus-zeros (to_bits j crc) k (all-to_bits j crc)) ∙ sym (shifted j k crc)

  divided : (v : ℕ) → k + j ≡ 32
      → plus (to_bits 32 crc) (to_bits k v ++ replicate 32 0) ≡ to_bits k (bit_xor (crc / 2 ^ j) v) ++ to_bits 32 (crc * 2 ^ k)
  divided v e =
      let f : j + k ≡ 32 = omega arith in
      (rw e at (ahead v (replicate 32 0))) ∙ ap (λ (w : List ℕ). to_bits k (bit_xor (crc / 2 ^ j) v) ++ w) (rw f at behind)

-- k bits at once, by a table of their remainders.
pub fed-step : (j k crc v : ℕ) → k + j ≡ 32
    → fed crc (to_bits k v) ≡ bit_xor (crc * 2 ^ k % 2 ^ 32) (entry k (bit_xor (crc / 2 ^ j) v))
fed-step j k crc v e =
    let q : ℕ = bit_xor (crc / 2 ^ j) v in
    let x : ℕ = crc * 2 ^ k in
    fed-is crc (to_bits k v)
    ∙ ap value
    (rw (
      length-to_bits k v,
      divided j k crc v e,
      entry-rest k q (to_bits 32 x) (all-to_bits 32 x) (rw (length-to_bits 32 x) (omega arith)),
      plus_comm (to_bits 32 (entry k q)) (to_bits 32 x),
      ← to_bits-mod 32 x,
    )
    (sym (to_bits-xor 32 (x % 2 ^ 32) (entry k q))))
    ∙ value-to_bits 32 (bit_xor (x % 2 ^ 32) (entry k q))
    ∙ mod-eq_of_lt (xor_lt 32 (x % 2 ^ 32) (entry k q) (omega arith) (entry_lt k q))

-- A message in two parts; k bits more are fed after those before them.
pub fed-cut : (crc : ℕ) (m : List ℕ) (i : ℕ) → AllBits m → fed crc m ≡ fed (fed crc (take i m)) (drop i m)
fed-cut crc m i h =
    ap (fed crc) (sym (take-append-drop i m)) ∙ fed-append crc (take i m) (drop i m) (all_take i m h) (all_drop i m h)

pub fed-more : (crc : ℕ) (m : List ℕ) (i k : ℕ) → AllBits m → fed crc (take (i + k) m) ≡ fed (fed crc (take i m)) (part m i k)
fed-more crc m i k h =
    rw (take-add i k m)
    (fed-append crc (take i m) (part m i k) (all_take i m h) (all_take k (drop i m) (all_drop i m h)))
