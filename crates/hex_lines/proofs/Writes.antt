-- Laws of what is written.
use Prim.Native.Nat.{ℕ, ◌+◌, ◌*◌, ◌/◌, ◌%◌, ◌≤◌, ◌<◌}
use native.Mathlib.Omega.{arith}
use native.Mathlib.Numerals.{add-one}
use mathlib.Core.Path.{◌≡◌, refl}
use mathlib.Core.List.{List, [], ◌∷◌, ◌++◌}
use borrow.Author.Tests.{lt-ltb, le-ltb}
use lib.Dec.{ltb}
use lib.ListN.{length, get_or, take, length-append}
use lib.Seq.{take_all, take-suc, length-take-le}
use Rattle.std.proofs.lemmas.Bool.{cond_both}
use Rattle.lists.specs.Writes.{Wrote}
use Rattle.lists.proofs.Writes.{◌⨾◌, as_long, wrote_none}
use Rattle.hex_lines.specs.Lines.{line_end, hex_of, decimal_of}

-- ---- digits

pub hex_of-append : (bs cs : List ℕ) → hex_of (bs ++ cs) ≡ hex_of bs ++ hex_of cs
unfolding hex_of
hex_of-append [] cs = refl
hex_of-append (b ∷ bs) cs = rw (hex_of-append bs cs)

pub length-hex_of : (bs : List ℕ) → length (hex_of bs) ≡ 2 * length bs
unfolding hex_of
length-hex_of [] = refl
length-hex_of (b ∷ bs) = omega (arith, length-hex_of bs)

-- ---- a line of digits

-- The digits of the first i bytes are written: how far that comes, no digits yet, one byte more, and what stands behind them.
pub digits_place :
    {l m : List ℕ} {at p : ℕ} (bytes : List ℕ) (i : ℕ)
    → Wrote l at (hex_of (take i bytes)) m p
    → i ≤ length bytes
    → (p ≡ at + 2 * i) × (length m ≡ length l)
digits_place bytes i w h = (omega (arith, w.next, length-hex_of (take i bytes), length-take-le i bytes h), as_long w)

pub no-digits : (l bytes : List ℕ) (at : ℕ) → Wrote l at (hex_of (take 0 bytes)) l at
unfolding hex_of
no-digits l bytes at = wrote_none l at

pub two-more :
    {l m k : List ℕ} {at p q : ℕ} (bytes : List ℕ) (i : ℕ)
    → Wrote l at (hex_of (take i bytes)) m p
    → i < length bytes
    → Wrote m p (hex_of (get_or bytes i 0 ∷ [])) k q
    → Wrote l at (hex_of (take (i + 1) bytes)) k q
two-more bytes i d h w =
    rw (add-one i, take-suc bytes i 0 h, hex_of-append (take i bytes) (get_or bytes i 0 ∷ [])) (d ⨾ w)

pub behind-all :
    {l m k vs : List ℕ} {at p q : ℕ} (bytes : List ℕ) (i : ℕ)
    → Wrote l at (hex_of (take i bytes)) m p
    → length bytes ≤ i
    → Wrote m p vs k q
    → Wrote l at (hex_of bytes ++ vs) k q
behind-all bytes i d h w =
    let whole : take i bytes ≡ bytes = take_all i bytes h in rw (← whole) (d ⨾ w)

-- ---- a number

pub one-digit : (n : ℕ) → n < 10 → decimal_of n ≡ (48 + n) ∷ []
unfolding decimal_of
one-digit n h = rw (lt-ltb n 10 h)

pub two_digits : (n : ℕ) → 10 ≤ n → n < 100 → decimal_of n ≡ (48 + n / 10) ∷ ((48 + n % 10) ∷ [])
unfolding decimal_of
two_digits n l h = rw (le-ltb n 10 l, lt-ltb n 100 h)

pub three-digits : (n : ℕ) → 10 ≤ n → 100 ≤ n → decimal_of n ≡ (48 + n / 100) ∷ ((48 + n / 10 % 10) ∷ ((48 + n % 10) ∷ []))
unfolding decimal_of
three-digits n l h = rw (le-ltb n 10 l, le-ltb n 100 h)

-- The same write, of what is the same list and comes to the same place.
pub placed : {l vs m k : List ℕ} {i p q : ℕ} → m ≡ k → p ≡ q → Wrote l i vs k q → Wrote l i vs m p
placed e f w = rw (e, f) w

-- ---- for callers

-- How long a line of digits is, and at most a number's line.
pub line-length : (bytes : List ℕ) → length (hex_of bytes ++ (line_end ∷ [])) ≡ 2 * length bytes + 1
line-length bytes = omega (arith, length-append (hex_of bytes) (line_end ∷ []), length-hex_of bytes)

pub number-length : (n : ℕ) → length (decimal_of n ++ (line_end ∷ [])) ≤ 4
unfolding decimal_of
number-length n =
    cond_both (ltb n 10) _ _ (λ (l : List ℕ). length (l ++ (line_end ∷ [])) ≤ 4)
    (λ t. omega arith)
    (λ t. cond_both (ltb n 100) _ _ (λ (l : List ℕ). length (l ++ (line_end ∷ [])) ≤ 4) (λ u. omega arith) (λ u. omega arith))
