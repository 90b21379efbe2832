-- Polynomials over bits: a list of bits is a polynomial, the coefficient of the highest power first.
use Rattle.std.specs.Prelude.{ℕ, zero, suc, ◌+◌, ◌*◌, ◌%◌, ◌≡◌, List, [], ◌∷◌, ◌++◌, map, length, replicate}
use Rattle.bits.specs.Bits.{to_bits, AllBits}

-- The sum of two bits.
abbrev pub sum : ℕ → ℕ → ℕ
sum a b = (a + b) % 2

-- The sum of two polynomials whose first coefficients are of the same power: the shorter is followed by zeros.
unfoldable pub plus : List ℕ → List ℕ → List ℕ
plus [] ys = ys
plus (x ∷ xs) [] = x ∷ xs
plus (x ∷ xs) (y ∷ ys) = sum x y ∷ plus xs ys

-- A polynomial times a bit.
abbrev pub scaled : ℕ → List ℕ → List ℕ
scaled b d = map (λ (x : ℕ). b * x) d

-- The product of two polynomials: the first coefficient times d, and one power lower the others times d.
unfoldable pub times : List ℕ → List ℕ → List ℕ
times [] d = []
times (x ∷ xs) d = plus (scaled x d) (0 ∷ times xs d)

-- The divisor below its highest coefficient, which is 1: 04C11DB7, of 33 bits in all.
unfoldable pub divisor : List ℕ
divisor = to_bits 32 0x04C11DB7

-- What is left of a polynomial after n steps of long division by the divisor: at each step the first coefficient b is
-- taken away, with b times the divisor.
unfoldable pub rest : ℕ → List ℕ → List ℕ
rest zero l = l
rest (suc n) [] = []
rest (suc n) (b ∷ l) = rest n (plus (scaled b divisor) l)

-- l is n coefficients times the whole divisor of 33 bits, and r in the lowest 32 places.
pub record Divided (n : ℕ) (l r : List ℕ) : Type 0 where
  pub quotient : List ℕ
  pub long : length quotient ≡ n
  pub bits : AllBits quotient
  pub below : length r ≡ 32
  pub left : AllBits r
  pub exact : l ≡ plus (times quotient (1 ∷ divisor)) (replicate n 0 ++ r)
