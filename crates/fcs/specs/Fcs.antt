-- The frame check sequence, as document 01's paragraph of that name gives it: the remainder of the message times x ^ 32 on
-- division by 1 04C11DB7, with a start added to the first 32 coefficients, inverted.
use Rattle.std.specs.Prelude.{ℕ, ◌-◌, cond, ◌&&◌, List, ◌++◌, map, leb, ltb, length, replicate}
use Rattle.fcs.specs.Polynomials.{plus, sum, rest}

-- "Start all ones. For 1 to 31 bits the start is shifted left by 32 less the length."
unfoldable pub start : ℕ → List ℕ
start n = cond (leb 1 n && ltb n 32) (replicate n 1 ++ replicate (32 - n) 0) (replicate 32 1)

-- "Result inverted."
abbrev pub inverted : List ℕ → List ℕ
inverted l = map (λ (b : ℕ). sum b 1) l

-- How many check bits there are.
abbrev pub fcs_bits : ℕ
fcs_bits = 32

-- The 32 check bits of a message.
unfoldable pub fcs : List ℕ → List ℕ
fcs m = inverted (rest (length m) (plus (start (length m)) (m ++ replicate 32 0)))
