-- The laws of check bits, for callers: there are 32 of them, whatever they are of.
use Prim.Native.Nat.{ℕ, ◌+◌}
use native.Mathlib.Omega.{arith}
use mathlib.Core.Path.{◌≡◌, ap}
use mathlib.Core.List.{List, [], ◌∷◌, ◌++◌}
use lib.ListN.{length, replicate, length-append, length-map}
use Rattle.bits.specs.Bits.{AllBits}
use Rattle.bits.proofs.Laws.{length-to_bits}
use Rattle.fcs.specs.Polynomials.{plus, rest, sum}
use Rattle.fcs.specs.Fcs.{start, inverted, fcs_bits, fcs}
use Rattle.fcs.proofs.Division.{length-plus, length_rest}
use Rattle.fcs.proofs.Ends.{start-bits}

pub length-fcs : (m : List ℕ) → length (fcs m) ≡ fcs_bits
unfolding fcs
length-fcs m =
    let n : ℕ = length m in
    let s = start-bits n in
    let l : List ℕ = plus (start n) (m ++ replicate 32 0) in
    let long : length l ≡ n + 32 =
    omega
    (arith, length-plus (start n) (m ++ replicate 32 0), length-append m (replicate 32 0), ap length s.1, length-to_bits 32 s.0) in
    omega (arith, length-map (rest n l) (λ (b : ℕ). sum b 1), length_rest n l (omega arith))

all-inverted : (l : List ℕ) → AllBits (inverted l)
all-inverted [] = tt
all-inverted (b ∷ l) = (omega arith, all-inverted l)

pub all-fcs : (m : List ℕ) → AllBits (fcs m)
unfolding fcs
all-fcs m = all-inverted (rest (length m) (plus (start (length m)) (m ++ replicate 32 0)))
