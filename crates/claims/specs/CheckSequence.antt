-- The check sequence (fcs).
use Rattle.std.specs.Prelude.{ℕ, ◌+◌, ◌≡◌, true, List, ◌++◌, length, replicate}
use Rattle.bits.specs.Bits.{AllBits}
use Rattle.fcs.specs.Polynomials.{Divided, plus, rest}
use Rattle.fcs.specs.Fcs.{fcs, inverted, start}
use Rattle.fcs.specs.Register.{Ruled}
use Rattle.fcs.proofs.Table.{right}

pub record CheckSequence : Type 0 where
  -- `rest` is what is left of a division, with some quotient.
  pub remainder : (n : ℕ) (l : List ℕ) → AllBits l → length l ≡ n + 32 → Divided n l (rest n l)
  -- What is left with any quotient is `rest`.
  pub only-remainder : (n : ℕ) (l r : List ℕ) → Divided n l r → rest n l ≡ r
  -- The check bits, inverted, are what is left of the message times x ^ 32 with the start added.
  pub fcs-divided : (m : List ℕ) → AllBits m → Divided (length m) (plus (start (length m)) (m ++ replicate 32 0)) (inverted (fcs m))
  -- There are 32 of them, whatever they are of.
  pub length-fcs : (m : List ℕ) → length (fcs m) ≡ 32
  -- A table of 256 that passes the computed test follows the rule.
  pub ruled : (l : List ℕ) → length l ≡ 256 → right 0 l ≡ true → Ruled l
