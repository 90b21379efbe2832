-- Bytes written into a list, one behind the other, and the place behind them.
use Rattle.std.specs.Prelude.{ℕ, suc, ◌+◌, ◌≡◌, List, [], ◌∷◌, length, set}

-- l with vs in place of as many of its elements from i on.
unfoldable pub write : List ℕ → ℕ → List ℕ → List ℕ
write l i [] = l
write l i (v ∷ vs) = write (set l i v) (suc i) vs

-- vs was written to l from i on: m is what l then is, and j the place behind vs.
pub record Wrote (l : List ℕ) (i : ℕ) (vs : List ℕ) (m : List ℕ) (j : ℕ) : Type 0 where
  pub next : j ≡ i + length vs
  pub holds : m ≡ write l i vs
