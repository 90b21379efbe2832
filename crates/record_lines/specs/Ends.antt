-- Where a record ends.
use Rattle.std.specs.Prelude.{ℕ, ◌≤◌, ◌<◌, ◌≡◌, List, ◌∷◌, length, take, drop}
use Rattle.record_lines.specs.Split.{split}

-- The first record of the bytes l ends before place e.
pub record Ends (l : List ℕ) (e : ℕ) : Type 0 where
  pub later : 0 < e
  pub within : e ≤ length l
  pub cuts : split l ≡ take e l ∷ split (drop e l)
