-- Records (llc_records).
use Rattle.std.specs.Prelude.{ℕ, ◌+◌, ◌≤◌, ◌≡◌, List, ◌++◌, drop, length, take}
use Rattle.lists.specs.Writes.{write}

pub record Records : Type 0 where
  -- What was written stands between what was before it and what was behind it.
  pub write-is :
      (l : List ℕ) (i : ℕ) (vs : List ℕ)
      → i + length vs ≤ length l
      → write l i vs ≡ take i l ++ (vs ++ drop (i + length vs) l)
