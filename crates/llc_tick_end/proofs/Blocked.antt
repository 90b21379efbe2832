-- The SSIs that are blocked, in an array that is filled from its front; they are the newest first, as a walk has them.
use Prim.Native.Nat.{ℕ, ◌+◌, ◌≤◌, ◌<◌}
use native.Mathlib.Omega.{arith}
use mathlib.Core.Path.{◌≡◌, ◌∙◌, refl, ap}
use mathlib.Core.List.{List, [], ◌∷◌}
use lib.ListN.{length, set, take, replicate, length-set}
use Rattle.std.specs.Prelude.{reverse}
use Rattle.std.proofs.lemmas.List.{take_more_set, reverse-append}

-- The first k of the array are the blocked ones, at most one for each turn before i.
pub record Filled (ssis : List ℕ) (k i : ℕ) (blocked : List ℕ) : Type 0 where
  pub long : length ssis ≡ 64
  pub low : k ≤ i
  pub holds : reverse (take k ssis) ≡ blocked

pub none_yet : Filled (replicate 64 0) 0 0 []
none_yet = record { long = refl; low = omega arith; holds = refl }

module _ {ssis : List ℕ} {k i : ℕ} {blocked : List ℕ} (f : Filled ssis k i blocked) where
  -- A turn that blocks none, and one that blocks x.
  pub as_before : Filled ssis k (i + 1) blocked
  as_before = record { long = f.long; low = omega (arith, f.low); holds = f.holds }

  pub one_more : (x : ℕ) → i < 64 → Filled (set ssis k x) (k + 1) (i + 1) (x ∷ blocked)
  one_more x h = record {
    long = length-set ssis k x ∙ f.long;
    low = omega (arith, f.low);
    holds =
        ap reverse (take_more_set ssis k x (omega (arith, h, f.low, f.long)))
        ∙ reverse-append (take k ssis) (x ∷ [])
        ∙ ap (λ (l : List ℕ). x ∷ l) f.holds;
  }
