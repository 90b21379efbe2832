-- The places of an array that a pass leaves empty.
use Prim.Native.Nat.{ℕ, ◌+◌, ◌-◌, max}
use native.Mathlib.Omega.{arith}
use mathlib.Core.Path.{◌≡◌, ◌∙◌, sym, ap, ap₂}
use mathlib.Core.List.{List, [], ◌++◌}
use lib.ListN.{length, take, drop, replicate}
use lib.Seq.{drop-drop}
use Rattle.lists.specs.Arrays.{laid}
use Rattle.lists.proofs.Arrays.{laid_none}
use Rattle.llc_tick_end.proofs.Compacting.{Compacting}

module _ {A : Type 0} (empty : A) where
  -- The first n were filled with an empty element x.
  pub none-left :
      (n : ℕ) (l : List A) {x : A} {filled : List A}
      → length (take n l) ≡ n
      → x ≡ empty
      → filled ≡ replicate (length (take n l)) x
      → filled ++ drop n l ≡ laid empty n [] l
  none-left n l h e f =
      ap (λ (t : List A). t ++ drop n l) (f ∙ ap₂ replicate h e) ∙ sym (laid_none empty n l)

  -- Those from j on of the first n were, behind those that stay.
  pub some-left :
      (n j : ℕ) {old stays l : List A} {x : A} {filled : List A}
      → Compacting old stays n j l
      → length (take (n - j) (drop j l)) ≡ n - j
      → x ≡ empty
      → filled ≡ replicate (length (take (n - j) (drop j l))) x
      → take j l ++ (filled ++ drop (n - j) (drop j l)) ≡ laid empty n stays old
  unfolding laid
  some-left n j {old} {stays} {l} c h e f =
      let free : n - j ≡ n - length stays = omega (arith, c.count) in
      let most : n ≡ max n (length stays) = omega (arith, c.count, c.low) in
      let all : j + (n - j) ≡ n = omega (arith, c.low) in
      ap₂ (λ (s t : List A). s ++ t) c.front
      (ap₂ (λ (s t : List A). s ++ t)
      (f ∙ ap₂ replicate (h ∙ free) e)
      (drop-drop (n - j) j l ∙ ap (λ (k : ℕ). drop k l) all ∙ c.back ∙ ap (λ (k : ℕ). drop k old) most))
