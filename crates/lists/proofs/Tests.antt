-- Laws of a test that all elements of a list pass.
use Prim.Native.Nat.{ℕ, zero, suc, ◌≤◌, ◌<◌}
use native.Mathlib.Omega.{arith}
use mathlib.Core.Path.{◌≡◌, ◌∙◌, refl, sym, ap}
use mathlib.Core.Bool.{Bool, true}
use mathlib.Core.List.{List, [], ◌∷◌}
use lib.ListN.{length, get_or, set, take}
use lib.Seq.{get_or-take, length-take-le}
use Rattle.std.proofs.lemmas.Bool.{and_parts, and_from}
use Rattle.lists.specs.Lists.{all, All}

module _ {A : Type 0} (p : A → Bool) where
  -- One test after the other, and all at once.
  pub all-each : (l : List A) → all p l ≡ true → All (λ (x : A). p x ≡ true) l
  unfolding all
  all-each [] h = tt
  all-each (x ∷ l) h = let t = and_parts (p x) (all p l) h in (t.0, all-each l t.1)

  pub each_all : (l : List A) → All (λ (x : A). p x ≡ true) l → all p l ≡ true
  unfolding all
  each_all [] a = refl
  each_all (x ∷ l) a = and_from _ _ a.0 (each_all l a.1)

  -- A list with another that passes in a place.
  pub all_set : (l : List A) (i : ℕ) (x : A) → p x ≡ true → all p l ≡ true → all p (set l i x) ≡ true
  unfolding all
  all_set [] i x e h = refl
  all_set (y ∷ l) zero x e h = and_from _ _ e (and_parts (p y) (all p l) h).1
  all_set (y ∷ l) (suc i) x e h =
      let t = and_parts (p y) (all p l) h in and_from _ _ t.0 (all_set l i x e t.1)

  -- One of those that all pass, and one of the first n of an array that do.
  pub all-at : (l : List A) (i : ℕ) (d : A) → all p l ≡ true → i < length l → p (get_or l i d) ≡ true
  unfolding all
  all-at [] i d h k = absurd (omega (arith, k))
  all-at (x ∷ l) zero d h k = (and_parts _ (all p l) h).0
  all-at (x ∷ l) (suc i) d h k = all-at l i d (and_parts (p x) _ h).1 (omega (arith, k))

  pub used-at :
      (n : ℕ) (l : List A) (i : ℕ) (d : A)
      → all p (take n l) ≡ true
      → i < n
      → n ≤ length l
      → p (get_or l i d) ≡ true
  used-at n l i d h k m =
      sym (ap p (get_or-take n l i d k)) ∙ all-at (take n l) i d h (omega (arith, k, length-take-le n l m))
