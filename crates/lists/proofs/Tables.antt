-- Laws of tables.
use Prim.Native.Nat.{suc}
use mathlib.Core.Path.{◌≡◌, refl, ap}
use mathlib.Core.Bool.{Bool, true, false, cond}
use mathlib.Core.List.{List, [], ◌∷◌, map}
use lib.ListN.{length, get_or}
use Rattle.lists.specs.Lists.{any, All, first_or, filed}
use Rattle.lists.specs.Arrays.{position, placed}
use Rattle.lists.proofs.Choices.{by-test, either}

module _ {A : Type 0} where
  -- The row that was filed is found, and no other is changed.
  pub first-filed : (p : A → Bool) (d y : A) (l : List A) → p y ≡ true → first_or p d (filed p y l) ≡ y
  unfolding first_or filed
  first-filed p d y [] e = rw e
  first-filed p d y (x ∷ l) e = by-test (p x) (λ t. rw (t, e)) (λ t. rw (t, t) (first-filed p d y l e))

  pub first-beside :
      (p q : A → Bool) (d y : A) (l : List A)
      → ((x : A) → p x ≡ true → q x ≡ false)
      → p y ≡ true
      → first_or q d (filed p y l) ≡ first_or q d l
  unfolding first_or filed
  first-beside p q d y [] apart e = rw (apart y e)
  first-beside p q d y (x ∷ l) apart e =
      by-test (p x)
      (λ t. rw (t, apart y e, apart x t))
      (λ t. rw t (ap (cond (q x) x) (first-beside p q d y l apart e)))

  -- How many rows there are then.
  pub length-filed : (p : A → Bool) (y : A) (l : List A) → length (filed p y l) ≡ cond (any p l) (length l) (suc (length l))
  unfolding filed any
  length-filed p y [] = refl
  length-filed p y (x ∷ l) =
      by-test (p x) (λ e. rw e) (λ e. rw (e, length-filed p y l) (by-test (any p l) (λ q. rw q) (λ q. rw q)))

  -- What holds of each row and of the one that is filed.
  pub all-filed : (P : A → Type 0) (p : A → Bool) (y : A) (l : List A) → P y → All P l → All P (filed p y l)
  unfolding filed
  all-filed P p y [] e a = (e, tt)
  all-filed P p y (x ∷ l) e a = either (All P) (p x) (e, a.1) (a.0, all-filed P p y l e a.1)

  -- The table as an array: the row at the place where a search ends, and another put there.
  pub first-at : (p : A → Bool) (d : A) (l : List A) → first_or p d l ≡ get_or l (position p l) d
  unfolding first_or position
  first-at p d [] = refl
  first-at p d (x ∷ l) = by-test (p x) (λ e. rw e) (λ e. rw e (first-at p d l))

  pub filed-at : (p : A → Bool) (y : A) (l : List A) → filed p y l ≡ placed y (position p l) l
  unfolding filed position
  filed-at p y [] = refl
  filed-at p y (x ∷ l) = by-test (p x) (λ e. rw e) (λ e. rw e (ap (λ (t : List A). x ∷ t) (filed-at p y l)))

-- A table seen through a view of its rows.
module _ {A B : Type 0} (f : A → B) (p : A → Bool) (q : B → Bool) (same : (x : A) → q (f x) ≡ p x) where
  pub first-viewed : (d : A) (l : List A) → first_or q (f d) (map f l) ≡ f (first_or p d l)
  unfolding first_or
  first-viewed d [] = refl
  first-viewed d (x ∷ l) =
      by-test (p x) (λ e. rw (same x, e)) (λ e. rw (same x, e) (first-viewed d l))

  pub filed-viewed : (y : A) (l : List A) → filed q (f y) (map f l) ≡ map f (filed p y l)
  unfolding filed
  filed-viewed y [] = refl
  filed-viewed y (x ∷ l) =
      by-test (p x) (λ e. rw (same x, e)) (λ e. rw (same x, e) (ap (λ (t : List B). f x ∷ t) (filed-viewed y l)))
