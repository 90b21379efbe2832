-- The same in std's words, which are those of iterators.
use Prim.Native.Nat.{ℕ}
use native.Mathlib.Omega.{arith}
use mathlib.Core.Path.{◌≡◌, ◌∙◌, refl, sym, ap}
use mathlib.Core.Bool.{Bool, true, false, cond, ◌&&◌, ◌||◌, false≢true}
use mathlib.Core.List.{List, [], ◌∷◌}
use borrow.Author.Tests.{ltb-false}
use lib.Dec.{ltb}
use lib.ListN.{length}
use Rattle.std.specs.List as Std
use Rattle.std.specs.Prelude as Prelude
use Rattle.std.specs.Prelude.{Some, None, is_some}
use Rattle.lists.specs.Lists.{any, all}
use Rattle.lists.specs.Arrays.{position, place_in}
use Rattle.lists.proofs.Arrays.{position-most, position-any}
use Rattle.lists.proofs.Choices.{by-test}

module _ {A : Type 0} (p : A → Bool) where
  pub all_list : (l : List A) → Std.list_all p l ≡ all p l
  unfolding all
  all_list [] = refl
  all_list (x ∷ l) = ap (λ (b : Bool). p x && b) (all_list l)

  pub any-list : (l : List A) → Std.list_any p l ≡ any p l
  unfolding any
  any-list [] = refl
  any-list (x ∷ l) = ap (λ (b : Bool). p x || b) (any-list l)

  -- A search in n elements.
  before-first : (l : List A) → Std.position_or_len p l ≡ position p l
  unfolding position
  before-first [] = refl
  before-first (x ∷ l) = by-test (p x) (λ e. rw e) (λ e. rw e (omega (arith, before-first l)))

  pub position-list : (n : ℕ) (l : List A) → length l ≡ n → place_in n (Prelude.position p l) ≡ position p l
  position-list n l h =
      rw (before-first l) (by-test (ltb (position p l) (length l)) (λ e. rw e) (λ e. rw e (omega (arith, h, position-most p l, ltb-false (position p l) (length l) e))))

  -- What it says of the list that it found one, and that it found none.
  pub position-choice : (l : List A) → Prelude.position p l ≡ cond (any p l) (Some (position p l)) None
  position-choice l = rw (before-first l, position-any p l) refl

  pub position-some : (l : List A) {i : ℕ} → Prelude.position p l ≡ Some i → (any p l ≡ true) × (i ≡ position p l)
  position-some l {i} e =
      by-test (any p l)
      (λ t. (t, ap (place_in 0) (sym e ∙ position-choice l ∙ ap (λ (b : Bool). cond b (Some (position p l)) None) t)))
      (λ f. absurd (false≢true (ap is_some (sym (position-choice l ∙ ap (λ (b : Bool). cond b (Some (position p l)) None) f) ∙ e))))

  pub position-none : (l : List A) → Prelude.position p l ≡ None → (any p l ≡ false) × (position p l ≡ length l)
  position-none l e =
      by-test (any p l)
      (λ t. absurd (false≢true ((ap is_some (sym e ∙ position-choice l ∙ ap (λ (b : Bool). cond b (Some (position p l)) None) t)))))
      (λ f. (f, omega (arith, position-most p l, ltb-false (position p l) (length l) (sym (position-any p l) ∙ f))))
