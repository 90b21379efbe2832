-- A function on every element of a list, with other operations on lists.
use mathlib.Core.Path.{◌≡◌, refl, sym, ◌∙◌, ap}
use mathlib.Core.Bool.{Bool, cond, ◌||◌}
use mathlib.Core.List.{List, [], ◌∷◌, map}
use Rattle.lists.specs.Lists.{any, Found, nothing, first, behind, find, others}
use Rattle.lists.proofs.Choices.{ap-cond}

module _ {A B : Type 0} (g : A → B) where
  pub map-map : {C : Type 0} (f : B → C) (l : List A) → map f (map g l) ≡ map (λ (x : A). f (g x)) l
  map-map f [] = refl
  map-map f (x ∷ l) = ap (λ (t : List _). f (g x) ∷ t) (map-map f l)

  -- What is found in it.
  abbrev pub map_found : Found A → Found B
  map_found nothing = nothing
  map_found (first x xs) = first (g x) (map g xs)

  map-behind : (x : A) (f : Found A) → behind (g x) (map_found f) ≡ map_found (behind x f)
  map-behind x nothing = refl
  map-behind x (first y ys) = refl

  pub find-map : (p : B → Bool) (l : List A) → find p (map g l) ≡ map_found (find (λ (x : A). p (g x)) l)
  unfolding find
  find-map p [] = refl
  find-map p (x ∷ l) =
      ap (cond (p (g x)) (first (g x) (map g l)))
      (ap (behind (g x)) (find-map p l) ∙ map-behind x (find (λ (y : A). p (g y)) l))
      ∙ sym (ap-cond map_found (p (g x)) (first x l) (behind x (find (λ (y : A). p (g y)) l)))

  pub any-map : (p : B → Bool) (l : List A) → any p (map g l) ≡ any (λ (x : A). p (g x)) l
  unfolding any
  any-map p [] = refl
  any-map p (x ∷ l) = ap (λ (b : Bool). p (g x) || b) (any-map p l)

  pub others-map : (f : Found A) (l : List A) → others (map_found f) (map g l) ≡ map g (others f l)
  others-map nothing l = refl
  others-map (first x xs) l = refl
