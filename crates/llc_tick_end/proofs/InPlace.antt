-- An array l of which the first i elements are those of p: a queue that is passed through in place.
use Prim.Native.Nat.{ℕ, suc, ◌+◌, ◌-◌, ◌<◌, max}
use native.Mathlib.Omega.{arith}
use mathlib.Core.Path.{◌≡◌, ◌∙◌, sym, ap}
use mathlib.Core.List.{List, [], ◌∷◌, ◌++◌, append_assoc}
use lib.ListN.{length, get_or, set, drop}
use lib.Seq.{drop-cons, get_or_at, set_at}
use Rattle.lists.specs.Arrays.{laid}

module _ {A : Type 0} where
  module _ (p l : List A) (i : ℕ) (d : A) (e : length p ≡ i) (h : i < length l) where
    parts : p ++ drop i l ≡ p ++ (get_or l i d ∷ drop (suc i) l)
    parts = ap (λ (t : List A). p ++ t) (drop-cons l i d h)

    joined : (x : A) → p ++ (x ∷ drop (suc i) l) ≡ (p ++ (x ∷ [])) ++ drop (i + 1) l
    joined x =
        let one : suc i ≡ i + 1 = omega arith in
        sym (append_assoc p (x ∷ []) (drop (suc i) l)) ∙ ap (λ (k : ℕ). (p ++ (x ∷ [])) ++ drop k l) one

    -- The next element is the array's own. It is left there, or another is put in its place.
    pub next-is : get_or (p ++ drop i l) i d ≡ get_or l i d
    next-is = ap (λ (t : List A). get_or t i d) parts ∙ get_or_at p (get_or l i d) (drop (suc i) l) d i e

    pub next-left : p ++ drop i l ≡ (p ++ (get_or l i d ∷ [])) ++ drop (i + 1) l
    next-left = parts ∙ joined (get_or l i d)

    pub next-set : (x : A) → set (p ++ drop i l) i x ≡ (p ++ (x ∷ [])) ++ drop (i + 1) l
    next-set x =
        ap (λ (t : List A). set t i x) parts ∙ set_at p (get_or l i d) (drop (suc i) l) x i e ∙ joined x

  -- As many in use as there were: no element becomes free.
  pub laid-over : (empty : A) (n : ℕ) (used l : List A) → length used ≡ n → laid empty n used l ≡ used ++ drop n l
  unfolding laid
  laid-over empty n used l e =
      let none : n - length used ≡ 0 = omega arith in
      let most : max n (length used) ≡ n = omega arith in
      rw (none, most)
