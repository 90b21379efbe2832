-- Laws of queues that lie in arrays.
use Prim.Native.Nat.compare
use Prim.Native.Nat.{ℕ, zero, suc, ◌-◌, max, ◌≤◌, ◌<◌}
use native.Mathlib.Omega.{arith}
use mathlib.Core.Path.{◌≡◌, ◌∙◌, refl, sym, ap}
use mathlib.Core.Bool.{Bool}
use mathlib.Core.List.{List, [], ◌∷◌, ◌++◌, append_assoc}
use borrow.Author.Tests.{lt-ltb}
use lib.Dec.{ltb}
use lib.ListN.{length, take, drop, get_or, set, replicate, length-append, length-take, length-drop, length-replicate, take-append-drop}
use lib.Seq.{length-take-le, take-append_seam, set_split}
use Rattle.lists.specs.Lists.{any, Found, nothing, first, behind, find, others}
use Rattle.lists.specs.Arrays.{position, without, laid}
use Rattle.lists.proofs.Choices.{by-test}

module _ {A : Type 0} where
  -- Where a search ends -----------------------------------------------------------------------------------------------------

  -- The place is at most the list's length.
  pub position-most : (p : A → Bool) (l : List A) → position p l ≤ length l
  unfolding position
  position-most p [] = omega arith
  position-most p (x ∷ l) = let ih = position-most p l in by-test (p x) (λ h. rw h (omega arith)) (λ h. rw h (omega arith))

  -- One passes where the place is within the list.
  pub position-any : (p : A → Bool) (l : List A) → any p l ≡ ltb (position p l) (length l)
  unfolding position any
  position-any p [] = refl
  position-any p (x ∷ l) =
      by-test (p x)
      (λ h. rw h (sym (lt-ltb 0 (suc (length l)) (omega arith))))
      (λ h. rw (h, compare.suc-suc) (position-any p l))

  -- What stands there is what `find` gives, and it gives nothing where none passes.
  pub found_at :
      (p : A → Bool) (l : List A) (d : A)
      → position p l < length l
      → find p l ≡ first (get_or l (position p l) d) (without (position p l) l)
  unfolding position find
  found_at p [] d h = absurd (omega (arith, h))
  found_at p (x ∷ l) d h =
      by-test (p x)
      (λ e. rw e)
      (λ e. rw e (ap (behind x) (found_at p l d (omega (arith, rw e at h)))))

  pub found_none : (p : A → Bool) (l : List A) → length l ≤ position p l → find p l ≡ nothing
  unfolding position find
  found_none p [] h = refl
  found_none p (x ∷ l) h =
      by-test (p x)
      (λ e. absurd (omega (arith, rw e at h)))
      (λ e. rw e (ap (behind x) (found_none p l (omega (arith, rw e at h)))))

  -- The others are the list without that place.
  others-behind : (x : A) (l : List A) (f : Found A) → others (behind x f) (x ∷ l) ≡ x ∷ others f l
  others-behind x l nothing = refl
  others-behind x l (first y ys) = refl

  pub others-without : (p : A → Bool) (l : List A) → others (find p l) l ≡ without (position p l) l
  unfolding position find
  others-without p [] = refl
  others-without p (x ∷ l) =
      by-test (p x)
      (λ e. rw e)
      (λ e. rw e (others-behind x l (find p l) ∙ ap (λ (t : List A). x ∷ t) (others-without p l)))

  -- A search in the first n ends at most there.
  pub position-within : (p : A → Bool) (n : ℕ) (l : List A) → position p (take n l) ≤ n
  position-within p n l = omega (arith, position-most p (take n l), length-take n l)

  -- Without the element of a place -----------------------------------------------------------------------------------------

  pub length_without : (i : ℕ) (l : List A) → i < length l → suc (length (without i l)) ≡ length l
  length_without i [] h = absurd (omega (arith, h))
  length_without zero (x ∷ l) h = refl
  length_without (suc i) (x ∷ l) h = ap suc (length_without i l (omega (arith, h)))

  pub without-none : (i : ℕ) (l : List A) → length l ≤ i → without i l ≡ l
  without-none zero [] h = refl
  without-none zero (x ∷ l) h = absurd (omega (arith, h))
  without-none (suc i) [] h = refl
  without-none (suc i) (x ∷ l) h = ap (λ (t : List A). x ∷ t) (without-none i l (omega (arith, h)))

  -- The first elements of it, and those behind them.
  pub take-without :
      (i m : ℕ) (l : List A)
      → i ≤ m
      → m < length l
      → take m (without i l) ≡ without i (take (suc m) l)
  take-without i m [] h k = absurd (omega (arith, k))
  take-without zero m (x ∷ l) h k = refl
  take-without (suc i) zero (x ∷ l) h k = absurd (omega (arith, h))
  take-without (suc i) (suc m) (x ∷ l) h k =
      ap (λ (t : List A). x ∷ t) (take-without i m l (omega (arith, h)) (omega (arith, k)))

  pub drop-without : (i m : ℕ) (l : List A) → i ≤ m → m < length l → drop m (without i l) ≡ drop (suc m) l
  drop-without i m [] h k = absurd (omega (arith, k))
  drop-without zero m (x ∷ l) h k = refl
  drop-without (suc i) zero (x ∷ l) h k = absurd (omega (arith, h))
  drop-without (suc i) (suc m) (x ∷ l) h k = drop-without i m l (omega (arith, h)) (omega (arith, k))

  -- An element of it, before the place and behind.
  pub get_d-before : (i m : ℕ) (l : List A) (d : A) → m < i → i < length l → get_or (without i l) m d ≡ get_or l m d
  get_d-before i m [] d h k = absurd (omega (arith, k))
  get_d-before zero m (x ∷ l) d h k = absurd (omega (arith, h))
  get_d-before (suc i) zero (x ∷ l) d h k = refl
  get_d-before (suc i) (suc m) (x ∷ l) d h k = get_d-before i m l d (omega (arith, h)) (omega (arith, k))

  pub get_d-behind : (i m : ℕ) (l : List A) (d : A) → i ≤ m → m < length l → get_or (without i l) m d ≡ get_or l (suc m) d
  get_d-behind i m [] d h k = absurd (omega (arith, k))
  get_d-behind zero m (x ∷ l) d h k = refl
  get_d-behind (suc i) zero (x ∷ l) d h k = absurd (omega (arith, h))
  get_d-behind (suc i) (suc m) (x ∷ l) d h k = get_d-behind i m l d (omega (arith, h)) (omega (arith, k))

  -- Other elements in use ---------------------------------------------------------------------------------------------------

  -- What it is made of, where at most n are in use, and where at least n are.
  pub laid-fewer :
      (empty : A) (n : ℕ) (used l : List A)
      → length used ≤ n
      → laid empty n used l ≡ used ++ (replicate (n - length used) empty ++ drop n l)
  unfolding laid
  laid-fewer empty n used l h =
      let e : max n (length used) ≡ n = omega arith in
      rw e

  pub laid_more : (empty : A) (n : ℕ) (used l : List A) → n ≤ length used → laid empty n used l ≡ used ++ drop (length used) l
  unfolding laid
  laid_more empty n used l h =
      let e : max n (length used) ≡ length used = omega arith in
      let f : n - length used ≡ 0 = omega arith in
      rw (e, f)

  -- The elements in use as they were, with one more, and with none.
  pub laid_same : (empty : A) (n : ℕ) (l : List A) → n ≤ length l → laid empty n (take n l) l ≡ l
  laid_same empty n l h =
      let e : length (take n l) ≡ n = length-take-le n l h in
      laid_more empty n (take n l) l (omega arith) ∙ rw e (take-append-drop n l)

  pub length_last : (n : ℕ) (l : List A) (x : A) → n ≤ length l → length (take n l ++ (x ∷ [])) ≡ suc n
  length_last n l x h = length-append (take n l) (x ∷ []) ∙ omega (arith, length-take-le n l h)

  pub laid-last :
      (empty : A) (n : ℕ) (l : List A) (x : A)
      → n < length l
      → laid empty n (take n l ++ (x ∷ [])) l ≡ set l n x
  laid-last empty n l x h =
      let e = length_last n l x (omega arith) in
      laid_more empty n (take n l ++ (x ∷ [])) l (omega arith)
      ∙ rw (e, append_assoc, set_split l n x h)

  pub laid_none : (empty : A) (n : ℕ) (l : List A) → laid empty n [] l ≡ replicate n empty ++ drop n l
  laid_none empty n l =
      let e : n - 0 ≡ n = omega arith in
      laid-fewer empty n [] l (omega arith) ∙ rw e

  -- It is as long as it was.
  pub length-laid :
      (empty : A) (n : ℕ) (used l : List A)
      → n ≤ length l
      → length used ≤ length l
      → length (laid empty n used l) ≡ length l
  unfolding laid
  length-laid empty n used l h k = simp (length-append, length-replicate, length-drop) (omega arith)

  -- The elements in use are the first of the array.
  pub take-laid : (empty : A) (n : ℕ) (used l : List A) → take (length used) (laid empty n used l) ≡ used
  unfolding laid
  take-laid empty n used l = take-append_seam used (replicate (n - length used) empty ++ drop (max n (length used)) l)
