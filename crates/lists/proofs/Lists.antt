-- Laws of lists.
use Prim.Native.Nat.{ℕ, zero, suc, ◌+◌, ◌≤◌, ◌<◌}
use native.Mathlib.Nat.{suc_inj}
use native.Mathlib.Omega.{arith}
use mathlib.Core.Path.{◌≡◌, refl, ap, ap₂}
use mathlib.Core.Bool.{Bool, true, false, cond, ◌||◌}
use mathlib.Core.List.{List, [], ◌∷◌, ◌++◌, head-eq_of_cons-eq, tail-eq_of_cons-eq}
use borrow.Author.Tests.{eqb-true, eqb-false}
use lib.Dec.{eqb}
use lib.ListN.{length, get_or, set, take, drop, length-append}
use lib.Seq.{get_or-set_same, get_or-set_other}
use Rattle.std.proofs.lemmas.Bool.{or_parts}
use Rattle.lists.specs.Lists.{keep, any, Found, nothing, first, behind, find, All}
use Rattle.lists.proofs.Choices.{by-test}

module _ {A : Type 0} where
  pub keep-yes : (p : A → Bool) (x : A) (xs : List A) → p x ≡ true → keep p (x ∷ xs) ≡ x ∷ keep p xs
  unfolding keep
  keep-yes p x xs h = rw h

  pub keep-no : (p : A → Bool) (x : A) (xs : List A) → p x ≡ false → keep p (x ∷ xs) ≡ keep p xs
  unfolding keep
  keep-no p x xs h = rw h

  pub keep_append : (p : A → Bool) (l m : List A) → keep p (l ++ m) ≡ keep p l ++ keep p m
  unfolding keep
  keep_append p [] m = refl
  keep_append p (x ∷ l) m = by-test (p x) (λ h. rw (h, keep_append p l m)) (λ h. rw (h, keep_append p l m))

  pub any_append : (p : A → Bool) (l m : List A) → any p (l ++ m) ≡ any p l || any p m
  unfolding any
  any_append p [] m = refl
  any_append p (x ∷ l) m = by-test (p x) (λ h. rw h) (λ h. rw (h, any_append p l m))

  pub length-keep : (p : A → Bool) (l : List A) → length (keep p l) ≤ length l
  unfolding keep
  length-keep p [] = omega arith
  length-keep p (x ∷ l) = let ih = length-keep p l in by-test (p x) (λ h. rw h (omega arith)) (λ h. rw h (omega arith))

  -- None passes, by counting.
  pub none-counted : (p : A → Bool) (l : List A) → length (keep p l) ≡ 0 → any p l ≡ false
  unfolding keep any
  none-counted p [] h = refl
  none-counted p (x ∷ l) h = by-test (p x) (λ e. absurd (omega (arith, rw e at h))) (λ e. rw e (none-counted p l (rw e at h)))

  pub all_append : (P : A → Type 0) (l m : List A) → All P l → All P m → All P (l ++ m)
  all_append P [] m a b = b
  all_append P (x ∷ l) m a b = (a.0, all_append P l m a.1 b)

  pub all_back : (P : A → Type 0) (l m : List A) → All P (l ++ m) → All P m
  all_back P [] m a = a
  all_back P (x ∷ l) m a = all_back P l m a.1

  pub all_map : (P Q : A → Type 0) (l : List A) → ((x : A) → P x → Q x) → All P l → All Q l
  all_map P Q [] f a = tt
  all_map P Q (x ∷ l) f a = (f x a.0, all_map P Q l f a.1)

  pub all-unit : (l : List A) → All (λ (x : A). Unit {0}) l
  all-unit [] = tt
  all-unit (x ∷ l) = (tt, all-unit l)

  pub all_both : (P Q R : A → Type 0) (l : List A) → ((x : A) → P x → Q x → R x) → All P l → All Q l → All R l
  all_both P Q R [] f a b = tt
  all_both P Q R (x ∷ l) f a b = (f x a.0 b.0, all_both P Q R l f a.1 b.1)

  -- What was found stands between those before it, none of which passes, and those behind it.
  pub record Split (p : A → Bool) (l : List A) (x : A) (xs : List A) : Type 0 where
    pub front : List A
    pub back : List A
    pub whole : l ≡ front ++ (x ∷ back)
    pub rest : xs ≡ front ++ back
    pub passes : p x ≡ true
    pub before : any p front ≡ false

  -- What `find` gives: none passes, or the first that does.
  abbrev pub FoundBy : (A → Bool) → List A → Found A → Type 0
  FoundBy p l nothing = any p l ≡ false
  FoundBy p l (first x xs) = Split p l x xs

  found-behind : (p : A → Bool) (y : A) (l : List A) → p y ≡ false → (f : Found A) → FoundBy p l f → FoundBy p (y ∷ l) (behind y f)
  unfolding any
  found-behind p y l e nothing h = rw e h
  found-behind p y l e (first x xs) s =
      record {
        front = y ∷ s.front;
        back = s.back;
        whole = ap (λ (t : List A). y ∷ t) s.whole;
        rest = ap (λ (t : List A). y ∷ t) s.rest;
        passes = s.passes;
        before = rw e s.before;
      }

  pub find-by : (p : A → Bool) (l : List A) → FoundBy p l (find p l)
  unfolding find any
  find-by p [] = refl
  find-by p (y ∷ l) =
      by-test (p y)
      (λ e. rw e (record { front = []; back = l; whole = refl; rest = refl; passes = e; before = refl }))
      (λ e. rw e (found-behind p y l e (find p l) (find-by p l)))

  -- One that was taken out of a list, if any was.
  abbrev pub TakenOut : (A → Bool) → List A → Found A → Type 0
  TakenOut p l nothing = Unit {0}
  TakenOut p l (first x xs) = Split p l x xs

  pub found-out : (p : A → Bool) (l : List A) (f : Found A) → FoundBy p l f → TakenOut p l f
  found-out p l nothing s = tt
  found-out p l (first x xs) s = s

  -- How many pass, of two lists put together and of one element and a list.
  pub count-append : (p : A → Bool) (l m : List A) → length (keep p (l ++ m)) ≡ length (keep p l) + length (keep p m)
  count-append p l m = rw (keep_append p l m) (length-append (keep p l) (keep p m))

  pub count_yes : (p : A → Bool) (x : A) (l : List A) → p x ≡ true → length (keep p (x ∷ l)) ≡ suc (length (keep p l))
  count_yes p x l h = rw (keep-yes p x l h)

  pub count_no : (p : A → Bool) (x : A) (l : List A) → p x ≡ false → length (keep p (x ∷ l)) ≡ length (keep p l)
  count_no p x l h = rw (keep-no p x l h)

  -- One moved to the front counts as before, and one less counts no more.
  pub count-front :
      (p : A → Bool) (f : List A) (x : A) (b : List A)
      → length (keep p (x ∷ (f ++ b))) ≡ length (keep p (f ++ (x ∷ b)))
  count-front p f x b =
      by-test (p x)
      (λ h. rw (count_yes p x (f ++ b) h, count-append p f b, count-append p f (x ∷ b), count_yes p x b h) (omega arith))
      (λ h. rw (count_no p x (f ++ b) h, count-append p f b, count-append p f (x ∷ b), count_no p x b h))

  pub count_less : (p : A → Bool) (x : A) (l : List A) → length (keep p l) ≤ length (keep p (x ∷ l))
  count_less p x l =
      by-test (p x) (λ h. rw (count_yes p x l h) (omega arith)) (λ h. rw (count_no p x l h) (omega arith))

  -- None counts where each fails the test.
  pub none_passes : (p : A → Bool) (P : A → Type 0) (l : List A) → ((x : A) → P x → p x ≡ false) → All P l → length (keep p l) ≡ 0
  unfolding keep
  none_passes p P [] f a = refl
  none_passes p P (x ∷ l) f a = rw (f x a.0) (none_passes p P l f a.1)

  -- What holds of those that fail a test holds of all where none passes it.
  pub all_but :
      (p : A → Bool) (P Q : A → Type 0) (l : List A)
      → ((x : A) → P x → p x ≡ false → Q x)
      → any p l ≡ false
      → All P l
      → All Q l
  unfolding any
  all_but p P Q [] f e a = tt
  all_but p P Q (x ∷ l) f e a =
      let n = or_parts (p x) (any p l) e in (f x a.0 n.0, all_but p P Q l f n.1 a.1)

  -- What holds of all holds of the one in the middle, and of the others.
  pub all_middle : (P : A → Type 0) (f : List A) (x : A) (b : List A) → All P (f ++ (x ∷ b)) → All P (x ∷ (f ++ b))
  all_middle P [] x b a = a
  all_middle P (y ∷ f) x b a = let r = all_middle P f x b a.1 in (r.0, (a.0, r.1))

-- Any element read in a list that was written.
pub get_or_set : {A : Type 0} (l : List A) (i j : ℕ) (v d : A) → i < length l → get_or (set l i v) j d ≡ cond (eqb j i) v (get_or l j d)
get_or_set l i j v d h =
    by-test (eqb j i)
    (λ e. rw (e, eqb-true j i e) (get_or-set_same l i v d h))
    (λ e. rw e (get_or-set_other l i j v d (eqb-false j i e)))

pub all_take : {A : Type 0} (P : A → Type 0) (n : ℕ) (l : List A) → All P l → All P (take n l)
all_take P zero l a = tt
all_take P (suc n) [] a = tt
all_take P (suc n) (x ∷ l) a = (a.0, all_take P n l a.1)

pub all_drop : {A : Type 0} (P : A → Type 0) (n : ℕ) (l : List A) → All P l → All P (drop n l)
all_drop P zero l a = a
all_drop P (suc n) [] a = tt
all_drop P (suc n) (x ∷ l) a = all_drop P n l a.1

-- Two lists of one length before others.
pub append-cancel : {A : Type 0} (p q x y : List A) → length p ≡ length q → p ++ x ≡ q ++ y → (p ≡ q) × (x ≡ y)
append-cancel [] [] x y n e = (refl, e)
append-cancel [] (b ∷ q) x y n e = absurd (omega arith)
append-cancel (a ∷ p) [] x y n e = absurd (omega arith)
append-cancel {A} (a ∷ p) (b ∷ q) x y n e =
    let rest = append-cancel p q x y (suc_inj n) (tail-eq_of_cons-eq e) in
    (ap₂ (λ (c : A) (t : List A). c ∷ t) (head-eq_of_cons-eq e) rest.0, rest.1)
