-- Queues as lists: those that pass a test, the first that does, and a visit to each in turn.
use Rattle.std.specs.Prelude.{ℕ, Bool, true, false, cond, ◌&&◌, ◌||◌, List, [], ◌∷◌, ◌++◌, eqb}

-- Those that pass a test, in order.
unfoldable pub keep : {A : Type 0} → (A → Bool) → List A → List A
keep p [] = []
keep p (x ∷ xs) = cond (p x) (x ∷ keep p xs) (keep p xs)

-- Does one pass the test? Do all?
unfoldable pub any : {A : Type 0} → (A → Bool) → List A → Bool
any p [] = false
any p (x ∷ xs) = p x || any p xs

unfoldable pub all : {A : Type 0} → (A → Bool) → List A → Bool
all p [] = true
all p (x ∷ xs) = p x && all p xs

-- Is n among them?
abbrev pub among : ℕ → List ℕ → Bool
among n l = any (λ (k : ℕ). eqb k n) l

-- The first that passes a test, and the others in order.
pub data Found (A : Type 0) : Type 0 where
  nothing : Found A
  first : A → List A → Found A

abbrev pub behind : {A : Type 0} → A → Found A → Found A
behind x nothing = nothing
behind x (first y ys) = first y (x ∷ ys)

unfoldable pub find : {A : Type 0} → (A → Bool) → List A → Found A
find p [] = nothing
find p (x ∷ xs) = cond (p x) (first x xs) (behind x (find p xs))

-- A list without the one that was found.
abbrev pub others : {A : Type 0} → Found A → List A → List A
others nothing l = l
others (first x xs) l = xs

-- A table of rows: the first row that passes a test, or another where none does.
unfoldable pub first_or : {A : Type 0} → (A → Bool) → A → List A → A
first_or p d [] = d
first_or p d (x ∷ xs) = cond (p x) x (first_or p d xs)

-- The table with a row in the place of the first that passes, behind the others where none does.
unfoldable pub filed : {A : Type 0} → (A → Bool) → A → List A → List A
filed p y [] = y ∷ []
filed p y (x ∷ xs) = cond (p x) (y ∷ xs) (x ∷ filed p y xs)

-- A visit to one element, or to all of a list: the state after it, what stays in the list, and what is put out.
pub record Visit (S A R : Type 0) : Type 0 where
  pub state : S
  pub stays : List A
  pub out : List R

-- One visit and then another.
abbrev pub ◌then◌ : {S A R : Type 0} → Visit S A R → Visit S A R → Visit S A R
◌then◌ v w = record { state = w.state; stays = v.stays ++ w.stays; out = v.out ++ w.out }

-- A visit to each in turn, the next from the state that the last one left.
unfoldable pub walk : {S A R : Type 0} → (S → A → Visit S A R) → S → List A → Visit S A R
walk f s [] = record { state = s; stays = []; out = [] }
walk f s (x ∷ xs) = ◌then◌ (f s x) (walk f (f s x).state xs)

-- P holds of every element.
abbrev pub All : {A : Type 0} → (A → Type 0) → List A → Type 0
All P [] = Unit {0}
All P (x ∷ xs) = P x × All P xs
