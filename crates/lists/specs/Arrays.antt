-- Queues that lie in arrays: where an element stands, the queue with one taken out, moved to the front or put in a place, and the
-- array with other elements in use.
use Rattle.std.specs.Prelude.{ℕ, suc, ◌-◌, max, Bool, cond, List, [], ◌∷◌, ◌++◌, length, take, drop, replicate, Option, Some, None}

-- How many stand before the first that passes a test; all of them where none does.
unfoldable pub position : {A : Type 0} → (A → Bool) → List A → ℕ
position p [] = 0
position p (x ∷ xs) = cond (p x) 0 (suc (position p xs))

-- The place that a search in n elements found; n where it found none.
abbrev pub place_in : ℕ → Option ℕ → ℕ
place_in n (Some i) = i
place_in n None = n

-- A queue without the element of a place, as it was if there is none; with it moved to the front; with another in its place.
abbrev pub without : {A : Type 0} → ℕ → List A → List A
without i l = take i l ++ drop (suc i) l

abbrev pub fronted : {A : Type 0} → ℕ → List A → List A
fronted i l = take 1 (drop i l) ++ without i l

abbrev pub placed : {A : Type 0} → A → ℕ → List A → List A
placed x i l = take i l ++ (x ∷ drop (suc i) l)

-- The elements in use, then empty ones in the places that become free, then the array as it was.
unfoldable pub laid : {A : Type 0} → A → ℕ → List A → List A → List A
laid empty n used l = used ++ (replicate (n - length used) empty ++ drop (max n (length used)) l)
