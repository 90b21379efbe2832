-- What the code learns at `if !test(..) { return ..; }`, where r is what the test answered and v what it stands for, and
-- what an accepted outcome says of the question that it passed.
use Prim.Native.Nat.{ℕ}
use mathlib.Core.Path.{◌≡◌, ◌∙◌, refl, sym}
use mathlib.Core.Bool.{Bool, true, false, not}
use borrow.Author.Tests.{not-false}
use native.Mathlib.Omega.{arith}
use Rattle.questions.specs.Outcome.{Outcome, accepted, refused, ask}

pub passed : {r v : Bool} → r ≡ v → not r ≡ false → v ≡ true
passed {r} e left = sym e ∙ not-false r left

-- What an accepted outcome holds; d for a refusal.
abbrev pub content : {A : Type 0} → A → Outcome A → A
content d (accepted a) = a
content d (refused n) = d

-- What holds of a refusal by its number, and of the rest where the question is passed, holds of the question with the rest.
pub by-question : {A : Type 0} (P : Outcome A → Type 0) (n : ℕ) (b : Bool) {rest : Outcome A} → P (refused n) → (b ≡ true → P rest) → P (ask n b rest)
by-question P n true r f = f refl
by-question P n false r f = r

-- An outcome that is accepted passed the question, and is the rest's.
pub accepted-passed : {A : Type 0} (n : ℕ) (b : Bool) {x : A} {rest : Outcome A} → accepted x ≡ ask n b rest → (b ≡ true) × (accepted x ≡ rest)
accepted-passed n true e = (refl, e)
accepted-passed n false e = let z : ◌≡◌ {A = ℕ} 0 1 = cc in absurd (omega arith)

-- A question passed.
pub ask-yes : {A : Type 0} (n : ℕ) {b : Bool} (o : Outcome A) → b ≡ true → ask n b o ≡ o
ask-yes n o e = rw e
