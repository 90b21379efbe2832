-- The slots since a message was done, as the code compares them with T251.
use Prim.Native.Nat.{ℕ}
use native.Mathlib.Omega.{arith}
use mathlib.Core.Path.{◌≡◌, ◌∙◌, refl, ap}
use mathlib.Core.Bool.{Bool, true, ◌||◌}
use borrow.Author.Tests.{le-ltb}
use lib.Dec.{leb}
use lib.IntN.{ℤ, pos, negsuc}
use lib.Signed.{lt_z, le_z}
use Rattle.std.specs.Prelude.{Result, Ok, Err, MatchResult}
use Rattle.questions.specs.Outcome.{accepted, refused}
use Rattle.questions.specs.Refusals.{outcome, number_of}
use Rattle.questions.specs.declared.Refusal.{Refusal}
use Rattle.tdma_time.specs.Answers.{difference}
use Rattle.tdma_time.specs.Slots.{valid, minus}
use Rattle.tdma_time.specs.declared.TdmaTime.{TdmaTime}
use Rattle.llc_rule.specs.Messages.{reaches, overdue}

-- Below zero, or T251 and more.
reach : (t251 : ℕ) (z : ℤ) → lt_z z (pos 0) || le_z (pos t251) z ≡ reaches z t251
reach t251 (pos n) = ap (λ (x : Bool). x || leb t251 n) (le-ltb n 0 (omega arith))
reach t251 (negsuc n) = refl

-- An answer that is this test of the slots z, where z is the result of the difference of two times in range.
pub by-result :
    (a b : TdmaTime)
    → valid a ≡ true
    → valid b ≡ true
    → (t251 : ℕ) (answer : Bool) (P : ℤ → Type 0) (Q : Refusal → Type 0)
    → ((z : ℤ) → P z → answer ≡ lt_z z (pos 0) || le_z (pos t251) z)
    → (r : Result ℤ Refusal)
    → outcome r ≡ difference a b
    → MatchResult r P Q
    → answer ≡ overdue a t251 b
unfolding overdue
by-result a b va vb t251 answer P Q f (Ok z) d p =
    let is : z ≡ minus a b = let h : accepted z ≡ accepted (minus a b) = d ∙ rw (va, vb) in cc in
    f z p ∙ reach t251 z ∙ ap (λ (x : ℤ). reaches x t251) is
by-result a b va vb t251 answer P Q f (Err e) d p =
    let h : refused (number_of e) ≡ accepted (minus a b) = d ∙ rw (va, vb) in cc
