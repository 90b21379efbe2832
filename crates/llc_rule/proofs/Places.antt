-- The places of receipts: one that was written, and one that was marked.
use Prim.Native.Nat.{ℕ, zero, suc, ◌≤◌, ◌<◌}
use mathlib.Core.Path.{◌≡◌, ◌∙◌, refl, sym, ap}
use mathlib.Core.Bool.{Bool, true, false, cond}
use mathlib.Core.List.{List, [], ◌∷◌}
use borrow.Author.Tests.{eqb-true, eqb-false, eq-eqb, ne_eqb, ltb-true, ltb-false}
use lib.Dec.{eqb, ltb}
use lib.ListN.{length, set, length-set, get_or-eq_default}
use lib.Seq.{get_or-set_other, set_out}
use Rattle.lists.proofs.Lists.{get_or_set}
use Rattle.lists.proofs.Choices.{by-test}
use Rattle.tx_receipt.specs.Marks as Marks
use Rattle.tx_receipt.specs.Marks.{Mark}
use Rattle.llc_rule.specs.Messages.{Place, free, taken, place_at, is_free, taken?, marked, mark}
use Rattle.llc_rule.specs.Sound.{expects}

-- Two receipts, in either order.
pub turned : (i j : ℕ) (b : Bool) → eqb i j ≡ b → eqb j i ≡ b
turned i j true e = eq-eqb j i (sym (eqb-true i j e))
turned i j false e = ne_eqb j i (λ q. eqb-false i j e (sym q))

-- A place that was written, and another.
pub place_set :
    (ps : List Place) (i j : ℕ) (p : Place)
    → i < length ps
    → place_at (set ps i p) j ≡ cond (eqb j i) p (place_at ps j)
place_set ps i j p h = get_or_set ps i j p free h

pub place_other : (ps : List Place) (i j : ℕ) (p : Place) → eqb j i ≡ false → place_at (set ps i p) j ≡ place_at ps j
place_other ps i j p h = get_or-set_other ps i j p free (eqb-false j i h)

-- A place that was marked, and another; also where there is none.
pub place-mark :
    (k : Mark) (ps : List Place) (i j : ℕ)
    → place_at (mark k i ps) j ≡ cond (eqb j i) (marked k (place_at ps j)) (place_at ps j)
place-mark k ps i j =
    by-test (ltb i (length ps))
    (λ e.
    place_set ps i j (marked k (place_at ps i)) (ltb-true i (length ps) e)
    ∙ by-test (eqb j i) (λ q. rw (q, eqb-true j i q)) (λ q. rw q))
    (λ e.
    let beyond : length ps ≤ i = ltb-false i (length ps) e in
    ap (λ (t : List Place). place_at t j) (set_out ps i (marked k (place_at ps i)) beyond)
    ∙ by-test (eqb j i) (λ q. rw (q, eqb-true j i q, get_or-eq_default ps free {n = i} beyond)) (λ q. rw q))

pub length-mark : (k : Mark) (i : ℕ) (ps : List Place) → length (mark k i ps) ≡ length ps
length-mark k i ps = length-set ps i (marked k (place_at ps i))

free-marked : (k : Mark) (p : Place) → is_free (marked k p) ≡ is_free p
free-marked k free = refl
free-marked k (taken r) = refl

-- A mark frees no place and takes none.
pub mark-free : (k : Mark) (i : ℕ) (ps : List Place) (j : ℕ) → is_free (place_at (mark k i ps) j) ≡ is_free (place_at ps j)
mark-free k i [] j = refl
mark-free k zero (p ∷ ps) zero = free-marked k p
mark-free k zero (p ∷ ps) (suc j) = refl
mark-free k (suc i) (p ∷ ps) zero = refl
mark-free k (suc i) (p ∷ ps) (suc j) = mark-free k i ps j

-- A mark leaves what a receipt expects as it was.
expects-marked : (k : Mark) (p : Place) → taken? expects (marked k p) ≡ taken? expects p
expects-marked k free = refl
expects-marked k (taken r) = by-test (Marks.allowed k r) (λ e. rw e) (λ e. rw e)

pub mark-expects :
    (k : Mark) (i : ℕ) (ps : List Place) (j : ℕ)
    → taken? expects (place_at (mark k i ps) j) ≡ taken? expects (place_at ps j)
mark-expects k i [] j = refl
mark-expects k zero (p ∷ ps) zero = expects-marked k p
mark-expects k zero (p ∷ ps) (suc j) = refl
mark-expects k (suc i) (p ∷ ps) zero = refl
mark-expects k (suc i) (p ∷ ps) (suc j) = mark-expects k i ps j
