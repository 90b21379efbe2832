-- The rule of the table of 256, from one test that antt computes at each entry.
use Prim.Native.Nat.{ℕ, zero, suc, ◌+◌, ◌<◌}
use native.Mathlib.Nat.{add-zero, zero-add, suc-add, add-suc}
use native.Mathlib.Omega.{arith}
use mathlib.Core.Path.{◌≡◌, ◌∙◌, sym, ap}
use mathlib.Core.Bool.{Bool, true, ◌&&◌}
use mathlib.Core.List.{List, [], ◌∷◌}
use borrow.Author.Tests.{eqb-true}
use lib.Dec.{eqb}
use lib.ListN.{length, get_or}
use Rattle.std.proofs.lemmas.Bool.{and_parts}
use Rattle.fcs.specs.Register.{entry, Ruled}

-- Each of l is the entry of its place, counted from i.
abbrev pub right : ℕ → List ℕ → Bool
right i [] = true
right i (x ∷ l) = eqb x (entry 8 i) && right (suc i) l

at_place : (l : List ℕ) (i k : ℕ) → right i l ≡ true → k < length l → get_or l k 0 ≡ entry 8 (i + k)
at_place [] i k e h = absurd (omega arith)
at_place (x ∷ l) i zero e h = rw (add-zero i) (eqb-true x (entry 8 i) (and_parts (eqb x (entry 8 i)) (right (suc i) l) e).0)
at_place (x ∷ l) i (suc k) e h =
    at_place l (suc i) k (and_parts (eqb x (entry 8 i)) (right (suc i) l) e).1 (omega arith) ∙ ap (entry 8) (suc-add i k ∙ sym (add-suc i k))

pub ruled : (l : List ℕ) → length l ≡ 256 → right 0 l ≡ true → Ruled l
ruled l n e = record { entries = λ q h. at_place l 0 q e (omega arith) ∙ ap (entry 8) (zero-add q) }
