-- Laws of bytes written one behind the other.
use Prim.Native.Nat.{ℕ, suc, ◌+◌, ◌≤◌}
use native.Mathlib.Nat.{add-zero}
use native.Mathlib.Omega.{arith}
use mathlib.Core.Path.{◌≡◌, ◌∙◌, refl, sym, ap, ap₂}
use mathlib.Core.List.{List, [], ◌∷◌, ◌++◌, append_assoc}
use lib.ListN.{length, set, take, drop, length-append, length-set}
use lib.Seq.{sets, sets-eq, take_at, drop_at, length-take-le}
use Rattle.lists.specs.Writes.{write, Wrote}

pub length-write : (l : List ℕ) (i : ℕ) (vs : List ℕ) → length (write l i vs) ≡ length l
unfolding write
length-write l i [] = refl
length-write l i (v ∷ vs) = length-write (set l i v) (suc i) vs ∙ length-set l i v

write-sets : (l : List ℕ) (i : ℕ) (vs : List ℕ) → write l i vs ≡ sets l i vs
unfolding write
write-sets l i [] = refl
write-sets l i (v ∷ vs) = write-sets (set l i v) (suc i) vs

-- What was written stands between what was before it and what was behind it.
pub write-is :
    (l : List ℕ) (i : ℕ) (vs : List ℕ)
    → i + length vs ≤ length l
    → write l i vs ≡ take i l ++ (vs ++ drop (i + length vs) l)
write-is l i vs h = write-sets l i vs ∙ sets-eq vs l i h ∙ append_assoc (take i l) vs (drop (i + length vs) l)

-- Two writes, one behind the other, are one.
pub write-append : (l : List ℕ) (i : ℕ) (vs ws : List ℕ) → write l i (vs ++ ws) ≡ write (write l i vs) (i + length vs) ws
unfolding write
write-append l i [] ws = ap (λ (k : ℕ). write l k ws) (sym (add-zero i))
write-append l i (v ∷ vs) ws =
    let place : suc i + length vs ≡ i + suc (length vs) = omega arith in
    write-append (set l i v) (suc i) vs ws ∙ ap (λ (k : ℕ). write (write (set l i v) (suc i) vs) k ws) place

infixr 5 ◌⨾◌
pub ◌⨾◌ : {l m k : List ℕ} {i j n : ℕ} {vs ws : List ℕ} → Wrote l i vs m j → Wrote m j ws k n → Wrote l i (vs ++ ws) k n
◌⨾◌ {l} {m} {k} {i} {j} {n} {vs} {ws} a b =
    record {
      next = omega (arith, a.next, b.next, length-append vs ws);
      holds =
          b.holds
          ∙ ap₂ (λ (t : List ℕ) (p : ℕ). write t p ws) a.holds a.next
          ∙ sym (write-append l i vs ws);
    }

-- A write leaves the length.
pub as_long : {l m : List ℕ} {i j : ℕ} {vs : List ℕ} → Wrote l i vs m j → length m ≡ length l
as_long {l} {m} {i} {j} {vs} w = ap length w.holds ∙ length-write l i vs

-- What stands after a write up to its end, and behind it.
pub wrote-shows : {l vs m : List ℕ} {i j : ℕ} → Wrote l i vs m j → j ≤ length l → take j m ≡ take i l ++ vs
wrote-shows {l} {vs} {m} {i} {j} w h =
    let k : j ≡ i + length vs = w.next in
    let e : length (take i l ++ vs) ≡ j = omega (arith, length-append (take i l) vs, length-take-le i l (omega arith)) in
    ap (take j) (w.holds ∙ write-sets l i vs ∙ sets-eq vs l i (omega arith)) ∙ take_at (take i l ++ vs) (drop (i + length vs) l) j e

pub wrote-rest : {l vs m : List ℕ} {i j : ℕ} → Wrote l i vs m j → j ≤ length l → drop j m ≡ drop j l
wrote-rest {l} {vs} {m} {i} {j} w h =
    let k : j ≡ i + length vs = w.next in
    let e : length (take i l ++ vs) ≡ j = omega (arith, length-append (take i l) vs, length-take-le i l (omega arith)) in
    ap (drop j) (w.holds ∙ write-sets l i vs ∙ sets-eq vs l i (omega arith))
    ∙ drop_at (take i l ++ vs) (drop (i + length vs) l) j e
    ∙ ap (λ (n : ℕ). drop n l) (sym k)

-- The same write, of what is the same list.
pub same_bytes : {l m : List ℕ} {i j : ℕ} {vs ws : List ℕ} → vs ≡ ws → Wrote l i vs m j → Wrote l i ws m j
same_bytes e w = rw e at w

-- Nothing and one byte.
pub wrote_none : (l : List ℕ) (i : ℕ) → Wrote l i [] l i
unfolding write
wrote_none l i = record { next = sym (add-zero i); holds = refl }

pub wrote_one : (l : List ℕ) (i v : ℕ) → Wrote l i (v ∷ []) (set l i v) (i + 1)
unfolding write
wrote_one l i v = record { next = refl; holds = refl }
