-- Laws of the places of the store: one is free, and what is written there is read there and changes no other place.
use Prim.Native.Nat.{ℕ, zero, suc, ◌+◌, ◌-◌, ◌*◌, ◌≤◌, ◌<◌}
use native.Mathlib.Nat.{add_assoc}
use native.Mathlib.Omega.{arith}
use mathlib.Core.Path.{◌≡◌, ◌∙◌, refl, sym, ap}
use mathlib.Core.Bool.{true, false}
use mathlib.Core.List.{List, [], ◌∷◌, ◌++◌, map}
use borrow.Author.Clash.{clash}
use borrow.Author.Tests.{leb-true, leb-false, le-leb, lt-leb, eqb-true, eqb-false}
use lib.Dec.{eqb, leb}
use lib.ListN.{length, take, drop, length-append, length-map, length-drop}
use lib.Seq.{drop_at, drop-append-le, drop-append-add, drop-drop, take-append-le, take-append_seam, length-take-le}
use Rattle.std.proofs.lemmas.Bool.{or_parts}
use Rattle.lists.specs.Lists.{keep, any, among, All}
use Rattle.lists.proofs.Lists.{any_append, length-keep, none-counted}
use Rattle.lists.proofs.Choices.{by-test}
use Rattle.bits.specs.Bits.{part, splice}
use Rattle.bits.proofs.Laws.{part-take}
use Rattle.llc_rule.specs.Limits.{place_bits, store_bytes, store_places}
use Rattle.llc_state.specs.View.{place_bit, frame_at}
use Rattle.llc_state.specs.declared.Entry.{Entry}
use Rattle.llc_state.specs.declared.State.{State}
use Rattle.llc_steps.specs.Places.{first_free, used_places, free_place}

-- How many of us are p or more, and how many are p.
abbrev from : ℕ → List ℕ → ℕ
from p us = length (keep (leb p) us)

abbrev count : ℕ → List ℕ → ℕ
count p us = length (keep (λ (k : ℕ). eqb k p) us)

from_next : (p k : ℕ) → eqb k p ≡ false → leb (suc p) k ≡ leb p k
from_next p k e =
    let other : k ≡ p → ⊥ = eqb-false k p e in
    by-test (leb p k)
    (λ h. let above : p ≤ k = leb-true p k h in le-leb (suc p) k (omega arith) ∙ sym h)
    (λ h. let below : k < p = leb-false p k h in lt-leb (suc p) k (omega arith) ∙ sym h)

-- Those that are p or more are those above it and those that are p.
counted : (p : ℕ) (us : List ℕ) → from p us ≡ from (suc p) us + count p us
unfolding keep
counted p [] = refl
counted p (k ∷ us) =
    let ih = counted p us in
    by-test (eqb k p)
    (λ e. rw (e, eqb-true k p e, le-leb p p (omega arith), lt-leb (suc p) p (omega arith)) (omega arith))
    (λ e. rw (e, from_next p k e) (by-test (leb p k) (λ h. rw h (omega arith)) (λ h. rw h ih)))

fewer : (p : ℕ) (us : List ℕ) → among p us ≡ true → from (suc p) us < from p us
fewer p us h =
    let all = counted p us in
    by-test (leb 1 (count p us))
    (λ t. let some : 1 ≤ count p us = leb-true 1 (count p us) t in omega arith)
    (λ f.
    let none : count p us < 1 = leb-false 1 (count p us) f in clash _ h (none-counted (λ (k : ℕ). eqb k p) us (omega arith)))

-- Where fewer than n of us are p or more, one of the n numbers from p on is not among them, and it is found.
first-from : (n p : ℕ) (us : List ℕ) → from p us < n → (first_free n p us < p + n) × (among (first_free n p us) us ≡ false)
unfolding first_free
first-from zero p us h = absurd (omega arith)
first-from (suc n) p us h =
    by-test (among p us)
    (λ e.
    let less = fewer p us e in
    let ih = first-from n (suc p) us (omega arith) in
    let below = ih.0 in
    rw e (omega arith, ih.1))
    (λ e. rw e (omega arith, e))

-- Of the places, one is free where not all are used.
pub first-free : (us : List ℕ) → length us < store_places → (first_free store_places 0 us < store_places) × (among (first_free store_places 0 us) us ≡ false)
first-free us h =
    let few = length-keep (leb 0) us in
    let found = first-from store_places 0 us (omega arith) in
    let below = found.0 in
    (omega arith, found.1)

none-there :
    (p : ℕ) (es : List Entry)
    → among p (map (λ (e : Entry). e.frame.place) es) ≡ false
    → All (λ (e : Entry). eqb e.frame.place p ≡ false) es
unfolding any
none-there p [] h = tt
none-there p (e ∷ es) h = let both = or_parts _ _ h in (both.0, none-there p es both.1)

-- The place that a new message takes is in the store, and no held message has it.
pub free-place :
    (s : State)
    → length (take s.n_messages s.outbound_messages) + length (take s.n_udata s.outbound_udata_messages) < store_places
    → (free_place s < store_places)
    × All (λ (e : Entry). eqb e.frame.place (free_place s) ≡ false) (take s.n_messages s.outbound_messages)
    × All (λ (e : Entry). eqb e.frame.place (free_place s) ≡ false) (take s.n_udata s.outbound_udata_messages)
unfolding free_place used_places
free-place s h =
    let place : Entry → ℕ = λ (e : Entry). e.frame.place in
    let ms : List Entry = take s.n_messages s.outbound_messages in
    let us : List Entry = take s.n_udata s.outbound_udata_messages in
    let long : length (map place ms ++ map place us) ≡ length ms + length us =
    length-append (map place ms) (map place us) ∙ rw (length-map ms place, length-map us place) in
    let free = first-free (map place ms ++ map place us) (rw long h) in
    let p : ℕ = first_free store_places 0 (map place ms ++ map place us) in
    let none = or_parts _ _ (sym (any_append (λ (k : ℕ). eqb k p) (map place ms) (map place us)) ∙ free.1) in
    (free.0, none-there p ms none.0, none-there p us none.1)

-- What was put at a place is read there.
pub part_same : (l : List ℕ) (at : ℕ) (vs : List ℕ) → at ≤ length l → part (splice l at vs) at (length vs) ≡ vs
part_same l at vs h =
    let rest : List ℕ = drop (at + length vs) l in
    ap (take (length vs)) (drop_at (take at l) (vs ++ rest) at (length-take-le at l h)) ∙ take-append_seam vs rest

-- What lies before it, and what lies behind it, is as it was.
pub part-before :
    (l : List ℕ) (at : ℕ) (vs : List ℕ) (q n : ℕ)
    → at ≤ length l
    → q + n ≤ at
    → part (splice l at vs) q n ≡ part l q n
part-before l at vs q n h before =
    let rest : List ℕ = vs ++ drop (at + length vs) l in
    let long : length (take at l) ≡ at = length-take-le at l h in
    let left = length-drop q (take at l) in
    ap (take n) (drop-append-le q (take at l) rest (omega arith))
    ∙ take-append-le n (drop q (take at l)) rest (omega arith)
    ∙ part-take l at q n before (omega arith)

drop-behind :
    (l : List ℕ) (at : ℕ) (vs : List ℕ) (k : ℕ)
    → at ≤ length l
    → drop (at + length vs + k) (splice l at vs) ≡ drop (at + length vs + k) l
drop-behind l at vs k h =
    let rest : List ℕ = drop (at + length vs) l in
    ap (λ (m : ℕ). drop m (splice l at vs)) (add_assoc at (length vs) k)
    ∙ sym (drop-drop (length vs + k) at (splice l at vs))
    ∙ ap (drop (length vs + k)) (drop_at (take at l) (vs ++ rest) at (length-take-le at l h))
    ∙ drop-append-add vs rest k
    ∙ drop-drop k (at + length vs) l

pub part-behind :
    (l : List ℕ) (at : ℕ) (vs : List ℕ) (q n : ℕ)
    → at ≤ length l
    → at + length vs ≤ q
    → part (splice l at vs) q n ≡ part l q n
part-behind l at vs q n h behind =
    let k : ℕ = q - (at + length vs) in
    let e : at + length vs + k ≡ q = omega arith in
    ap (take n)
    (ap (λ (m : ℕ). drop m (splice l at vs)) (sym e) ∙ drop-behind l at vs k h ∙ ap (λ (m : ℕ). drop m l) e)

-- A frame that was put into a place is read there, and every other place is as it was.
pub part-there :
    (store : List ℕ) (p : ℕ) (vs : List ℕ)
    → length store ≡ 8 * store_bytes
    → p < store_places
    → length vs ≤ place_bits
    → part (splice store (place_bit p) vs) (place_bit p) (length vs) ≡ vs
part-there store p vs long inside fits = part_same store (place_bit p) vs (omega arith)

pub part-elsewhere :
    (store : List ℕ) (p q n : ℕ) (vs : List ℕ)
    → length store ≡ 8 * store_bytes
    → p < store_places
    → q < store_places
    → eqb q p ≡ false
    → length vs ≤ place_bits
    → n ≤ place_bits
    → part (splice store (place_bit p) vs) (place_bit q) n ≡ part store (place_bit q) n
part-elsewhere store p q n vs long p-inside q-inside e fits short =
    let other : q ≡ p → ⊥ = eqb-false q p e in
    by-test (leb p q)
    (λ t.
    let above : p ≤ q = leb-true p q t in
    part-behind store (place_bit p) vs (place_bit q) n (omega arith) (omega arith))
    (λ f.
    let below : q < p = leb-false p q f in
    part-before store (place_bit p) vs (place_bit q) n (omega arith) (omega arith))

-- So the frame of a message in another place is as it was.
pub frame-elsewhere :
    (store : List ℕ) (p : ℕ) (vs : List ℕ) (e : Entry)
    → length store ≡ 8 * store_bytes
    → p < store_places
    → e.frame.place < store_places
    → eqb e.frame.place p ≡ false
    → length vs ≤ place_bits
    → e.frame.len ≤ place_bits
    → frame_at (splice store (place_bit p) vs) e ≡ frame_at store e
unfolding frame_at
frame-elsewhere store p vs e long inside there other fits short =
    part-elsewhere store p e.frame.place e.frame.len vs long inside there other fits short
