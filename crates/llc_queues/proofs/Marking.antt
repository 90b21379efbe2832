-- The flags of the places of the store that messages have, and the first place whose flag is not set.
use Prim.Native.Nat.{ℕ, suc, ◌+◌, ◌≤◌, ◌<◌}
use native.Mathlib.Nat.{zero-add}
use native.Mathlib.Omega.{arith}
use mathlib.Core.Path.{◌≡◌, ◌∙◌, refl, sym, ap}
use mathlib.Core.Bool.{Bool, true, false, cond, not, ◌||◌, or-false, or-true}
use mathlib.Core.List.{List, [], ◌∷◌, ◌++◌, map-append}
use borrow.Author.Tests.{eqb-true, eqb-false, eq-eqb, ne_eqb}
use lib.Dec.{eqb}
use lib.ListN.{length, get_or, take, set, replicate, get_or-replicate}
use lib.Seq.{take-suc}
use Rattle.std.specs.Prelude.{unwrap_or}
use Rattle.std.specs.Prelude as Prelude
use Rattle.lists.specs.Lists.{any, among}
use Rattle.lists.specs.Arrays.{position}
use Rattle.lists.proofs.Lists.{any_append, get_or_set}
use Rattle.lists.proofs.Std.{position-choice}
use Rattle.lists.proofs.Choices.{by-test}
use Rattle.llc_rule.specs.Limits.{store_places}
use Rattle.llc_state.specs.declared.Entry.{Entry}
use Rattle.llc_state.specs.declared.State.{State}
use Rattle.llc_steps.specs.States.{messages_of, udata_of}
use Rattle.llc_steps.specs.Places.{first_free, free_place, used_places}
use Rattle.llc_queues.specs.Queues.{places_of, Marks}

among-append : (q : ℕ) (us vs : List ℕ) → among q (us ++ vs) ≡ among q us || among q vs
among-append q us vs = any_append (λ (k : ℕ). eqb k q) us vs

among-more : (q x : ℕ) (us : List ℕ) → among q (us ++ (x ∷ [])) ≡ among q us || eqb x q
unfolding any
among-more q x us = among-append q us (x ∷ []) ∙ ap (λ (b : Bool). among q us || b) (or-false (eqb x q))

-- Before the first message no flag more is set.
pub marks-none : (old : List Bool) → Marks old [] old
unfolding any
marks-none old q h = sym (or-false (get_or old q false))

places-more :
    (es : List Entry) (i : ℕ) (d : Entry)
    → i < length es
    → places_of (take (suc i) es) ≡ places_of (take i es) ++ ((get_or es i d).frame.place ∷ [])
places-more es i d h = rw (take-suc es i d h, map-append)

-- A message whose place is one of the store's, and one whose place is not.
module _ (old used : List Bool) (es : List Entry) (i : ℕ) (d : Entry) (h : i < length es) (m : Marks old (places_of (take i es)) used) where
  pub marks-it :
      {after : List Bool}
      → length used ≡ store_places
      → (get_or es i d).frame.place < store_places
      → after ≡ set used (get_or es i d).frame.place true
      → Marks old (places_of (take (i + 1) es)) after
  marks-it long inside is q below =
      let x = (get_or es i d).frame.place in
      let us = places_of (take i es) in
      let one : i + 1 ≡ suc i = omega arith in
      rw (is, one, places-more es i d h, among-more q x us)
      (get_or_set used x q true false (omega (arith, long, inside))
      ∙ by-test (eqb q x)
      (λ e.
      rw (e, eq-eqb x q (sym (eqb-true q x e)), or-true (among q us)) (sym (or-true (get_or old q false))))
      (λ e.
      rw (e, ne_eqb x q (λ k. eqb-false q x e (sym k)), or-false (among q us)) (m q below)))

  pub marks-not :
      {after : List Bool}
      → store_places ≤ (get_or es i d).frame.place
      → after ≡ used
      → Marks old (places_of (take (i + 1) es)) after
  marks-not beyond is q below =
      let x = (get_or es i d).frame.place in
      let us = places_of (take i es) in
      let one : i + 1 ≡ suc i = omega arith in
      rw (is, one, places-more es i d h, among-more q x us, ne_eqb x q (λ e. omega (arith, e, beyond, below)), or-false (among q us))
      (m q below)

-- What the flags behind the first one say.
later :
    (bs : List Bool) (p : ℕ) (us : List ℕ) (b : Bool)
    → ((q : ℕ) → q < length (b ∷ bs) → get_or (b ∷ bs) q false ≡ among (p + q) us)
    → (q : ℕ)
    → q < length bs
    → get_or bs q false ≡ among (suc p + q) us
later bs p us b h q below =
    let e : p + suc q ≡ suc p + q = omega arith in
    h (suc q) (omega (arith, below)) ∙ ap (λ (k : ℕ). among k us) e

-- The first free place is that of the first flag that is not set.
first-unset :
    (bs : List Bool) (p : ℕ) (us : List ℕ)
    → ((q : ℕ) → q < length bs → get_or bs q false ≡ among (p + q) us)
    → first_free (length bs) p us ≡ cond (any not bs) (p + position not bs) 0
unfolding first_free any position
first-unset [] p us h = refl
first-unset (true ∷ bs) p us h =
    let start : p + 0 ≡ p = omega arith in
    let here : among p us ≡ true = sym (h 0 (omega arith) ∙ ap (λ (k : ℕ). among k us) start) in
    let next : suc p + position not bs ≡ p + suc (position not bs) = omega arith in
    rw here (first-unset bs (suc p) us (later bs p us true h) ∙ ap (λ (k : ℕ). cond (any not bs) k 0) next)
first-unset (false ∷ bs) p us h =
    let start : p + 0 ≡ p = omega arith in
    let here : among p us ≡ false = sym (h 0 (omega arith) ∙ ap (λ (k : ℕ). among k us) start) in
    rw here (sym start)

-- The first flag that is not set, of those that the messages of both queues set, is that of the first free place.
pub first-free :
    (s : State) (used : List Bool)
    → length used ≡ store_places
    → Marks (replicate store_places false) (places_of (messages_of s ++ udata_of s)) used
    → unwrap_or (Prelude.position not used) 0 ≡ free_place s
unfolding free_place used_places
first-free s used long m =
    let us = places_of (messages_of s) in
    let vs = places_of (udata_of s) in
    let joined : places_of (messages_of s ++ udata_of s) ≡ us ++ vs = rw map-append in
    let marked : (q : ℕ) → q < length used → get_or used q false ≡ among (0 + q) (us ++ vs) =
    λ q below.
    let h : q < store_places = omega (arith, below, long) in
    m q h
    ∙ ap (λ (b : Bool). b || among q (places_of (messages_of s ++ udata_of s))) (get_or-replicate store_places q false false h)
    ∙ ap (λ (ws : List ℕ). among q ws) joined
    ∙ ap (λ (k : ℕ). among k (us ++ vs)) (sym (zero-add q)) in
    ap (λ (o : Prelude.Option ℕ). unwrap_or o 0) (position-choice not used)
    ∙ chosen (any not used) (position not used)
    ∙ sym
    (ap (λ (k : ℕ). first_free k 0 (us ++ vs)) (sym long)
    ∙ first-unset used 0 (us ++ vs) marked
    ∙ ap (λ (k : ℕ). cond (any not used) k 0) (zero-add (position not used)))
  where
    chosen : (b : Bool) (k : ℕ) → unwrap_or (cond b (Prelude.Some k) Prelude.None) 0 ≡ cond b k 0
    chosen true k = refl
    chosen false k = refl
