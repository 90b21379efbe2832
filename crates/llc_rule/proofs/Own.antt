-- What the link holds of one address, as the one-address rule keeps it.
use Prim.Native.Nat.{ℕ, zero, suc, ◌+◌, ◌<◌}
use native.Mathlib.Omega.{arith}
use mathlib.Core.Path.{◌≡◌, ◌∙◌, refl, sym, ap}
use mathlib.Core.Bool.{Bool, true, false, cond, ◌&&◌}
use mathlib.Core.List.{List, [], ◌∷◌, ◌++◌, map}
use mathlib.Core.Option.{Option}
use borrow.Author.Clash.{clash}
use borrow.Author.Tests.{eqb-true, eq-eqb}
use lib.Dec.{eqb}
use lib.ListN.{length, set, length-set}
use lib.Seq.{ext_get_or}
use Rattle.lists.specs.Lists.{keep, any, Found, nothing, first, behind, find, others, All}
use Rattle.lists.proofs.Lists.{keep-yes, keep-no, keep_append, find-by, TakenOut, found-out}
use Rattle.lists.proofs.Choices.{by-test}
use Rattle.lists.proofs.Tables.{first-filed, first-beside}
use Rattle.questions.specs.Outcome.{Outcome, accepted, refused}
use Rattle.tdma_time.specs.declared.TdmaTime.{TdmaTime}
use Rattle.tx_receipt.specs.Marks.{Mark}
use Rattle.llc_rule.specs.Records.{Record, ssi_of, Sent}
use Rattle.llc_rule.specs.Messages.{Message, Due, Place, free, place_at, mark}
use Rattle.llc_rule.specs.Done.{Done, done}
use Rattle.llc_rule.specs.Link.{Link, Row, numbers_of, with_numbers, is_row_of, row_with}
use Rattle.llc_rule.specs.Keeps.{Numbers, no_numbers, acknowledged_now, unacknowledged_now, due_now, with_receipts, with_rows}
use Rattle.llc_rule.specs.Rule.{Own}
use Rattle.llc_rule.specs.Past.{Holders, holding, is_holder}
use Rattle.llc_rule.specs.Sound.{of_address}
use Rattle.llc_rule.proofs.Places.{place_set, place-mark, length-mark}

abbrev pub sent_to : ℕ → Sent → Bool
sent_to a s = eqb s.ssi a

abbrev pub due_to : ℕ → Due → Bool
due_to a d = eqb d.ssi a

abbrev pub of_ssi : ℕ → Record → Bool
of_ssi a r = eqb (ssi_of r) a

-- The receipts that an address holds; the places of the others are free.
unfoldable pub blank_from : ℕ → Holders → ℕ → List Place → List Place
blank_from a h i [] = []
blank_from a h i (p ∷ ps) = cond (is_holder a (h i)) p free ∷ blank_from a h (suc i) ps

abbrev pub blank : ℕ → Holders → List Place → List Place
blank a h ps = blank_from a h 0 ps

-- What an address has of the link.
unfoldable pub own : ℕ → Holders → Link → Own
own a h l =
    record {
      started = l.started;
      carrier = l.carrier;
      t251 = l.t251;
      time = l.time;
      acknowledged = of_address a l.acknowledged;
      unacknowledged = keep (sent_to a) l.unacknowledged;
      due = keep (due_to a) l.due;
      receipts = blank a h l.receipts;
      rows = numbers_of a l.rows;
    }

-- What all addresses share of a link.
pub record Shared : Type 0 where
  pub started : Bool
  pub carrier : ℕ
  pub t251 : ℕ
  pub time : TdmaTime

abbrev pub shared : Link → Shared
shared l = record { started = l.started; carrier = l.carrier; t251 = l.t251; time = l.time }

-- What an address has of a link l' beside another link l, by the parts.
pub own-parts :
    (a : ℕ) (h h' : Holders) (l l' : Link) {n : Numbers} {ms : List Message} {us : List Sent} {ds : List Due} {ps : List Place}
    → shared l' ≡ shared l
    → numbers_of a l'.rows ≡ n
    → of_address a l'.acknowledged ≡ ms
    → keep (sent_to a) l'.unacknowledged ≡ us
    → keep (due_to a) l'.due ≡ ds
    → blank a h' l'.receipts ≡ ps
    → own a h' l'
    ≡ with_receipts (due_now (unacknowledged_now (acknowledged_now (with_rows (own a h l) n) ms) us) ds) ps
unfolding own
own-parts a h h' l l' all numbers messages sents dues places =
    λ i.
    record {
      started = (all i).started;
      carrier = (all i).carrier;
      t251 = (all i).t251;
      time = (all i).time;
      acknowledged = messages i;
      unacknowledged = sents i;
      due = dues i;
      receipts = places i;
      rows = numbers i;
    }

-- An outcome on the link, as an address has it.
unfoldable pub seen_as : {S T : Type 0} → (S → T) → (List Record → List Record) → Outcome (Done S) → Outcome (Done T)
seen_as f g (accepted d) = accepted (done (f d.state) (g d.records))
seen_as f g (refused n) = refused n

-- Places ----------------------------------------------------------------------------------------------------------------------

pub length-blank : (a : ℕ) (h : Holders) (i : ℕ) (ps : List Place) → length (blank_from a h i ps) ≡ length ps
unfolding blank_from
length-blank a h i [] = refl
length-blank a h i (p ∷ ps) = ap suc (length-blank a h (suc i) ps)

place-from : (a : ℕ) (h : Holders) (i : ℕ) (ps : List Place) (j : ℕ) → place_at (blank_from a h i ps) j ≡ cond (is_holder a (h (i + j))) (place_at ps j) free
unfolding blank_from
place-from a h i [] j = by-test (is_holder a (h (i + j))) (λ e. rw e) (λ e. rw e)
place-from a h i (p ∷ ps) zero = let e : i + 0 ≡ i = omega arith in rw e
place-from a h i (p ∷ ps) (suc j) = let e : i + suc j ≡ suc i + j = omega arith in rw e (place-from a h (suc i) ps j)

-- The place of a receipt, as an address has it.
pub place-blank : (a : ℕ) (h : Holders) (ps : List Place) (j : ℕ) → place_at (blank a h ps) j ≡ cond (is_holder a (h j)) (place_at ps j) free
place-blank a h ps j = let e : 0 + j ≡ j = omega arith in rw e at (place-from a h 0 ps j)

pub place-own : (a : ℕ) (h : Holders) (ps : List Place) (j : ℕ) → is_holder a (h j) ≡ true → place_at (blank a h ps) j ≡ place_at ps j
place-own a h ps j e = rw (place-blank a h ps j, e)

same-places : (x y : List Place) → length x ≡ length y → ((j : ℕ) → place_at x j ≡ place_at y j) → x ≡ y
same-places x y e f = ext_get_or free x y e (λ j _. f j)

-- Marking a receipt of this address, and one of another.
pub blank-mark : (a : ℕ) (h : Holders) (k : Mark) (i : ℕ) (ps : List Place) → is_holder a (h i) ≡ true → blank a h (mark k i ps) ≡ mark k i (blank a h ps)
blank-mark a h k i ps e =
    same-places (blank a h (mark k i ps)) (mark k i (blank a h ps))
    (length-blank a h 0 (mark k i ps) ∙ length-mark k i ps ∙ sym (length-mark k i (blank a h ps) ∙ length-blank a h 0 ps))
    (λ j.
    place-blank a h (mark k i ps) j
    ∙ ap (λ (p : Place). cond (is_holder a (h j)) p free) (place-mark k ps i j)
    ∙ by-test (eqb j i)
    (λ q. rw (q, eqb-true j i q, e) (sym (place-mark k (blank a h ps) i i ∙ rw (eq-eqb i i refl, place-own a h ps i e))))
    (λ q. rw q (sym (place-mark k (blank a h ps) i j ∙ rw (q, place-blank a h ps j)))))

pub blank-mark-other : (a : ℕ) (h : Holders) (k : Mark) (i : ℕ) (ps : List Place) → is_holder a (h i) ≡ false → blank a h (mark k i ps) ≡ blank a h ps
blank-mark-other a h k i ps e =
    same-places (blank a h (mark k i ps)) (blank a h ps)
    (length-blank a h 0 (mark k i ps) ∙ length-mark k i ps ∙ sym (length-blank a h 0 ps))
    (λ j.
    place-blank a h (mark k i ps) j
    ∙ ap (λ (p : Place). cond (is_holder a (h j)) p free) (place-mark k ps i j)
    ∙ by-test (eqb j i) (λ q. rw (q, eqb-true j i q, e) (sym (place-blank a h ps i ∙ rw e))) (λ q. rw q (sym (place-blank a h ps j))))

-- A receipt that this address takes or gives back, and one that another does.
pub blank-set : (a : ℕ) (h : Holders) (i : ℕ) (who : Option ℕ) (p : Place) (ps : List Place) → i < length ps
    → cond (is_holder a who) p free ≡ p → blank a (holding i who h) (set ps i p) ≡ set (blank a h ps) i p
blank-set a h i who p ps lt e =
    let shorter : i < length (blank a h ps) = rw (length-blank a h 0 ps) lt in
    same-places (blank a (holding i who h) (set ps i p)) (set (blank a h ps) i p)
    (length-blank a (holding i who h) 0 (set ps i p)
    ∙ length-set ps i p
    ∙ sym (length-set (blank a h ps) i p ∙ length-blank a h 0 ps))
    (λ j.
    place-blank a (holding i who h) (set ps i p) j
    ∙ ap (λ (x : Place). cond (is_holder a (holding i who h j)) x free) (place_set ps i j p lt)
    ∙ sym (place_set (blank a h ps) i j p shorter ∙ by-test (eqb j i) (λ q. rw q (sym e)) (λ q. rw q (place-blank a h ps j))))

pub blank-set-other : (a : ℕ) (h : Holders) (i : ℕ) (who : Option ℕ) (p : Place) (ps : List Place) → i < length ps
    → is_holder a who ≡ false → place_at (blank a h ps) i ≡ free → blank a (holding i who h) (set ps i p) ≡ blank a h ps
blank-set-other a h i who p ps lt e was =
    same-places (blank a (holding i who h) (set ps i p)) (blank a h ps)
    (length-blank a (holding i who h) 0 (set ps i p) ∙ length-set ps i p ∙ sym (length-blank a h 0 ps))
    (λ j.
    place-blank a (holding i who h) (set ps i p) j
    ∙ ap (λ (x : Place). cond (is_holder a (holding i who h j)) x free) (place_set ps i j p lt)
    ∙ by-test (eqb j i) (λ q. rw (q, eqb-true j i q, e) (sym was)) (λ q. rw q (sym (place-blank a h ps j))))

-- Rows ------------------------------------------------------------------------------------------------------------------------

pub numbers-own : (a : ℕ) (n : Numbers) (rs : List Row) → numbers_of a (with_numbers a n rs) ≡ n
numbers-own a n rs =
    ap (λ (w : Row). w.numbers) (first-filed (is_row_of a) (row_with a no_numbers) (row_with a n) rs (eq-eqb a a refl))

pub numbers-other :
    (a c : ℕ) (n : Numbers) (rs : List Row) → eqb c a ≡ false → numbers_of a (with_numbers c n rs) ≡ numbers_of a rs
numbers-other a c n rs e =
    ap (λ (w : Row). w.numbers)
    (first-beside (is_row_of c) (is_row_of a) (row_with a no_numbers) (row_with c n) rs
    (λ w t. rw (eqb-true w.ssi c t) e)
    (eq-eqb c c refl))

-- Queues ----------------------------------------------------------------------------------------------------------------------

module _ {A : Type 0} where
  -- What was found among those that pass a test.
  abbrev pub keep_found : (A → Bool) → Found A → Found A
  keep_found mine nothing = nothing
  keep_found mine (first x xs) = first x (keep mine xs)

  keep-behind : (mine : A → Bool) (y : A) (f : Found A) → mine y ≡ true → keep_found mine (behind y f) ≡ behind y (keep_found mine f)
  keep-behind mine y nothing e = refl
  keep-behind mine y (first x xs) e = ap (first x) (keep-yes mine y xs e)

  skip-behind : (mine : A → Bool) (y : A) (f : Found A) → mine y ≡ false → keep_found mine (behind y f) ≡ keep_found mine f
  skip-behind mine y nothing e = refl
  skip-behind mine y (first x xs) e = ap (first x) (keep-no mine y xs e)

  pub find-keep : (mine p : A → Bool) (l : List A) → find p (keep mine l) ≡ keep_found mine (find (λ x. mine x && p x) l)
  unfolding find keep
  find-keep mine p [] = refl
  find-keep mine p (y ∷ l) =
      by-test (mine y)
      (λ e.
      rw e
      (by-test (p y)
      (λ t. rw t)
      (λ t.
      rw (t, find-keep mine p l) (sym (keep-behind mine y (find (λ (x : A). mine x && p x) l) e)))))
      (λ e. rw e (find-keep mine p l ∙ sym (skip-behind mine y (find (λ (x : A). mine x && p x) l) e)))

  -- Taking out one that is not mine leaves mine as they are.
  pub keep_taken : (mine p : A → Bool) (l : List A) → ((x : A) → p x ≡ true → mine x ≡ false) → (f : Found A) → TakenOut p l f → keep mine (others f l) ≡ keep mine l
  keep_taken mine p l g nothing s = refl
  keep_taken mine p l g (first x xs) s =
      ap (keep mine) s.rest
      ∙ keep_append mine s.front s.back
      ∙ ap (λ (t : List A). keep mine s.front ++ t) (sym (keep-no mine x s.back (g x s.passes)))
      ∙ sym (keep_append mine s.front (x ∷ s.back))
      ∙ ap (keep mine) (sym s.whole)

  pub keep-others : (mine p : A → Bool) (l : List A) → ((x : A) → p x ≡ true → mine x ≡ false) → keep mine (others (find p l) l) ≡ keep mine l
  keep-others mine p l g = keep_taken mine p l g (find p l) (found-out p l (find p l) (find-by p l))

  pub keep-map : {B : Type 0} (q : B → Bool) (mine : A → Bool) (f : A → B) (l : List A) → ((x : A) → q (f x) ≡ mine x) → keep q (map f l) ≡ map f (keep mine l)
  unfolding keep
  keep-map q mine f [] e = refl
  keep-map q mine f (x ∷ l) e = rw (e x) (by-test (mine x) (λ t. rw (t, keep-map q mine f l e)) (λ t. rw (t, keep-map q mine f l e)))

  -- Whether one passes is seen among mine, where those that pass are mine.
  pub any-keep : (mine p : A → Bool) (l : List A) → All (λ (x : A). p x ≡ true → mine x ≡ true) l → any p (keep mine l) ≡ any p l
  unfolding keep any
  any-keep mine p [] f = refl
  any-keep mine p (x ∷ l) f =
      by-test (mine x)
      (λ e. rw (e, any-keep mine p l f.1))
      (λ e.
      rw (e, any-keep mine p l f.1)
      (by-test (p x) (λ t. clash _ (f.0 t) e) (λ t. rw t)))
