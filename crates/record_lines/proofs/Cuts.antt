-- Laws of cutting bytes into records.
use Prim.Native.Nat.{ℕ, zero, suc, ◌+◌, ◌-◌, ◌*◌, ◌≤◌, ◌<◌, min}
use native.Mathlib.Omega.{arith}
use native.Mathlib.Numerals.{one-add}
use mathlib.Core.Path.{◌≡◌, ◌∙◌, refl, sym, ap}
use mathlib.Core.Logic.{◌≢◌}
use mathlib.Core.Bool.{true, false}
use mathlib.Core.List.{List, [], ◌∷◌, ◌++◌, append_assoc, append-nil}
use borrow.Author.Tests.{eq-eqb, ne_eqb}
use lib.Dec.{eqb}
use lib.ListN.{length, get_or, take, drop, length-drop, drop_of_length-le}
use lib.Seq.{take-add, drop-cons, drop-drop}
use Rattle.std.proofs.lemmas.List.{take_rest, take_min, drop_min}
use Rattle.std.proofs.lemmas.Bool.{cond_both}
use Rattle.llc_rule.specs.Calls.{from_bytes}
use Rattle.hex_lines.specs.Lines.{on_first}
use Rattle.record_lines.specs.Split.{behind_tag, cut, split}
use Rattle.record_lines.specs.Ends.{Ends}

-- Bytes in front of the first piece.
abbrev pub before : List ℕ → List (List ℕ) → List (List ℕ)
before p [] = p ∷ []
before p (x ∷ xs) = (p ++ x) ∷ xs

pub before-before : (p q : List ℕ) (xs : List (List ℕ)) → before p (before q xs) ≡ before (p ++ q) xs
before-before p q [] = refl
before-before p q (x ∷ xs) = rw (append_assoc p q x)

before-first : (b : ℕ) (p : List ℕ) (xs : List (List ℕ)) → on_first b (before p xs) ≡ before (b ∷ p) xs
before-first b p [] = refl
before-first b p (x ∷ xs) = refl

-- Nothing in front of pieces, of which there is always one.
nothing-before : (b : ℕ) (xs : List (List ℕ)) → before [] (on_first b xs) ≡ on_first b xs
nothing-before b [] = refl
nothing-before b (x ∷ xs) = refl

pub nothing-cut : (n : ℕ) (bs : List ℕ) → before [] (cut n bs) ≡ cut n bs
unfolding cut
nothing-cut n [] = refl
nothing-cut zero (b ∷ bs) =
    cond_both (eqb b 0x01) _ _ (λ (xs : List (List ℕ)). before [] xs ≡ xs)
    (λ t. refl)
    (λ t. nothing-before b (cut (behind_tag bs) bs))
nothing-cut (suc n) (b ∷ bs) = nothing-before b (cut n bs)

-- What is left of a field goes into the record under way.
cut_on : (n : ℕ) (bs : List ℕ) → cut n bs ≡ before (take n bs) (cut 0 (drop n bs))
unfolding cut
cut_on zero bs = sym (nothing-cut 0 bs)
cut_on (suc n) [] = refl
cut_on (suc n) (b ∷ bs) = ap (on_first b) (cut_on n bs) ∙ before-first b (take n bs) (cut 0 (drop n bs))

-- A field that begins a record.
pub split-on :
    (tag : ℕ) (bs : List ℕ)
    → split (tag ∷ bs) ≡ before (tag ∷ take (behind_tag bs) bs) (cut 0 (drop (behind_tag bs) bs))
unfolding split
split-on tag bs =
    ap (on_first tag) (cut_on (behind_tag bs) bs)
    ∙ before-first tag (take (behind_tag bs) bs) (cut 0 (drop (behind_tag bs) bs))

-- A field that goes on with one, and one at which the next begins; nothing behind a record.
pub cut-same : (tag : ℕ) (bs : List ℕ) → eqb tag 0x01 ≡ false → cut 0 (tag ∷ bs) ≡ split (tag ∷ bs)
unfolding cut split
cut-same tag bs e = rw e

pub cut-next : (tag : ℕ) (bs : List ℕ) → eqb tag 0x01 ≡ true → cut 0 (tag ∷ bs) ≡ [] ∷ split (tag ∷ bs)
unfolding cut split
cut-next tag bs e = rw e

pub cut-none : cut 0 [] ≡ [] ∷ split []
unfolding cut split
cut-none = refl

-- The place behind a field -------------------------------------------------------------------------------------------------

-- The field's length, where its two bytes are there.
pub value_there :
    (l : List ℕ)
    → 3 ≤ length l
    → behind_tag (drop 1 l) ≡ 2 + (256 * get_or l 1 0 + get_or l 2 0)
unfolding from_bytes
value_there [] h = absurd (omega arith)
value_there (a ∷ []) h = absurd (omega arith)
value_there (a ∷ (b ∷ [])) h = absurd (omega arith)
value_there (a ∷ (b ∷ (c ∷ l))) h = omega arith

-- The place behind the field that l begins with.
abbrev behind_field : List ℕ → ℕ
behind_field l = min (1 + behind_tag (drop 1 l)) (length l)

split-field : (l : List ℕ) (n : ℕ) → 0 < length l → n ≡ behind_field l → split l ≡ before (take n l) (cut 0 (drop n l))
split-field [] n h e = absurd (omega arith)
split-field (tag ∷ bs) n h e =
    rw (e, take_min (1 + behind_tag bs) (tag ∷ bs), drop_min (1 + behind_tag bs) (tag ∷ bs), one-add (behind_tag bs)) (split-on tag bs)

-- The place behind a record ------------------------------------------------------------------------------------------------

-- The fields before i are the first record's.
pub record Under (l : List ℕ) (i : ℕ) : Type 0 where
  pub later : 0 < i
  pub within : i ≤ length l
  pub cuts : split l ≡ before (take i l) (cut 0 (drop i l))

pub first_field : (l : List ℕ) (n : ℕ) → 0 < length l → n ≡ behind_field l → Under l n
first_field l n h e = record { later = omega arith; within = omega arith; cuts = split-field l n h e }

pub next_field :
    {l : List ℕ} {i : ℕ} (n : ℕ)
    → Under l i
    → i < length l
    → get_or l i 0 ≢ 0x01
    → n ≡ behind_field (take (length l - i) (drop i l))
    → Under l (i + n)
next_field {l} {i} n u h s f =
    let e : n ≡ behind_field (drop i l) = rw (take_rest l i) at f in
    let long : length (drop i l) ≡ length l - i = length-drop i l in
    let same : cut 0 (drop i l) ≡ split (drop i l) =
    rw (drop-cons l i 0 h) (cut-same (get_or l i 0) (drop (suc i) l) (ne_eqb (get_or l i 0) 0x01 s)) in
    record {
      later = omega (arith, u.later);
      within = omega arith;
      cuts =
          u.cuts
          ∙ ap (before (take i l)) (same ∙ split-field (drop i l) n (omega arith) e)
          ∙ before-before (take i l) (take n (drop i l)) (cut 0 (drop n (drop i l)))
          ∙ rw (take-add i n l, drop-drop n i l);
    }

ended : {l : List ℕ} {i : ℕ} → Under l i → cut 0 (drop i l) ≡ [] ∷ split (drop i l) → Ends l i
ended {l} {i} u e =
    record {
      later = u.later;
      within = u.within;
      cuts = u.cuts ∙ ap (before (take i l)) e ∙ rw (append-nil (take i l));
    }

pub next_record : {l : List ℕ} {i : ℕ} → Under l i → i < length l → get_or l i 0 ≡ 0x01 → Ends l i
next_record {l} {i} u h s =
    ended u (rw (drop-cons l i 0 h) (cut-next (get_or l i 0) (drop (suc i) l) (eq-eqb (get_or l i 0) 0x01 s)))

pub last_record : {l : List ℕ} {i : ℕ} → Under l i → length l ≤ i → Ends l i
last_record {l} {i} u h = ended u (rw (drop_of_length-le l h) cut-none)
