-- A report and a release, as the address that holds the receipt has them and as another address does.
use Prim.Native.Nat.{ℕ, ◌<◌}
use mathlib.Core.Path.{◌≡◌, ◌∙◌, refl, sym, ap, ap₂}
use mathlib.Core.Bool.{true, false, not, ◌&&◌, ◌||◌}
use mathlib.Core.List.{List}
use mathlib.Core.Option.{none, some, some-injective}
use borrow.Author.Tests.{eq-eqb, eqb-true}
use lib.Dec.{eqb}
use lib.ListN.{length, set}
use Rattle.std.proofs.lemmas.Bool.{and_parts}
use Rattle.lists.specs.Lists.{keep, any}
use Rattle.lists.proofs.Lists.{all_map}
use Rattle.lists.proofs.Choices.{by-test}
use Rattle.tx_receipt.specs.Marks.{Mark}
use Rattle.llc_rule.specs.Records.{Record, Sent}
use Rattle.llc_rule.specs.Messages.{Message, Place, free, place_at, mark, mark_of}
use Rattle.llc_rule.specs.Keeps.{with_receipts}
use Rattle.llc_rule.specs.Link.{Link}
use Rattle.llc_rule.specs.Step.{held, waits, reportable, releasable, on_report, on_release}
use Rattle.llc_rule.specs.Rule.{still_waits, still_held, after_report, after_release}
use Rattle.llc_rule.specs.Past.{Holders, holding, is_holder}
use Rattle.llc_rule.specs.Sound.{Owned, Sound}
use Rattle.llc_rule.proofs.Own.{sent_to, own, seen_as, any-keep, place-own, own-parts, blank-mark, blank-mark-other, blank-set, blank-set-other, place-blank}

-- A held message with a receipt is of the address that holds that.
same-holder : (a i : ℕ) (h : Holders) (ps : List Place) (s : Sent) → h i ≡ some a → Owned h ps s → eqb s.receipt i ≡ true → eqb s.ssi a ≡ true
same-holder a i h ps s who o e =
    eq-eqb s.ssi a (some-injective s.ssi a (sym o.holder ∙ ap h (eqb-true s.receipt i e) ∙ who))

module _ (a i : ℕ) (h : Holders) (l : Link) (who : h i ≡ some a) (ok : Sound h l) where
  is-holder : is_holder a (h i) ≡ true
  is-holder = rw who (eq-eqb a a refl)

  unacknowledged-with : any (λ (s : Sent). eqb s.receipt i) (keep (sent_to a) l.unacknowledged) ≡ any (λ (s : Sent). eqb s.receipt i) l.unacknowledged
  unacknowledged-with =
      any-keep (sent_to a) (λ (s : Sent). eqb s.receipt i) l.unacknowledged
      (all_map (Owned h l.receipts) (λ (s : Sent). eqb s.receipt i ≡ true → sent_to a s ≡ true) l.unacknowledged
      (λ s o e. same-holder a i h l.receipts s who o e) ok.owned_too)

  place_is : place_at (own a h l).receipts i ≡ place_at l.receipts i
  unfolding own
  place_is = place-own a h l.receipts i is-holder

  -- Does one that waits, or one that is held, have the receipt?
  pub waits-own : still_waits i (own a h l) ≡ waits i l
  unfolding still_waits waits own
  waits-own =
      ap₂ ◌||◌
      (any-keep (λ (m : Message). eqb m.sent.ssi a) (λ (m : Message). eqb m.sent.receipt i && not m.submitted)
      l.acknowledged
      (all_map (λ (m : Message). Owned h l.receipts m.sent) (λ (m : Message). eqb m.sent.receipt i && not m.submitted ≡ true → eqb m.sent.ssi a ≡ true)
      l.acknowledged
      (λ m o e. same-holder a i h l.receipts m.sent who o (and_parts _ _ e).0) ok.owned))
      unacknowledged-with

  pub held-own : still_held i (own a h l) ≡ held i l
  unfolding still_held held own
  held-own =
      ap₂ ◌||◌
      (any-keep (λ (m : Message). eqb m.sent.ssi a) (λ (m : Message). eqb m.sent.receipt i)
      l.acknowledged
      (all_map (λ (m : Message). Owned h l.receipts m.sent) (λ (m : Message). eqb m.sent.receipt i ≡ true → eqb m.sent.ssi a ≡ true)
      l.acknowledged
      (λ m o e. same-holder a i h l.receipts m.sent who o e) ok.owned))
      unacknowledged-with

  receipts-own : (k : Mark) → own a h (with_receipts l (mark k i l.receipts)) ≡ with_receipts (own a h l) (mark k i (own a h l).receipts)
  unfolding own
  receipts-own k =
      let places = blank-mark a h k i l.receipts is-holder in
      own-parts a h h l (with_receipts l (mark k i l.receipts)) refl refl refl refl refl places

  pub report-own : (how : ℕ) → after_report i how (own a h l) ≡ seen_as (own a h) (λ (rs : List Record). rs) (on_report i how l)
  unfolding after_report on_report seen_as
  report-own how =
      rw (waits-own, place_is)
      (by-test (reportable i l) (λ t. rw (t, receipts-own (mark_of how), place_is)) (λ t. rw t))

  freed-own : i < length l.receipts → own a (holding i none h) (with_receipts l (set l.receipts i free)) ≡ with_receipts (own a h l) (set (own a h l).receipts i free)
  unfolding own
  freed-own lt =
      let places = blank-set a h i none free l.receipts lt refl in
      own-parts a h (holding i none h) l (with_receipts l (set l.receipts i free)) refl refl refl refl refl places

  pub release-own : i < length l.receipts → after_release i (own a h l) ≡ seen_as (own a (holding i none h)) (λ (rs : List Record). rs) (on_release i l)
  unfolding after_release on_release seen_as
  release-own lt =
      rw (held-own, place_is)
      (by-test (releasable i l) (λ t. rw (t, freed-own lt)) (λ t. rw t))

-- Another address's report or release changes nothing of an address.
module _ (a i : ℕ) (h : Holders) (l : Link) (other : is_holder a (h i) ≡ false) where
  pub receipts-other : (k : Mark) → own a h (with_receipts l (mark k i l.receipts)) ≡ own a h l
  unfolding own
  receipts-other k =
      let places = blank-mark-other a h k i l.receipts other in
      own-parts a h h l (with_receipts l (mark k i l.receipts)) refl refl refl refl refl places

  pub release_other : i < length l.receipts → own a (holding i none h) (with_receipts l (set l.receipts i free)) ≡ own a h l
  unfolding own
  release_other lt =
      let places = blank-set-other a h i none free l.receipts lt refl (place-blank a h l.receipts i ∙ rw other) in
      own-parts a h (holding i none h) l (with_receipts l (set l.receipts i free)) refl refl refl refl refl places
