-- What the invariant needs of lists, places and the messages of an address.
use Prim.Native.Nat.{ℕ, ◌<◌}
use mathlib.Core.Path.{◌≡◌, ◌∙◌, refl, sym}
use mathlib.Core.Bool.{Bool, true, false, ◌||◌}
use mathlib.Core.List.{List, [], ◌∷◌, ◌++◌}
use mathlib.Core.Option.{Option}
use borrow.Author.Clash.{clash}
use borrow.Author.Tests.{eqb-true, not-true}
use lib.Dec.{eqb}
use lib.ListN.{length, set}
use Rattle.std.proofs.lemmas.Bool.{or_parts}
use Rattle.lists.specs.Lists.{keep, any}
use Rattle.lists.proofs.Lists.{keep-yes, keep-no, keep_append, any_append, get_or_set}
use Rattle.lists.proofs.Choices.{by-test}
use Rattle.tx_receipt.specs.States.{is}
use Rattle.tx_receipt.specs.Marks.{Mark}
use Rattle.tx_receipt.specs.declared.TxState.TheVariants.{Pending}
use Rattle.tx_receipt.specs.declared.TxReceipt.{TxReceipt}
use Rattle.llc_rule.specs.Messages.{Message, Place, free, taken, place_at, is_free, taken?, mark}
use Rattle.llc_rule.specs.Records.{Sent}
use Rattle.llc_rule.specs.Past.{Holders, holding}
use Rattle.llc_rule.specs.Sound.{Owned, IsPending, expects, Expects, Waiting, is_nobody, one_ahead}
use Rattle.llc_rule.proofs.Places.{place_other, mark-free, mark-expects}

-- Places ------------------------------------------------------------------------------------------------------------------

-- A receipt whose place differs from another's is another receipt.
pub other_place : (ps : List Place) (i j : ℕ) → is_free (place_at ps i) ≡ true → is_free (place_at ps j) ≡ false → eqb j i ≡ false
other_place ps i j e f = by-test (eqb j i) (λ h. clash _ e (rw (eqb-true j i h) at f)) (λ h. h)

pending-taken : (t : TxReceipt → Bool) (p : Place) → taken? t p ≡ true → is_free p ≡ false
pending-taken t free h = clash _ h refl
pending-taken t (taken r) h = refl

pub other-pending : (ps : List Place) (i j : ℕ) → is_free (place_at ps i) ≡ true → IsPending ps j → eqb j i ≡ false
other-pending ps i j e w = other_place ps i j e (pending-taken (is Pending) (place_at ps j) w)

pub other-expecting : (ps : List Place) (i j : ℕ) → is_free (place_at ps i) ≡ true → Expects ps j → eqb j i ≡ false
other-expecting ps i j e w = other_place ps i j e (pending-taken expects (place_at ps j) w)

pub owned-marked : (h : Holders) (ps : List Place) (k : Mark) (i : ℕ) (t : Sent) → Owned h ps t → Owned h (mark k i ps) t
owned-marked h ps k i t o = record { holder = o.holder; taken = mark-free k i ps t.receipt ∙ o.taken }

-- A receipt written and held by another: a message with another receipt is as it was.
pub owned-other :
    (h : Holders) (ps : List Place) (i : ℕ) (who : Option ℕ) (p : Place) (t : Sent)
    → Owned h ps t
    → eqb t.receipt i ≡ false
    → Owned (holding i who h) (set ps i p) t
owned-other h ps i who p t o e =
    record { holder = rw e o.holder; taken = rw (place_other ps i t.receipt p e) o.taken }

-- A place is written as free exactly if nobody is to hold it.
pub free-written :
    (h : Holders) (ps : List Place) (i : ℕ) (who : Option ℕ) (p : Place)
    → i < length ps
    → is_free p ≡ is_nobody who
    → ((j : ℕ) → is_free (place_at ps j) ≡ is_nobody (h j))
    → (j : ℕ)
    → is_free (place_at (set ps i p) j) ≡ is_nobody (holding i who h j)
free-written h ps i who p b e f j =
    rw (get_or_set ps i j p free b) (by-test (eqb j i) (λ t. rw t e) (λ t. rw t (f j)))

-- Another receipt written: what is Pending stays so.
pub pending-other : (ps : List Place) (i j : ℕ) (p : Place) → eqb j i ≡ false → IsPending ps j → IsPending (set ps i p) j
pending-other ps i j p h w = rw (place_other ps i j p h) w

pub waiting-other :
    (ps : List Place) (i : ℕ) (p : Place) (m : Message)
    → eqb m.sent.receipt i ≡ false
    → Waiting ps m
    → Waiting (set ps i p) m
waiting-other ps i p m h w =
    record {
      expects = rw (place_other ps i m.sent.receipt p h) w.expects;
      receipt = λ e. pending-other ps i m.sent.receipt p h (w.receipt e);
      time = w.time;
    }

-- A receipt marked that no waiting message has.
pub waiting-marked :
    (ps : List Place) (k : Mark) (i : ℕ) (m : Message)
    → (m.submitted ≡ false → eqb m.sent.receipt i ≡ false)
    → Waiting ps m
    → Waiting (mark k i ps) m
waiting-marked ps k i m h w =
    record {
      expects = mark-expects k i ps m.sent.receipt ∙ w.expects;
      receipt = λ e. pending-other ps i m.sent.receipt _ (h e) (w.receipt e);
      time = w.time;
    }

-- The messages of an address ----------------------------------------------------------------------------------------------

abbrev submitted_in : List Message → Bool
submitted_in ms = any (λ (n : Message). n.submitted) ms

-- Messages that wait may be put last.
pub ahead-append : (l m : List Message) → submitted_in m ≡ false → one_ahead l ≡ true → one_ahead (l ++ m) ≡ true
unfolding one_ahead any
ahead-append [] [] e h = refl
ahead-append [] (x ∷ m) e h = rw (or_parts x.submitted (submitted_in m) e).1
ahead-append (y ∷ l) m e h = rw (any_append (λ (n : Message). n.submitted) l m, e, not-true (submitted_in l) h)

-- Nothing stands before a submitted message.
ahead-alone :
    (l : List Message) (x : Message) (m : List Message)
    → x.submitted ≡ true
    → one_ahead (l ++ (x ∷ m)) ≡ true
    → l ≡ []
unfolding one_ahead any
ahead-alone [] x m e h = refl
ahead-alone (y ∷ l) x m e h =
    let n : submitted_in l || submitted_in (x ∷ m) ≡ false =
    sym (any_append (λ (n : Message). n.submitted) l (x ∷ m)) ∙ not-true (submitted_in (l ++ (x ∷ m))) h in
    clash _ e (or_parts x.submitted (submitted_in m) (or_parts (submitted_in l) _ n).1).0

ahead-tail : (x : Message) (l : List Message) → one_ahead (x ∷ l) ≡ true → one_ahead l ≡ true
unfolding one_ahead any
ahead-tail x [] h = refl
ahead-tail x (y ∷ l) h = rw (or_parts y.submitted (submitted_in l) (not-true (submitted_in (y ∷ l)) h)).1

-- Of those that pass a test a submitted message may be moved to the front of all.
pub ahead-front :
    (p : Message → Bool) (f : List Message) (x : Message) (b : List Message)
    → x.submitted ≡ true
    → one_ahead (keep p (f ++ (x ∷ b))) ≡ true
    → one_ahead (keep p (x ∷ (f ++ b))) ≡ true
ahead-front p f x b e h =
    by-test (p x)
    (λ t.
    let g : one_ahead (keep p f ++ (x ∷ keep p b)) ≡ true = rw (keep_append p f (x ∷ b), keep-yes p x b t) at h in
    let alone = ahead-alone (keep p f) x (keep p b) e g in
    rw (keep-yes p x (f ++ b) t, keep_append p f b, alone) (rw alone at g))
    (λ t. rw (keep-no p x (f ++ b) t, keep_append p f b) (rw (keep_append p f (x ∷ b), keep-no p x b t) at h))

-- Or taken out.
pub ahead-less :
    (p : Message → Bool) (x : Message) (l : List Message)
    → one_ahead (keep p (x ∷ l)) ≡ true
    → one_ahead (keep p l) ≡ true
ahead-less p x l h =
    by-test (p x) (λ t. ahead-tail x (keep p l) (rw (keep-yes p x l t) at h)) (λ t. rw (keep-no p x l t) at h)
