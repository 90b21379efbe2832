-- A frame, as its own address has it and as another address does.
use Prim.Native.Nat.{ℕ}
use mathlib.Core.Path.{◌≡◌, ◌∙◌, refl, sym, ap, subst}
use mathlib.Core.Bool.{Bool, true, false, cond, ◌&&◌, false≢true}
use mathlib.Core.List.{List, [], ◌∷◌, ◌++◌, append-nil}
use mathlib.Core.Option.{Option, none, some}
use borrow.Author.Tests.{eq-eqb, eqb-true, not-true}
use lib.Dec.{eqb}
use Rattle.std.proofs.lemmas.Bool.{and_parts, or_parts, cond-true, cond-false, and_from, and_right}
use Rattle.lists.specs.Lists.{keep, any, Found, nothing, first, behind, find, others, All}
use Rattle.lists.proofs.Lists.{keep-yes, keep-no, keep_append, Split, FoundBy, find-by, all_back}
use Rattle.lists.proofs.Choices.{by-test}
use Rattle.questions.specs.Outcome.{accepted}
use Rattle.tx_receipt.specs.Marks as Marks
use Rattle.llc_pdus.specs.declared.Pdu.{Pdu}
use Rattle.llc_pdus.specs.declared.Pdu.TheVariants.{BlAdata, BlData, BlUdata, BlAck}
use Rattle.llc_pdus.specs.Headers.{ns_of, nr_of}
use Rattle.llc_pdus.specs.Received.{Received}
use Rattle.llc_rule.specs.Calls.{Frame}
use Rattle.llc_rule.specs.Records.{Record, data_up, ssi_of}
use Rattle.llc_rule.specs.Upward.{indication, unless_empty, upward}
use Rattle.llc_rule.specs.Messages.{Message, Place, mark, slot_before}
use Rattle.llc_rule.specs.Keeps.{with_last, acknowledged_now, with_receipts}
use Rattle.llc_rule.specs.Link.{Link, numbers_of}
use Rattle.llc_rule.specs.Step.{row_for_frame, due_room, with_due, numbered, is_last, is_repeat, sent_up, awaiting, fits, finishable, may_finish, answered_by, answered, on_received}
use Rattle.llc_rule.specs.Rule.{Own, noting, unless_repeated, the_one, one_transmitted, can_finish, finished, heard, after_received}
use Rattle.llc_rule.specs.Past.{Holders, is_holder}
use Rattle.llc_rule.specs.Sound.{Owned, of_address, one_ahead, Sound}
use Rattle.llc_rule.proofs.SoundFrames.{sound-numbered}
use Rattle.llc_rule.proofs.Paths.{Heard, after_heard, sent-up}
use Rattle.llc_rule.proofs.Own.{due_to, blank, own, seen_as, keep_found, find-keep, keep-others, place-own, own-parts, blank-mark, blank-mark-other, numbers-own, numbers-other}

none_found : {A : Type 0} (p : A → Bool) (l : List A) → any p l ≡ false → find p l ≡ nothing
unfolding find any
none_found p [] e = refl
none_found p (x ∷ l) e =
    let n = or_parts (p x) (any p l) e in
    rw (n.0, none_found p l n.1)

none-of-both : {A : Type 0} (p q : A → Bool) (l : List A) → any q l ≡ false → any (λ (x : A). p x && q x) l ≡ false
unfolding any
none-of-both p q [] e = refl
none-of-both p q (x ∷ l) e =
    let n = or_parts (q x) (any q l) e in
    rw (n.0, none-of-both p q l n.1) (by-test (p x) (λ t. rw t) (λ t. rw t))

-- The one ahead, if it passes a test too.
abbrev heads : (Message → Bool) → Found Message → Found Message
heads p nothing = nothing
heads p (first m ms) = cond (p m) (first m ms) nothing

abbrev is_submitted : Message → Bool
is_submitted m = m.submitted

-- With at most one submitted, and that ahead, looking for a submitted one that passes a test finds that one or none.
found-ahead : (p : Message → Bool) (q : List Message) → one_ahead q ≡ true → find (λ (m : Message). p m && m.submitted) q ≡ heads p (find is_submitted q)
unfolding find one_ahead
found-ahead p [] e = refl
found-ahead p (m ∷ ms) e =
    let q : Message → Bool = λ n. p n && n.submitted in
    let rest = not-true (any is_submitted ms) e in
    let x : Found Message = first m ms in
    let other-is = ap (behind m) (none_found q ms (none-of-both p is_submitted ms rest)) in
    let none_is = ap (behind m) (none_found is_submitted ms rest) in
    by-test m.submitted
    (λ u.
    by-test (p m)
    (λ t.
    cond-true _ x (behind m (find q ms)) (and_from _ _ t u)
    ∙ sym (ap (heads p) (cond-true _ x (behind m (find is_submitted ms)) u) ∙ cond-true _ x nothing t))
    (λ t.
    cond-false (p m && m.submitted) x (behind m (find q ms)) (rw t)
    ∙ other-is
    ∙ sym (ap (heads p) (cond-true _ x (behind m (find is_submitted ms)) u) ∙ cond-false _ x nothing t)))
    (λ u.
    cond-false _ x (behind m (find q ms)) (and_right (p m) _ u)
    ∙ other-is
    ∙ sym (ap (heads p) (cond-false _ x (behind m (find is_submitted ms)) u ∙ none_is)))

-- And what is found is the first.
ahead-first : (q : List Message) → one_ahead q ≡ true → (m : Message) (ms : List Message) → find is_submitted q ≡ first m ms → q ≡ m ∷ ms
unfolding find one_ahead
ahead-first [] e m ms f = cc
ahead-first (n ∷ ns) e m ms f =
    let rest = not-true (any is_submitted ns) e in
    by-test n.submitted
    (λ t. let g : first n ns ≡ first m ms = sym (cond-true _ (first n ns) (behind n (find is_submitted ns)) t) ∙ f in cc)
    (λ t.
    let g : nothing ≡ first m ms =
    sym (cond-false _ (first n ns) (behind n (find is_submitted ns)) t ∙ ap (behind n) (none_found is_submitted ns rest)) ∙ f
    in
    cc)

abbrev is_found : Found Message → Bool
is_found nothing = false
is_found (first m ms) = true

abbrev on_carrier : Frame → Message → Bool
on_carrier f m = eqb m.sent.carrier f.carrier

abbrev to_ssi : Frame → Message → Bool
to_ssi f m = eqb m.sent.ssi f.ssi

-- What can come of looking for the message that a frame answers, on the link and by the rule: none, one on another carrier, or
-- one on this.
data Looked (f : Frame) : Found Message → Found Message → Type 0 where
  no_one : Looked f nothing nothing
  elsewhere : (m : Message) (ms : List Message) → on_carrier f m ≡ false → Looked f nothing (first m ms)
  here : (m : Message) (xs : List Message) → on_carrier f m ≡ true → Looked f (first m xs) (first m (keep (to_ssi f) xs))

looked-at : (f : Frame) (x t : Found Message) → keep_found (to_ssi f) x ≡ heads (on_carrier f) t → Looked f x t
looked-at f nothing nothing e = no_one
looked-at f nothing (first m ms) e =
    by-test (on_carrier f m)
    (λ t. absurd (false≢true (ap is_found (e ∙ cond-true _ (first m ms) nothing t))))
    (λ t. elsewhere m ms t)
looked-at f (first n xs) nothing e = absurd (false≢true (ap is_found (sym e)))
looked-at f (first n xs) (first m ms) e =
    by-test (on_carrier f m)
    (λ t.
    let g : first n (keep (to_ssi f) xs) ≡ first m ms = e ∙ cond-true _ (first m ms) nothing t in
    let same : n ≡ m = cc in
    subst (Looked f (first n xs)) g (here n xs (ap (on_carrier f) same ∙ t)))
    (λ t. absurd (false≢true (ap is_found (sym (e ∙ cond-false _ (first m ms) nothing t)))))

-- A repeat is one for the link and for the rule.
repeat-by : (ns : Bool) (last : Option Bool) (up : List Record) → unless_repeated last (some ns) up ≡ cond (is_last ns last) [] up
repeat-by ns none up = refl
repeat-by true (some true) up = refl
repeat-by false (some true) up = refl
repeat-by true (some false) up = refl
repeat-by false (some false) up = refl

-- A frame to an address, on a link that is sound.
module _ (f : Frame) (h : Holders) (l : Link) (ok : Sound h l) where
  -- The one that the link awaits is the one under way, if it is on the frame's carrier.
  looked : Looked f (awaiting f l) (the_one (own f.ssi h l))
  unfolding own the_one awaiting
  looked =
      looked-at f (awaiting f l) (the_one (own f.ssi h l))
      (sym (find-keep (to_ssi f) (λ (m : Message). on_carrier f m && m.submitted) l.acknowledged)
      ∙ found-ahead (on_carrier f) (of_address f.ssi l.acknowledged) (ok.ahead f.ssi))

  awaited : (m : Message) (xs : List Message) → awaiting f l ≡ first m xs → Split (λ (n : Message). to_ssi f n && (on_carrier f n && n.submitted)) l.acknowledged m xs
  unfolding awaiting
  awaited m xs e =
      subst (FoundBy (λ (n : Message). to_ssi f n && (on_carrier f n && n.submitted)) l.acknowledged) e
      (find-by (λ (n : Message). to_ssi f n && (on_carrier f n && n.submitted)) l.acknowledged)

  -- It is of the frame's address, which holds its receipt.
  to-ssi : (m : Message) (xs : List Message) → awaiting f l ≡ first m xs → to_ssi f m ≡ true
  to-ssi m xs e = (and_parts _ _ (awaited m xs e).passes).0

  is-holder : (m : Message) (xs : List Message) → awaiting f l ≡ first m xs → is_holder f.ssi (h m.sent.receipt) ≡ true
  is-holder m xs e =
      let s = awaited m xs e in
      let P : Message → Type 0 = λ n. Owned h l.receipts n.sent in
      let o = (all_back P s.front (m ∷ s.back) (subst (All P) s.whole ok.owned)).0 in
      rw o.holder (to-ssi m xs e)

  -- Question 14, put to both.
  can-finish :
      (nr : Bool) (x t : Found Message)
      → awaiting f l ≡ x
      → Looked f x t
      → one_transmitted f nr t (own f.ssi h l) ≡ finishable nr x l
  unfolding own
  can-finish nr x t e no_one = refl
  can-finish nr x t e (elsewhere m ms c) = rw c
  can-finish nr x t e (here m xs c) = rw (c, place-own f.ssi h l.receipts m.sent.receipt (is-holder m xs e))

  can-own : (x : Option Bool) → can_finish f x (own f.ssi h l) ≡ may_finish f x l
  can-own none = refl
  can-own (some nr) = can-finish nr (awaiting f l) (the_one (own f.ssi h l)) refl looked

  -- The link and what the rule keeps, with other acknowledged messages and receipts.
  abbrev link_with : List Message → List Place → Link
  link_with ms ps = with_receipts (acknowledged_now l ms) ps

  abbrev own_with : List Message → List Place → Own
  own_with ms ps = with_receipts (acknowledged_now (own f.ssi h l) ms) ps

  own-with :
      (ms : List Message) (ps : List Place) (ns : List Message) (qs : List Place)
      → of_address f.ssi ms ≡ ns
      → blank f.ssi h ps ≡ qs
      → own f.ssi h (link_with ms ps) ≡ own_with ns qs
  unfolding own
  own-with ms ps ns qs e g = own-parts f.ssi h h l (link_with ms ps) refl refl e refl refl g

  -- The queues after it.
  finish :
      (nr : Bool) (x t : Found Message)
      → awaiting f l ≡ x
      → the_one (own f.ssi h l) ≡ t
      → Looked f x t
      → own f.ssi h (answered_by nr x l) ≡ finished f nr t (own f.ssi h l)
  unfolding own answered_by the_one
  finish nr x t e g no_one = refl
  finish nr x t e g (elsewhere m ms c) = rw c
  finish nr x t e g (here m xs c) =
      let a : ℕ = f.ssi in
      let i : ℕ = m.sent.receipt in
      let was : of_address a (m ∷ xs) ≡ of_address a l.acknowledged =
      keep-yes (to_ssi f) m xs (to-ssi m xs e) ∙ sym (ahead-first (of_address a l.acknowledged) (ok.ahead a) m (keep (to_ssi f) xs) g)
      in
      let gone : Link = link_with xs (mark Marks.acknowledged i l.receipts) in
      let moved : Link = link_with (m ∷ xs) l.receipts in
      let gone-own : Own = own_with (of_address a xs) (mark Marks.acknowledged i (blank a h l.receipts)) in
      let same-own : Own = own_with (of_address a l.acknowledged) (blank a h l.receipts) in
      by-test (fits nr m)
      (λ u.
      ap (own a h) (cond-true _ gone moved u)
      ∙ own-with xs (mark Marks.acknowledged i l.receipts) (of_address a xs) (mark Marks.acknowledged i (blank a h l.receipts)) refl
      (blank-mark a h Marks.acknowledged i l.receipts (is-holder m xs e))
      ∙ sym (cond-true _ gone-own same-own (and_from _ _ c u)))
      (λ u.
      ap (own a h) (cond-false _ gone moved u)
      ∙ own-with (m ∷ xs) l.receipts (of_address a l.acknowledged) (blank a h l.receipts) was refl
      ∙ sym (cond-false _ gone-own same-own (and_right (on_carrier f m) _ u)))

  heard-own : (x : Option Bool) → own f.ssi h (answered f x l) ≡ heard f x (own f.ssi h l)
  unfolding awaiting the_one
  heard-own none = refl
  heard-own (some nr) = finish nr (awaiting f l) (the_one (own f.ssi h l)) refl refl looked

-- What N(S) does, as the frame's address has it.
module _ (f : Frame) (h : Holders) (l : Link) where
  made-due :
      (ns : Bool)
      → keep (due_to f.ssi) (with_due f ns l)
      ≡ keep (due_to f.ssi) l.due
      ++ (record { ssi = f.ssi; type = f.type; carrier = f.carrier; nr = ns; slot = slot_before l.time } ∷ [])
  unfolding keep
  made-due ns =
      keep_append (due_to f.ssi) l.due (record { ssi = f.ssi; type = f.type; carrier = f.carrier; nr = ns; slot = slot_before l.time } ∷ [])
      ∙ rw (eq-eqb f.ssi f.ssi refl)

  numbered-own : (x : Option Bool) → own f.ssi h (numbered f x l) ≡ noting f x (own f.ssi h l)
  unfolding own
  numbered-own none = refl
  numbered-own (some ns) =
      own-parts f.ssi h h l (numbered f (some ns) l) refl
      (numbers-own f.ssi (with_last (numbers_of f.ssi l.rows) ns) l.rows)
      refl refl (made-due ns) refl

  -- Whether it goes up.
  repeat-own :
      (x : Option Bool) (up : List Record)
      → unless_repeated (own f.ssi h l).rows.last x up ≡ cond (is_repeat f x l) [] up
  unfolding own
  repeat-own none up = refl
  repeat-own (some ns) up = repeat-by ns (numbers_of f.ssi l.rows).last up

  -- A frame, as its address has it, where questions 7 and 13 are passed.
  pub received-own :
      (r : Received)
      → Sound h l
      → row_for_frame f (ns_of r.header) l ≡ true
      → due_room (ns_of r.header) l ≡ true
      → after_received f (accepted r) (own f.ssi h l) ≡ seen_as (own f.ssi h) (λ (rs : List Record). rs) (on_received f (accepted r) l)
  unfolding after_received on_received seen_as
  received-own r ok row room =
      let ns : Option Bool = ns_of r.header in
      let nr : Option Bool = nr_of r.header in
      rw (row, room, can-own f h l ok nr, repeat-own ns (upward f r.header r.sdu), ← numbered-own ns)
      (by-test (may_finish f nr l)
      (λ t. rw (t, heard-own f h (numbered f ns l) (sound-numbered h l f ns row room ok) nr))
      (λ t. rw t))

-- Another address's frame changes nothing of an address, and gives no record with its SSI.
module _ (a : ℕ) (f : Frame) (h : Holders) (l : Link) (ok : Sound h l) (other : eqb f.ssi a ≡ false) where
  not-to : (m : Message) → to_ssi f m ≡ true → eqb m.sent.ssi a ≡ false
  not-to m t = rw (eqb-true m.sent.ssi f.ssi t) other

  holder-other : (m : Message) (xs : List Message) → awaiting f l ≡ first m xs → is_holder a (h m.sent.receipt) ≡ false
  holder-other m xs e =
      let s = awaited f h l ok m xs e in
      let P : Message → Type 0 = λ n. Owned h l.receipts n.sent in
      let o = (all_back P s.front (m ∷ s.back) (subst (All P) s.whole ok.owned)).0 in
      rw o.holder (not-to m (to-ssi f h l ok m xs e))

  others-other : (m : Message) (xs : List Message) → awaiting f l ≡ first m xs → of_address a xs ≡ of_address a l.acknowledged
  unfolding awaiting
  others-other m xs e =
      let p : Message → Bool = λ n. to_ssi f n && (on_carrier f n && n.submitted) in
      ap (λ (x : Found Message). of_address a (others x l.acknowledged)) (sym e)
      ∙ keep-others (λ (n : Message). eqb n.sent.ssi a) p l.acknowledged (λ n t. not-to n (and_parts _ _ t).0)

  same-with :
      (ms : List Message) (ps : List Place)
      → of_address a ms ≡ of_address a l.acknowledged
      → blank a h ps ≡ blank a h l.receipts
      → own a h (with_receipts (acknowledged_now l ms) ps) ≡ own a h l
  unfolding own
  same-with ms ps e g = own-parts a h h l (with_receipts (acknowledged_now l ms) ps) refl refl e refl refl g

  answered-other : (nr : Bool) (x : Found Message) → awaiting f l ≡ x → own a h (answered_by nr x l) ≡ own a h l
  unfolding answered_by
  answered-other nr nothing e = refl
  answered-other nr (first m xs) e =
      let i : ℕ = m.sent.receipt in
      let gone : Link = with_receipts (acknowledged_now l xs) (mark Marks.acknowledged i l.receipts) in
      let moved : Link = acknowledged_now l (m ∷ xs) in
      by-test (fits nr m)
      (λ u.
      ap (own a h) (cond-true _ gone moved u)
      ∙ same-with xs (mark Marks.acknowledged i l.receipts) (others-other m xs e)
      (blank-mark-other a h Marks.acknowledged i l.receipts (holder-other m xs e)))
      (λ u.
      ap (own a h) (cond-false _ gone moved u)
      ∙ same-with (m ∷ xs) l.receipts
      (keep-no (λ (n : Message). eqb n.sent.ssi a) m xs (not-to m (to-ssi f h l ok m xs e)) ∙ others-other m xs e) refl)

  heard-other : (x : Option Bool) → own a h (answered f x l) ≡ own a h l
  unfolding awaiting
  heard-other none = refl
  heard-other (some nr) = answered-other nr (awaiting f l) refl

  unless-empty : (s : List ℕ) (r : Record) → eqb (ssi_of r) a ≡ false → keep (λ (q : Record). eqb (ssi_of q) a) (unless_empty s r) ≡ []
  unfolding keep
  unless-empty [] r e = refl
  unless-empty (b ∷ s) r e = rw e

  upward-other : (p : Pdu) (s : List ℕ) → keep (λ (q : Record). eqb (ssi_of q) a) (upward f p s) ≡ []
  unfolding upward keep
  upward-other (BlAdata c nr ns) s = rw other
  upward-other (BlData c ns) s = rw other
  upward-other (BlUdata c) s = rw other
  upward-other (BlAck c nr) s = unless-empty s (data_up (indication f (BlAck c nr) 0 s)) other

  pub sent-up-other : (r : Received) → keep (λ (q : Record). eqb (ssi_of q) a) (sent_up f r l) ≡ []
  unfolding keep
  sent-up-other r =
      sent-up (λ (rs : List Record). keep (λ (q : Record). eqb (ssi_of q) a) rs ≡ []) f r l refl (upward-other r.header r.sdu)

-- What N(S) does, as another address has it; and the whole frame.
module _ (a : ℕ) (f : Frame) (h : Holders) (l : Link) (other : eqb f.ssi a ≡ false) where
  due-other : (ns : Bool) → keep (due_to a) (with_due f ns l) ≡ keep (due_to a) l.due
  unfolding keep
  due-other ns =
      keep_append (due_to a) l.due (record { ssi = f.ssi; type = f.type; carrier = f.carrier; nr = ns; slot = slot_before l.time } ∷ [])
      ∙ rw other (append-nil (keep (due_to a) l.due))

  numbered-other : (x : Option Bool) → own a h (numbered f x l) ≡ own a h l
  unfolding own
  numbered-other none = refl
  numbered-other (some ns) =
      own-parts a h h l (numbered f (some ns) l) refl
      (numbers-other a f.ssi (with_last (numbers_of f.ssi l.rows) ns) l.rows other)
      refl refl (due-other ns) refl

  pub heard-unseen : (r : Received) → Heard f r l → Sound h l → own a h (after_heard f r l) ≡ own a h l
  heard-unseen r k ok =
      let ns : Option Bool = ns_of r.header in
      heard-other a f h (numbered f ns l) (sound-numbered h l f ns k.row k.room ok) other (nr_of r.header) ∙ numbered-other ns
