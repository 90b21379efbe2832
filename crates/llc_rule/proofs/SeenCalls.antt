-- One call, as an address has it: a call of its past gives what the rule gives, and another call changes nothing of it.
use Prim.Native.Nat.{ℕ, ◌<◌}
use mathlib.Core.Path.{◌≡◌, refl, sym, ap, subst}
use mathlib.Core.Bool.{Bool, true, false, cond, not, false≢true}
use mathlib.Core.List.{List, []}
use mathlib.Core.Option.{Option, none, some}
use borrow.Author.Clash.{clash}
use borrow.Author.Tests.{eqb-true, ltb-true}
use lib.ListN.{length}
use Rattle.std.proofs.lemmas.Bool.{and_parts}
use Rattle.lists.specs.Lists.{keep, any, among, first_or}
use Rattle.lists.proofs.Choices.{by-test}
use Rattle.questions.specs.Outcome.{Outcome, accepted, refused, ask, number}
use Rattle.questions.proofs.Asked.{by-question}
use Rattle.llc_pdus.specs.declared.Pdu.TheVariants.{BlUdata}
use Rattle.llc_pdus.specs.Headers.{ns_of}
use Rattle.llc_pdus.specs.Received.{Received, received}
use Rattle.llc_rule.specs.Calls.{Call, start, tick_start, tick_end, request, frame, by_receipt, tl_data, tl_unitdata, report, release, Request, Frame}
use Rattle.llc_rule.specs.Ranges.{is_receipt, in_range}
use Rattle.llc_rule.specs.Records.{Record}
use Rattle.llc_rule.specs.Done.{done}
use Rattle.llc_rule.specs.Messages.{no_receipts, mark_of}
use Rattle.llc_rule.specs.Link.{Link, started_with}
use Rattle.llc_rule.specs.Step.{receipt_free, row_for, acknowledged_place, unacknowledged_place, on_acknowledged_path, with_unacknowledged, row_for_frame, due_room, on_data, on_unitdata, on_received, on_frame, act}
use Rattle.llc_rule.specs.Rule.{Own, after_start, after_data, after_unitdata, after_received, after_frame, does}
use Rattle.llc_rule.specs.Past.{about_call, Holders, nobody, holding, held_after, holder's, whose_of, concerns, is_tick_end}
use Rattle.llc_rule.specs.Seen.{hindrances}
use Rattle.llc_rule.specs.Sound.{Sound}
use Rattle.llc_rule.proofs.Paths.{Paths}
use Rattle.llc_rule.proofs.Events.{not-holder}
use Rattle.llc_rule.proofs.Own.{of_ssi, blank_from, own, seen_as}
use Rattle.llc_rule.proofs.SeenRequests.{after_data_link, data-own, unitdata-own, acknowledged-other, unacknowledged-other}
use Rattle.llc_rule.proofs.SeenReceipts.{report-own, release-own, receipts-other, release_other}
use Rattle.llc_rule.proofs.SeenFrames.{received-own, heard-unseen, sent-up-other}
use Rattle.llc_rule.proofs.SeenTickEnd.{tick-end-own}
use Rattle.llc_rule.proofs.SoundRequests.{receipt-within}

-- A number that is none of 6, 7, 8 and 13.
abbrev pub Unhindered : ℕ → Type 0
Unhindered n = not (among n hindrances) ≡ true

-- A question by one of those numbers was passed.
passed : {A : Type 0} (n : ℕ) (b : Bool) (o : Outcome A) → among n hindrances ≡ true → Unhindered (number (ask n b o)) → (b ≡ true) × Unhindered (number o)
passed n b o e =
    by-question (λ x. Unhindered (number x) → (b ≡ true) × Unhindered (number o)) n b (λ u. absurd (false≢true (rw e at u))) (λ t u. (t, u))

-- A request that is not hindered is accepted.
data-accepted : (r : Request) (l : Link) → Unhindered (number (on_data r l)) → on_data r l ≡ accepted (done (after_data_link r l) [])
unfolding on_data after_data_link any
data-accepted r l u =
    let six = passed 6 (receipt_free r l) _ refl u in
    rw six.0
    (by-test (on_acknowledged_path r)
    (λ e.
    let seven = passed 7 (row_for r.ssi l) _ refl (rw e at six.1) in
    let eight = passed 8 (acknowledged_place l) _ refl seven.1 in
    rw (e, seven.0, eight.0))
    (λ e. let eight = passed 8 (unacknowledged_place l) _ refl (rw e at six.1) in rw (e, eight.0)))

-- The link after a unitdata request that is accepted.
abbrev after_unitdata_link : Request → Link → Link
after_unitdata_link r l = with_unacknowledged r r.link (BlUdata false) l.due l

unitdata-accepted : (r : Request) (l : Link) → Unhindered (number (on_unitdata r l)) → on_unitdata r l ≡ accepted (done (after_unitdata_link r l) [])
unfolding on_unitdata any
unitdata-accepted r l u =
    let six = passed 6 (receipt_free r l) _ refl u in
    let eight = passed 8 (unacknowledged_place l) _ refl six.1 in
    rw (six.0, eight.0)

-- What an address has of a call's records: of a tick end those with its SSI.
abbrev pub showing : ℕ → Call → List Record → List Record
showing a c rs = cond (is_tick_end (accepted c)) (keep (of_ssi a) rs) rs

start-own : (a carrier t251 : ℕ) → after_start carrier t251 ≡ own a nobody (started_with carrier t251)
unfolding after_start own started_with no_receipts first_or keep blank_from
start-own a carrier t251 = refl

data-call :
    (a : ℕ) (h : Holders) (l : Link) (r : Request)
    → r.ssi ≡ a
    → r.receipt < length l.receipts
    → Unhindered (number (on_data r l))
    → accepted (done (after_data r (own a h l)) []) ≡ seen_as (own a (holding r.receipt (some r.ssi) h)) (λ (rs : List Record). rs) (on_data r l)
unfolding seen_as
data-call a h l r e lt u =
    subst
    (λ (x : ℕ).
    accepted (done (after_data r (own x h l)) [])
    ≡ seen_as (own x (holding r.receipt (some r.ssi) h)) (λ (rs : List Record). rs) (on_data r l))
    e
    (rw (data-accepted r l u) (ap (λ (o : Own). accepted (done o [])) (sym (data-own r h l lt))))

unitdata-call :
    (a : ℕ) (h : Holders) (l : Link) (r : Request)
    → r.ssi ≡ a
    → r.receipt < length l.receipts
    → Unhindered (number (on_unitdata r l))
    → accepted (done (after_unitdata r (own a h l)) []) ≡ seen_as (own a (holding r.receipt (some r.ssi) h)) (λ (rs : List Record). rs) (on_unitdata r l)
unfolding seen_as
unitdata-call a h l r e lt u =
    subst
    (λ (x : ℕ).
    accepted (done (after_unitdata r (own x h l)) [])
    ≡ seen_as (own x (holding r.receipt (some r.ssi) h)) (λ (rs : List Record). rs) (on_unitdata r l))
    e
    (rw (unitdata-accepted r l u) (ap (λ (o : Own). accepted (done o [])) (sym (unitdata-own r h l lt))))

frame-by :
    (a : ℕ) (h : Holders) (l : Link) (f : Frame) (x : Outcome Received)
    → f.ssi ≡ a
    → Sound h l
    → Unhindered (number (on_received f x l))
    → after_received f x (own a h l) ≡ seen_as (own a h) (λ (rs : List Record). rs) (on_received f x l)
unfolding after_received on_received seen_as any
frame-by a h l f (refused n) e ok u = refl
frame-by a h l f (accepted r) e ok u =
    subst
    (λ (x : ℕ).
    after_received f (accepted r) (own x h l) ≡ seen_as (own x h) (λ (rs : List Record). rs) (on_received f (accepted r) l))
    e
    (let seven = passed 7 (row_for_frame f (ns_of r.header) l) _ refl u in
    received-own f h l r ok seven.0 (passed 13 (due_room (ns_of r.header) l) _ refl seven.1).0)

-- Whose a call by receipt is.
holder-is : (a : ℕ) (w : Option ℕ) → concerns a (holder's w) ≡ true → w ≡ some a
holder-is a none e = absurd (false≢true e)
holder-is a (some b) e = ap some (eqb-true b a e)

receipt-in : (h : Holders) (l : Link) (i : ℕ) → Sound h l → i < 128 → i < length l.receipts
receipt-in h l i ok lt = rw ok.limits.receipts lt

-- A call of an address's past: the rule gives what the link does.
pub own-call :
    (a : ℕ) (h : Holders) (l : Link) (c : Call)
    → Sound h l
    → concerns a (whose_of h (about_call c).whom) ≡ true
    → in_range c ≡ true
    → Unhindered (number (act c l))
    → does c (own a h l) ≡ seen_as (own a (held_after (about_call c).to_holding h)) (showing a c) (act c l)
unfolding does act in_range seen_as own on_frame after_frame
own-call a h l (start carrier t251) ok w r u = ap (λ (o : Own). accepted (done o [])) (start-own a carrier t251)
own-call a h l (tick_start time) ok w r u = refl
own-call a h l tick_end ok w r u = ap accepted (sym (tick-end-own a h l ok))
own-call a h l (request tl_data q) ok w r u =
    data-call a h l q (eqb-true q.ssi a w) (receipt-in h l q.receipt ok (receipt-within q r)) u
own-call a h l (request tl_unitdata q) ok w r u =
    unitdata-call a h l q (eqb-true q.ssi a w) (receipt-in h l q.receipt ok (receipt-within q r)) u
own-call a h l (frame f) ok w r u = frame-by a h l f (received f.pdu) (eqb-true f.ssi a w) ok u
own-call a h l (by_receipt i (report how)) ok w r u = report-own a i h l (holder-is a (h i) w) ok how
own-call a h l (by_receipt i release) ok w r u =
    release-own a i h l (holder-is a (h i) w) ok (receipt-in h l i ok (ltb-true i 128 (and_parts (is_receipt i) _ r).0))

-- A call outside an address's past changes nothing of it, and gives no record with its SSI.
pub record Unchanged (a : ℕ) (h h' : Holders) (l k : Link) (rs : List Record) : Type 0 where
  pub same : own a h' k ≡ own a h l
  pub silent : keep (of_ssi a) rs ≡ []

silently : (a : ℕ) (h h' : Holders) (l k : Link) → own a h' k ≡ own a h l → Unchanged a h h' l k []
unfolding keep
silently a h h' l k e = record { same = e; silent = refl }

pub other-paths :
    (a : ℕ) (h : Holders) (l : Link)
    → Sound h l
    → Paths l
    (λ c k rs. concerns a (whose_of h (about_call c).whom) ≡ false → Unchanged a h (held_after (about_call c).to_holding h) l k rs)
other-paths a h l ok =
    record {
      start = λ carrier t251 w. clash _ refl w;
      tick_start = λ time w. clash _ refl w;
      tick_end = λ w. clash _ refl w;
      acknowledged =
          λ r k w. silently a h _ l _ (acknowledged-other a r h l k w (receipt-in h l r.receipt ok (receipt-within r k.range)));
      unacknowledged =
          λ s r link p used k w.
          silently a h _ l _
          (unacknowledged-other a r h l link p used k w (receipt-in h l r.receipt ok (receipt-within r k.range)));
      heard = λ f r k w. record { same = heard-unseen a f h l w r k ok; silent = sent-up-other a f h l ok w r };
      reported = λ i how k w. silently a h h l _ (receipts-other a i h l (not-holder a (h i) w) (mark_of how));
      released = λ i k w. silently a h _ l _ (release_other a i h l (not-holder a (h i) w) (receipt-in h l i ok k.receipt));
    }
