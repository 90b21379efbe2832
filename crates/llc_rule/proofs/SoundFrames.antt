-- A frame that is accepted keeps the invariant: it finishes a message under way, or moves it to the front, or leaves it.
use Prim.Native.Nat.{◌+◌, ◌≤◌}
use native.Mathlib.Omega.{arith}
use mathlib.Core.Path.{◌≡◌, ◌∙◌, refl}
use mathlib.Core.Bool.{Bool, true, false, ◌&&◌}
use mathlib.Core.List.{List, ◌∷◌, ◌++◌}
use mathlib.Core.Option.{Option, none, some}
use borrow.Author.Tests.{eq-eqb, ltb-true}
use lib.Dec.{eqb}
use lib.ListN.{length, length-append, length-set}
use Rattle.std.proofs.lemmas.Bool.{and_parts}
use Rattle.lists.specs.Lists.{any, Found, nothing, first, find}
use Rattle.lists.proofs.Lists.{all_map, none-counted, FoundBy, find-by, count_yes, count-front, count_less, all_but, all_middle}
use Rattle.lists.proofs.Choices.{by-test}
use Rattle.tx_receipt.specs.Marks as Marks
use Rattle.tx_receipt.specs.Marks.{Mark}
use Rattle.llc_pdus.specs.Headers.{ns_of, nr_of}
use Rattle.llc_pdus.specs.Received.{Received}
use Rattle.llc_rule.specs.Calls.{Frame}
use Rattle.llc_rule.specs.Records.{Sent}
use Rattle.llc_rule.specs.Messages.{Message, Due, mark}
use Rattle.llc_rule.specs.Keeps.{with_last, acknowledged_now, due_now, with_receipts, with_rows}
use Rattle.llc_rule.specs.Link.{Link, Row, numbers_of}
use Rattle.llc_rule.specs.Step.{row_for_frame, due_room, with_due, with_heard, numbered, awaiting, fits, answered_by, answered}
use Rattle.llc_rule.specs.Past.{Holders}
use Rattle.llc_rule.specs.Sound.{acknowledged_with, unacknowledged_with, Sound}
use Rattle.llc_rule.proofs.Places.{mark-free}
use Rattle.llc_rule.proofs.SoundLists.{owned-marked, pending-other, waiting-other, ahead-front, ahead-less}
use Rattle.llc_rule.proofs.SoundRequests.{rows-within}
use Rattle.llc_rule.proofs.Paths.{Heard, after_heard}

-- A submitted message moved to the front of the queue.
sound-moved :
    (h : Holders) (l : Link) (f : List Message) (m : Message) (b : List Message)
    → l.acknowledged ≡ f ++ (m ∷ b)
    → m.submitted ≡ true
    → Sound h l
    → Sound h (acknowledged_now l (m ∷ (f ++ b)))
sound-moved h l f m b e sub s =
    record {
      limits =
          record {
            acknowledged =
                let n = s.limits.acknowledged in
                let k = rw (e, length-append f (m ∷ b)) at n in
                rw (length-append f b) (omega (arith, k));
            unacknowledged = s.limits.unacknowledged;
            due = s.limits.due;
            receipts = s.limits.receipts;
            rows = s.limits.rows;
          };
      owned = all_middle _ f m b (rw e at s.owned);
      owned_too = s.owned_too;
      apart = λ j. rw (count-front (λ (n : Message). eqb n.sent.receipt j) f m b) (rw e at (s.apart j));
      free = s.free;
      waiting = all_middle _ f m b (rw e at s.waiting);
      waiting_too = s.waiting_too;
      ahead = λ a. ahead-front (λ (n : Message). eqb n.sent.ssi a) f m b sub (rw e at (s.ahead a));
    }

-- No other message has the receipt of the first.
none_other :
    (m : Message) (ms : List Message) (us : List Sent)
    → acknowledged_with m.sent.receipt (m ∷ ms) + unacknowledged_with m.sent.receipt us ≤ 1
    → (any (λ (n : Message). eqb n.sent.receipt m.sent.receipt) ms ≡ false)
    × (any (λ (u : Sent). eqb u.receipt m.sent.receipt) us ≡ false)
none_other m ms us h =
    let k =
    rw (count_yes (λ (n : Message). eqb n.sent.receipt m.sent.receipt) m ms
    (eq-eqb m.sent.receipt m.sent.receipt refl)) at h in
    (none-counted _ ms (omega (arith, k)), none-counted _ us (omega (arith, k)))

-- The first message of the queue finished.
sound-finished :
    (h : Holders) (l : Link) (t : Mark) (m : Message) (ms : List Message)
    → l.acknowledged ≡ m ∷ ms
    → Sound h l
    → Sound h (with_receipts (acknowledged_now l ms) (mark t m.sent.receipt l.receipts))
sound-finished h l t m ms e s =
    let alone = none_other m ms l.unacknowledged (rw e at (s.apart m.sent.receipt)) in
    record {
      limits =
          record {
            acknowledged = let n = s.limits.acknowledged in omega (arith, rw e at n);
            unacknowledged = s.limits.unacknowledged;
            due = s.limits.due;
            receipts = length-set l.receipts m.sent.receipt _ ∙ s.limits.receipts;
            rows = s.limits.rows;
          };
      owned = all_map _ _ ms (λ n. owned-marked h l.receipts t m.sent.receipt n.sent) (rw e at s.owned).1;
      owned_too = all_map _ _ l.unacknowledged (owned-marked h l.receipts t m.sent.receipt) s.owned_too;
      apart =
          λ j.
          let a = rw e at (s.apart j) in
          omega (arith, a, count_less (λ (n : Message). eqb n.sent.receipt j) m ms);
      free = λ j. mark-free t m.sent.receipt l.receipts j ∙ s.free j;
      waiting =
          all_but _ _ _ ms
          (λ o w f. waiting-other l.receipts m.sent.receipt _ o f w)
          alone.0
          (rw e at s.waiting).1;
      waiting_too =
          all_but _ _ _ l.unacknowledged
          (λ u w f. pending-other l.receipts m.sent.receipt u.receipt _ f w)
          alone.1
          s.waiting_too;
      ahead = λ a. ahead-less (λ (n : Message). eqb n.sent.ssi a) m ms (rw e at (s.ahead a));
    }

sound-answered-by :
    (h : Holders) (l : Link) (p : Message → Bool) (nr : Bool) (g : Found Message)
    → ((m : Message) → p m ≡ true → m.submitted ≡ true)
    → FoundBy p l.acknowledged g
    → Sound h l
    → Sound h (answered_by nr g l)
unfolding answered_by
sound-answered-by h l p nr nothing q c s = s
sound-answered-by h l p nr (first m ms) q c s =
    let moved = sound-moved h l c.front m c.back c.whole (q m c.passes) s in
    rw c.rest
    (by-test (fits nr m)
    (λ e. rw e (sound-finished h _ Marks.acknowledged m (c.front ++ c.back) refl moved))
    (λ e. rw e moved))

sound-answered : (h : Holders) (l : Link) (f : Frame) (nr : Option Bool) → Sound h l → Sound h (answered f nr l)
unfolding awaiting
sound-answered h l f none s = s
sound-answered h l f (some nr) s =
    let p : Message → Bool =
    λ m. eqb m.sent.ssi f.ssi && (eqb m.sent.carrier f.carrier && m.submitted) in
    sound-answered-by h l p nr (find p l.acknowledged)
    (λ m e. (and_parts (eqb m.sent.carrier f.carrier) _ (and_parts (eqb m.sent.ssi f.ssi) _ e).1).1)
    (find-by p l.acknowledged)
    s

-- Other acknowledgements due and other rows, not too many.
sound-with :
    (h : Holders) (l : Link) (ds : List Due) (rs : List Row)
    → length ds ≤ 64
    → length rs ≤ 256
    → Sound h l
    → Sound h (with_rows (due_now l ds) rs)
sound-with h l ds rs room row s = search

-- What N(S) does.
pub sound-numbered :
    (h : Holders) (l : Link) (f : Frame) (ns : Option Bool)
    → row_for_frame f ns l ≡ true
    → due_room ns l ≡ true
    → Sound h l
    → Sound h (numbered f ns l)
sound-numbered h l f none row room s = s
sound-numbered h l f (some ns) row room s =
    sound-with h l (with_due f ns l) (with_heard f ns l)
    (rw (length-append l.due _) (omega (arith, ltb-true (length l.due) 64 room)))
    (rows-within l f.ssi (with_last (numbers_of f.ssi l.rows) ns) row s.limits.rows)
    s

pub sound-heard : (h : Holders) (l : Link) (f : Frame) (r : Received) → Heard f r l → Sound h l → Sound h (after_heard f r l)
sound-heard h l f r a s =
    sound-answered h (numbered f (ns_of r.header) l) f (nr_of r.header) (sound-numbered h l f (ns_of r.header) a.row a.room s)
