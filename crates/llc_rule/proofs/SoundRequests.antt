-- A request that is accepted keeps the invariant: its message is put last, with a receipt that was free.
use Prim.Native.Nat.{ℕ, ◌+◌, ◌≤◌, ◌<◌}
use native.Mathlib.Omega.{arith}
use mathlib.Core.Path.{◌≡◌, ◌∙◌, refl}
use mathlib.Core.Bool.{Bool, true, false, not, and-false}
use mathlib.Core.List.{List, [], ◌∷◌, ◌++◌}
use mathlib.Core.Option.{Option, some}
use borrow.Author.Clash.{clash}
use borrow.Author.Tests.{eqb-true, eq-eqb, ltb-true}
use lib.Dec.{eqb, ltb}
use lib.ListN.{length, set, length-append, length-set}
use lib.Seq.{get_or-set_same}
use Rattle.lists.specs.Lists.{keep, any, Found, nothing, first, others, All}
use Rattle.lists.proofs.Lists.{keep_append, all_append, all_map, find-by, TakenOut, found-out, count-append, none_passes}
use Rattle.lists.proofs.Choices.{by-test}
use Rattle.lists.proofs.Tables.{length-filed}
use Rattle.llc_pdus.specs.declared.Pdu.{Pdu}
use Rattle.llc_rule.specs.Calls.{Service, Request}
use Rattle.llc_rule.specs.Ranges.{request_in_range}
use Rattle.llc_rule.specs.Records.{Sent}
use Rattle.llc_rule.specs.Messages.{Message, waiting, Due, Place, free, pending, place_at, is_free, carrier_of, sent_of}
use Rattle.llc_rule.specs.Keeps.{Numbers, with_bit, acknowledged_now, unacknowledged_now, due_now, with_receipts, with_rows}
use Rattle.llc_rule.specs.Link.{Link, Row, bit_of, numbers_of, with_numbers, row_with, is_row_of}
use Rattle.llc_rule.specs.Step.{is_due_for, due_for, row_for, data_pdu, with_acknowledged, with_unacknowledged}
use Rattle.llc_rule.specs.Past.{Holders, holding}
use Rattle.llc_rule.specs.Sound.{Owned, IsPending, Expects, Waiting, acknowledged_with, unacknowledged_with, of_address, Sound}
use Rattle.llc_rule.proofs.Paths.{Acknowledged, Unacknowledged}
use Rattle.llc_rule.proofs.SoundLists.{other_place, other-pending, other-expecting, owned-other, free-written, pending-other, waiting-other, ahead-append}

-- The new message ---------------------------------------------------------------------------------------------------------

owned-new :
    (h : Holders) (ps : List Place) (t : Sent) (expects : Bool)
    → t.receipt < length ps
    → Owned (holding t.receipt (some t.ssi) h) (set ps t.receipt (pending expects)) t
owned-new h ps t expects b =
    record {
      holder = rw (eq-eqb t.receipt t.receipt refl);
      taken = rw (get_or-set_same ps t.receipt (pending expects) free b);
    }

pending-new : (ps : List Place) (i : ℕ) (expects : Bool) → i < length ps → IsPending (set ps i (pending expects)) i
pending-new ps i expects b = rw (get_or-set_same ps i (pending expects) free b)

expects-new : (ps : List Place) (i : ℕ) → i < length ps → Expects (set ps i (pending true)) i
expects-new ps i b = rw (get_or-set_same ps i (pending true) free b)

-- The messages that were held: their receipts are others, so they are owned and wait as before, and none counts with it.
module _ (h : Holders) (l : Link) (i : ℕ) (s : Sound h l) (f : is_free (place_at l.receipts i) ≡ true) where
  held_none : acknowledged_with i l.acknowledged ≡ 0
  held_none =
      none_passes _ _ l.acknowledged (λ m o. other_place l.receipts i m.sent.receipt f o.taken) s.owned

  held-none-too : unacknowledged_with i l.unacknowledged ≡ 0
  held-none-too = none_passes _ _ l.unacknowledged (λ u o. other_place l.receipts i u.receipt f o.taken) s.owned_too

  held-owned :
      (who : Option ℕ) (p : Place)
      → All (λ (m : Message). Owned (holding i who h) (set l.receipts i p) m.sent) l.acknowledged
  held-owned who p =
      all_map _ _ l.acknowledged
      (λ m o. owned-other h l.receipts i who p m.sent o (other_place l.receipts i m.sent.receipt f o.taken))
      s.owned

  held-owned-too : (who : Option ℕ) (p : Place) → All (Owned (holding i who h) (set l.receipts i p)) l.unacknowledged
  held-owned-too who p =
      all_map _ _ l.unacknowledged
      (λ u o. owned-other h l.receipts i who p u o (other_place l.receipts i u.receipt f o.taken))
      s.owned_too

  held-waiting : (p : Place) → All (Waiting (set l.receipts i p)) l.acknowledged
  held-waiting p =
      all_map _ _ l.acknowledged
      (λ m w.
      waiting-other l.receipts i p m
      (other-expecting l.receipts i m.sent.receipt f w.expects)
      w)
      s.waiting

  held-waiting-too : (p : Place) → All (λ (u : Sent). IsPending (set l.receipts i p) u.receipt) l.unacknowledged
  held-waiting-too p =
      all_map _ _ l.unacknowledged
      (λ u w.
      pending-other l.receipts i u.receipt p
      (other-pending l.receipts i u.receipt f w)
      w)
      s.waiting_too

-- One more with receipt i, of which there was none, leaves at most one of each receipt.
one_more :
    {A : Type 0} (receipt : A → ℕ) (l : List A) (x : A) (j n : ℕ)
    → length (keep (λ (y : A). eqb (receipt y) (receipt x)) l) ≡ 0
    → (receipt x ≡ j → n ≡ 0)
    → length (keep (λ (y : A). eqb (receipt y) j) l) + n ≤ 1
    → length (keep (λ (y : A). eqb (receipt y) j) (l ++ (x ∷ []))) + n ≤ 1
unfolding keep
one_more {A} receipt l x j n z c a =
    rw (count-append (λ (y : A). eqb (receipt y) j) l (x ∷ []))
    (by-test (eqb (receipt x) j)
    (λ e.
    let q = eqb-true (receipt x) j e in
    rw (e, c q, ← q, z) (omega arith))
    (λ e. rw e (omega arith)))

none-submitted :
    (p : Message → Bool) (m : Message)
    → m.submitted ≡ false
    → any (λ (n : Message). n.submitted) (keep p (m ∷ [])) ≡ false
unfolding keep any
none-submitted p m e = by-test (p m) (λ h. rw (h, e)) (λ h. rw h)

-- An acknowledged message that waits, put last.
sound-acknowledged :
    (h : Holders) (l : Link) (t : Sent) (ns : Bool) (ds : List Due) (rs : List Row)
    → t.receipt < 128
    → is_free (place_at l.receipts t.receipt) ≡ true
    → length l.acknowledged < 64
    → length ds ≤ 64
    → length rs ≤ 256
    → Sound h l
    → Sound (holding t.receipt (some t.ssi) h)
    (with_rows
    (with_receipts
    (due_now (acknowledged_now l (l.acknowledged ++ (waiting t ns ∷ []))) ds)
    (set l.receipts t.receipt (pending true)))
    rs)
sound-acknowledged h l t ns ds rs b f room room_due room_rows s =
    let inside : t.receipt < length l.receipts = omega (arith, s.limits.receipts) in
    record {
      limits =
          record {
            acknowledged = rw (length-append l.acknowledged (waiting t ns ∷ [])) (omega arith);
            unacknowledged = s.limits.unacknowledged;
            due = room_due;
            receipts = length-set l.receipts t.receipt _ ∙ s.limits.receipts;
            rows = room_rows;
          };
      owned =
          all_append _ l.acknowledged (waiting t ns ∷ [])
          (held-owned h l t.receipt s f _ _)
          (owned-new h l.receipts t true inside, tt);
      owned_too = held-owned-too h l t.receipt s f _ _;
      apart =
          λ j.
          one_more (λ (m : Message). m.sent.receipt) l.acknowledged (waiting t ns) j (unacknowledged_with j l.unacknowledged)
          (held_none h l t.receipt s f)
          (λ e. rw (← e) (held-none-too h l t.receipt s f))
          (s.apart j);
      free = free-written h l.receipts t.receipt (some t.ssi) (pending true) inside refl s.free;
      waiting =
          all_append _ l.acknowledged (waiting t ns ∷ [])
          (held-waiting h l t.receipt s f _) (
            record {
              expects = expects-new l.receipts t.receipt inside;
              receipt = λ e. pending-new l.receipts t.receipt true inside;
              time = λ e. refl;
            },
            tt,
          );
      waiting_too = held-waiting-too h l t.receipt s f _;
      ahead =
          λ a.
          rw (keep_append (λ (m : Message). eqb m.sent.ssi a) l.acknowledged (waiting t ns ∷ []))
          (ahead-append
          (of_address a l.acknowledged)
          (of_address a (waiting t ns ∷ []))
          (none-submitted (λ (m : Message). eqb m.sent.ssi a) (waiting t ns) refl)
          (s.ahead a));
    }

-- An unacknowledged message put last.
sound-unacknowledged :
    (h : Holders) (l : Link) (t : Sent) (ds : List Due)
    → t.receipt < 128
    → is_free (place_at l.receipts t.receipt) ≡ true
    → length l.unacknowledged < 32
    → length ds ≤ 64
    → Sound h l
    → Sound (holding t.receipt (some t.ssi) h)
    (with_receipts
    (due_now (unacknowledged_now l (l.unacknowledged ++ (t ∷ []))) ds)
    (set l.receipts t.receipt (pending false)))
sound-unacknowledged h l t ds b f room room_due s =
    let inside : t.receipt < length l.receipts = omega (arith, s.limits.receipts) in
    record {
      limits =
          record {
            acknowledged = s.limits.acknowledged;
            unacknowledged = rw (length-append l.unacknowledged (t ∷ [])) (omega arith);
            due = room_due;
            receipts = length-set l.receipts t.receipt _ ∙ s.limits.receipts;
            rows = s.limits.rows;
          };
      owned = held-owned h l t.receipt s f _ _;
      owned_too =
          all_append _ l.unacknowledged (t ∷ [])
          (held-owned-too h l t.receipt s f _ _)
          (owned-new h l.receipts t false inside, tt);
      apart =
          λ j.
          let more =
          one_more (λ (u : Sent). u.receipt) l.unacknowledged t j (acknowledged_with j l.acknowledged)
          (held-none-too h l t.receipt s f)
          (λ e. rw (← e) (held_none h l t.receipt s f))
          (omega (arith, s.apart j)) in
          omega (arith, more);
      free = free-written h l.receipts t.receipt (some t.ssi) (pending false) inside refl s.free;
      waiting = held-waiting h l t.receipt s f _;
      waiting_too =
          all_append _ l.unacknowledged (t ∷ [])
          (held-waiting-too h l t.receipt s f _)
          (pending-new l.receipts t.receipt false inside, tt);
      ahead = s.ahead;
    }

-- Rows and due acknowledgements -------------------------------------------------------------------------------------------

-- A row is written in the place of the address's row, or is one more.
pub rows-within :
    (l : Link) (a : ℕ) (n : Numbers)
    → row_for a l ≡ true
    → length l.rows ≤ 256
    → length (with_numbers a n l.rows) ≤ 256
unfolding row_for
rows-within l a n e h =
    rw (length-filed (is_row_of a) (row_with a n) l.rows)
    (by-test (any (is_row_of a) l.rows)
    (λ q. rw q h)
    (λ q. rw q (ltb-true (length l.rows) 256 (rw q at e))))

others-within : {A : Type 0} (p : A → Bool) (l : List A) (f : Found A) → TakenOut p l f → length (others f l) ≤ length l
others-within p l nothing s = omega arith
others-within p l (first x xs) s =
    rw (s.whole, s.rest, length-append s.front s.back, length-append s.front (x ∷ s.back)) (omega arith)

due-within : (r : Request) (l : Link) → length (others (due_for r l) l.due) ≤ length l.due
unfolding due_for
due-within r l = others-within (is_due_for r l) l.due (due_for r l) (found-out _ l.due (due_for r l) (find-by _ l.due))

-- Requests ----------------------------------------------------------------------------------------------------------------

pub receipt-within : (r : Request) → request_in_range r ≡ true → r.receipt < 128
unfolding request_in_range
receipt-within r h =
    by-test (ltb r.receipt 128)
    (λ e. ltb-true r.receipt 128 e)
    (λ e. clash _ h (simp (e, and-false)))

pub sound-with-acknowledged :
    (h : Holders) (l : Link) (r : Request)
    → Acknowledged r l
    → Sound h l
    → Sound (holding r.receipt (some r.ssi) h) (with_acknowledged r l)
unfolding with_acknowledged sent_of
sound-with-acknowledged h l r a s =
    sound-acknowledged h l (sent_of r (carrier_of l.carrier r) 0 (data_pdu r (bit_of r.ssi l.rows) (due_for r l)))
    (bit_of r.ssi l.rows)
    (others (due_for r l) l.due)
    (with_numbers r.ssi (with_bit (numbers_of r.ssi l.rows) (not (bit_of r.ssi l.rows))) l.rows)
    (receipt-within r a.range)
    a.free
    (ltb-true (length l.acknowledged) 64 a.place)
    (omega (arith, due-within r l, s.limits.due))
    (rows-within l r.ssi (with_bit (numbers_of r.ssi l.rows) (not (bit_of r.ssi l.rows))) a.row s.limits.rows)
    s

pub sound-with-unacknowledged :
    {v : Service} (h : Holders) (l : Link) (r : Request) (link : ℕ) (p : Pdu) (used : Found Due)
    → Unacknowledged v r link p used l
    → Sound h l
    → Sound (holding r.receipt (some r.ssi) h) (with_unacknowledged r link p (others used l.due) l)
unfolding with_unacknowledged sent_of
sound-with-unacknowledged h l r link p used a s =
    sound-unacknowledged h l (sent_of r (carrier_of l.carrier r) link p) (others used l.due) (receipt-within r a.range)
    a.free
    (ltb-true (length l.unacknowledged) 32 a.place)
    (omega (arith, others-within (is_due_for r l) l.due used a.used, s.limits.due))
    s
