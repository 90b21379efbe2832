-- A state that passed question 1 passes it with other elements in use that are in range.
use Prim.Native.Nat.{ℕ, suc, ◌*◌, ◌≤◌}
use native.Mathlib.Omega.{arith}
use mathlib.Core.Path.{◌≡◌, ◌∙◌, refl, ap}
use mathlib.Core.Bool.{Bool, true}
use mathlib.Core.List.{List, [], ◌∷◌, ◌++◌}
use borrow.Author.Tests.{ltb-true}
use lib.Dec.{ltb}
use lib.ListN.{length, set, take, length-append, length-set}
use lib.Seq.{length-take-le}
use Rattle.lists.specs.Lists.{any, all, Found, nothing, first, others, All}
use Rattle.lists.specs.Arrays.{laid}
use Rattle.lists.proofs.Lists.{all_append, Split, FoundBy, all_middle}
use Rattle.lists.proofs.Arrays.{length-laid, take-laid}
use Rattle.lists.proofs.Choices.{by-test}
use Rattle.lists.proofs.Tests.{all-each, each_all, all_set}
use Rattle.lists.proofs.Tables.{length-filed, all-filed}
use Rattle.tx_receipt.specs.States.{number}
use Rattle.tx_receipt.specs.Marks.{Mark, marked}
use Rattle.tx_receipt.specs.declared.TxState.{TxState}
use Rattle.tx_receipt.specs.declared.TxState.TheVariants.{Pending, Discarded, Transmitted, Lost, Acknowledged}
use Rattle.llc_rule.specs.Limits.{store_bytes}
use Rattle.llc_state.specs.Ranges.{ack_in_range, row_in_range, place_in_range, message_in_range, udata_in_range}
use Rattle.llc_state.specs.Receipts.{with_places, receipt_of, place_of, pending_place, marked_place, mark}
use Rattle.llc_state.specs.States.{no_entry, no_ack, no_receipt, no_row}
use Rattle.llc_state.specs.declared.Entry.{Entry}
use Rattle.llc_state.specs.declared.ScheduledOutAck.{ScheduledOutAck}
use Rattle.llc_state.specs.declared.ReceiptPlace.{ReceiptPlace}
use Rattle.llc_state.specs.declared.LinkSendSeq.{LinkSendSeq}
use Rattle.llc_state.specs.declared.State.{State}
use Rattle.llc_state.proofs.InRange.{range-tells, in-range}
use Rattle.llc_steps.specs.States.{messages_of, udata_of, acks_of, rows_of, with_messages, with_udata, with_acks, with_rows}
use Rattle.llc_steps.specs.Calls.{row_of, with_seq, row_for}
use Rattle.llc_steps.specs.Holds.{Ready}
use Rattle.llc_steps.specs.Sane.{Sane}
use Rattle.llc_steps.proofs.Ready.{ready}

-- Elements in use ---------------------------------------------------------------------------------------------------------

module _ {A : Type 0} (p : A → Bool) where
  -- At most k elements, each of which passes a test.
  pub record Used (k : ℕ) (l : List A) : Type 0 where
    pub few : length l ≤ k
    pub each : All (λ (x : A). p x ≡ true) l

  -- The first n of an array.
  used-first : (k n : ℕ) (l : List A) → length l ≡ k → n ≤ k → all p (take n l) ≡ true → Used k (take n l)
  used-first k n l long h a = record { few = omega (arith, length-take-le n l (omega arith)); each = all-each p (take n l) a }

  -- None; one more, put last; those with the one that was found at the front, and those without it.
  pub none-used : (k : ℕ) → Used k []
  none-used k = record { few = omega arith; each = tt }

  pub one_more : (k : ℕ) (l : List A) (x : A) → suc (length l) ≤ k → p x ≡ true → Used k l → Used k (l ++ (x ∷ []))
  one_more k l x room e u =
      record {
        few = omega (arith, length-append l (x ∷ []));
        each = all_append (λ (y : A). p y ≡ true) l (x ∷ []) u.each (e, tt);
      }

  pub found_first : (k : ℕ) (q : A → Bool) (l : List A) (x : A) (xs : List A) → Split q l x xs → Used k l → Used k (x ∷ xs)
  found_first k q l x xs s u =
      let whole : All (λ (y : A). p y ≡ true) (s.front ++ (x ∷ s.back)) = rw s.whole at u.each in
      record {
        few =
            omega (
              arith,
              u.few,
              ap length s.whole,
              ap length s.rest,
              length-append s.front (x ∷ s.back),
              length-append s.front s.back,
            );
        each = rw s.rest (all_middle (λ (y : A). p y ≡ true) s.front x s.back whole);
      }

  pub behind-first : (k : ℕ) (x : A) (xs : List A) → Used k (x ∷ xs) → Used k xs
  behind-first k x xs u = record { few = omega (arith, u.few); each = u.each.1 }

  pub others-used : (k : ℕ) (q : A → Bool) (l : List A) (f : Found A) → FoundBy q l f → Used k l → Used k (others f l)
  others-used k q l nothing s u = u
  others-used k q l (first x xs) s u = behind-first k x xs (found_first k q l x xs s u)

  -- An array of k with other elements in use.
  record LaidUsed (empty : A) (k n : ℕ) (used l : List A) : Type 0 where
    long : length (laid empty n used l) ≡ k
    each : all p (take (length used) (laid empty n used l)) ≡ true

  laid-used : (empty : A) (k n : ℕ) (used l : List A) → length l ≡ k → n ≤ k → Used k used → LaidUsed empty k n used l
  laid-used empty k n used l long h u =
      record {
        long = length-laid empty n used l (omega arith) (omega (arith, u.few)) ∙ long;
        each = ap (all p) (take-laid empty n used l) ∙ each_all p used u.each;
      }

-- Receipts' places --------------------------------------------------------------------------------------------------------

-- As many as there are, each in range.
pub record Full (ps : List ReceiptPlace) : Type 0 where
  pub long : length ps ≡ 128
  pub each : all place_in_range ps ≡ true

pub set_full : (i : ℕ) (x : ReceiptPlace) (ps : List ReceiptPlace) → place_in_range x ≡ true → Full ps → Full (set ps i x)
set_full i x ps e f = record { long = length-set ps i x ∙ f.long; each = all_set place_in_range ps i x e f.each }

-- A receipt that was marked, one that is pending, and none.
marked-in-range : (k : Mark) (p : ReceiptPlace) → place_in_range (marked_place k p) ≡ true
unfolding place_in_range
marked-in-range k p = by-test p.taken (λ t. rw t (by_state (marked k (receipt_of p)).receipt.state)) (λ f. rw f)
  where
    by_state : (x : TxState) → ltb (number x) 5 ≡ true
    by_state Pending = refl
    by_state Discarded = refl
    by_state Transmitted = refl
    by_state Lost = refl
    by_state Acknowledged = refl

pub marked-full : (k : Mark) (i : ℕ) (ps : List ReceiptPlace) → Full ps → Full (mark k i ps)
marked-full k i ps f = set_full i (marked_place k (place_of ps i)) ps (marked-in-range k (place_of ps i)) f

pub pending-full : (expects : Bool) (i : ℕ) (ps : List ReceiptPlace) → Full ps → Full (set ps i (pending_place expects))
unfolding place_in_range
pending-full expects i ps f = set_full i (pending_place expects) ps refl f

pub freed-full : (i : ℕ) (ps : List ReceiptPlace) → Full ps → Full (set ps i no_receipt)
unfolding place_in_range
freed-full i ps f = set_full i no_receipt ps refl f

-- A state -----------------------------------------------------------------------------------------------------------------

module _ (s : State) (store : List ℕ) (ok : Sane s store) where
  -- What of it a call needs, and what is in use.
  pub sane-ready : Ready s store
  sane-ready =
      ready s store
      (record { messages = ok.messages; udata = ok.udata; acks = ok.acks; places = ok.places; rows = ok.rows })
      ok.range
      ok.long

  pub messages-used : Used message_in_range 64 (messages_of s)
  messages-used =
      let r = range-tells s ok.range in
      used-first message_in_range 64 s.n_messages s.outbound_messages ok.messages r.head.messages r.messages

  pub udata-used : Used udata_in_range 32 (udata_of s)
  udata-used =
      let r = range-tells s ok.range in
      used-first udata_in_range 32 s.n_udata s.outbound_udata_messages ok.udata r.head.udata r.udata

  pub acks-used : Used ack_in_range 64 (acks_of s)
  acks-used =
      let r = range-tells s ok.range in
      used-first ack_in_range 64 s.n_acks s.scheduled_out_acks ok.acks r.head.acks r.acks

  pub rows-used : Used row_in_range 256 (rows_of s)
  rows-used =
      let r = range-tells s ok.range in
      used-first row_in_range 256 s.n_rows s.link_send_seq ok.rows r.head.rows r.rows

  -- A row is written in the place of the address's row, or is one more.
  pub row_written :
      (a : ℕ) (w : LinkSendSeq)
      → row_for a s ≡ true
      → row_in_range w ≡ true
      → Used row_in_range 256 (with_seq a w (rows_of s))
  unfolding row_for
  row_written a w row fits =
      let u = rows-used in
      let n = sane-ready.counted in
      let more = length-filed (row_of a) w (rows_of s) in
      record {
        few =
            by-test (any (row_of a) (rows_of s))
            (λ t. omega (arith, u.few, rw t at more))
            (λ f. omega (arith, ltb-true s.n_rows 256 (rw f at row), rw f at more, n.rows));
        each = all-filed (λ (x : LinkSendSeq). row_in_range x ≡ true) (row_of a) w (rows_of s) fits u.each;
      }

  pub places-full : Full s.receipts
  places-full = record { long = ok.places; each = (range-tells s ok.range).places }

-- The same with another store that is as long, and with other elements in use that are in range.
module _ {s : State} {store : List ℕ} (ok : Sane s store) where
  pub store-sane : {after : List ℕ} → length after ≡ 8 * store_bytes → Sane s after
  store-sane long = search (ok, long)

  pub messages-sane : {ms : List Entry} → Used message_in_range 64 ms → Sane (with_messages s ms) store
  messages-sane {ms} u =
      let r = range-tells s ok.range in
      let l = laid-used message_in_range no_entry 64 s.n_messages ms s.outbound_messages ok.messages r.head.messages u in
      search (ok, l.long, in-range (with_messages s ms) (search (r, u.few, l.each)))

  pub udata-sane : {us : List Entry} → Used udata_in_range 32 us → Sane (with_udata s us) store
  udata-sane {us} u =
      let r = range-tells s ok.range in
      let l = laid-used udata_in_range no_entry 32 s.n_udata us s.outbound_udata_messages ok.udata r.head.udata u in
      search (ok, l.long, in-range (with_udata s us) (search (r, u.few, l.each)))

  pub acks-sane : {ds : List ScheduledOutAck} → Used ack_in_range 64 ds → Sane (with_acks s ds) store
  acks-sane {ds} u =
      let r = range-tells s ok.range in
      let l = laid-used ack_in_range no_ack 64 s.n_acks ds s.scheduled_out_acks ok.acks r.head.acks u in
      search (ok, l.long, in-range (with_acks s ds) (search (r, u.few, l.each)))

  pub places-sane : {ps : List ReceiptPlace} → Full ps → Sane (with_places s ps) store
  places-sane {ps} f =
      let r = range-tells s ok.range in
      search (ok, f.long, in-range (with_places s ps) (search (r, f.each)))

  pub rows-sane : {rs : List LinkSendSeq} → Used row_in_range 256 rs → Sane (with_rows s rs) store
  rows-sane {rs} u =
      let r = range-tells s ok.range in
      let l = laid-used row_in_range no_row 256 s.n_rows rs s.link_send_seq ok.rows r.head.rows u in
      search (ok, l.long, in-range (with_rows s rs) (search (r, u.few, l.each)))
