-- The inversion law of a step. An accepted call went one of a few paths, with what was asked on it; a refused call has a number
-- from 2 to 16, and changes nothing. Proofs about the link alone use this law, and walk through no question themselves.
use Prim.Native.Nat.{ℕ, ◌≤◌, ◌<◌}
use native.Mathlib.Omega.{arith}
use mathlib.Core.Path.{◌≡◌, ◌∙◌, refl, ap, subst}
use mathlib.Core.Bool.{Bool, true, false, not, ◌&&◌, ◌||◌, false≢true}
use mathlib.Core.List.{List, [], ◌∷◌, ◌++◌}
use borrow.Author.Tests.{eqb-true, ne_eqb, leb-true, ltb-true}
use lib.Dec.{eqb, leb}
use lib.ListN.{length, get_or, drop, set}
use Rattle.std.proofs.lemmas.Bool.{cond_both, and_parts}
use Rattle.lists.specs.Lists.{all, any, among, Found, nothing, first, others}
use Rattle.lists.proofs.Lists.{any_append, find-by, TakenOut, found-out}
use Rattle.lists.proofs.Choices.{by-test, either}
use Rattle.questions.specs.Outcome.{Outcome, accepted, refused, number}
use Rattle.questions.proofs.Asked.{by-question}
use Rattle.tdma_time.specs.declared.TdmaTime.{TdmaTime}
use Rattle.llc_pdus.specs.Headers.{Reading, reading, has_fcs, one, kind_at, length_of, ns_of, nr_of}
use Rattle.llc_pdus.specs.declared.Pdu.{Pdu}
use Rattle.llc_pdus.specs.declared.Pdu.TheVariants.{BlUdata, BlAck}
use Rattle.llc_pdus.specs.Received.{Received, checks, checked, received}
use Rattle.llc_rule.specs.Calls.{Call, start, tick_start, tick_end, request, frame, by_receipt, Service, tl_data, tl_unitdata, Action, report, release, Request, Frame, is_start, Tag, tag21, tag22, tag23, tag24, tag25, tag26, tag27, tag28, unknown, tag_of, filled_from, inner, filled, parsed}
use Rattle.llc_rule.specs.Ranges.{steals, wants_fcs, is_receipt, request_in_range, frame_in_range, action_in_range, in_range}
use Rattle.llc_rule.specs.ReadBack.{flag_in}
use Rattle.llc_rule.specs.Records.{Record}
use Rattle.llc_rule.specs.Upward.{upward}
use Rattle.llc_rule.specs.Messages.{Due, free, mark, mark_of}
use Rattle.llc_rule.specs.Done.{Done, done}
use Rattle.llc_rule.specs.Keeps.{with_time, with_receipts}
use Rattle.llc_rule.specs.Link.{Link, started_with}
use Rattle.llc_rule.specs.Step.{is_due_for, due_for, receipt_free, row_for, acknowledged_place, unacknowledged_place, on_acknowledged_path, with_acknowledged, with_unacknowledged, with_stolen, on_data, on_unitdata, row_for_frame, due_room, numbered, is_repeat, sent_up, may_finish, answered, on_received, on_frame, reportable, on_report, releasable, on_release, on_tick_end, on_receipt, act, called, step}

-- The numbers of refusals ---------------------------------------------------------------------------------------------------

-- A number that a question after the first may have.
pub record Number (n : ℕ) : Type 0 where
  pub low : 2 ≤ n
  pub high : n ≤ 16

-- The questions after 5 that are put to a call: to a request, to a frame, first to what it spells, and to a call by receipt.
abbrev of_requests : List ℕ
of_requests = 6 ∷ 7 ∷ 8 ∷ []

abbrev of_reading : List ℕ
of_reading = 9 ∷ 10 ∷ 11 ∷ 12 ∷ []

abbrev of_heard : List ℕ
of_heard = 7 ∷ 13 ∷ 14 ∷ []

abbrev of_frames : List ℕ
of_frames = of_reading ++ of_heard

abbrev of_receipts : List ℕ
of_receipts = 15 ∷ 16 ∷ []

abbrev pub asks : Call → List ℕ
asks (start carrier t251) = []
asks (tick_start time) = []
asks tick_end = []
asks (request s r) = of_requests
asks (frame f) = of_frames
asks (by_receipt i a) = of_receipts

among-all : (p : ℕ → Bool) (l : List ℕ) (n : ℕ) → all p l ≡ true → among n l ≡ true → p n ≡ true
unfolding all any
among-all p [] n a e = absurd (false≢true e)
among-all p (k ∷ l) n a e =
    by-test (eqb k n)
    (λ q. rw (← eqb-true k n q) (and_parts (p k) (all p l) a).0)
    (λ q. among-all p l n (and_parts (p k) (all p l) a).1 (rw q at e))

abbrev is_number : ℕ → Bool
is_number n = leb 2 n && leb n 16

number_is : (n : ℕ) → is_number n ≡ true → Number n
number_is n e =
    let t = and_parts (leb 2 n) (leb n 16) e in record { low = leb-true 2 n t.0; high = leb-true n 16 t.1 }

asks-numbers : (c : Call) → all is_number (asks c) ≡ true
unfolding all
asks-numbers (start carrier t251) = refl
asks-numbers (tick_start time) = refl
asks-numbers tick_end = refl
asks-numbers (request s r) = refl
asks-numbers (frame f) = refl
asks-numbers (by_receipt i a) = refl

asked-number : (c : Call) (n : ℕ) → among n (asks c) ≡ true → Number n
asked-number c n e = number_is n (among-all is_number (asks c) n (asks-numbers c) e)

-- Refusals of a call's bytes: questions 2 and 3.
abbrev Read : Outcome Call → Type 0
Read (accepted c) = Unit {0}
Read (refused n) = Number n

inner-read : (t : Tag) (v : List ℕ) → Read (inner t v)
unfolding inner
inner-read tag21 v = by-question Read 2 (eqb (length v) 4) (number_is 2 refl) (λ e. tt)
inner-read tag22 v = by-question Read 2 (eqb (length v) 5) (number_is 2 refl) (λ e. tt)
inner-read tag23 v = by-question Read 2 (eqb (length v) 0) (number_is 2 refl) (λ e. tt)
inner-read tag24 v = by-question Read 2 (filled_from v 22) (number_is 2 refl) (λ e. tt)
inner-read tag25 v = by-question Read 2 (filled_from v 22) (number_is 2 refl) (λ e. tt)
inner-read tag26 v = by-question Read 2 (filled_from v 14) (number_is 2 refl) (λ e. tt)
inner-read tag27 v = by-question Read 2 (eqb (length v) 2) (number_is 2 refl) (λ e. tt)
inner-read tag28 v = by-question Read 2 (eqb (length v) 1) (number_is 2 refl) (λ e. tt)
inner-read unknown v = number_is 3 refl

parsed-read : (b : List ℕ) → Read (parsed b)
unfolding parsed
parsed-read b = by-question Read 2 (filled b) (number_is 2 refl) (λ e. inner-read (tag_of (get_or b 0 0)) (drop 3 b))

-- Refusals of a frame: questions 9 to 12.
abbrev Asked : {A : Type 0} → List ℕ → Outcome A → Type 0
Asked ns (accepted x) = Unit {0}
Asked ns (refused n) = among n ns ≡ true

of-frames : (n : ℕ) → among n of_reading ≡ true → among n of_frames ≡ true
of-frames n e =
    any_append (λ (k : ℕ). eqb k n) of_reading of_heard ∙ ap (λ (b : Bool). b || any (λ (k : ℕ). eqb k n) of_heard) e

reading-asked : (b : List ℕ) → Asked of_reading (reading b)
unfolding reading any
reading-asked b =
    by-question (Asked of_reading) 9 (leb 4 (length b)) refl λ e.
    by-question (Asked of_reading) 10 (not (one b 0)) refl λ e.
    by-question (Asked of_reading) 11 (leb (length_of (kind_at b)) (length b)) refl λ e. tt

checked-asked : (b : List ℕ) (o : Outcome Reading) → Asked of_reading o → Asked of_reading (checked b o)
unfolding checked any
checked-asked b (refused n) a = a
checked-asked b (accepted r) a =
    by-question (Asked of_reading) 12 (not (has_fcs r.pdu) || checks (drop r.size b)) refl λ e. tt

received-asked : (b : List ℕ) → Asked of_reading (received b)
unfolding received
received-asked b = checked-asked b (reading b) (reading-asked b)

-- Paths ---------------------------------------------------------------------------------------------------------------------

-- A request whose message is put last among the acknowledged ones.
pub record Acknowledged (r : Request) (l : Link) : Type 0 where
  pub range : request_in_range r ≡ true
  pub path : on_acknowledged_path r ≡ true
  pub free : receipt_free r l ≡ true
  pub row : row_for r.ssi l ≡ true
  pub place : acknowledged_place l ≡ true

-- Is a request off that path?
abbrev pub off_path : Service → Request → Bool
off_path tl_data r = not (on_acknowledged_path r)
off_path tl_unitdata r = true

-- And among the unacknowledged ones: link id 0 or its own, a header with its flag, and a due acknowledgement that it uses up or
-- none.
pub record Unacknowledged (s : Service) (r : Request) (k : ℕ) (p : Pdu) (f : Found Due) (l : Link) : Type 0 where
  pub range : request_in_range r ≡ true
  pub path : off_path s r ≡ true
  pub free : receipt_free r l ≡ true
  pub place : unacknowledged_place l ≡ true
  pub link : k ≤ r.link
  pub flag : has_fcs p ≡ flag_in r p
  pub used : TakenOut (is_due_for r l) l.due f

-- A frame that was heard.
pub record Heard (f : Frame) (r : Received) (l : Link) : Type 0 where
  pub range : frame_in_range f ≡ true
  pub apart : received f.pdu ≡ accepted r
  pub row : row_for_frame f (ns_of r.header) l ≡ true
  pub room : due_room (ns_of r.header) l ≡ true
  pub may : may_finish f (nr_of r.header) l ≡ true

-- A call by receipt whose question was passed.
pub record Receipted (i : ℕ) (question : Bool) : Type 0 where
  pub receipt : i < 128
  pub may : question ≡ true

-- The link after a frame that was heard.
abbrev pub after_heard : Frame → Received → Link → Link
after_heard f r l = answered f (nr_of r.header) (numbered f (ns_of r.header) l)

-- What goes up of it: nothing, or what goes up of its SDU.
pub sent-up :
    (P : List Record → Type 0) (f : Frame) (r : Received) (l : Link) → P [] → P (upward f r.header r.sdu) → P (sent_up f r l)
sent-up P f r l = either P (is_repeat f (ns_of r.header) l)

-- What holds on each path, of the call, the link after it and its records.
pub record Paths (l : Link) (P : Call → Link → List Record → Type 0) : Type 0 where
  pub start : (carrier t251 : ℕ) → P (start carrier t251) (started_with carrier t251) []
  pub tick_start : (time : TdmaTime) → P (tick_start time) (with_time l time) []
  pub tick_end : P tick_end (on_tick_end l).state (on_tick_end l).records
  pub acknowledged : (r : Request) → Acknowledged r l → P (request tl_data r) (with_acknowledged r l) []
  pub unacknowledged :
      (s : Service) (r : Request) (link : ℕ) (p : Pdu) (used : Found Due)
      → Unacknowledged s r link p used l
      → P (request s r) (with_unacknowledged r link p (others used l.due) l) []
  pub heard :
      (f : Frame) (r : Received)
      → Heard f r l
      → P (frame f) (after_heard f r l) (sent_up f r l)
  pub reported :
      (i how : ℕ)
      → Receipted i (reportable i l)
      → P (by_receipt i (report how)) (with_receipts l (mark (mark_of how) i l.receipts)) []
  pub released :
      (i : ℕ)
      → Receipted i (releasable i l)
      → P (by_receipt i release) (with_receipts l (set l.receipts i free)) []

-- Requests and frames, with what holds of refusals and of each path.
module _ (l : Link) (P : Call → Link → List Record → Type 0) (paths : Paths l P) where
  stolen-law :
      (r : Request) (Q : Outcome (Done Link) → Type 0)
      → ((d : Done Link) → P (request tl_data r) d.state d.records → Q (accepted d))
      → request_in_range r ≡ true
      → off_path tl_data r ≡ true
      → receipt_free r l ≡ true
      → unacknowledged_place l ≡ true
      → (f : Found Due)
      → TakenOut (is_due_for r l) l.due f
      → Q (accepted (done (with_stolen r l f) []))
  unfolding with_stolen
  stolen-law r Q if-accepted range off fr place nothing out =
      if-accepted _
      (paths.unacknowledged tl_data r 0 (BlUdata false) nothing
      (record { range = range; path = off; free = fr; place = place; link = omega arith; flag = refl; used = out }))
  stolen-law r Q if-accepted range off fr place (first d ds) out =
      if-accepted _
      (paths.unacknowledged tl_data r r.link (BlAck (wants_fcs r) d.nr) (first d ds)
      (record { range = range; path = off; free = fr; place = place; link = omega arith; flag = refl; used = out }))

  data-law :
      (r : Request) (Q : Outcome (Done Link) → Type 0)
      → ((n : ℕ) → among n of_requests ≡ true → Q (refused n))
      → ((d : Done Link) → P (request tl_data r) d.state d.records → Q (accepted d))
      → request_in_range r ≡ true
      → Q (on_data r l)
  unfolding on_data due_for any
  data-law r Q if-refused if-accepted range =
      by-question Q 6 (receipt_free r l) (if-refused 6 refl) λ fr.
      cond_both (on_acknowledged_path r) _ _ Q
      (λ path.
      by-question Q 7 (row_for r.ssi l) (if-refused 7 refl) λ row.
      by-question Q 8 (acknowledged_place l) (if-refused 8 refl) λ place.
      if-accepted _ (paths.acknowledged r (record { range = range; path = path; free = fr; row = row; place = place })))
      (λ path.
      by-question Q 8 (unacknowledged_place l) (if-refused 8 refl) λ place.
      cond_both (steals r) _ _ (λ (k : Link). Q (accepted (done k [])))
      (λ s. stolen-law r Q if-accepted range (ap not path) fr place (due_for r l) (found-out _ l.due (due_for r l) (find-by _ l.due)))
      (λ s. stolen-law r Q if-accepted range (ap not path) fr place nothing tt))

  unitdata-law :
      (r : Request) (Q : Outcome (Done Link) → Type 0)
      → ((n : ℕ) → among n of_requests ≡ true → Q (refused n))
      → ((d : Done Link) → P (request tl_unitdata r) d.state d.records → Q (accepted d))
      → request_in_range r ≡ true
      → Q (on_unitdata r l)
  unfolding on_unitdata any
  unitdata-law r Q if-refused if-accepted range =
      by-question Q 6 (receipt_free r l) (if-refused 6 refl) λ fr.
      by-question Q 8 (unacknowledged_place l) (if-refused 8 refl) λ place.
      if-accepted _
      (paths.unacknowledged tl_unitdata r r.link (BlUdata false) nothing
      (record { range = range; path = refl; free = fr; place = place; link = omega arith; flag = refl; used = tt }))

  heard-law :
      (f : Frame) (Q : Outcome (Done Link) → Type 0)
      → ((n : ℕ) → among n of_frames ≡ true → Q (refused n))
      → ((d : Done Link) → P (frame f) d.state d.records → Q (accepted d))
      → frame_in_range f ≡ true
      → (o : Outcome Received)
      → received f.pdu ≡ o
      → Asked of_reading o
      → Q (on_received f o l)
  unfolding on_received any
  heard-law f Q if-refused if-accepted range (refused n) e a = if-refused n (of-frames n a)
  heard-law f Q if-refused if-accepted range (accepted r) e a =
      by-question Q 7 (row_for_frame f (ns_of r.header) l) (if-refused 7 refl) λ row.
      by-question Q 13 (due_room (ns_of r.header) l) (if-refused 13 refl) λ room.
      by-question Q 14 (may_finish f (nr_of r.header) l) (if-refused 14 refl) λ may.
      if-accepted _ (paths.heard f r (record { range = range; apart = e; row = row; room = room; may = may }))

  action-law :
      (i : ℕ) (a : Action) (Q : Outcome (Done Link) → Type 0)
      → ((n : ℕ) → among n of_receipts ≡ true → Q (refused n))
      → ((d : Done Link) → P (by_receipt i a) d.state d.records → Q (accepted d))
      → i < 128
      → Q (on_receipt i a l)
  unfolding on_report on_release any
  action-law i (report how) Q if-refused if-accepted few =
      by-question Q 15 (reportable i l) (if-refused 15 refl) λ may. if-accepted _ (paths.reported i how (record { receipt = few; may = may }))
  action-law i release Q if-refused if-accepted few =
      by-question Q 16 (releasable i l) (if-refused 16 refl) λ may. if-accepted _ (paths.released i (record { receipt = few; may = may }))

  -- A call that passed questions 2 to 5.
  pub act-law :
      (c : Call) (Q : Outcome (Done Link) → Type 0)
      → ((n : ℕ) → among n (asks c) ≡ true → Q (refused n))
      → ((d : Done Link) → P c d.state d.records → Q (accepted d))
      → in_range c ≡ true
      → Q (act c l)
  unfolding act in_range on_frame
  act-law (start carrier t251) Q if-refused if-accepted range = if-accepted _ (paths.start carrier t251)
  act-law (tick_start time) Q if-refused if-accepted range = if-accepted _ (paths.tick_start time)
  act-law tick_end Q if-refused if-accepted range = if-accepted _ paths.tick_end
  act-law (request tl_data r) Q if-refused if-accepted range = data-law r Q if-refused if-accepted range
  act-law (request tl_unitdata r) Q if-refused if-accepted range = unitdata-law r Q if-refused if-accepted range
  act-law (frame f) Q if-refused if-accepted range = heard-law f Q if-refused if-accepted range (received f.pdu) refl (received-asked f.pdu)
  act-law (by_receipt i a) Q if-refused if-accepted range =
      action-law i a Q if-refused if-accepted (ltb-true i 128 (and_parts (is_receipt i) (action_in_range a) range).0)

  called-law :
      (o : Outcome Call) (Q : Outcome (Done Link) → Type 0)
      → ((n : ℕ) → Number n → Q (refused n))
      → ((c : Call) (d : Done Link) → o ≡ accepted c → P c d.state d.records → Q (accepted d))
      → Read o
      → Q (called l o)
  unfolding called
  called-law (refused n) Q if-refused if-accepted read = if-refused n read
  called-law (accepted c) Q if-refused if-accepted read =
      by-question Q 4 (is_start c || l.started) (if-refused 4 (number_is 4 refl)) λ started.
      by-question Q 5 (in_range c) (if-refused 5 (number_is 5 refl)) λ range.
      act-law c Q (λ n a. if-refused n (asked-number c n a)) (λ d p. if-accepted c d refl p) range

  -- A call of any bytes: a refusal has a number from 2 to 16, an accepted call went a path.
  pub step-law :
      (bytes : List ℕ) (Q : Outcome (Done Link) → Type 0)
      → ((n : ℕ) → Number n → Q (refused n))
      → ((c : Call) (d : Done Link) → parsed bytes ≡ accepted c → P c d.state d.records → Q (accepted d))
      → Q (step l bytes)
  unfolding step
  step-law bytes Q if-refused if-accepted = called-law (parsed bytes) Q if-refused if-accepted (parsed-read bytes)

-- Of a refusal and of an accepted call, where nothing is asked of the path.
anyhow : (l : Link) → Paths l (λ c k rs. Unit {0})
anyhow l =
    record {
      start = λ carrier t251. tt;
      tick_start = λ time. tt;
      tick_end = tt;
      acknowledged = λ r a. tt;
      unacknowledged = λ s r link p used a. tt;
      heard = λ f r a. tt;
      reported = λ i how a. tt;
      released = λ i a. tt;
    }

pub refused-number : (l : Link) (bytes : List ℕ) (n : ℕ) → step l bytes ≡ refused n → Number n
refused-number l bytes n =
    step-law l _ (anyhow l) bytes (λ o. o ≡ refused n → Number n)
    (λ k is e. let same : k ≡ n = cc in subst Number same is)
    (λ c d read t e. let z : ◌≡◌ {A = ℕ} 0 1 = cc in absurd (omega arith))

-- Number 1 is of what is lent, and no call on the link gets it.
pub not-one : (l : Link) (bytes : List ℕ) → eqb (number (step l bytes)) 1 ≡ false
not-one l bytes =
    step-law l _ (anyhow l) bytes (λ o. eqb (number o) 1 ≡ false) (λ n k. ne_eqb n 1 (λ e. omega (arith, e, k.low))) (λ c d read t. refl)

-- An accepted call passed questions 4 and 5.
pub record Passed (c : Call) (l : Link) : Type 0 where
  pub started : is_start c || l.started ≡ true
  pub range : in_range c ≡ true

pub passed : (l : Link) (bytes : List ℕ) (c : Call) → parsed bytes ≡ accepted c → number (step l bytes) ≡ 0 → Passed c l
unfolding step called
passed l bytes c e =
    rw e
    (by-question (λ (o : Outcome (Done Link)). number o ≡ 0 → Passed c l) 4 (is_start c || l.started)
    (λ z. absurd (omega (arith, z)))
    λ started.
    by-question (λ (o : Outcome (Done Link)). number o ≡ 0 → Passed c l) 5 (in_range c)
    (λ z. absurd (omega (arith, z)))
    λ range z. record { started = started; range = range })
