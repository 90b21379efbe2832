-- Every call keeps what the link has of a receipt in step with what is read off the run; so it is after every run.
use Prim.Native.Nat.{ℕ, suc, ◌≤◌, ◌<◌}
use native.Mathlib.Omega.{arith}
use mathlib.Core.Path.{◌≡◌, ◌∙◌, refl, sym, ap, subst}
use mathlib.Core.Bool.{Bool, true, false, not, ◌&&◌, true≢false, false≢true}
use mathlib.Core.List.{List, [], ◌∷◌, ◌++◌, append-nil}
use mathlib.Core.Option.{Option, none, some, some-injective, none-ne-some}
use borrow.Author.Clash.{clash}
use borrow.Author.Tests.{eqb-true, eqb-false, eq-eqb, not-true}
use lib.Dec.{eqb}
use lib.ListN.{length, set}
use Rattle.std.proofs.lemmas.Bool.{cond_both, and_parts, or_parts, cond-true, cond-false, and_from}
use Rattle.lists.specs.Lists.{keep, any, Found, nothing, first, others, All}
use Rattle.lists.proofs.Lists.{keep-yes, keep-no, keep_append, count_yes, count-front, Split, FoundBy, find-by}
use Rattle.lists.proofs.Choices.{by-test, either}
use Rattle.questions.specs.Outcome.{accepted, refused, number}
use Rattle.tx_receipt.specs.States.{is, final}
use Rattle.tx_receipt.specs.Marks as Marks
use Rattle.tx_receipt.specs.Marks.{allowed}
use Rattle.tx_receipt.specs.declared.TxReceipt.{TxReceipt}
use Rattle.tx_receipt.specs.declared.TxState.{TxState}
use Rattle.tx_receipt.specs.declared.TxState.TheVariants.{Pending, Discarded, Transmitted, Lost, Acknowledged}
use Rattle.llc_pdus.specs.Headers.{ns_of, nr_of}
use Rattle.llc_pdus.specs.Received.{Received}
use Rattle.llc_pdus.specs.declared.Pdu.{Pdu}
use Rattle.llc_pdus.specs.declared.Pdu.TheVariants.{BlUdata}
use Rattle.llc_rule.specs.Calls.{start, request, Service, tl_data, tl_unitdata, Request, Frame, parsed}
use Rattle.llc_rule.specs.Ranges.{is_receipt, request_in_range, in_range}
use Rattle.llc_rule.specs.Records.{Record, Sent}
use Rattle.llc_rule.specs.Messages.{Message, waiting, Due, Place, free, taken, place_at, is_free, pending, taken?, marked, mark, mark_of, carrier_of, sent_of}
use Rattle.llc_rule.specs.Keeps.{with_receipts}
use Rattle.llc_rule.specs.Link.{Link, bit_of, new, started_with}
use Rattle.llc_rule.specs.Step.{on_acknowledged_path, due_for, data_pdu, receipt_free, with_acknowledged, with_unacknowledged, numbered, sent_up, awaiting, fits, finishable, may_finish, answered_by, answered, held, waits, reportable, on_tick_end, step}
use Rattle.llc_rule.specs.Runs.{left, Exchange, exchange, run, after}
use Rattle.llc_rule.specs.Past.{Holding, empties, takes, frees, stays, about_call, taken_by, Holders, done_to, holders}
use Rattle.llc_rule.specs.Sound.{is_nobody, acknowledged_with, Sound}
use Rattle.llc_rule.specs.Sendings.{handed, AtMostFour}
use Rattle.llc_rule.specs.Lost.{Event, started, ticked, tick_ended, ordered, reported_on, other, event, event_in, is_any, Clock, clock_next, clock_from}
use Rattle.llc_rule.proofs.Places.{turned, place_set, place_other, place-mark}
use Rattle.llc_rule.proofs.Paths.{Acknowledged as OnPath, off_path, Heard, after_heard, Paths, sent-up, step-law, Passed, passed}
use Rattle.llc_rule.proofs.SoundLists.{other_place}
use Rattle.llc_rule.proofs.SoundRequests.{receipt-within}
use Rattle.llc_rule.proofs.SoundCalls.{numbered as not-accepted, done-accepted, done_refused, sound-step}
use Rattle.llc_rule.proofs.Events.{takes-nothing}
use Rattle.llc_rule.proofs.Handed.{handed-upward}
use Rattle.llc_rule.proofs.Watches.{Watch, asking, reported_as, is_order, aged, goes_on, if_any, holding_now, watched_by, watched, watch_from, AllSentWell, Good, GoodBy, GoodIn, Fine, Each, goes-aged, goes-ended, goes-request, GoneAs, Gone}
use Rattle.llc_rule.proofs.Told.{at_outset}
use Rattle.llc_rule.proofs.Follows.{is_of, mine, report_state, is_value, Held, OrderFollows, FollowsAs, FollowsBy, clock_of, At, held-fine, none-mine, free-mine}
use Rattle.llc_rule.proofs.FollowsTickEnd.{SeenTick, tick-none, tick-order}

-- The address that holds the receipt, by what is read of it.
abbrev pub holder_is : Option Watch → Option ℕ
holder_is none = none
holder_is (some w) = some w.request.ssi

-- Lists of nothing.
no_length : {A : Type 0} (l : List A) → length l ≤ 0 → l ≡ []
no_length [] e = refl
no_length (x ∷ l) e = absurd (omega (arith, e))

no-parts : {A : Type 0} (l m : List A) → l ++ m ≡ [] → (l ≡ []) × (m ≡ [])
no-parts [] m e = (refl, e)
no-parts (x ∷ l) m e = let z : true ≡ false = cc in absurd (true≢false z)

-- A message that is finished is gone.
finished-gone : (w : Watch) (p : Place) → taken? (allowed Marks.acknowledged) p ≡ true → Gone w (marked Marks.acknowledged p)
finished-gone w free e = absurd (false≢true e)
finished-gone w (taken r) e = record { receipt = Marks.at Acknowledged r; taken = rw e; how = tt }

finished_as : (b : Bool) (w : Watch) (m : Message) (p : Place) → FollowsAs b w (m ∷ []) p → taken? (allowed Marks.acknowledged) p ≡ true → FollowsAs b w [] (marked Marks.acknowledged p)
finished_as true w m p f e = finished-gone w p e
finished_as false w m p f e = (refl, f.1)

finished-follows :
    (w : Option Watch) (m : Message) (p : Place)
    → FollowsBy w (m ∷ []) p
    → taken? (allowed Marks.acknowledged) p ≡ true
    → FollowsBy w [] (marked Marks.acknowledged p)
finished-follows none m p f e = refl
finished-follows (some w) m p f e = finished_as w.order w m p f e

-- No two messages share a receipt.
alone-mine : {h : Holders} {l : Link} → Sound h l → (i : ℕ) → acknowledged_with i l.acknowledged ≤ 1
alone-mine sound i = omega (arith, sound.apart i)

-- What a frame leaves of the clock.
record Beginning : Type 0 where
  clock : Clock
  begun : Bool

abbrev beginning : Link → Beginning
beginning l = record { clock = clock_of l; begun = l.started }

answered-by-clock : (nr : Bool) (g : Found Message) (l : Link) → beginning (answered_by nr g l) ≡ beginning l
unfolding answered_by
answered-by-clock nr nothing l = refl
answered-by-clock nr (first m ms) l = either (λ (n : Link). beginning n ≡ beginning l) (fits nr m) refl refl

answered-clock : (f : Frame) (o : Option Bool) (l : Link) → beginning (answered f o l) ≡ beginning l
answered-clock f none l = refl
answered-clock f (some nr) l = answered-by-clock nr (awaiting f l) l

numbered-clock : (f : Frame) (x : Option Bool) (l : Link) → beginning (numbered f x l) ≡ beginning l
numbered-clock f none l = refl
numbered-clock f (some ns) l = refl

numbered-finishable : (f : Frame) (ns nr : Bool) (g : Found Message) (l : Link) → finishable nr g (numbered f (some ns) l) ≡ finishable nr g l
numbered-finishable f ns nr nothing l = refl
numbered-finishable f ns nr (first m ms) l = refl

-- A receipt that is Pending was not reported on, and its message is not gone.
pending-by : (o : Option ℕ) → taken? (is Pending) (taken (record { expects_ack = true; state = report_state o })) ≡ true → o ≡ none
pending-by none e = refl
pending-by (some how) e = by-test (eqb how 1) (λ z. clash _ e (rw z)) (λ z. clash _ e (rw z))

pending-unreported : (u : Watch) (m : Message) (p : Place) → Held u m p → taken? (is Pending) p ≡ true → u.report ≡ none
pending-unreported u m p g e = pending-by u.report (sym (ap (taken? (is Pending)) g.place) ∙ e)

gone-pending : {G : Type 0} (u : Watch) (r : TxReceipt) (s : TxState) → r.state ≡ s → GoneAs u s → is Pending r ≡ true → G
gone-pending u r Pending e g p = absurd g
gone-pending u r Discarded e g p = clash _ p (rw e)
gone-pending u r Transmitted e g p = absurd g
gone-pending u r Lost e g p = clash _ p (rw e)
gone-pending u r Acknowledged e g p = clash _ p (rw e)

gone-unreportable : {G : Type 0} (u : Watch) (p : Place) → Gone u p → taken? (is Pending) p ≡ true → G
gone-unreportable u p g e = gone-pending u g.receipt g.receipt.state refl g.how (sym (ap (taken? (is Pending)) g.taken) ∙ e)

report-mark : (how : ℕ) → marked (mark_of how) (taken (record { expects_ack = true; state = Pending })) ≡ taken (record { expects_ack = true; state = report_state (some how) })
report-mark how = by-test (eqb how 1) (λ e. rw e) (λ e. rw e)

some-length : (ss : List Sent) (n : ℕ) → length ss ≡ suc n → is_any ss ≡ true
some-length [] n e = absurd (omega (arith, e))
some-length (s ∷ ss) n e = refl

-- No message of the receipt waits.
all-submitted : (i : ℕ) (ms : List Message) → any (λ (m : Message). eqb m.sent.receipt i && not m.submitted) ms ≡ false → All (λ (m : Message). m.submitted ≡ true) (mine i ms)
unfolding any keep
all-submitted i [] e = tt
all-submitted i (m ∷ ms) e =
    let n = or_parts (is_of i m && not m.submitted) _ e in
    let rest = all-submitted i ms n.1 in
    by-test (is_of i m)
    (λ o. rw o (by-test m.submitted (λ s. s) (λ s. clash _ (and_from _ _ o (ap not s)) n.0), rest))
    (λ o. rw o rest)

-- A report on this receipt, and on another.
reported-any : (i : ℕ) (k : Clock) (j how : ℕ) (w : Option Watch) → eqb j i ≡ true → if_any (goes_on i k (reported_on j how) []) w ≡ if_any (reported_as how) w
reported-any i k j how none e = refl
reported-any i k j how (some u) e = ap some (cond-true _ (reported_as how u) u e)

reported-other : (i : ℕ) (k : Clock) (j how : ℕ) (w : Option Watch) → eqb j i ≡ false → if_any (goes_on i k (reported_on j how) []) w ≡ w
reported-other i k j how none e = refl
reported-other i k j how (some u) e = ap some (cond-false _ (reported_as how u) u e)

reports-another : {G : Type 0} (i j how n : ℕ) → eqb j i ≡ false → reported_on j how ≡ reported_on i n → G
reports-another i j how n e q = clash _ (eq-eqb j i (ap on_receipt q)) e
  where
    on_receipt : Event → ℕ
    on_receipt (started t251) = 0
    on_receipt (ticked time) = 0
    on_receipt tick_ended = 0
    on_receipt (ordered r) = 0
    on_receipt (reported_on i how) = i
    on_receipt other = 0

good-other : (i : ℕ) (k : Clock) (j how : ℕ) (w : Option Watch) → eqb j i ≡ false → GoodBy i k w (reported_on j how) stays []
good-other i k j how none e = refl
good-other i k j how (some u) e =
    record {
      untaken = λ r t. takes-nothing stays refl r t;
      sent = tt;
      unreported = λ o n q. reports-another i j how n e q;
    }

-- A tick end at which nothing is handed down leaves what was.
aged-fine : (k : Clock) (u : Watch) → AtMostFour u.request u.sent → AtMostFour (aged k u u.noted).request (aged k u u.noted).sent
aged-fine k u f =
    let g = goes-aged k u u.noted in
    subst (AtMostFour (aged k u u.noted).request) (sym (g.sent ∙ append-nil u.sent))
    (subst (λ (r : Request). AtMostFour r u.sent) (sym g.request) f)

-- A number that is not 0.
positive : (n : ℕ) → (n ≡ 0 → ⊥) → 1 ≤ n
positive n e = omega (arith, e)

-- A request off the acknowledged path is no order.
off-event : (s : Service) (r : Request) → off_path s r ≡ true → event (accepted (request s r)) ≡ other
off-event tl_data r e = cond-false _ (ordered r) other (not-true (on_acknowledged_path r) e)
off-event tl_unitdata r e = refl

-- What a call is to the receipt: it is as it should be, and what the link has follows.
record Next (i : ℕ) (k : Clock) (w : Option Watch) (v : Event) (x : Holding) (rs : List Record) (l : Link) : Type 0 where
  good : GoodBy i k w v x (handed i rs)
  at : At i (clock_next k v) (watched_by i k v x (handed i rs) w) l

-- A call that is neither a tick end nor a report.
abbrev plain : Event → Bool
plain (started t251) = true
plain (ticked time) = true
plain tick_ended = false
plain (ordered r) = true
plain (reported_on i how) = false
plain other = true

module _ (i : ℕ) (k : Clock) where
  plain-same : (v : Event) (ss : List Sent) (w : Option Watch) → plain v ≡ true → if_any (goes_on i k v ss) w ≡ w
  plain-same v ss none p = refl
  plain-same (started t251) ss (some w) p = refl
  plain-same (ticked time) ss (some w) p = refl
  plain-same tick_ended ss (some w) p = absurd (false≢true p)
  plain-same (ordered r) ss (some w) p = refl
  plain-same (reported_on j how) ss (some w) p = absurd (false≢true p)
  plain-same other ss (some w) p = refl

  -- It is good, if it takes no receipt that is held.
  good-plain :
      (v : Event) (x : Holding) (w : Option Watch)
      → plain v ≡ true
      → ((u : Watch) → w ≡ some u → (r : Request) → x ≡ takes r → eqb i r.receipt ≡ false)
      → GoodBy i k w v x []
  good-plain v x none p untaken = refl
  good-plain v x (some w) p untaken =
      record {
        untaken = untaken w refl;
        sent = tt;
        unreported = λ o how e. absurd (false≢true (sym (ap plain e) ∙ p));
      }

module _ (h : Holders) (l : Link) (sound : Sound h l) (i : ℕ) (k : Clock) (w : Option Watch) (holder : h i ≡ holder_is w) (a : At i k w l) where
  abbrev place : Place
  place = place_at l.receipts i

  -- A receipt that is watched is taken.
  watched-taken : (u : Watch) → w ≡ some u → is_free place ≡ false
  watched-taken u e = sound.free i ∙ ap is_nobody (holder ∙ ap holder_is e)

  untaken : (r : Request) → receipt_free r l ≡ true → (u : Watch) → w ≡ some u → (q : Request) → takes r ≡ takes q → eqb i q.receipt ≡ false
  untaken r f u e q t =
      subst (λ (x : Holding). eqb i (receipt_of x) ≡ false) t (other_place l.receipts r.receipt i f (watched-taken u e))
    where
      receipt_of : Holding → ℕ
      receipt_of empties = 0
      receipt_of (takes r) = r.receipt
      receipt_of (frees j) = j
      receipt_of stays = 0

  -- A call without records that leaves the message and the place of the receipt.
  unchanged :
      (v : Event) (x : Holding) (l' : Link)
      → plain v ≡ true
      → holding_now i v x w ≡ w
      → ((u : Watch) → w ≡ some u → (r : Request) → x ≡ takes r → eqb i r.receipt ≡ false)
      → clock_next k v ≡ clock_of l'
      → (l'.started ≡ true → 1 ≤ l'.t251)
      → mine i l'.acknowledged ≡ mine i l.acknowledged
      → place_at l'.receipts i ≡ place
      → Next i k w v x [] l'
  unfolding handed
  unchanged v x l' p same clear clock begun ms at =
      let is : watched_by i k v x [] w ≡ w = ap (if_any (goes_on i k v [])) same ∙ plain-same i k v [] w p in
      record {
        good = good-plain i k v x w p clear;
        at =
            record {
              clock = clock;
              started = begun;
              follows =
                  subst (λ (o : Option Watch). FollowsBy o (mine i l'.acknowledged) (place_at l'.receipts i)) (sym is)
                  (subst (λ (ns : List Message). FollowsBy w ns (place_at l'.receipts i)) (sym ms)
                  (subst (FollowsBy w (mine i l.acknowledged)) (sym at) a.follows));
              fine = subst Fine (sym is) a.fine;
            };
      }

  -- Requests ----------------------------------------------------------------------------------------------------------------

  none-mine-free : (r : Request) → receipt_free r l ≡ true → mine r.receipt l.acknowledged ≡ []
  none-mine-free r f = free-mine h l.receipts r.receipt l.acknowledged sound.owned f

  -- A request that takes the receipt: from now on it is watched.
  begun :
      (v : Event) (r : Request) (l' : Link)
      → plain v ≡ true
      → receipt_free r l ≡ true
      → eqb i r.receipt ≡ true
      → clock_next k v ≡ clock_of l'
      → (l'.started ≡ true → 1 ≤ l'.t251)
      → FollowsAs (is_order v) (asking r (is_order v)) (mine i l'.acknowledged) (place_at l'.receipts i)
      → Next i k w v (takes r) [] l'
  unfolding handed
  begun v r l' p f mine-is clock begin follows =
      let new-watch = asking r (is_order v) in
      let is : watched_by i k v (takes r) [] w ≡ some new-watch =
      ap (if_any (goes_on i k v [])) (cond-true _ (some new-watch) w mine-is) ∙ plain-same i k v [] (some new-watch) p in
      record {
        good = good-plain i k v (takes r) w p (untaken r f);
        at =
            record {
              clock = clock;
              started = begin;
              follows = subst (λ (o : Option Watch). FollowsBy o (mine i l'.acknowledged) (place_at l'.receipts i)) (sym is) follows;
              fine = subst Fine (sym is) (record { few = omega arith; carrier = 0; link = 0; header = BlUdata false; same = tt });
            };
      }

  next-acknowledged : (r : Request) → OnPath r l → Next i k w (ordered r) (takes r) [] (with_acknowledged r l)
  unfolding with_acknowledged sent_of keep
  next-acknowledged r q =
      let ns = bit_of r.ssi l.rows in
      let m : Message = waiting (sent_of r (carrier_of l.carrier r) 0 (data_pdu r ns (due_for r l))) ns in
      let within : r.receipt < length l.receipts = omega (arith, sound.limits.receipts, receipt-within r q.range) in
      let placed = place_set l.receipts r.receipt i (pending true) within in
      by-test (eqb i r.receipt)
      (λ e.
      let own : is_of i m ≡ true = turned i r.receipt true e in
      let ms : mine i (l.acknowledged ++ (m ∷ [])) ≡ m ∷ [] =
      keep_append (is_of i) l.acknowledged (m ∷ [])
      ∙ ap (λ (x : List Message). x ++ mine i (m ∷ [])) (ap (λ (j : ℕ). mine j l.acknowledged) (eqb-true i r.receipt e) ∙ none-mine-free r q.free)
      ∙ keep-yes (is_of i) m [] own in
      begun (ordered r) r (with_acknowledged r l) refl q.free e a.clock a.started
      (subst (λ (x : List Message). OrderFollows (asking r true) x (place_at (set l.receipts r.receipt (pending true)) i)) (sym ms) (
        record {
          carrier = carrier_of l.carrier r;
          link = 0;
          header = data_pdu r ns (due_for r l);
          what = refl;
          same = tt;
          place = placed ∙ cond-true _ (pending true) place e;
          done = refl;
          over = refl;
          few = omega arith;
          waits = λ s. record { sent = refl; report = refl; resends = refl };
          count = λ s. absurd (false≢true s);
          unnoted = λ n. refl;
          value = λ how n. absurd (none-ne-some how n);
        },
        refl,
      )))
      (λ e.
      unchanged (ordered r) (takes r) (with_acknowledged r l) refl (cond-false _ _ w e) (untaken r q.free) a.clock a.started
      (keep_append (is_of i) l.acknowledged (m ∷ [])
      ∙ ap (λ (x : List Message). mine i l.acknowledged ++ x) (keep-no (is_of i) m [] (turned i r.receipt false e))
      ∙ append-nil (mine i l.acknowledged))
      (placed ∙ cond-false _ (pending true) place e))

  next-unacknowledged :
      (r : Request) (link : ℕ) (p : Pdu) (ds : List Due)
      → request_in_range r ≡ true
      → receipt_free r l ≡ true
      → Next i k w other (takes r) [] (with_unacknowledged r link p ds l)
  unfolding with_unacknowledged
  next-unacknowledged r link p ds range f =
      let within : r.receipt < length l.receipts = omega (arith, sound.limits.receipts, receipt-within r range) in
      let placed = place_set l.receipts r.receipt i (pending false) within in
      by-test (eqb i r.receipt)
      (λ e.
      begun other r (with_unacknowledged r link p ds l) refl f e a.clock a.started
      (ap (λ (j : ℕ). mine j l.acknowledged) (eqb-true i r.receipt e) ∙ none-mine-free r f, refl))
      (λ e.
      unchanged other (takes r) (with_unacknowledged r link p ds l) refl (cond-false _ _ w e) (untaken r f) a.clock a.started refl
      (placed ∙ cond-false _ (pending false) place e))

  -- Frames -------------------------------------------------------------------------------------------------------------------

  module _ (l' : Link) (follows : FollowsBy w (mine i l'.acknowledged) (place_at l'.receipts i)) (apart : acknowledged_with i l'.acknowledged ≤ 1) where
    abbrev Kept : Link → Type 0
    Kept n = FollowsBy w (mine i n.acknowledged) (place_at n.receipts i)

    -- A message of another receipt that is finished or moved.
    other-answered : (p : Message → Bool) (m : Message) (ms : List Message) → Split p l'.acknowledged m ms → is_of i m ≡ false → mine i ms ≡ mine i l'.acknowledged
    other-answered p m ms z e =
        ap (mine i) z.rest
        ∙ keep_append (is_of i) z.front z.back
        ∙ ap (λ (x : List Message). mine i z.front ++ x) (sym (keep-no (is_of i) m z.back e))
        ∙ sym (keep_append (is_of i) z.front (m ∷ z.back))
        ∙ ap (mine i) (sym z.whole)

    -- Its own: it was the only one.
    own-answered : (p : Message → Bool) (m : Message) (ms : List Message) → Split p l'.acknowledged m ms → is_of i m ≡ true → (mine i ms ≡ []) × (mine i l'.acknowledged ≡ m ∷ [])
    own-answered p m ms z e =
        let count : length (mine i (z.front ++ (m ∷ z.back))) ≤ 1 = subst (λ (x : List Message). length (mine i x) ≤ 1) z.whole apart in
        let none_left : mine i (z.front ++ z.back) ≡ [] =
        no_length (mine i (z.front ++ z.back))
        (omega (arith, count, count-front (is_of i) z.front m z.back, count_yes (is_of i) m (z.front ++ z.back) e)) in
        let parts = no-parts (mine i z.front) (mine i z.back) (sym (keep_append (is_of i) z.front z.back) ∙ none_left) in (
          ap (mine i) z.rest ∙ none_left,
          ap (mine i) z.whole
              ∙ keep_append (is_of i) z.front (m ∷ z.back)
              ∙ ap (λ (x : List Message). x ++ mine i (m ∷ z.back)) parts.0
              ∙ keep-yes (is_of i) m z.back e
              ∙ ap (λ (x : List Message). m ∷ x) parts.1,
        )

    answered-by-kept :
        (p : Message → Bool) (nr : Bool) (g : Found Message)
        → FoundBy p l'.acknowledged g
        → finishable nr g l' ≡ true
        → Kept (answered_by nr g l')
    unfolding answered_by
    answered-by-kept p nr nothing z may = follows
    answered-by-kept p nr (first m ms) z may =
        cond_both (fits nr m) _ _ Kept
        (λ f.
        by-test (is_of i m)
        (λ e.
        let o = own-answered p m ms z e in
        let lets : taken? (allowed Marks.acknowledged) (place_at l'.receipts m.sent.receipt) ≡ true = rw f at may in
        let there : place_at (mark Marks.acknowledged m.sent.receipt l'.receipts) i ≡ marked Marks.acknowledged (place_at l'.receipts i) =
        place-mark Marks.acknowledged l'.receipts m.sent.receipt i ∙ cond-true _ _ _ (turned m.sent.receipt i true e) in
        subst (λ (x : List Message). FollowsBy w x (place_at (mark Marks.acknowledged m.sent.receipt l'.receipts) i)) (sym o.0)
        (subst (FollowsBy w []) (sym there)
        (finished-follows w m (place_at l'.receipts i)
        (subst (λ (x : List Message). FollowsBy w x (place_at l'.receipts i)) o.1 follows)
        (subst (λ (j : ℕ). taken? (allowed Marks.acknowledged) (place_at l'.receipts j) ≡ true) (eqb-true m.sent.receipt i e) lets))))
        (λ e.
        let there : place_at (mark Marks.acknowledged m.sent.receipt l'.receipts) i ≡ place_at l'.receipts i =
        place-mark Marks.acknowledged l'.receipts m.sent.receipt i ∙ cond-false _ _ _ (turned m.sent.receipt i false e) in
        subst (λ (x : List Message). FollowsBy w x (place_at (mark Marks.acknowledged m.sent.receipt l'.receipts) i)) (sym (other-answered p m ms z e))
        (subst (FollowsBy w (mine i l'.acknowledged)) (sym there) follows)))
        (λ f.
        subst (λ (x : List Message). FollowsBy w x (place_at l'.receipts i))
        (sym
        (by-test (is_of i m)
        (λ e. let o = own-answered p m ms z e in keep-yes (is_of i) m ms e ∙ ap (λ (x : List Message). m ∷ x) o.0 ∙ sym o.1)
        (λ e. keep-no (is_of i) m ms e ∙ other-answered p m ms z e)))
        follows)

    answered-kept : (f : Frame) (o : Option Bool) → may_finish f o l' ≡ true → Kept (answered f o l')
    unfolding awaiting
    answered-kept f none may = follows
    answered-kept f (some nr) may = answered-by-kept _ nr (awaiting f l') (find-by _ l'.acknowledged) may

  numbered-kept :
      (f : Frame) (x o : Option Bool)
      → may_finish f o l ≡ true
      → FollowsBy w (mine i (answered f o (numbered f x l)).acknowledged) (place_at (answered f o (numbered f x l)).receipts i)
  unfolding awaiting
  numbered-kept f none none may = a.follows
  numbered-kept f none (some nr) may = answered-kept l a.follows (alone-mine sound i) f (some nr) may
  numbered-kept f (some ns) none may = a.follows
  numbered-kept f (some ns) (some nr) may =
      answered-kept (numbered f (some ns) l) a.follows (alone-mine sound i) f (some nr) (numbered-finishable f ns nr (awaiting f l) l ∙ may)

  next-heard : (f : Frame) (r : Received) → Heard f r l → Next i k w other stays (sent_up f r l) (after_heard f r l)
  unfolding handed
  next-heard f r q =
      let up : handed i (sent_up f r l) ≡ [] =
      sent-up (λ (rs : List Record). handed i rs ≡ []) f r l refl (handed-upward i f r.header r.sdu) in
      let is : watched_by i k other stays (handed i (sent_up f r l)) w ≡ w = plain-same i k other (handed i (sent_up f r l)) w refl in
      let same = answered-clock f (nr_of r.header) (numbered f (ns_of r.header) l) ∙ numbered-clock f (ns_of r.header) l in
      record {
        good = subst (GoodBy i k w other stays) (sym up) (good-plain i k other stays w refl (λ u e q t. takes-nothing stays refl q t));
        at =
            record {
              clock = a.clock ∙ ap (λ (c : Beginning). c.clock) (sym same);
              started = subst (λ (c : Beginning). c.begun ≡ true → 1 ≤ c.clock.t251) (sym same) a.started;
              follows =
                  subst (λ (o : Option Watch). FollowsBy o (mine i (after_heard f r l).acknowledged) (place_at (after_heard f r l).receipts i)) (sym is)
                  (numbered-kept f (ns_of r.header) (nr_of r.header) q.may);
              fine = subst Fine (sym is) a.fine;
            };
      }

  -- Reports and releases ------------------------------------------------------------------------------------------------------

  -- A report on a message that is held: it is the first since a sending, and the message follows.
  module _ (how : ℕ) (value : is_value how ≡ true) (pending-is : taken? (is Pending) place ≡ true) (unwaiting : waits i l ≡ false) where
    report-held : (u : Watch) (m : Message) → Held u m place → m.submitted ≡ true → Held (reported_as how u) m (marked (mark_of how) place)
    report-held u m g sub =
        let none_yet = pending-unreported u m place g pending-is in
        record {
          carrier = g.carrier;
          link = g.link;
          header = g.header;
          what = g.what;
          same = g.same;
          place =
              ap (marked (mark_of how)) (g.place ∙ ap (λ (o : Option ℕ). taken (record { expects_ack = true; state = report_state o })) none_yet)
              ∙ report-mark how;
          done = g.done ∙ g.unnoted none_yet;
          over = g.over;
          few = g.few;
          waits = λ e. clash _ sub e;
          count = g.count;
          unnoted = λ e. absurd (none-ne-some how (sym e));
          value = λ o e. subst (λ (x : ℕ). is_value x ≡ true) (some-injective how o e) value;
        }

    submitted-mine : All (λ (m : Message). m.submitted ≡ true) (mine i l.acknowledged)
    unfolding waits
    submitted-mine =
        all-submitted i l.acknowledged
        (or_parts (any (λ (m : Message). eqb m.sent.receipt i && not m.submitted) l.acknowledged) _ unwaiting).0

    report-order :
        (u : Watch) (ms : List Message)
        → All (λ (m : Message). m.submitted ≡ true) ms
        → OrderFollows u ms place
        → ((u.report ≡ none) × (is_any u.sent ≡ true)) × OrderFollows (reported_as how u) ms (marked (mark_of how) place)
    report-order u [] sub g = gone-unreportable u place g pending-is
    report-order u (m ∷ ms) sub g = (
      (pending-unreported u m place g.0 pending-is, some-length u.sent m.resends (g.0.count sub.0)),
      (report-held u m g.0 sub.0, g.1),
    )

    report-as :
        (b : Bool) (u : Watch)
        → FollowsAs b u (mine i l.acknowledged) place
        → (b ≡ true → (u.report ≡ none) × (is_any u.sent ≡ true))
        × FollowsAs b (reported_as how u) (mine i l.acknowledged) (marked (mark_of how) place)
    report-as true u g = let x = report-order u (mine i l.acknowledged) submitted-mine g in (λ e. x.0, x.1)
    report-as false u g = (λ e. absurd (false≢true e), g)

    reported-next :
        (o : Option Watch)
        → w ≡ o
        → Fine o
        → FollowsBy o (mine i l.acknowledged) place
        → GoodBy i k o (reported_on i how) stays []
        × (FollowsBy (if_any (reported_as how) o) (mine i l.acknowledged) (marked (mark_of how) place) × Fine (if_any (reported_as how) o))
    reported-next none e fine g = (refl, (g, tt))
    reported-next (some u) e fine g =
        let x = report-as u.order u g in (
          record { untaken = λ r t. takes-nothing stays refl r t; sent = tt; unreported = λ order n ev. x.0 order },
          (x.1, fine),
        )

  next-reported :
      (j how : ℕ)
      → is_value how ≡ true
      → reportable j l ≡ true
      → Next i k w (reported_on j how) stays [] (with_receipts l (mark (mark_of how) j l.receipts))
  unfolding handed
  next-reported j how value may =
      let asked = and_parts (taken? (is Pending) (place_at l.receipts j)) _ may in
      by-test (eqb j i)
      (λ e.
      let j-is = eqb-true j i e in
      let pending-is = subst (λ (n : ℕ). taken? (is Pending) (place_at l.receipts n) ≡ true) j-is asked.0 in
      let unwaiting = subst (λ (n : ℕ). waits n l ≡ false) j-is (not-true (waits j l) asked.1) in
      let x = reported-next how value pending-is unwaiting w refl a.fine a.follows in
      let is : if_any (goes_on i k (reported_on j how) []) w ≡ if_any (reported_as how) w = reported-any i k j how w e in
      let there : place_at (mark (mark_of how) j l.receipts) i ≡ marked (mark_of how) place =
      place-mark (mark_of how) l.receipts j i ∙ cond-true _ _ _ (turned j i true e) in
      record {
        good = subst (λ (n : ℕ). GoodBy i k w (reported_on n how) stays []) (sym j-is) x.0;
        at =
            record {
              clock = a.clock;
              started = a.started;
              follows =
                  subst (λ (o : Option Watch). FollowsBy o (mine i l.acknowledged) (place_at (mark (mark_of how) j l.receipts) i)) (sym is)
                  (subst (FollowsBy (if_any (reported_as how) w) (mine i l.acknowledged)) (sym there) x.1.0);
              fine = subst Fine (sym is) x.1.1;
            };
      })
      (λ e.
      let is : if_any (goes_on i k (reported_on j how) []) w ≡ w = reported-other i k j how w e in
      let there : place_at (mark (mark_of how) j l.receipts) i ≡ place =
      place-mark (mark_of how) l.receipts j i ∙ cond-false _ _ _ (turned j i false e) in
      record {
        good = good-other i k j how w e;
        at =
            record {
              clock = a.clock;
              started = a.started;
              follows =
                  subst (λ (o : Option Watch). FollowsBy o (mine i l.acknowledged) (place_at (mark (mark_of how) j l.receipts) i)) (sym is)
                  (subst (FollowsBy w (mine i l.acknowledged)) (sym there) a.follows);
              fine = subst Fine (sym is) a.fine;
            };
      })

  next-released : (j : ℕ) → held j l ≡ false → Next i k w other (frees j) [] (with_receipts l (set l.receipts j free))
  unfolding handed held
  next-released j unheld =
      by-test (eqb i j)
      (λ e.
      let is : watched_by i k other (frees j) [] w ≡ none = ap (if_any (goes_on i k other [])) (cond-true _ none w e) in
      let gone = (or_parts (any (λ (m : Message). eqb m.sent.receipt j) l.acknowledged) _ unheld).0 in
      record {
        good = good-plain i k other (frees j) w refl (λ u q r t. takes-nothing (frees j) refl r t);
        at =
            record {
              clock = a.clock;
              started = a.started;
              follows =
                  subst (λ (o : Option Watch). FollowsBy o (mine i l.acknowledged) (place_at (set l.receipts j free) i)) (sym is)
                  (ap (λ (n : ℕ). mine n l.acknowledged) (eqb-true i j e) ∙ none-mine j l.acknowledged gone);
              fine = subst Fine (sym is) tt;
            };
      })
      (λ e.
      unchanged other (frees j) (with_receipts l (set l.receipts j free)) refl (cond-false _ none w e) (λ u q r t. takes-nothing (frees j) refl r t)
      a.clock a.started refl (place_other l.receipts j i free e))

  -- A tick end -----------------------------------------------------------------------------------------------------------------

  module _ (some-slots : 1 ≤ l.t251) where
    abbrev TickNext : Option Watch → Type 0
    TickNext o =
        GoodBy i (clock_of l) o tick_ended stays (handed i (on_tick_end l).records)
        × (FollowsBy (if_any (goes_on i (clock_of l) tick_ended (handed i (on_tick_end l).records)) o) (mine i (on_tick_end l).state.acknowledged) (place_at (on_tick_end l).state.receipts i)
        × Fine (if_any (goes_on i (clock_of l) tick_ended (handed i (on_tick_end l).records)) o))

    -- By what stays of the message, what is handed down, and its place.
    tick-by :
        (o : Option Watch) (ns : List Message) (hs : List Sent) (q : Place)
        → SeenTick i l ns hs q
        → GoodBy i (clock_of l) o tick_ended stays hs
        → FollowsBy (if_any (goes_on i (clock_of l) tick_ended hs) o) ns q
        → Fine (if_any (goes_on i (clock_of l) tick_ended hs) o)
        → TickNext o
    tick-by o ns hs q s good follows fine =
        let f : List Sent → Option Watch = λ hs. if_any (goes_on i (clock_of l) tick_ended hs) o in (
          subst (GoodBy i (clock_of l) o tick_ended stays) (sym s.out) good,
          (
            subst (λ (gs : List Sent). FollowsBy (f gs) (mine i (on_tick_end l).state.acknowledged) (place_at (on_tick_end l).state.receipts i)) (sym s.out)
                (subst (λ (x : List Message). FollowsBy (f hs) x (place_at (on_tick_end l).state.receipts i)) (sym s.stays)
                (subst (FollowsBy (f hs) ns) (sym s.place) follows)),
            subst (λ (gs : List Sent). Fine (f gs)) (sym s.out) fine,
          ),
        )

    good-tick : (u : Watch) (hs : List Sent) → AllSentWell (clock_of l) u tick_ended hs → Good i (clock_of l) u tick_ended stays hs
    good-tick u hs s =
        record {
          untaken = λ r t. takes-nothing stays refl r t;
          sent = s;
          unreported = λ o how e. absurd (false≢true (sym (ap is_reported e)));
        }
      where
        is_reported : Event → Bool
        is_reported (started t251) = false
        is_reported (ticked time) = false
        is_reported tick_ended = true
        is_reported (ordered r) = false
        is_reported (reported_on j how) = false
        is_reported other = false

    -- What is read of an order is fine, held or gone.
    order-fine :
        (u : Watch) (hs : List Sent) (ns : List Message) (q : Place)
        → AtMostFour u.request u.sent
        → (ns ≡ [] → hs ≡ [])
        → OrderFollows (goes_on i (clock_of l) tick_ended hs u) ns q
        → AtMostFour (goes_on i (clock_of l) tick_ended hs u).request (goes_on i (clock_of l) tick_ended hs u).sent
    order-fine u hs (n ∷ ns) q fine silent g = held-fine _ n q g.0
    order-fine u hs [] q fine silent g =
        subst (λ (gs : List Sent). Fine (some (goes_on i (clock_of l) tick_ended gs u))) (sym (silent refl)) (aged-fine (clock_of l) u fine)

    tick-as :
        (b : Bool) (u : Watch)
        → u.order ≡ b
        → AtMostFour u.request u.sent
        → FollowsAs b u (mine i l.acknowledged) place
        → TickNext (some u)
    tick-as true u order fine g =
        let t = tick-order i l u (mine i l.acknowledged) refl g some-slots in
        let v = t.turned in
        tick-by (some u) t.ns t.hs t.q t.seen (good-tick u t.hs v.sent)
        (subst (λ (b : Bool). FollowsAs b (goes_on i (clock_of l) tick_ended t.hs u) t.ns t.q) (sym ((goes-ended i (clock_of l) u t.hs).order ∙ order)) v.follows)
        (order-fine u t.hs t.ns t.q fine v.silent v.follows)
    tick-as false u order fine g =
        tick-by (some u) [] [] place (tick-none i l g.0) (good-tick u [] tt)
        (subst (λ (b : Bool). FollowsAs b (aged (clock_of l) u u.noted) [] place) (sym ((goes-aged (clock_of l) u u.noted).order ∙ order))
        (refl, (goes-aged (clock_of l) u u.noted).sent ∙ append-nil u.sent ∙ g.1))
        (aged-fine (clock_of l) u fine)

    tick-next : (o : Option Watch) → Fine o → FollowsBy o (mine i l.acknowledged) place → TickNext o
    tick-next none fine g = tick-by none [] [] place (tick-none i l g) refl refl tt
    tick-next (some u) fine g = tick-as u.order u refl fine g

  next-tick-end : 1 ≤ l.t251 → Next i k w tick_ended stays (on_tick_end l).records (on_tick_end l).state
  unfolding on_tick_end
  next-tick-end some-slots =
      let x = tick-next some-slots w a.fine a.follows in
      subst (λ (c : Clock). Next i c w tick_ended stays (on_tick_end l).records (on_tick_end l).state) (sym a.clock)
      (record { good = x.0; at = record { clock = refl; started = a.started; follows = x.1.0; fine = x.1.1 } })

  -- Any call -----------------------------------------------------------------------------------------------------------------------

  next_start : (carrier t251 : ℕ) → in_range (start carrier t251) ≡ true → Next i k w (started t251) empties [] (started_with carrier t251)
  unfolding handed started_with in_range keep
  next_start carrier t251 range =
      record {
        good = good-plain i k (started t251) empties w refl (λ u e r t. takes-nothing empties refl r t);
        at =
            record {
              clock = refl;
              started = λ e. positive t251 (eqb-false t251 0 (not-true (eqb t251 0) range));
              follows = refl;
              fine = tt;
            };
      }

  next-paths :
      Paths l (λ c n rs. Passed c l → Next i k w (event (accepted c)) (about_call c).to_holding rs n)
  unfolding in_range
  next-paths =
      record {
        start = λ carrier t251 p. next_start carrier t251 p.range;
        tick_start =
            λ time p.
            unchanged (ticked time) stays _ refl refl (λ u e r t. takes-nothing stays refl r t)
            (ap (λ (c : Clock). record { time = time; t251 = c.t251 }) a.clock)
            a.started
            refl
            refl;
        tick_end = λ p. next-tick-end (a.started p.started);
        acknowledged =
            λ r q p.
            subst (λ (v : Event). Next i k w v (takes r) [] (with_acknowledged r l)) (sym (cond-true _ (ordered r) other q.path))
            (next-acknowledged r q);
        unacknowledged =
            λ s r link p used q z.
            subst (λ (v : Event). Next i k w v (takes r) [] (with_unacknowledged r link p (others used l.due) l)) (sym (off-event s r q.path))
            (next-unacknowledged r link p _ q.range q.free);
        heard = λ f r q p. next-heard f r q;
        reported = λ j how q p. next-reported j how (and_parts (is_receipt j) _ p.range).1 q.may;
        released =
            λ j q p. next-released j (not-true (held j l) (and_parts (taken? final (place_at l.receipts j)) _ q.may).1);
      }

  -- An exchange, and what the link has after it.
  record Stepped (e : Exchange) (n : Link) : Type 0 where
    good : GoodIn i k w e
    at : At i (clock_next k (event_in e)) (watched i k e w) n

  stepped_by : (v : Event) (x : Holding) (e : Exchange) (n : Link) → event_in e ≡ v → done_to e ≡ x → Next i k w v x e.records n → Stepped e n
  unfolding watched
  stepped_by v x e n ev done-is y =
      let z : Next i k w (event_in e) (done_to e) e.records n =
      subst (λ (u : Event). Next i k w u (done_to e) e.records n) (sym ev)
      (subst (λ (d : Holding). Next i k w v d e.records n) (sym done-is) y) in
      record { good = z.good; at = z.at }

  next-step : (c : List ℕ) → Stepped (exchange c (step l c)) (left l (step l c))
  unfolding event_in handed
  next-step c =
      step-law l _ next-paths c (λ o. o ≡ step l c → Stepped (exchange c o) (left l o))
      (λ n q is.
      stepped_by other stays (exchange {S = Link} c (refused n)) l (cond-false _ (event (parsed c)) other (not-accepted n q)) (done_refused c n [] q)
      (unchanged other stays l refl refl (λ u e r t. takes-nothing stays refl r t) a.clock a.started refl refl))
      (λ d o e p is.
      stepped_by (event (accepted d)) (about_call d).to_holding (exchange c (accepted o)) o.state (ap event e) (done-accepted c d o.records e)
      (p (passed l c d e (sym (ap number is)))))
      refl

-- Runs ---------------------------------------------------------------------------------------------------------------------------

-- Who holds the receipt, after one more exchange.
taken-holder :
    (i : ℕ) (h : Holders) (b : Bool) (w : Option Watch) (x : Holding)
    → h i ≡ holder_is w
    → taken_by (λ (r : Request). r.ssi) x h i ≡ holder_is (taken_by (λ (r : Request). asking r b) x (λ j. w) i)
taken-holder i h b w empties e = refl
taken-holder i h b w (takes r) e = by-test (eqb i r.receipt) (λ z. rw z) (λ z. rw z e)
taken-holder i h b w (frees j) e = by-test (eqb i j) (λ z. rw z) (λ z. rw z e)
taken-holder i h b w stays e = e

any-holder : (i : ℕ) (k : Clock) (v : Event) (ss : List Sent) (w : Option Watch) → holder_is (if_any (goes_on i k v ss) w) ≡ holder_is w
any-holder i k v ss none = refl
any-holder i k v ss (some u) = ap (λ (r : Request). some r.ssi) (goes-request i k v ss u)

pub holder-next : (i : ℕ) (k : Clock) (h : Holders) (w : Option Watch) (e : Exchange) → h i ≡ holder_is w → holders e h i ≡ holder_is (watched i k e w)
unfolding holders watched
holder-next i k h w e is =
    taken-holder i h (is_order (event_in e)) w (done_to e) is
    ∙ sym (any-holder i k (event_in e) (handed i e.records) (holding_now i (event_in e) (done_to e) w))

-- What is read of a run, and what the link has after it.
pub each-run : (i : ℕ) (h : Holders) (l : Link) (k : Clock) (w : Option Watch) (cs : List (List ℕ)) → Sound h l → h i ≡ holder_is w → At i k w l → Each i k w (run l cs)
unfolding run
each-run i h l k w [] sound holder a = a.fine
each-run i h l k w (c ∷ cs) sound holder a =
    let s = next-step h l sound i k w holder a c in
    (a.fine, (s.good, each-run i (holders (exchange c (step l c)) h) (left l (step l c)) _ _ cs (sound-step h l c sound) (holder-next i k h w (exchange c (step l c)) holder) s.at))

pub at-end :
    (i : ℕ) (h : Holders) (l : Link) (k : Clock) (w : Option Watch) (cs : List (List ℕ))
    → Sound h l
    → h i ≡ holder_is w
    → At i k w l
    → At i (clock_from k (run l cs)) (watch_from i k w (run l cs)) (after l cs)
unfolding run after clock_from watch_from
at-end i h l k w [] sound holder a = a
at-end i h l k w (c ∷ cs) sound holder a =
    let s = next-step h l sound i k w holder a c in
    at-end i (holders (exchange c (step l c)) h) (left l (step l c)) _ _ cs (sound-step h l c sound) (holder-next i k h w (exchange c (step l c)) holder) s.at

pub at_first : (i : ℕ) → At i at_outset none new
unfolding new keep
at_first i = record { clock = refl; started = λ e. absurd (false≢true e); follows = refl; fine = tt }
