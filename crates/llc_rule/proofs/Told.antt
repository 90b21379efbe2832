-- What is told of orders (specs/Lost.antt) follows from the reading of a run (proofs/Watches.antt), for any exchanges.
use Prim.Native.Nat.{ℕ}
use mathlib.Core.Path.{◌≡◌, ◌∙◌, refl, sym, ap, subst}
use mathlib.Core.Bool.{Bool, true, false, ◌||◌, true≢false, false≢true}
use mathlib.Core.List.{List, [], ◌∷◌, ◌++◌, append_assoc, append-nil}
use mathlib.Core.Option.{Option, none, some, some-injective, none-ne-some}
use borrow.Author.Clash.{clash}
use borrow.Author.Tests.{eqb-true, eqb-false, eq-eqb, ne_eqb, leb-true}
use lib.Dec.{eqb}
use lib.IntN.{ℤ, pos, negsuc}
use lib.ListN.{length}
use Rattle.std.proofs.lemmas.Bool.{cond_both, or_parts, cond-true, cond-false}
use Rattle.lists.specs.Lists.{any}
use Rattle.lists.proofs.Lists.{any_append}
use Rattle.lists.proofs.Choices.{by-test}
use Rattle.tdma_time.specs.Slots.{first, minus}
use Rattle.tdma_time.specs.declared.TdmaTime.{TdmaTime}
use Rattle.tx_receipt.specs.declared.TxReceipt.{TxReceipt}
use Rattle.tx_receipt.specs.declared.TxState.{TxState}
use Rattle.tx_receipt.specs.declared.TxState.TheVariants.{Pending, Discarded, Transmitted, Lost, Acknowledged}
use Rattle.llc_rule.specs.Calls.{Request}
use Rattle.llc_rule.specs.Records.{Sent}
use Rattle.llc_rule.specs.Messages.{Message, reaches, overdue, Place, taken, place_at}
use Rattle.llc_rule.specs.Runs.{Exchange}
use Rattle.llc_rule.specs.Past.{Holding, empties, takes, frees, stays, taken_by, done_to}
use Rattle.llc_rule.specs.Sendings.{ends, handed, sendings, AtMostFour, EachAtMostFour}
use Rattle.llc_rule.specs.Lost.{Event, started, ticked, tick_ended, ordered, reported_on, other, event_in, is_tick_ended, is_report, ends_tick, reports, is_any, sends, ends_holding, Clock, clock_next, clock_from, clock_after, OldEnoughBy, OldEnough, LastSending, OneReport, FirstTickEnd, Reason, SentAt, reads, reads_lost_or_discarded, LeftAfterFour, is_held, OrderTold, LostAfterFour}
use Rattle.llc_rule.proofs.Events.{ordered-takes, takes_only, taking-event, request-takes}
use Rattle.llc_rule.proofs.Watches.{Watch, asking, is_order, aged, goes_on, if_any, watched, watch_from, Why, AllSentWell, GoodIn, Each, none-handed, Goes, goes, LeftBy, GoneAs, Ended, End}

-- Lists -------------------------------------------------------------------------------------------------------------------

module _ {A : Type 0} where
  -- One more behind those of which none passes.
  any_last : (p : A → Bool) (l : List A) (x : A) → any p l ≡ false → p x ≡ false → any p (l ++ (x ∷ [])) ≡ false
  unfolding any
  any_last p l x e f = any_append p l (x ∷ []) ∙ rw (e, f)

  -- The same with one more behind it.
  split-last : (l f : List A) (y : A) (b : List A) (x : A) → l ≡ f ++ (y ∷ b) → l ++ (x ∷ []) ≡ f ++ (y ∷ (b ++ (x ∷ [])))
  split-last l f y b x e = ap (λ (z : List A). z ++ (x ∷ [])) e ∙ append_assoc f (y ∷ b) (x ∷ [])

clock-append : (k : Clock) (es ds : List Exchange) → clock_from k (es ++ ds) ≡ clock_from (clock_from k es) ds
unfolding clock_from
clock-append k [] ds = refl
clock-append k (e ∷ es) ds = clock-append (clock_next k (event_in e)) es ds

clock-last : (k : Clock) (es : List Exchange) (e : Exchange) → clock_from k (es ++ (e ∷ [])) ≡ clock_next (clock_from k es) (event_in e)
unfolding clock_from
clock-last k es e = clock-append k es (e ∷ [])

-- What was found, with one exchange more ------------------------------------------------------------------------------------

module _ (i : ℕ) (e : Exchange) where
  later-sending :
      {since behind : List Exchange} → LastSending i since behind → sends i e ≡ false → LastSending i (since ++ (e ∷ [])) (behind ++ (e ∷ []))
  later-sending {since} {behind} f quiet =
      record {
        before = f.before;
        sending = f.sending;
        there = split-last since f.before f.sending behind e f.there;
        hands_down = f.hands_down;
        not_again = any_last (sends i) behind e f.not_again quiet;
      }

  later-report :
      {how : ℕ} {since behind : List Exchange}
      → OneReport i how since behind
      → reports i e ≡ false
      → OneReport i how (since ++ (e ∷ [])) (behind ++ (e ∷ []))
  later-report {how} {since} {behind} f quiet =
      record {
        before = f.before;
        report = f.report;
        there = split-last since f.before f.report behind e f.there;
        says = f.says;
        not_before = f.not_before;
        not_again = any_last (reports i) behind e f.not_again quiet;
      }

  later-noting : {since behind : List Exchange} → FirstTickEnd since behind → FirstTickEnd (since ++ (e ∷ [])) (behind ++ (e ∷ []))
  later-noting {since} {behind} f =
      record {
        before = f.before;
        ending = f.ending;
        there = split-last since f.before f.ending behind e f.there;
        is_one = f.is_one;
        not_before = f.not_before;
      }

  -- This one is it.
  is-sending : (since : List Exchange) → sends i e ≡ true → LastSending i (since ++ (e ∷ [])) []
  unfolding any
  is-sending since h = record { before = since; sending = e; there = refl; hands_down = h; not_again = refl }

  is-report : (how : ℕ) (since : List Exchange) → any (reports i) since ≡ false → event_in e ≡ reported_on i how → OneReport i how (since ++ (e ∷ [])) []
  unfolding any
  is-report how since quiet h =
      record { before = since; report = e; there = refl; says = h; not_before = quiet; not_again = refl }

  is-noting : (since : List Exchange) → any ends_tick since ≡ false → event_in e ≡ tick_ended → FirstTickEnd (since ++ (e ∷ [])) []
  is-noting since quiet h = record { before = since; ending = e; there = refl; is_one = h; not_before = quiet }

-- The tale of an order ------------------------------------------------------------------------------------------------------

-- Where it stands: sent and not reported; reported and not noted; noted; or over.
record Unreported (i : ℕ) (since : List Exchange) : Type 0 where
  behind : List Exchange
  sending : LastSending i since behind
  none : any (reports i) behind ≡ false

record Reported (i how : ℕ) (since : List Exchange) : Type 0 where
  behind : List Exchange
  behind_report : List Exchange
  sending : LastSending i since behind
  report : OneReport i how behind behind_report
  none : any ends_tick behind_report ≡ false

record Noted (i how : ℕ) (done : TdmaTime) (asked since : List Exchange) : Type 0 where
  behind : List Exchange
  behind_report : List Exchange
  behind_noting : List Exchange
  sending : LastSending i since behind
  report : OneReport i how behind behind_report
  noting : FirstTickEnd behind_report behind_noting
  time :
      done
      ≡ (clock_after (asked ++ (sending.before ++ (sending.sending ∷ (report.before ++ (report.report ∷ noting.before)))))).time

record Over (i how : ℕ) (asked later : List Exchange) : Type 0 where
  since : List Exchange
  leaving : Exchange
  behind : List Exchange
  there : later ≡ since ++ (leaving ∷ behind)
  tick_end : event_in leaving ≡ tick_ended
  reason : Reason i asked since
  how-is : reason.how ≡ how
  sent_no_more : any (sends i) (leaving ∷ behind) ≡ false
  last_report : any (reports i) (leaving ∷ behind) ≡ false

module _ (i : ℕ) (asked since : List Exchange) where
  abbrev SentTale : Option ℕ → Option TdmaTime → Type 0
  SentTale none none = Unreported i since
  SentTale none (some done) = ⊥
  SentTale (some how) none = Reported i how since
  SentTale (some how) (some done) = Noted i how done asked since

  abbrev OverTale : Option ℕ → Type 0
  OverTale none = ⊥
  OverTale (some how) = Over i how asked since

  abbrev Tale : Bool → List Sent → Option ℕ → Option TdmaTime → Type 0
  Tale true ss report noted = OverTale report
  Tale false [] report noted = (any (sends i) since ≡ false) × ((report ≡ none) × (noted ≡ none))
  Tale false (s ∷ ss) report noted = SentTale report noted

  -- By what is read of it.
  abbrev TaleOf : Watch → Type 0
  TaleOf w = Tale w.over w.sent w.report w.noted

-- What tells of an exchange that it is none of these.
record Quiet (i : ℕ) (e : Exchange) : Type 0 where
  sends : sends i e ≡ false
  reports : reports i e ≡ false

module _ (i : ℕ) (asked since : List Exchange) (e : Exchange) where
  over-later : (how : ℕ) → Quiet i e → Over i how asked since → Over i how asked (since ++ (e ∷ []))
  over-later how q o =
      record {
        since = o.since;
        leaving = o.leaving;
        behind = o.behind ++ (e ∷ []);
        there = split-last since o.since o.leaving o.behind e o.there;
        tick_end = o.tick_end;
        reason = o.reason;
        how-is = o.how-is;
        sent_no_more = any_last (sends i) (o.leaving ∷ o.behind) e o.sent_no_more q.sends;
        last_report = any_last (reports i) (o.leaving ∷ o.behind) e o.last_report q.reports;
      }

  over-later? : (report : Option ℕ) → Quiet i e → OverTale i asked since report → OverTale i asked (since ++ (e ∷ [])) report
  over-later? none q o = o
  over-later? (some how) q o = over-later how q o

  unreported-later : Quiet i e → Unreported i since → Unreported i (since ++ (e ∷ []))
  unreported-later q u =
      record {
        behind = u.behind ++ (e ∷ []);
        sending = later-sending i e u.sending q.sends;
        none = any_last (reports i) u.behind e u.none q.reports;
      }

  noted-later : (how : ℕ) (done : TdmaTime) → Quiet i e → Noted i how done asked since → Noted i how done asked (since ++ (e ∷ []))
  unfolding later-sending later-report later-noting
  noted-later how done q n =
      record {
        behind = n.behind ++ (e ∷ []);
        behind_report = n.behind_report ++ (e ∷ []);
        behind_noting = n.behind_noting ++ (e ∷ []);
        sending = later-sending i e n.sending q.sends;
        report = later-report i e n.report q.reports;
        noting = later-noting i e n.noting;
        time = n.time;
      }

  -- Neither a sending, nor a report, nor a tick end: all stays.
  same-later :
      (over : Bool) (ss : List Sent) (report : Option ℕ) (noted : Option TdmaTime)
      → Quiet i e
      → ends_tick e ≡ false
      → Tale i asked since over ss report noted
      → Tale i asked (since ++ (e ∷ [])) over ss report noted
  same-later true ss report noted q t o = over-later? report q o
  same-later false [] report noted q t o = (any_last (sends i) since e o.0 q.sends, o.1)
  same-later false (s ∷ ss) none none q t u = unreported-later q u
  same-later false (s ∷ ss) none (some done) q t n = n
  same-later false (s ∷ ss) (some how) none q t r =
      record {
        behind = r.behind ++ (e ∷ []);
        behind_report = r.behind_report ++ (e ∷ []);
        sending = later-sending i e r.sending q.sends;
        report = later-report i e r.report q.reports;
        none = any_last ends_tick r.behind_report e r.none t;
      }
  same-later false (s ∷ ss) (some how) (some done) q t n = noted-later how done q n

-- A done time that is due is old.
old-by : (z : ℤ) (t251 : ℕ) → reaches z t251 ≡ true → OldEnoughBy z t251
old-by (pos n) t251 h = leb-true t251 n h
old-by (negsuc n) t251 h = tt

is-old : (k : Clock) (done : TdmaTime) → overdue k.time k.t251 done ≡ true → OldEnough k done
unfolding overdue
is-old k done h = old-by (minus k.time done) k.t251 h

module _ (i : ℕ) (asked since : List Exchange) (k : Clock) (now : k ≡ clock_after (asked ++ since)) where
  -- A noted report that is due is a reason.
  has-reason : (how : ℕ) (done : TdmaTime) → Noted i how done asked since → overdue k.time k.t251 done ≡ true → Reason i asked since
  has-reason how done n h =
      record {
        behind_sending = n.behind;
        behind_report = n.behind_report;
        behind_noting = n.behind_noting;
        how = how;
        sending = n.sending;
        report = n.report;
        noting = n.noting;
        old =
            subst
            (λ (t : TdmaTime). OldEnough (clock_after (asked ++ since)) t) n.time
            (subst (λ (c : Clock). OldEnough c done) now (is-old k done h));
      }

  module _ (e : Exchange) (ending : event_in e ≡ tick_ended) (quiet : Quiet i e) where
    -- A tick end at which nothing is handed down.
    noted-now : (how : ℕ) → Reported i how since → Noted i how k.time asked (since ++ (e ∷ []))
    unfolding later-sending later-report is-noting
    noted-now how r =
        record {
          behind = r.behind ++ (e ∷ []);
          behind_report = r.behind_report ++ (e ∷ []);
          behind_noting = [];
          sending = later-sending i e r.sending quiet.sends;
          report = later-report i e r.report quiet.reports;
          noting = is-noting i e r.behind_report r.none ending;
          time =
              ap (λ (c : Clock). c.time) now
              ∙ ap (λ (l : List Exchange). (clock_after (asked ++ l)).time)
              (r.sending.there
              ∙ ap (λ (l : List Exchange). r.sending.before ++ (r.sending.sending ∷ l)) r.report.there);
        }

    over-now : (how : ℕ) (done : TdmaTime) → Noted i how done asked since → overdue k.time k.t251 done ≡ true → Over i how asked (since ++ (e ∷ []))
    unfolding any has-reason
    over-now how done n h =
        record {
          since = since;
          leaving = e;
          behind = [];
          there = refl;
          tick_end = ending;
          reason = has-reason how done n h;
          how-is = refl;
          sent_no_more = rw quiet.sends;
          last_report = rw quiet.reports;
        }

    due-or-not :
        (s : Sent) (ss : List Sent) (how : ℕ) (done : TdmaTime) (b : Bool)
        → overdue k.time k.t251 done ≡ b
        → Noted i how done asked since
        → Tale i asked (since ++ (e ∷ [])) b (s ∷ ss) (some how) (some done)
    due-or-not s ss how done true h n = over-now how done n h
    due-or-not s ss how done false h n = noted-later i asked since e how done quiet n

    tick-later :
        (r : Request) (o over : Bool) (ss : List Sent) (report : Option ℕ) (noted : Option TdmaTime)
        → Tale i asked since over ss report noted
        → TaleOf i asked (since ++ (e ∷ []))
        (aged k (record { request = r; order = o; sent = ss; report = report; noted = noted; over = over }) noted)
    tick-later r o true ss none none t = t
    tick-later r o true ss (some how) none t = over-later i asked since e how quiet t
    tick-later r o true ss report (some done) t = over-later? i asked since e report quiet t
    tick-later r o false [] none none t = (any_last (sends i) since e t.0 quiet.sends, (refl, refl))
    tick-later r o false [] (some how) none t = absurd (none-ne-some how (sym t.1.0))
    tick-later r o false [] report (some done) t = absurd (none-ne-some done (sym t.1.1))
    tick-later r o false (s ∷ ss) none none t = unreported-later i asked since e quiet t
    tick-later r o false (s ∷ ss) (some how) none t = noted-now how t
    tick-later r o false (s ∷ ss) none (some done) t = absurd t
    tick-later r o false (s ∷ ss) (some how) (some done) t = due-or-not s ss how done (overdue k.time k.t251 done) refl t

-- One exchange --------------------------------------------------------------------------------------------------------------

-- The sending after which w is read.
begun-tale :
    (i : ℕ) (asked since : List Exchange) (e : Exchange) (ts : List Sent) (s : Sent) (ss : List Sent)
    → sends i e ≡ true
    → Tale i asked (since ++ (e ∷ [])) false (ts ++ (s ∷ ss)) none none
unfolding any
begun-tale i asked since e [] s ss h = record { behind = []; sending = is-sending i e since h; none = refl }
begun-tale i asked since e (t ∷ ts) s ss h = record { behind = []; sending = is-sending i e since h; none = refl }

-- The report since a sending.
report-tale :
    (i : ℕ) (asked since : List Exchange) (e : Exchange) (how : ℕ) (over : Bool) (ss : List Sent) (noted : Option TdmaTime)
    → is_any ss ≡ true
    → sends i e ≡ false
    → event_in e ≡ reported_on i how
    → Tale i asked since over ss none noted
    → Tale i asked (since ++ (e ∷ [])) over ss (some how) none
unfolding any
report-tale i asked since e how true ss noted some-sent quiet ev t = absurd t
report-tale i asked since e how false [] noted some-sent quiet ev t = absurd (false≢true some-sent)
report-tale i asked since e how false (s ∷ ss) (some done) some-sent quiet ev t = absurd t
report-tale i asked since e how false (s ∷ ss) none some-sent quiet ev u =
    record {
      behind = u.behind ++ (e ∷ []);
      behind_report = [];
      sending = later-sending i e u.sending quiet;
      report = is-report i e how u.behind u.none ev;
      none = refl;
    }

module _
    (i : ℕ) (asked since : List Exchange) (k : Clock) (now : k ≡ clock_after (asked ++ since))
    (w : Watch) (order : w.order ≡ true) (e : Exchange)
  where
    -- A call that is neither a tick end nor a report on it.
    plain-tale :
        (v : Event)
        → event_in e ≡ v
        → is_tick_ended v ≡ false
        → is_report i v ≡ false
        → AllSentWell k w v (handed i e.records)
        → TaleOf i asked since w
        → TaleOf i asked (since ++ (e ∷ [])) w
    plain-tale v ev t r a tale =
        same-later i asked since e w.over w.sent w.report w.noted
        (record { sends = ap is_any (none-handed k w v (handed i e.records) t a); reports = ap (is_report i) ev ∙ r })
        (ap is_tick_ended ev ∙ t)
        tale

    -- A tick end.
    ending-tale :
        (ss : List Sent)
        → event_in e ≡ tick_ended
        → handed i e.records ≡ ss
        → AllSentWell k w tick_ended ss
        → TaleOf i asked since w
        → TaleOf i asked (since ++ (e ∷ [])) (goes_on i k tick_ended ss w)
    ending-tale [] ev eh a tale =
        tick-later i asked since k now e ev (record { sends = ap is_any eh; reports = ap (is_report i) ev })
        w.request w.order w.over w.sent w.report w.noted
        tale
    ending-tale (s ∷ ss) ev eh a tale = rw a.still (begun-tale i asked since e w.sent s ss (ap is_any eh))

    reporting-tale :
        (j how : ℕ)
        → event_in e ≡ reported_on j how
        → GoodIn i k (some w) e
        → TaleOf i asked since w
        → TaleOf i asked (since ++ (e ∷ [])) (goes_on i k (reported_on j how) (handed i e.records) w)
    reporting-tale j how ev good tale =
        let a : AllSentWell k w (reported_on j how) (handed i e.records) =
        subst (λ (v : Event). AllSentWell k w v (handed i e.records)) ev good.sent in
        let silent = none-handed k w (reported_on j how) (handed i e.records) refl a in
        cond_both (eqb j i) _ _ (TaleOf i asked (since ++ (e ∷ [])))
        (λ h.
        let same : event_in e ≡ reported_on i how = ev ∙ ap (λ (n : ℕ). reported_on n how) (eqb-true j i h) in
        let u = good.unreported order how same in
        report-tale i asked since e how w.over w.sent w.noted u.1 (ap is_any silent) same
        (subst (λ (o : Option ℕ). Tale i asked since w.over w.sent o w.noted) u.0 tale))
        (λ h. plain-tale (reported_on j how) ev refl h a tale)

    next-tale :
        (v : Event)
        → event_in e ≡ v
        → GoodIn i k (some w) e
        → TaleOf i asked since w
        → TaleOf i asked (since ++ (e ∷ [])) (goes_on i k v (handed i e.records) w)
    next-tale v ev good tale = by v ev (subst (λ (v : Event). AllSentWell k w v (handed i e.records)) ev good.sent)
      where
        by :
            (v : Event)
            → event_in e ≡ v
            → AllSentWell k w v (handed i e.records)
            → TaleOf i asked (since ++ (e ∷ [])) (goes_on i k v (handed i e.records) w)
        by (started t251) ev a = plain-tale (started t251) ev refl refl a tale
        by (ticked time) ev a = plain-tale (ticked time) ev refl refl a tale
        by tick_ended ev a = ending-tale (handed i e.records) ev refl a tale
        by (ordered r) ev a = plain-tale (ordered r) ev refl refl a tale
        by (reported_on j how) ev a = reporting-tale j how ev good tale
        by other ev a = plain-tale other ev refl refl a tale

-- While its request holds the receipt, it is watched --------------------------------------------------------------------------

holds_on :
    (i : ℕ) (f : Request → Watch) (w : Watch) (x : Holding)
    → ends i x ≡ false
    → ((r : Request) → x ≡ takes r → eqb i r.receipt ≡ false)
    → taken_by f x (λ j. some w) i ≡ some w
holds_on i f w empties h untaken = absurd (true≢false h)
holds_on i f w (takes r) h untaken = cond-false _ (some (f r)) (some w) (untaken r refl)
holds_on i f w (frees j) h untaken = cond-false _ none (some w) (ne_eqb i j (λ e. eqb-false j i h (sym e)))
holds_on i f w stays h untaken = refl

module _ (i : ℕ) (k : Clock) (w : Watch) (e : Exchange) (good : GoodIn i k (some w) e) (still : ends_holding i e ≡ false) where
  abbrev after : Watch
  after = goes_on i k (event_in e) (handed i e.records) w

  next-watch : watched i k e (some w) ≡ some after
  unfolding watched
  next-watch =
      ap (if_any (goes_on i k (event_in e) (handed i e.records)))
      (holds_on i (λ (r : Request). asking r (is_order (event_in e))) w (done_to e) still good.untaken)

  next-goes : Goes w after (handed i e.records)
  next-goes = goes i k w (event_in e) (handed i e.records) good.sent

-- At most four, all the same.
few-from : (i : ℕ) (k : Clock) (w : Watch) (es : List Exchange) → Each i k (some w) es → AtMostFour w.request (w.sent ++ sendings i es)
unfolding sendings
few-from i k w [] each = rw (append-nil w.sent) each
few-from i k w (e ∷ es) each =
    cond_both (ends i (done_to e)) _ _ (λ (ss : List Sent). AtMostFour w.request (w.sent ++ ss))
    (λ h. rw (append-nil w.sent) each.0)
    (λ h.
    let good = each.1.0 in
    let g = next-goes i k w e good h in
    let k' = clock_next k (event_in e) in
    let rest = subst (λ (o : Option Watch). Each i k' o es) (next-watch i k w e good h) each.1.1 in
    let few = few-from i k' (after i k w e good h) es rest in
    subst (λ (ss : List Sent). AtMostFour w.request ss)
    (ap (λ (ss : List Sent). ss ++ sendings i es) g.sent ∙ append_assoc w.sent (handed i e.records) (sendings i es))
    (subst (λ (r : Request). AtMostFour r ((after i k w e good h).sent ++ sendings i es)) g.request few))

-- From one moment on to another.
record Reached (i : ℕ) (asked since : List Exchange) (k : Clock) (w : Watch) (xs rest : List Exchange) : Type 0 where
  clock : Clock
  watch : Watch
  now : clock ≡ clock_after (asked ++ (since ++ xs))
  tale : TaleOf i asked (since ++ xs) watch
  order : watch.order ≡ true
  sent : watch.sent ≡ w.sent ++ sendings i xs
  each : Each i clock (some watch) rest
  final : watch_from i k (some w) xs ≡ some watch

reach :
    (i : ℕ) (asked since : List Exchange) (k : Clock) (w : Watch) (xs rest : List Exchange)
    → k ≡ clock_after (asked ++ since)
    → w.order ≡ true
    → TaleOf i asked since w
    → Each i k (some w) (xs ++ rest)
    → any (ends_holding i) xs ≡ false
    → Reached i asked since k w xs rest
unfolding sendings watch_from any
reach i asked since k w [] rest now order tale each h =
    record {
      clock = k;
      watch = w;
      now = rw (append-nil since) now;
      tale = rw (append-nil since) tale;
      order = order;
      sent = sym (append-nil w.sent);
      each = each;
      final = refl;
    }
reach i asked since k w (e ∷ xs) rest now order tale each h =
    let n = or_parts (ends_holding i e) _ h in
    let good = each.1.0 in
    let w' : Watch = after i k w e good n.0 in
    let k' : Clock = clock_next k (event_in e) in
    let g = next-goes i k w e good n.0 in
    let is = next-watch i k w e good n.0 in
    let then : k' ≡ clock_after (asked ++ (since ++ (e ∷ []))) =
    ap (λ (c : Clock). clock_next c (event_in e)) now
    ∙ sym (clock-last _ (asked ++ since) e)
    ∙ ap clock_after (append_assoc asked since (e ∷ [])) in
    let r =
    reach i asked (since ++ (e ∷ [])) k' w' xs rest then (g.order ∙ order)
    (next-tale i asked since k now w order e (event_in e) refl good tale)
    (subst (λ (o : Option Watch). Each i k' o (xs ++ rest)) is each.1.1)
    n.1 in
    let whole = append_assoc since (e ∷ []) xs in
    record {
      clock = r.clock;
      watch = r.watch;
      now = r.now ∙ ap (λ (l : List Exchange). clock_after (asked ++ l)) whole;
      tale = subst (λ (l : List Exchange). TaleOf i asked l r.watch) whole r.tale;
      order = r.order;
      sent =
          r.sent
          ∙ ap (λ (ss : List Sent). ss ++ sendings i xs) g.sent
          ∙ append_assoc w.sent (handed i e.records) (sendings i xs)
          ∙ ap (λ (ss : List Sent). w.sent ++ ss) (sym (cond-false _ [] (handed i e.records ++ sendings i xs) n.0));
      each = r.each;
      final = ap (λ (o : Option Watch). watch_from i k' o xs) is ∙ r.final;
    }

-- An order ------------------------------------------------------------------------------------------------------------------

-- It is handed down at a tick end, once, and again for its reason.
module _ (i : ℕ) (asked since : List Exchange) (k : Clock) (now : k ≡ clock_after (asked ++ since)) (w : Watch) where
  again-why :
      (over : Bool) (ts : List Sent) (report : Option ℕ) (noted : Option TdmaTime)
      → over ≡ false
      → Tale i asked since over ts report noted
      → any (sends i) since ≡ true
      → ((t : Sent) (rest : List Sent) → ts ≡ t ∷ rest → (done : TdmaTime) × ((noted ≡ some done) × (overdue k.time k.t251 done ≡ true)))
      → Reason i asked since
  again-why true ts report noted o t h why = absurd (true≢false o)
  again-why false [] report noted o t h why = clash _ h t.0
  again-why false (s ∷ ss) none none o t h why = let y = why s ss refl in absurd (none-ne-some y.0 y.1.0)
  again-why false (s ∷ ss) none (some done) o t h why = absurd t
  again-why false (s ∷ ss) (some how) none o t h why = let y = why s ss refl in absurd (none-ne-some y.0 y.1.0)
  again-why false (s ∷ ss) (some how) (some done) o t h why =
      let y = why s ss refl in
      has-reason i asked since k now how done t
      (ap (overdue k.time k.t251) (some-injective done y.0 y.1.0) ∙ y.1.1)

  why-of :
      (ts : List Sent)
      → Why k w ts
      → (t : Sent) (rest : List Sent)
      → ts ≡ t ∷ rest
      → (done : TdmaTime) × ((w.noted ≡ some done) × (overdue k.time k.t251 done ≡ true))
  why-of [] y t rest e = let z : false ≡ true = cc in absurd (false≢true z)
  why-of (s ∷ ss) y t rest e = (y.done, (y.noted, y.old))

  sent-at :
      (e : Exchange) (ss : List Sent)
      → handed i e.records ≡ ss
      → AllSentWell k w (event_in e) ss
      → is_any ss ≡ true
      → TaleOf i asked since w
      → SentAt i asked since e
  sent-at e [] eh a h tale = absurd (false≢true h)
  sent-at e (s ∷ ss) eh a h tale =
      record {
        tick_end = a.tick_end;
        once = ap length eh ∙ ap (λ (l : List Sent). length (s ∷ l)) a.once;
        again =
            λ before.
            again-why w.over w.sent w.report w.noted a.still tale before (why-of w.sent a.why);
      }

-- It left for its reason, as its last report says.
left_over :
    (i how : ℕ) (asked later : List Exchange) (w : Watch) (p : Place)
    → TaleOf i asked later w
    → LeftBy w how
    → w.sent ≡ sendings i later
    → reads Lost p ≡ eqb how 1
    → reads Discarded p ≡ eqb how 2
    → LeftAfterFour i asked later p
left_over i how asked later w p tale left sent lost discarded =
    let o : Over i how asked later = rw (left.over, left.report) at tale in
    record {
      four = ap length (sym sent) ∙ left.four;
      since = o.since;
      leaving = o.leaving;
      behind = o.behind;
      there = o.there;
      tick_end = o.tick_end;
      reason = o.reason;
      sent_no_more = o.sent_no_more;
      last_report = o.last_report;
      lost = lost ∙ ap (λ (n : ℕ). eqb n 1) (sym o.how-is);
      discarded = discarded ∙ ap (λ (n : ℕ). eqb n 2) (sym o.how-is);
    }

module _ (w : Watch) (p : Place) (r : TxReceipt) (is : p ≡ taken r) where
  gone-reads : (s : TxState) → r.state ≡ s → GoneAs w s → reads Acknowledged p || reads_lost_or_discarded p ≡ true
  gone-reads Pending e g = absurd g
  gone-reads Discarded e g = rw (is, e)
  gone-reads Transmitted e g = absurd g
  gone-reads Lost e g = rw (is, e)
  gone-reads Acknowledged e g = rw (is, e)

  gone-left :
      (i : ℕ) (asked later : List Exchange) (s : TxState)
      → r.state ≡ s
      → GoneAs w s
      → TaleOf i asked later w
      → w.sent ≡ sendings i later
      → reads_lost_or_discarded p ≡ true
      → LeftAfterFour i asked later p
  gone-left i asked later Pending e g tale sent u = absurd g
  gone-left i asked later Discarded e g tale sent u = left_over i 2 asked later w p tale g sent (rw (is, e)) (rw (is, e))
  gone-left i asked later Transmitted e g tale sent u = absurd g
  gone-left i asked later Lost e g tale sent u = left_over i 1 asked later w p tale g sent (rw (is, e)) (rw (is, e))
  gone-left i asked later Acknowledged e g tale sent u = clash _ u (rw (is, e))

-- The run --------------------------------------------------------------------------------------------------------------------

each-behind :
    (i : ℕ) (k : Clock) (w : Option Watch) (before es : List Exchange)
    → Each i k w (before ++ es)
    → Each i (clock_from k before) (watch_from i k w before) es
unfolding clock_from watch_from
each-behind i k w [] es each = each
each-behind i k w (b ∷ before) es each = each-behind i (clock_next k (event_in b)) (watched i k b w) before es each.1.1

watch-append :
    (i : ℕ) (k : Clock) (w : Option Watch) (es ds : List Exchange)
    → watch_from i k w (es ++ ds) ≡ watch_from i (clock_from k es) (watch_from i k w es) ds
unfolding clock_from watch_from
watch-append i k w [] ds = refl
watch-append i k w (e ∷ es) ds = watch-append i (clock_next k (event_in e)) (watched i k e w) es ds

abbrev pub at_outset : Clock
at_outset = record { time = first; t251 = 0 }

module _
    (es : List Exchange) (ps : List Place) (ms : List Message)
    (each : (i : ℕ) → Each i at_outset none es)
    (end : (i : ℕ) → End (watch_from i at_outset none es) (place_at ps i) (is_held i ms))
  where
    module _
        (before : List Exchange) (e : Exchange) (later : List Exchange) (r : Request)
        (split : es ≡ before ++ (e ∷ later)) (ev : event_in e ≡ ordered r)
      where
        abbrev at : ℕ
        at = r.receipt

        abbrev asked : List Exchange
        asked = before ++ (e ∷ [])

        abbrev then : Clock
        then = clock_next (clock_from at_outset before) (event_in e)

        -- It is watched from its request on.
        begins : watched at (clock_from at_outset before) e (watch_from at at_outset none before) ≡ some (asking r true)
        unfolding watched
        begins = rw (ordered-takes e r ev, ev, eq-eqb r.receipt r.receipt refl)

        from-there : Each at then (some (asking r true)) later
        from-there =
            subst (λ (o : Option Watch). Each at then o later) begins
            (each-behind at at_outset none before (e ∷ later) (subst (Each at at_outset none) split (each at))).1.1

        -- And reached after some exchanges.
        there : (xs rest : List Exchange) → later ≡ xs ++ rest → any (ends_holding at) xs ≡ false → Reached at asked [] then (asking r true) xs rest
        unfolding any
        there xs rest is h =
            reach at asked [] then (asking r true) xs rest
            (sym (clock-last at_outset before e) ∙ ap clock_after (sym (append-nil asked)))
            refl
            (refl, (refl, refl))
            (subst (Each at then (some (asking r true))) is from-there)
            h

        -- To the end.
        reached-end : any (ends_holding at) later ≡ false → Reached at asked [] then (asking r true) later []
        reached-end = there later [] (sym (append-nil later))

        ended : (h : any (ends_holding at) later ≡ false) → Ended (reached-end h).watch (place_at ps at) (is_held at ms)
        unfolding watch_from
        ended h =
            let x = reached-end h in
            let final : watch_from at at_outset none es ≡ some x.watch =
            ap (watch_from at at_outset none) split
            ∙ watch-append at at_outset none before (e ∷ later)
            ∙ ap (λ (o : Option Watch). watch_from at then o later) begins
            ∙ x.final in
            subst (λ (o : Option Watch). End o (place_at ps at) (is_held at ms)) final (end at) x.order

        -- The request is no tick end, and hands nothing down.
        asks-silently : (w : Option Watch) → GoodIn at (clock_from at_outset before) w e → sends at e ≡ false
        asks-silently none good = ap is_any good
        asks-silently (some w) good = ap is_any (none-handed (clock_from at_outset before) w (event_in e) (handed at e.records) (ap is_tick_ended ev) good.sent)

        order-told : OrderTold r before e later (place_at ps at) (is_held at ms)
        order-told =
            record {
              silent =
                  asks-silently (watch_from at at_outset none before)
                  (each-behind at at_outset none before (e ∷ later) (subst (Each at at_outset none) split (each at))).1.0;
              few = few-from at then (asking r true) later from-there;
              sent =
                  λ since d behind is h s.
                  let x = there since (d ∷ behind) is h in
                  sent-at at asked since x.clock x.now x.watch d (handed at d.records) refl x.each.1.0.sent s x.tale;
              ended =
                  λ h left.
                  let g = (ended h).gone left in
                  gone-reads (reached-end h).watch (place_at ps at) g.receipt g.taken g.receipt.state refl g.how;
              over =
                  λ h u.
                  by-test (is_held at ms) (λ t. clash _ u ((ended h).still t)) (λ t. t);
              left =
                  λ h left u.
                  let x = reached-end h in
                  let g = (ended h).gone left in
                  gone-left x.watch (place_at ps at) g.receipt g.taken at asked later g.receipt.state refl g.how
                  x.tale x.sent u;
            }

    pub lost-after-four : LostAfterFour es ps ms
    lost-after-four = record { each = order-told }

-- A call that takes a receipt tells nothing else.
pub goes-taken : (i : ℕ) (k : Clock) (w : Watch) (v : Event) (ss : List Sent) → takes_only v ≡ true → goes_on i k v ss w ≡ w
goes-taken i k w (started t251) ss t = absurd (false≢true t)
goes-taken i k w (ticked time) ss t = absurd (false≢true t)
goes-taken i k w tick_ended ss t = absurd (false≢true t)
goes-taken i k w (ordered r) ss t = refl
goes-taken i k w (reported_on j how) ss t = absurd (false≢true t)
goes-taken i k w other ss t = refl

-- At most four of every accepted request, an order or not.
pub four-of-each : (es : List Exchange) → ((i : ℕ) → Each i at_outset none es) → EachAtMostFour es
unfolding watched
four-of-each es each =
    record {
      each =
          λ before e later r split n t.
          let i = r.receipt in
          let k = clock_from at_outset before in
          let w = asking r (is_order (event_in e)) in
          let takes-it = request-takes e r n t in
          let begun : watched i k e (watch_from i at_outset none before) ≡ some w =
          ap (λ (x : Holding). if_any (goes_on i k (event_in e) (handed i e.records)) (taken_by (λ (q : Request). asking q (is_order (event_in e))) x (λ j. watch_from i at_outset none before) i)) takes-it
          ∙ ap (if_any (goes_on i k (event_in e) (handed i e.records))) (cond-true _ (some w) (watch_from i at_outset none before) (eq-eqb i i refl))
          ∙ ap some (goes-taken i k w (event_in e) (handed i e.records) (taking-event e r takes-it)) in
          few-from i (clock_next k (event_in e)) w later
          (subst (λ (o : Option Watch). Each i (clock_next k (event_in e)) o later) begun
          (each-behind i at_outset none before (e ∷ later) (subst (Each i at_outset none) split (each i))).1.1);
    }
