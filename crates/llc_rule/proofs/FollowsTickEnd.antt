-- A tick end, as the message of one receipt has it: it notes a report, sends again, lets go or leaves as it was.
use Prim.Native.Nat.{ℕ, suc, ◌≤◌, ◌<◌}
use native.Mathlib.Omega.{arith}
use mathlib.Core.Path.{◌≡◌, ◌∙◌, refl, sym, ap, ap₂, subst}
use mathlib.Core.Bool.{Bool, true, false, cond, not, ◌&&◌, ◌||◌, true≢false}
use mathlib.Core.List.{List, [], ◌∷◌, ◌++◌, append-nil}
use mathlib.Core.Option.{Option, none, some, none-ne-some}
use borrow.Author.Clash.{clash}
use borrow.Author.Tests.{eqb-true, ltb-true, ltb-false, lt-leb}
use lib.Dec.{eqb, ltb}
use lib.IntN.{ℤ}
use lib.ListN.{length, length-append}
use Rattle.std.proofs.lemmas.Bool.{cond_both, cond-true, cond-false, and_from, and_right}
use Rattle.lists.specs.Lists.{keep, among, Visit, walk, All}
use Rattle.lists.proofs.Lists.{keep-yes, keep-no, keep_append, all_append}
use Rattle.lists.proofs.Choices.{by-test, either}
use Rattle.tdma_time.specs.declared.TdmaTime.{TdmaTime}
use Rattle.tdma_time.proofs.Laws.{minus-self}
use Rattle.tx_receipt.specs.Marks as Marks
use Rattle.tx_receipt.specs.Marks.{Mark}
use Rattle.tx_receipt.specs.declared.TxState.{TxState}
use Rattle.tx_receipt.specs.declared.TxState.TheVariants.{Pending, Discarded, Transmitted, Lost, Acknowledged}
use Rattle.llc_rule.specs.Records.{Record, acknowledged, Sent}
use Rattle.llc_rule.specs.Messages.{Message, submitted_after, done_at, has_time, reaches, overdue, Place, taken, place_at, taken?, marked, mark, reported}
use Rattle.llc_rule.specs.Link.{Link}
use Rattle.llc_rule.specs.Step.{stay, resend, leave, aged_by, retransmission, Sending, first_sending, retransmissions, first_sendings, on_tick_end}
use Rattle.llc_rule.specs.Sendings.{handed}
use Rattle.llc_rule.specs.Lost.{tick_ended, Clock}
use Rattle.llc_rule.proofs.Places.{turned, place-mark}
use Rattle.llc_rule.proofs.Handed.{handed-append, handed-rest}
use Rattle.llc_rule.proofs.Watches.{Watch, sent_again, noted_at, over_by, unnoted, aged, goes_on, WhyAgain, Why, AllSentWell, LeftBy, GoneAs, Gone}
use Rattle.llc_rule.proofs.Follows.{is_of, mine, report_state, Held, OrderFollows, clock_of}

-- A list is not both.
no-list : {G : Type 0} {x : Message} {xs : List Message} → x ∷ xs ≡ [] → G
no-list q = let z : true ≡ false = cc in absurd (true≢false z)

-- All that are kept pass.
keep_all : (p : Message → Bool) (ms : List Message) → All (λ (m : Message). p m ≡ true) (keep p ms)
unfolding keep
keep_all p [] = tt
keep_all p (m ∷ ms) = by-test (p m) (λ e. rw e (e, keep_all p ms)) (λ e. rw e (keep_all p ms))

-- A walk, as one receipt has it -----------------------------------------------------------------------------------------------

-- What a visit or a walk is to receipt i: what stays of its message, what is handed down, and its place.
pub record Seen (i : ℕ) (ms : List Message) (rs : List Record) (p : Place) (ns : List Message) (hs : List Sent) (q : Place) : Type 0 where
  pub stays : mine i ms ≡ ns
  pub out : handed i rs ≡ hs
  pub place : p ≡ q

module _
    {S : Type 0} (i : ℕ) (places : S → List Place) (f : S → Message → Visit S Message Record)
    (others :
    (s : S) (m : Message)
    → is_of i m ≡ false
    → Seen i (f s m).stays (f s m).out (place_at (places (f s m).state) i) [] [] (place_at (places s) i))
  where
    abbrev SeenWalk : S → List Message → List Message → List Sent → Place → Type 0
    SeenWalk s ms ns hs q = Seen i (walk f s ms).stays (walk f s ms).out (place_at (places (walk f s ms).state) i) ns hs q

    -- A visit to another message in front of a walk.
    past-other :
        (s : S) (m : Message) (ms ns : List Message) (hs : List Sent) (q : Place)
        → is_of i m ≡ false
        → SeenWalk (f s m).state ms ns hs q
        → SeenWalk s (m ∷ ms) ns hs q
    unfolding walk
    past-other s m ms ns hs q e w =
        let o = others s m e in
        record {
          stays =
              keep_append (is_of i) (f s m).stays (walk f (f s m).state ms).stays
              ∙ ap (λ (l : List Message). l ++ mine i (walk f (f s m).state ms).stays) o.stays
              ∙ w.stays;
          out =
              handed-append i (f s m).out (walk f (f s m).state ms).out
              ∙ ap (λ (l : List Sent). l ++ handed i (walk f (f s m).state ms).out) o.out
              ∙ w.out;
          place = w.place;
        }

    -- None of its own.
    not_own : (m : Message) (ms : List Message) → mine i (m ∷ ms) ≡ [] → (is_of i m ≡ false) × (mine i ms ≡ [])
    unfolding keep
    not_own m ms e =
        by-test (is_of i m)
        (λ h. let none_is : m ∷ mine i ms ≡ [] = rw h at e in no-list none_is)
        (λ h. (h, rw h at e))

    walk_none : (s : S) (ms : List Message) → mine i ms ≡ [] → SeenWalk s ms [] [] (place_at (places s) i)
    unfolding walk keep handed
    walk_none s [] e = record { stays = refl; out = refl; place = refl }
    walk_none s (m ∷ ms) e =
        let n = not_own m ms e in
        let o = others s m n.0 in
        let w = walk_none (f s m).state ms n.1 in
        past-other s m ms [] [] (place_at (places s) i) n.0 (record { stays = w.stays; out = w.out; place = w.place ∙ o.place })

    -- One of its own: it is visited from a state in which its place is as it was.
    record Visits (s : S) (m : Message) (ms : List Message) : Type 0 where
      from : S
      there : place_at (places from) i ≡ place_at (places s) i
      seen : SeenWalk s ms (mine i (f from m).stays) (handed i (f from m).out) (place_at (places (f from m).state) i)

    walk-one : (s : S) (m : Message) (ms : List Message) → mine i ms ≡ m ∷ [] → Visits s m ms
    unfolding walk keep
    walk-one s m [] e = no-list (sym e)
    walk-one s m (n ∷ ms) e =
        by-test (is_of i n)
        (λ h.
        let both : n ∷ mine i ms ≡ m ∷ [] = rw h at e in
        let n-is : n ≡ m = cc in
        let rest : mine i ms ≡ [] = cc in
        let w = walk_none (f s n).state ms rest in
        subst (λ (x : Message). Visits s x (n ∷ ms)) n-is
        (record {
          from = s;
          there = refl;
          seen =
              record {
                stays =
                    keep_append (is_of i) (f s n).stays (walk f (f s n).state ms).stays
                    ∙ ap (λ (l : List Message). mine i (f s n).stays ++ l) w.stays
                    ∙ append-nil (mine i (f s n).stays);
                out =
                    handed-append i (f s n).out (walk f (f s n).state ms).out
                    ∙ ap (λ (l : List Sent). handed i (f s n).out ++ l) w.out
                    ∙ append-nil (handed i (f s n).out);
                place = w.place;
              };
        }))
        (λ h.
        let rest : mine i ms ≡ m ∷ [] = rw h at e in
        let v = walk-one (f s n).state m ms rest in
        record {
          from = v.from;
          there = v.there ∙ (others s n h).place;
          seen = past-other s n ms _ _ _ h v.seen;
        })

-- What a visit does to its own place -------------------------------------------------------------------------------------------

module _ (i : ℕ) (ps : List Place) (m : Message) where
  own-marked : (t : Mark) → is_of i m ≡ true → place_at (mark t m.sent.receipt ps) i ≡ marked t (place_at ps i)
  own-marked t e = place-mark t ps m.sent.receipt i ∙ cond-true _ (marked t (place_at ps i)) (place_at ps i) (turned m.sent.receipt i true e)

  other-marked : (t : Mark) → is_of i m ≡ false → place_at (mark t m.sent.receipt ps) i ≡ place_at ps i
  other-marked t e = place-mark t ps m.sent.receipt i ∙ cond-false _ (marked t (place_at ps i)) (place_at ps i) (turned m.sent.receipt i false e)

  -- It stays as n, is handed down and stays as n, or leaves.
  own-stays : (n : Message) → is_of i n ≡ true → Seen i (n ∷ []) [] (place_at ps i) (n ∷ []) [] (place_at ps i)
  unfolding keep handed
  own-stays n e = record { stays = keep-yes (is_of i) n [] e; out = refl; place = refl }

  own-sent :
      (n : ℕ)
      → is_of i m ≡ true
      → Seen i (submitted_after n m ∷ []) (acknowledged m.sent ∷ []) (place_at (mark Marks.reset m.sent.receipt ps) i)
      (submitted_after n m ∷ []) (m.sent ∷ []) (marked Marks.reset (place_at ps i))
  unfolding keep handed
  own-sent n e =
      record {
        stays = keep-yes (is_of i) (submitted_after n m) [] e;
        out = cond-true _ (m.sent ∷ []) [] e;
        place = own-marked Marks.reset e;
      }

  own-leaves :
      is_of i m ≡ true
      → Seen i [] [] (place_at (mark Marks.lost m.sent.receipt ps) i) [] [] (marked Marks.lost (place_at ps i))
  unfolding keep handed
  own-leaves e = record { stays = refl; out = refl; place = own-marked Marks.lost e }

  -- And one of another receipt.
  other-stays : (n : Message) → is_of i n ≡ false → Seen i (n ∷ []) [] (place_at ps i) [] [] (place_at ps i)
  unfolding keep handed
  other-stays n e = record { stays = keep-no (is_of i) n [] e; out = refl; place = refl }

  other-sent :
      (n : ℕ)
      → is_of i m ≡ false
      → Seen i (submitted_after n m ∷ []) (acknowledged m.sent ∷ []) (place_at (mark Marks.reset m.sent.receipt ps) i) [] [] (place_at ps i)
  unfolding keep handed
  other-sent n e =
      record {
        stays = keep-no (is_of i) (submitted_after n m) [] e;
        out = cond-false _ (m.sent ∷ []) [] e;
        place = other-marked Marks.reset e;
      }

  other-leaves : is_of i m ≡ false → Seen i [] [] (place_at (mark Marks.lost m.sent.receipt ps) i) [] [] (place_at ps i)
  unfolding keep handed
  other-leaves e = record { stays = refl; out = refl; place = other-marked Marks.lost e }

-- The first pass, by the done time and the receipt of a message.
module _ (time : TdmaTime) (t251 : ℕ) (ps : List Place) (m : Message) where
  visit-unreported : m.done ≡ none → taken? reported (place_at ps m.sent.receipt) ≡ false → retransmission time t251 ps m ≡ stay ps m
  unfolding retransmission
  visit-unreported d r =
      ap (λ (n : Message). aged_by time t251 ps n n.done) (cond-false _ (done_at time m) m (and_right (not (has_time m.done)) _ r))
      ∙ ap (aged_by time t251 ps m) d

  visit-reported :
      m.done ≡ none
      → taken? reported (place_at ps m.sent.receipt) ≡ true
      → retransmission time t251 ps m ≡ aged_by time t251 ps (done_at time m) (some time)
  unfolding retransmission
  visit-reported d r =
      ap (λ (n : Message). aged_by time t251 ps n n.done)
      (cond-true _ (done_at time m) m (and_from _ _ (ap (λ (o : Option TdmaTime). not (has_time o)) d) r))

  visit-noted : (t : TdmaTime) → m.done ≡ some t → retransmission time t251 ps m ≡ aged_by time t251 ps m (some t)
  unfolding retransmission
  visit-noted t d =
      ap (λ (n : Message). aged_by time t251 ps n n.done)
      (cond-false _ (done_at time m) m
      (ap (λ (o : Option TdmaTime). not (has_time o) && taken? reported (place_at ps m.sent.receipt)) d))
      ∙ ap (aged_by time t251 ps m) d

-- A message of another receipt.
abbrev OtherVisit : ℕ → List Place → Visit (List Place) Message Record → Type 0
OtherVisit i ps v = Seen i v.stays v.out (place_at v.state i) [] [] (place_at ps i)

other-aged :
    (i : ℕ) (time : TdmaTime) (t251 : ℕ) (ps : List Place) (m : Message) (o : Option TdmaTime)
    → is_of i m ≡ false
    → OtherVisit i ps (aged_by time t251 ps m o)
other-aged i time t251 ps m none e = other-stays i ps m m e
other-aged i time t251 ps m (some t) e =
    either (OtherVisit i ps) (overdue time t251 t)
    (either (OtherVisit i ps) (ltb m.resends 3) (other-sent i ps m (suc m.resends) e) (other-leaves i ps m e))
    (other-stays i ps m m e)

other-visit :
    (i : ℕ) (time : TdmaTime) (t251 : ℕ) (ps : List Place) (m : Message)
    → is_of i m ≡ false
    → OtherVisit i ps (retransmission time t251 ps m)
unfolding retransmission
other-visit i time t251 ps m e =
    either (λ (n : Message). OtherVisit i ps (aged_by time t251 ps n n.done))
    (not (has_time m.done) && taken? reported (place_at ps m.sent.receipt))
    (other-aged i time t251 ps (done_at time m) (some time) e)
    (other-aged i time t251 ps m m.done e)

other-first :
    (i : ℕ) (s : Sending) (m : Message)
    → is_of i m ≡ false
    → Seen i (first_sending s m).stays (first_sending s m).out (place_at (first_sending s m).state.receipts i) [] [] (place_at s.receipts i)
unfolding first_sending
other-first i s m e =
    let OtherFirst : Visit Sending Message Record → Type 0 =
    λ v. Seen i v.stays v.out (place_at v.state.receipts i) [] [] (place_at s.receipts i) in
    either OtherFirst m.submitted
    (other-stays i s.receipts m m e)
    (either OtherFirst (among m.sent.ssi s.blocked) (other-stays i s.receipts m m e) (other-sent i s.receipts m m.resends e))

-- The message of an order ----------------------------------------------------------------------------------------------------

-- It was handed down.
held-sent :
    (w : Watch) (m : Message) (p : Place) (n : ℕ)
    → Held w m p
    → n ≤ 3
    → length w.sent ≡ n
    → Held (sent_again (m.sent ∷ []) w) (submitted_after n m) (marked Marks.reset p)
held-sent w m p n h few count =
    record {
      carrier = h.carrier;
      link = h.link;
      header = h.header;
      what = h.what;
      same = all_append (λ (s : Sent). s ≡ m.sent) w.sent (m.sent ∷ []) h.same (refl, tt);
      place = ap (marked Marks.reset) h.place;
      done = refl;
      over = h.over;
      few = few;
      waits = λ e. absurd (true≢false e);
      count = λ e. length-append w.sent (m.sent ∷ []) ∙ omega (arith, count);
      unnoted = λ e. refl;
      value = λ how e. absurd (none-ne-some how e);
    }

-- It left.
lost-mark : (b : Bool) → marked Marks.lost (taken (record { expects_ack = true; state = cond b Transmitted Discarded })) ≡ taken (record { expects_ack = true; state = cond b Lost Discarded })
lost-mark true = refl
lost-mark false = refl

held-left :
    (w : Watch) (m : Message) (p : Place) (how : ℕ)
    → Held w m p
    → m.submitted ≡ true
    → w.report ≡ some how
    → 3 ≤ m.resends
    → Gone (over_by true w) (marked Marks.lost p)
held-left w m p how h sub rep many =
    let four : length w.sent ≡ 4 = omega (arith, h.count sub, h.few, many) in
    let ended : w.over || true ≡ true = ap (λ (b : Bool). b || true) h.over in
    let place : marked Marks.lost p ≡ taken (record { expects_ack = true; state = cond (eqb how 1) Lost Discarded }) =
    ap (marked Marks.lost) (h.place ∙ ap (λ (o : Option ℕ). taken (record { expects_ack = true; state = report_state o })) rep)
    ∙ lost-mark (eqb how 1) in
    by-test (eqb how 1)
    (λ e.
    record {
      receipt = record { expects_ack = true; state = Lost };
      taken = place ∙ ap (λ (b : Bool). taken (record { expects_ack = true; state = cond b Lost Discarded })) e;
      how = record { four = four; report = rep ∙ ap some (eqb-true how 1 e); over = ended };
    })
    (λ e.
    record {
      receipt = record { expects_ack = true; state = Discarded };
      taken = place ∙ ap (λ (b : Bool). taken (record { expects_ack = true; state = cond b Lost Discarded })) e;
      how =
          record {
            four = four;
            report = rep ∙ ap some (eqb-true how 2 (rw e at (h.value how rep)));
            over = ended;
          };
    })

-- Nothing was due.
held-undue : (w : Watch) (m : Message) (p : Place) → Held w m p → Held (over_by false w) m p
held-undue w m p h =
    record {
      carrier = h.carrier;
      link = h.link;
      header = h.header;
      what = h.what;
      same = h.same;
      place = h.place;
      done = h.done;
      over = ap (λ (b : Bool). b || false) h.over;
      few = h.few;
      waits = λ s. record { sent = (h.waits s).sent; report = (h.waits s).report; resends = (h.waits s).resends };
      count = h.count;
      unnoted = h.unnoted;
      value = h.value;
    }

-- Its report was noted.
held-noted :
    (w : Watch) (m : Message) (p : Place) (how : ℕ) (t : TdmaTime)
    → Held w m p
    → m.submitted ≡ true
    → w.report ≡ some how
    → Held (noted_at t w) (done_at t m) p
held-noted w m p how t h sub rep =
    record {
      carrier = h.carrier;
      link = h.link;
      header = h.header;
      what = h.what;
      same = h.same;
      place = h.place;
      done = refl;
      over = h.over;
      few = h.few;
      waits = λ s. clash _ sub s;
      count = h.count;
      unnoted = λ e. absurd (none-ne-some how (sym e ∙ rep));
      value = h.value;
    }

-- The two passes -------------------------------------------------------------------------------------------------------------

-- What comes of a tick end for an order: what stays of it, what is handed down, and its place.
pub record Turned (i : ℕ) (k : Clock) (w : Watch) (ns : List Message) (hs : List Sent) (q : Place) : Type 0 where
  pub sent : AllSentWell k w tick_ended hs
  pub follows : OrderFollows (goes_on i k tick_ended hs w) ns q
  pub silent : ns ≡ [] → hs ≡ []

-- And of the first pass, for a message that was submitted.
record Resent (i : ℕ) (k : Clock) (w : Watch) (v : Visit (List Place) Message Record) : Type 0 where
  ns : List Message
  hs : List Sent
  q : Place
  seen : Seen i v.stays v.out (place_at v.state i) ns hs q
  turned : Turned i k w ns hs q
  submitted : All (λ (n : Message). n.submitted ≡ true) ns

unreported-place : taken? reported (taken (record { expects_ack = true; state = report_state none })) ≡ false
unreported-place = refl

reported-place : (how : ℕ) → taken? reported (taken (record { expects_ack = true; state = report_state (some how) })) ≡ true
reported-place how = by-test (eqb how 1) (λ e. rw e) (λ e. rw e)

-- A done time of this tick end is not due.
undue-now : (k : Clock) → 1 ≤ k.t251 → overdue k.time k.t251 k.time ≡ false
unfolding overdue
undue-now k some-slots = ap (λ (z : ℤ). reaches z k.t251) (minus-self k.time) ∙ lt-leb k.t251 0 (omega (arith, some-slots))

-- What is read of a tick end at which nothing is handed down.
module _ (k : Clock) (w : Watch) where
  aged-unreported : w.noted ≡ none → w.report ≡ none → aged k w w.noted ≡ w
  aged-unreported n r = ap (aged k w) n ∙ ap (unnoted k w) r

  aged-reported : (how : ℕ) → w.noted ≡ none → w.report ≡ some how → aged k w w.noted ≡ noted_at k.time w
  aged-reported how n r = ap (aged k w) n ∙ ap (unnoted k w) r

  aged-noted : (done : TdmaTime) (b : Bool) → w.noted ≡ some done → overdue k.time k.t251 done ≡ b → aged k w w.noted ≡ over_by b w
  aged-noted done b n o = ap (aged k w) n ∙ ap (λ (x : Bool). over_by x w) o

module _ (i : ℕ) (k : Clock) (w : Watch) (m : Message) (ps : List Place) (h : Held w m (place_at ps i)) (own : is_of i m ≡ true) where
  at_place : (o : Option ℕ) → w.report ≡ o → place_at ps m.sent.receipt ≡ taken (record { expects_ack = true; state = report_state o })
  at_place o r =
      ap (place_at ps) (eqb-true m.sent.receipt i own)
      ∙ h.place
      ∙ ap (λ (x : Option ℕ). taken (record { expects_ack = true; state = report_state x })) r

  -- A message whose receipt is Pending stays as it is.
  unreported-stays : w.report ≡ none → retransmission k.time k.t251 ps m ≡ stay ps m
  unreported-stays r =
      visit-unreported k.time k.t251 ps m (h.done ∙ h.unnoted r) (ap (taken? reported) (at_place none r) ∙ unreported-place)

  module _ (sub : m.submitted ≡ true) (some-slots : 1 ≤ k.t251) where
    -- One that stays as n, where w is read as w'.
    stays-as : (n : Message) (w' : Watch) → is_of i n ≡ true → n.submitted ≡ true → aged k w w.noted ≡ w' → Held w' n (place_at ps i) → Resent i k w (stay ps n)
    stays-as n w' e s is held =
        record {
          ns = n ∷ [];
          hs = [];
          q = place_at ps i;
          seen = own-stays i ps m n e;
          turned =
              record { sent = tt; follows = (subst (λ (x : Watch). Held x n (place_at ps i)) (sym is) held, refl); silent = λ e. refl };
          submitted = (s, tt);
        }

    due-again : (done : TdmaTime) → w.noted ≡ some done → overdue k.time k.t251 done ≡ true → m.resends < 3 → Resent i k w (resend ps m)
    due-again done n o few =
        record {
          ns = submitted_after (suc m.resends) m ∷ [];
          hs = m.sent ∷ [];
          q = marked Marks.reset (place_at ps i);
          seen = own-sent i ps m (suc m.resends) own;
          turned =
              record {
                sent =
                    record {
                      tick_end = refl;
                      once = refl;
                      still = h.over;
                      why = why-all w.sent (record { done = done; noted = n; old = o });
                    };
                follows = (held-sent w m (place_at ps i) (suc m.resends) h (omega (arith, few)) (h.count sub), refl);
                silent = no-list;
              };
          submitted = (refl, tt);
        }
      where
        why-all : (ss : List Sent) → WhyAgain k w → Why k w ss
        why-all [] y = tt
        why-all (s ∷ ss) y = y

    due-leaves : (how : ℕ) (done : TdmaTime) → w.report ≡ some how → w.noted ≡ some done → overdue k.time k.t251 done ≡ true → 3 ≤ m.resends → Resent i k w (leave ps m)
    due-leaves how done r n o many =
        record {
          ns = [];
          hs = [];
          q = marked Marks.lost (place_at ps i);
          seen = own-leaves i ps m own;
          turned =
              record {
                sent = tt;
                follows =
                    subst (λ (x : Watch). Gone x (marked Marks.lost (place_at ps i))) (sym (aged-noted k w done true n o))
                    (held-left w m (place_at ps i) how h sub r many);
                silent = λ e. refl;
              };
          submitted = tt;
        }

    noted-visit : (how : ℕ) (done : TdmaTime) → w.report ≡ some how → w.noted ≡ some done → Resent i k w (aged_by k.time k.t251 ps m (some done))
    noted-visit how done r n =
        cond_both (overdue k.time k.t251 done) _ _ (Resent i k w)
        (λ o.
        cond_both (ltb m.resends 3) _ _ (Resent i k w)
        (λ e. due-again done n o (ltb-true m.resends 3 e))
        (λ e. due-leaves how done r n o (ltb-false m.resends 3 e)))
        (λ o. stays-as m (over_by false w) own sub (aged-noted k w done false n o) (held-undue w m (place_at ps i) h))

    reported-visit : (how : ℕ) (o : Option TdmaTime) → w.report ≡ some how → w.noted ≡ o → Resent i k w (retransmission k.time k.t251 ps m)
    reported-visit how none r n =
        subst (Resent i k w)
        (sym
        (visit-reported k.time k.t251 ps m (h.done ∙ n) (ap (taken? reported) (at_place (some how) r) ∙ reported-place how)
        ∙ cond-false _ _ _ (undue-now k some-slots)))
        (stays-as (done_at k.time m) (noted_at k.time w) own sub (aged-reported k w how n r) (held-noted w m (place_at ps i) how k.time h sub r))
    reported-visit how (some done) r n =
        subst (Resent i k w) (sym (visit-noted k.time k.t251 ps m done (h.done ∙ n))) (noted-visit how done r n)

    resent-visit : (o : Option ℕ) → w.report ≡ o → Resent i k w (retransmission k.time k.t251 ps m)
    resent-visit none r =
        subst (Resent i k w) (sym (unreported-stays r)) (stays-as m w own sub (aged-unreported k w (h.unnoted r) r) h)
    resent-visit (some how) r = reported-visit how w.noted r refl

-- What a visit of the second pass is to receipt i, with P of it.
record SeenOne (i : ℕ) (P : List Message → List Sent → Place → Type 0) (v : Visit Sending Message Record) : Type 0 where
  ns : List Message
  hs : List Sent
  q : Place
  seen : Seen i v.stays v.out (place_at v.state.receipts i) ns hs q
  so : P ns hs q

-- The second pass, for a message that was submitted and for one that waits.
module _ (i : ℕ) (s : Sending) (m : Message) (own : is_of i m ≡ true) where
  abbrev SeenFirst : Visit Sending Message Record → List Message → List Sent → Place → Type 0
  SeenFirst v ns hs q = Seen i v.stays v.out (place_at v.state.receipts i) ns hs q

  submitted-stays : m.submitted ≡ true → SeenFirst (first_sending s m) (m ∷ []) [] (place_at s.receipts i)
  unfolding first_sending
  submitted-stays sub =
      subst (λ (v : Visit Sending Message Record). SeenFirst v (m ∷ []) [] (place_at s.receipts i)) (sym (cond-true _ _ _ sub))
      (own-stays i s.receipts m m own)

  -- It goes on waiting, or is handed down for the first time.
  waiting-goes :
      (P : List Message → List Sent → Place → Type 0)
      → m.submitted ≡ false
      → P (m ∷ []) [] (place_at s.receipts i)
      → P (submitted_after m.resends m ∷ []) (m.sent ∷ []) (marked Marks.reset (place_at s.receipts i))
      → SeenOne i P (first_sending s m)
  unfolding first_sending
  waiting-goes P sub as-was sent =
      subst (SeenOne i P) (sym (cond-false _ _ _ sub))
      (either (SeenOne i P) (among m.sent.ssi s.blocked)
      (record { ns = m ∷ []; hs = []; q = place_at s.receipts i; seen = own-stays i s.receipts m m own; so = as-was })
      (record {
        ns = submitted_after m.resends m ∷ [];
        hs = m.sent ∷ [];
        q = marked Marks.reset (place_at s.receipts i);
        seen = own-sent i s.receipts m m.resends own;
        so = sent;
      }))

-- A tick end, by its two passes.
module _ (i : ℕ) (l : Link) where
  abbrev pub SeenTick : List Message → List Sent → Place → Type 0
  SeenTick ns hs q = Seen i (on_tick_end l).state.acknowledged (on_tick_end l).records (place_at (on_tick_end l).state.receipts i) ns hs q

  abbrev SeenAgain : List Message → List Sent → Place → Type 0
  SeenAgain ns hs q = Seen i (retransmissions l).stays (retransmissions l).out (place_at (retransmissions l).state i) ns hs q

  abbrev SeenFirsts : List Message → List Sent → Place → Type 0
  SeenFirsts ns hs q = Seen i (first_sendings l).stays (first_sendings l).out (place_at (first_sendings l).state.receipts i) ns hs q

  both-passes : (ms ns : List Message) (hs gs : List Sent) (p q : Place) → SeenAgain ms hs p → SeenFirsts ns gs q → SeenTick ns (hs ++ gs) q
  unfolding on_tick_end
  both-passes ms ns hs gs p q a f =
      record {
        stays = f.stays;
        out =
            handed-append i (retransmissions l).out _
            ∙ ap₂ (λ (x y : List Sent). x ++ y) a.out
            (handed-append i (first_sendings l).out _
            ∙ ap₂ (λ (x y : List Sent). x ++ y) f.out (handed-rest i l.due l.unacknowledged)
            ∙ append-nil gs);
        place = f.place;
      }

  -- No message of its own.
  again-none : mine i l.acknowledged ≡ [] → SeenAgain [] [] (place_at l.receipts i)
  unfolding retransmissions
  again-none e =
      walk_none i (λ (ps : List Place). ps) (retransmission l.time l.t251) (other-visit i l.time l.t251) l.receipts l.acknowledged e

  firsts-none : (p : Place) → mine i (retransmissions l).stays ≡ [] → place_at (retransmissions l).state i ≡ p → SeenFirsts [] [] p
  unfolding first_sendings
  firsts-none p e at =
      let w = walk_none i (λ (s : Sending). s.receipts) first_sending (other-first i) (record { receipts = (retransmissions l).state; blocked = [] }) (retransmissions l).stays e in
      record { stays = w.stays; out = w.out; place = w.place ∙ at }

  pub tick-none : mine i l.acknowledged ≡ [] → SeenTick [] [] (place_at l.receipts i)
  tick-none e =
      let a = again-none e in both-passes [] [] [] [] _ _ a (firsts-none (place_at l.receipts i) a.stays a.place)

-- A tick end, for an order.
pub record TickTurned (i : ℕ) (l : Link) (w : Watch) : Type 0 where
  pub ns : List Message
  pub hs : List Sent
  pub q : Place
  pub seen : SeenTick i l ns hs q
  pub turned : Turned i (clock_of l) w ns hs q

-- One that is gone.
gone-unnoted : (k : Clock) (w : Watch) (how : ℕ) (o : Option ℕ) → LeftBy w how → LeftBy (unnoted k w o) how
gone-unnoted k w how none g = g
gone-unnoted k w how (some r) g = record { four = g.four; report = g.report; over = g.over }

gone-aged : (k : Clock) (w : Watch) (how : ℕ) (o : Option TdmaTime) → LeftBy w how → LeftBy (aged k w o) how
gone-aged k w how none g = gone-unnoted k w how w.report g
gone-aged k w how (some done) g =
    record { four = g.four; report = g.report; over = ap (λ (b : Bool). b || overdue k.time k.t251 done) g.over }

gone-as : (k : Clock) (w : Watch) (o : Option TdmaTime) (s : TxState) → GoneAs w s → GoneAs (aged k w o) s
gone-as k w o Pending g = g
gone-as k w o Discarded g = gone-aged k w 2 o g
gone-as k w o Transmitted g = g
gone-as k w o Lost g = gone-aged k w 1 o g
gone-as k w o Acknowledged g = tt

module _ (i : ℕ) (l : Link) (w : Watch) where
  tick-gone : mine i l.acknowledged ≡ [] → Gone w (place_at l.receipts i) → TickTurned i l w
  tick-gone e g =
      record {
        ns = [];
        hs = [];
        q = place_at l.receipts i;
        seen = tick-none i l e;
        turned =
            record {
              sent = tt;
              follows =
                  record { receipt = g.receipt; taken = g.taken; how = gone-as (clock_of l) w w.noted g.receipt.state g.how };
              silent = λ e. refl;
            };
      }

  module _ (m : Message) (is : mine i l.acknowledged ≡ m ∷ []) (own : is_of i m ≡ true) (h : Held w m (place_at l.receipts i)) where
    -- The first pass visits it, from a state in which its place is as it was.
    abbrev again : List Place → Message → Visit (List Place) Message Record
    again = retransmission l.time l.t251

    first-visit : Visits i (λ (ps : List Place). ps) again (other-visit i l.time l.t251) l.receipts m l.acknowledged
    first-visit = walk-one i (λ (ps : List Place). ps) again (other-visit i l.time l.t251) l.receipts m l.acknowledged is

    held-there : Held w m (place_at first-visit.from i)
    held-there = subst (Held w m) (sym first-visit.there) h

    after-again : (ns : List Message) (hs : List Sent) (q : Place) → Seen i (again first-visit.from m).stays (again first-visit.from m).out (place_at (again first-visit.from m).state i) ns hs q → SeenAgain i l ns hs q
    unfolding retransmissions
    after-again ns hs q s =
        let v = first-visit.seen in
        record { stays = v.stays ∙ s.stays; out = v.out ∙ s.out; place = v.place ∙ s.place }

    -- The second pass visits n, which the first left.
    abbrev begin : Sending
    begin = record { receipts = (retransmissions l).state; blocked = [] }

    second-visit : (n : Message) → mine i (retransmissions l).stays ≡ n ∷ [] → Visits i (λ (s : Sending). s.receipts) first_sending (other-first i) begin n (retransmissions l).stays
    second-visit n e = walk-one i (λ (s : Sending). s.receipts) first_sending (other-first i) begin n (retransmissions l).stays e

    after-firsts :
        (n : Message) (e : mine i (retransmissions l).stays ≡ n ∷ []) (ns : List Message) (hs : List Sent) (q : Place)
        → Seen i (first_sending (second-visit n e).from n).stays (first_sending (second-visit n e).from n).out (place_at (first_sending (second-visit n e).from n).state.receipts i) ns hs q
        → SeenFirsts i l ns hs q
    unfolding first_sendings
    after-firsts n e ns hs q s =
        let v = (second-visit n e).seen in
        record { stays = v.stays ∙ s.stays; out = v.out ∙ s.out; place = v.place ∙ s.place }

    -- Submitted: what the first pass leaves of it stays.
    second-stays :
        (ns : List Message) (hs : List Sent) (q : Place)
        → SeenAgain i l ns hs q
        → Turned i (clock_of l) w ns hs q
        → All (λ (n : Message). n.submitted ≡ true) ns
        → All (λ (n : Message). is_of i n ≡ true) ns
        → TickTurned i l w
    second-stays [] hs q s t sub o =
        record {
          ns = [];
          hs = hs;
          q = q;
          seen =
              subst (λ (x : List Sent). SeenTick i l [] x q) (append-nil hs)
              (both-passes i l [] [] hs [] q q s (firsts-none i l q s.stays s.place));
          turned = t;
        }
    second-stays (n ∷ ns) hs q s t sub o =
        let one : mine i (retransmissions l).stays ≡ n ∷ [] = s.stays ∙ ap (λ (x : List Message). n ∷ x) t.follows.1 in
        let v = second-visit n one in
        let f =
        after-firsts n one (n ∷ []) [] (place_at v.from.receipts i) (submitted-stays i v.from n o.0 sub.0) in
        record {
          ns = n ∷ [];
          hs = hs;
          q = q;
          seen =
              subst (λ (x : List Sent). SeenTick i l (n ∷ []) x q) (append-nil hs)
              (both-passes i l (n ∷ ns) (n ∷ []) hs [] q q s
              (record { stays = f.stays; out = f.out; place = f.place ∙ v.there ∙ s.place }));
          turned = record { sent = t.sent; follows = (t.follows.0, refl); silent = no-list };
        }

    tick-submitted : m.submitted ≡ true → 1 ≤ l.t251 → TickTurned i l w
    tick-submitted sub some-slots =
        let r = resent-visit i (clock_of l) w m first-visit.from held-there own sub some-slots w.report refl in
        second-stays r.ns r.hs r.q (after-again r.ns r.hs r.q r.seen) r.turned r.submitted
        (own-all (again first-visit.from m).stays r.ns r.seen.stays)
      where
        own-all : (ms ns : List Message) → mine i ms ≡ ns → All (λ (n : Message). is_of i n ≡ true) ns
        own-all ms ns e = subst (All (λ (n : Message). is_of i n ≡ true)) e (keep_all (is_of i) ms)

    -- Waiting: it goes on, or is handed down for the first time.
    waits-on : m.submitted ≡ false → Turned i (clock_of l) w (m ∷ []) [] (place_at l.receipts i)
    waits-on sub =
        let u = h.waits sub in
        record {
          sent = tt;
          follows = (subst (λ (x : Watch). Held x m (place_at l.receipts i)) (sym (aged-unreported (clock_of l) w (h.unnoted u.report) u.report)) h, refl);
          silent = λ e. refl;
        }

    sent-first : m.submitted ≡ false → Turned i (clock_of l) w (submitted_after m.resends m ∷ []) (m.sent ∷ []) (marked Marks.reset (place_at l.receipts i))
    sent-first sub =
        let u = h.waits sub in
        record {
          sent =
              record {
                tick_end = refl;
                once = refl;
                still = h.over;
                why = subst (Why (clock_of l) w) (sym u.sent) tt;
              };
          follows =
              (held-sent w m (place_at l.receipts i) m.resends h h.few (ap length u.sent ∙ sym u.resends), refl);
          silent = no-list;
        }

    tick-waiting : m.submitted ≡ false → TickTurned i l w
    tick-waiting sub =
        let from = first-visit.from in
        let stays-there = own-stays i from m m own in
        let a =
        after-again (m ∷ []) [] (place_at from i)
        (subst (λ (v : Visit (List Place) Message Record). Seen i v.stays v.out (place_at v.state i) (m ∷ []) [] (place_at from i))
        (sym (unreported-stays i (clock_of l) w m from held-there own (h.waits sub).report))
        stays-there) in
        let v = second-visit m a.stays in
        let same : place_at v.from.receipts i ≡ place_at l.receipts i = v.there ∙ a.place ∙ first-visit.there in
        let one =
        waiting-goes i v.from m own (Turned i (clock_of l) w) sub
        (subst (Turned i (clock_of l) w (m ∷ []) []) (sym same) (waits-on sub))
        (subst (λ (p : Place). Turned i (clock_of l) w (submitted_after m.resends m ∷ []) (m.sent ∷ []) (marked Marks.reset p)) (sym same) (sent-first sub)) in
        record {
          ns = one.ns;
          hs = one.hs;
          q = one.q;
          seen = both-passes i l (m ∷ []) one.ns [] one.hs _ _ a (after-firsts m a.stays one.ns one.hs one.q one.seen);
          turned = one.so;
        }

    tick-held : 1 ≤ l.t251 → TickTurned i l w
    tick-held some-slots = by-test m.submitted (λ s. tick-submitted s some-slots) tick-waiting

-- So of every order.
pub tick-order :
    (i : ℕ) (l : Link) (w : Watch) (ms : List Message)
    → mine i l.acknowledged ≡ ms
    → OrderFollows w ms (place_at l.receipts i)
    → 1 ≤ l.t251
    → TickTurned i l w
tick-order i l w [] e g some-slots = tick-gone i l w e g
tick-order i l w (m ∷ ms) e g some-slots =
    let is : mine i l.acknowledged ≡ m ∷ [] = e ∙ ap (λ (x : List Message). m ∷ x) g.1 in
    let own = subst (All (λ (n : Message). is_of i n ≡ true)) is (keep_all (is_of i) l.acknowledged) in
    tick-held i l w m is own.0 g.0 some-slots
