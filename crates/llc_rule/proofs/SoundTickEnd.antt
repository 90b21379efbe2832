-- The tick end keeps what holds of the link after every run.
use Prim.Native.Nat.{ℕ, suc, ◌≤◌}
use native.Mathlib.Omega.{arith}
use mathlib.Core.Path.{◌≡◌, ◌∙◌, refl, sym, ap}
use mathlib.Core.Bool.{Bool, true, false, cond, not, ◌&&◌, ◌||◌, true≢false}
use mathlib.Core.List.{List, [], ◌∷◌, ◌++◌}
use mathlib.Core.Option.{Option, none, some}
use borrow.Author.Clash.{clash}
use borrow.Author.Tests.{eqb-true, eqb-false, eq-eqb, not-true}
use lib.Dec.{eqb, ltb}
use lib.ListN.{length}
use lib.Seq.{get_or-set_other}
use Rattle.std.proofs.lemmas.Bool.{and_parts, or_parts}
use Rattle.lists.specs.Lists.{keep, any, among, Visit, walk, All}
use Rattle.lists.proofs.Lists.{keep-yes, keep-no, all_map}
use Rattle.lists.proofs.Choices.{by-test}
use Rattle.tdma_time.specs.declared.TdmaTime.{TdmaTime}
use Rattle.tx_receipt.specs.States.{is, number}
use Rattle.tx_receipt.specs.Marks as Marks
use Rattle.tx_receipt.specs.Marks.{Mark}
use Rattle.tx_receipt.specs.declared.TxState.TheVariants.{Pending}
use Rattle.llc_rule.specs.Records.{Record, acknowledged, Sent}
use Rattle.llc_rule.specs.Messages.{Message, submitted_after, done_at, has_time, overdue, Place, free, taken, place_at, is_free, taken?, marked, mark, reported}
use Rattle.llc_rule.specs.Link.{Link}
use Rattle.llc_rule.specs.Step.{stay, resend, leave, aged_by, retransmission, Sending, first_sending, retransmissions, first_sendings, on_tick_end}
use Rattle.llc_rule.specs.Past.{Holders}
use Rattle.llc_rule.specs.Sound.{Owned, expects, Waiting, acknowledged_with, of_address, one_ahead, Sound}
use Rattle.llc_rule.proofs.Places.{turned, length-mark, mark-free, mark-expects}

-- Receipts ----------------------------------------------------------------------------------------------------------------

-- At most place i is changed, and none is taken or freed.
record Touched (i : ℕ) (ps ps' : List Place) : Type 0 where
  long : length ps' ≡ length ps
  free : (j : ℕ) → is_free (place_at ps' j) ≡ is_free (place_at ps j)
  other : (j : ℕ) → eqb i j ≡ false → place_at ps' j ≡ place_at ps j

touched-mark : (k : Mark) (i : ℕ) (ps : List Place) → Touched i ps (mark k i ps)
touched-mark k i ps =
    record {
      long = length-mark k i ps;
      free = mark-free k i ps;
      other = λ j h. get_or-set_other ps i j (marked k (place_at ps i)) free (λ e. eqb-false i j h (sym e));
    }

untouched : (i : ℕ) (ps : List Place) → Touched i ps ps
untouched i ps = record { long = refl; free = λ j. refl; other = λ j h. refl }

-- A receipt that is Pending was not reported.
not-reported : (p : Place) → taken? (is Pending) p ≡ true → taken? reported p ≡ false
not-reported free h = refl
not-reported (taken r) h = rw (eqb-true (number r.state) 0 h)

-- Counts ------------------------------------------------------------------------------------------------------------------

-- No two messages have one receipt.
abbrev Apart : List Message → Type 0
Apart q = (j : ℕ) → acknowledged_with j q ≤ 1

module _ (j : ℕ) (m : Message) (q : List Message) where
  count-own : eqb m.sent.receipt j ≡ true → acknowledged_with j (m ∷ q) ≡ suc (acknowledged_with j q)
  count-own h = ap length (keep-yes (λ (n : Message). eqb n.sent.receipt j) m q h)

  count-other : eqb m.sent.receipt j ≡ false → acknowledged_with j (m ∷ q) ≡ acknowledged_with j q
  count-other h = ap length (keep-no (λ (n : Message). eqb n.sent.receipt j) m q h)

  count-rest : acknowledged_with j q ≤ acknowledged_with j (m ∷ q)
  count-rest =
      by-test (eqb m.sent.receipt j)
      (λ h. omega (arith, count-own h))
      (λ h. omega (arith, count-other h))

  not-counted : acknowledged_with j (m ∷ q) ≡ 0 → eqb m.sent.receipt j ≡ false
  not-counted z =
      by-test (eqb m.sent.receipt j) (λ h. absurd (omega (arith, count-own h, z))) (λ h. h)

apart-rest : (m : Message) (q : List Message) → Apart (m ∷ q) → Apart q
apart-rest m q a j = omega (arith, a j, count-rest j m q)

alone : (m : Message) (q : List Message) → Apart (m ∷ q) → acknowledged_with m.sent.receipt q ≡ 0
alone m q a =
    let i = m.sent.receipt in
    omega (arith, a i, count-own i m q (eq-eqb i i refl))

-- A message whose receipt is as it was waits as before; so do messages none of which has the receipt that was touched.
waiting-at :
    (ps ps' : List Place) (m : Message)
    → place_at ps' m.sent.receipt ≡ place_at ps m.sent.receipt
    → Waiting ps m
    → Waiting ps' m
waiting-at ps ps' m e w =
    record {
      expects = ap (taken? expects) e ∙ w.expects;
      receipt = λ h. ap (taken? (is Pending)) e ∙ w.receipt h;
      time = w.time;
    }

still-waiting :
    (i : ℕ) (ps ps' : List Place) (q : List Message)
    → Touched i ps ps'
    → acknowledged_with i q ≡ 0
    → All (Waiting ps) q
    → All (Waiting ps') q
still-waiting i ps ps' [] t z w = tt
still-waiting i ps ps' (m ∷ q) t z w = (
  waiting-at ps ps' m (t.other m.sent.receipt (turned m.sent.receipt i false (not-counted i m q z))) w.0,
  still-waiting i ps ps' q t (omega (arith, count-rest i m q, z)) w.1,
)

-- A pass -------------------------------------------------------------------------------------------------------------------

-- What a pass makes of the messages: each leaves, or one stays that has the same to send, of which Q tells more.
data Thinned (Q : Bool → Message → Type 0) : List Message → List Message → Type 0 where
  end : Thinned Q [] []
  left : (m : Message) {q q' : List Message} → Thinned Q q q' → Thinned Q (m ∷ q) q'
  kept :
      (m m' : Message) {q q' : List Message}
      → m'.sent ≡ m.sent
      → Q m.submitted m'
      → Thinned Q q q'
      → Thinned Q (m ∷ q) (m' ∷ q')

-- What a visit makes of a message with s to send: nothing, or one that waits rightly.
data Remains (Q : Message → Type 0) (s : Sent) (ps : List Place) : List Message → Type 0 where
  nothing : Remains Q s ps []
  one : (m' : Message) → m'.sent ≡ s → Q m' → Waiting ps m' → Remains Q s ps (m' ∷ [])

-- What a visit leaves of the places ps and of a message with s to send that was submitted if b says so.
record Visited (Q : Bool → Message → Type 0) (s : Sent) (b : Bool) (ps ps' : List Place) (stays : List Message) : Type 0 where
  touched : Touched s.receipt ps ps'
  remains : Remains (Q b) s ps' stays

-- What a whole pass from places ps and messages q leaves.
record Passed (Q : Bool → Message → Type 0) (ps : List Place) (q : List Message) (ps' : List Place) (q' : List Message)
    : Type 0 where
  long : length ps' ≡ length ps
  free : (j : ℕ) → is_free (place_at ps' j) ≡ is_free (place_at ps j)
  other : (j : ℕ) → acknowledged_with j q ≡ 0 → place_at ps' j ≡ place_at ps j
  thinned : Thinned Q q q'
  waiting : All (Waiting ps') q'

module _ (Q : Bool → Message → Type 0) where
  passed_none : (ps : List Place) → Passed Q ps [] ps []
  passed_none ps = record { long = refl; free = λ j. refl; other = λ j h. refl; thinned = end; waiting = tt }

  thinned-more :
      (m : Message) (ps : List Place) (stays q q' : List Message)
      → Remains (Q m.submitted) m.sent ps stays
      → Thinned Q q q'
      → Thinned Q (m ∷ q) (stays ++ q')
  thinned-more m ps stays q q' nothing t = left m t
  thinned-more m ps stays q q' (one m' e k w) t = kept m m' e k t

  waiting-more :
      (m : Message) (ps ps' : List Place) (stays q' : List Message)
      → Remains (Q m.submitted) m.sent ps stays
      → place_at ps' m.sent.receipt ≡ place_at ps m.sent.receipt
      → All (Waiting ps') q'
      → All (Waiting ps') (stays ++ q')
  waiting-more m ps ps' stays q' nothing e a = a
  waiting-more m ps ps' stays q' (one m' s k w) e a =
      (waiting-at ps ps' m' (rw s e) w, a)

  passed-more :
      (m : Message) (q : List Message) (ps ps' ps'' : List Place) (stays q' : List Message)
      → Apart (m ∷ q)
      → Visited Q m.sent m.submitted ps ps' stays
      → Passed Q ps' q ps'' q'
      → Passed Q ps (m ∷ q) ps'' (stays ++ q')
  passed-more m q ps ps' ps'' stays q' a v p =
      record {
        long = p.long ∙ v.touched.long;
        free = λ j. p.free j ∙ v.touched.free j;
        other =
            λ j z.
            p.other j (omega (arith, count-rest j m q, z)) ∙ v.touched.other j (not-counted j m q z);
        thinned = thinned-more m ps' stays q q' v.remains p.thinned;
        waiting = waiting-more m ps' ps'' stays q' v.remains (p.other m.sent.receipt (alone m q a)) p.waiting;
      }

  length-thinned : (q q' : List Message) → Thinned Q q q' → length q' ≤ length q
  length-thinned q q' end = omega arith
  length-thinned q q' (left m {q = p} {q' = p'} t) = omega (arith, length-thinned p p' t)
  length-thinned q q' (kept m m' {q = p} {q' = p'} e k t) = omega (arith, length-thinned p p' t)

  count-thinned : (j : ℕ) (q q' : List Message) → Thinned Q q q' → acknowledged_with j q' ≤ acknowledged_with j q
  count-thinned j q q' end = omega arith
  count-thinned j q q' (left m {q = p} {q' = p'} t) = omega (arith, count-thinned j p p' t, count-rest j m p)
  count-thinned j q q' (kept m m' {q = p} {q' = p'} e k t) =
      by-test (eqb m.sent.receipt j)
      (λ h. omega (arith, count-thinned j p p' t, count-own j m p h, count-own j m' p' (rw e h)))
      (λ h. omega (arith, count-thinned j p p' t, count-other j m p h, count-other j m' p' (rw e h)))

  all-thinned :
      (P : Sent → Type 0) (q q' : List Message)
      → Thinned Q q q'
      → All (λ (m : Message). P m.sent) q
      → All (λ (m : Message). P m.sent) q'
  all-thinned P q q' end a = a
  all-thinned P q q' (left m {q = p} {q' = p'} t) a = all-thinned P p p' t a.1
  all-thinned P q q' (kept m m' {q = p} {q' = p'} e k t) a = (rw e a.0, all-thinned P p p' t a.1)

  apart-thinned : (q q' : List Message) → Thinned Q q q' → Apart q → Apart q'
  apart-thinned q q' t a j = omega (arith, count-thinned j q q' t, a j)

-- The first pass ------------------------------------------------------------------------------------------------------------

-- A message that stays in the first pass is submitted exactly if it was.
abbrev AsBefore : Bool → Message → Type 0
AsBefore b m' = m'.submitted ≡ b

visited-overdue :
    (o r : Bool) (ps : List Place) (n : Message)
    → n.submitted ≡ true
    → Waiting ps n
    → Visited AsBefore n.sent n.submitted ps
    (cond o (cond r (resend ps n) (leave ps n)) (stay ps n)).state
    (cond o (cond r (resend ps n) (leave ps n)) (stay ps n)).stays
visited-overdue true true ps n s w =
    record {
      touched = touched-mark Marks.reset n.sent.receipt ps;
      remains =
          one (submitted_after (suc n.resends) n) refl (sym s)
          (record {
            expects = mark-expects Marks.reset n.sent.receipt ps n.sent.receipt ∙ w.expects;
            receipt = λ h. absurd (true≢false h);
            time = λ h. refl;
          });
    }
visited-overdue true false ps n s w =
    record {
      touched = touched-mark Marks.lost n.sent.receipt ps;
      remains = nothing;
    }
visited-overdue false r ps n s w = record { touched = untouched n.sent.receipt ps; remains = one n refl refl w }

visited-aged :
    (time : TdmaTime) (t251 : ℕ) (ps : List Place) (n : Message) (d : Option TdmaTime)
    → n.done ≡ d
    → Waiting ps n
    → Visited AsBefore n.sent n.submitted ps (aged_by time t251 ps n d).state (aged_by time t251 ps n d).stays
visited-aged time t251 ps n none e w = record { touched = untouched n.sent.receipt ps; remains = one n refl refl w }
visited-aged time t251 ps n (some t) e w =
    visited-overdue (overdue time t251 t) (ltb n.resends 3) ps n
    (by-test n.submitted (λ h. h) (λ h. clash _ (ap has_time e) (ap has_time (w.time h))))
    w

visited-timed :
    (b : Bool) (time : TdmaTime) (t251 : ℕ) (ps : List Place) (m : Message)
    → (b ≡ true → m.submitted ≡ true)
    → Waiting ps m
    → Visited AsBefore m.sent m.submitted ps
    (aged_by time t251 ps (cond b (done_at time m) m) (cond b (done_at time m) m).done).state
    (aged_by time t251 ps (cond b (done_at time m) m) (cond b (done_at time m) m).done).stays
visited-timed true time t251 ps m f w =
    visited-aged time t251 ps (done_at time m) (some time) refl
    (record { expects = w.expects; receipt = w.receipt; time = λ h. clash _ (f refl) h })
visited-timed false time t251 ps m f w = visited-aged time t251 ps m m.done refl w

-- A waiting message's receipt is Pending, so that it gets no done time and stays as it is.
visited-retransmission :
    (time : TdmaTime) (t251 : ℕ) (ps : List Place) (m : Message)
    → Waiting ps m
    → Visited AsBefore m.sent m.submitted ps
    (retransmission time t251 ps m).state
    (retransmission time t251 ps m).stays
unfolding retransmission
visited-retransmission time t251 ps m w =
    visited-timed (not (has_time m.done) && taken? reported (place_at ps m.sent.receipt)) time t251 ps m
    (λ h.
    by-test m.submitted
    (λ s. s)
    (λ s.
    clash _ (and_parts (not (has_time m.done)) _ h).1 (not-reported (place_at ps m.sent.receipt) (w.receipt s))))
    w

passed-retransmissions :
    (time : TdmaTime) (t251 : ℕ) (ps : List Place) (q : List Message)
    → Apart q
    → All (Waiting ps) q
    → Passed AsBefore ps q (walk (retransmission time t251) ps q).state (walk (retransmission time t251) ps q).stays
unfolding walk
passed-retransmissions time t251 ps [] a w = passed_none AsBefore ps
passed-retransmissions time t251 ps (m ∷ q) a w =
    let v = visited-retransmission time t251 ps m w.0 in
    let ps' : List Place = (retransmission time t251 ps m).state in
    let rest = walk (retransmission time t251) ps' q in
    passed-more AsBefore m q ps ps' rest.state (retransmission time t251 ps m).stays rest.stays a v
    (passed-retransmissions time t251 ps' q (apart-rest m q a)
    (still-waiting m.sent.receipt ps ps' q v.touched (alone m q a) w.1))

-- Has an address a message that is submitted?
abbrev under_way : ℕ → List Message → Bool
under_way a q = any (λ (n : Message). n.submitted) (of_address a q)

none_ahead : (l : List Message) → any (λ (n : Message). n.submitted) l ≡ false → one_ahead l ≡ true
unfolding one_ahead any
none_ahead [] h = refl
none_ahead (m ∷ l) h = rw (or_parts m.submitted _ h).1

module _ (a : ℕ) (m : Message) (q : List Message) where
  way-own : eqb m.sent.ssi a ≡ true → under_way a (m ∷ q) ≡ m.submitted || under_way a q
  unfolding any
  way-own h = ap (any (λ (n : Message). n.submitted)) (keep-yes (λ (n : Message). eqb n.sent.ssi a) m q h)

  way-other : eqb m.sent.ssi a ≡ false → under_way a (m ∷ q) ≡ under_way a q
  way-other h = ap (any (λ (n : Message). n.submitted)) (keep-no (λ (n : Message). eqb n.sent.ssi a) m q h)

  ahead_own : eqb m.sent.ssi a ≡ true → one_ahead (of_address a (m ∷ q)) ≡ not (under_way a q)
  unfolding one_ahead
  ahead_own h = ap one_ahead (keep-yes (λ (n : Message). eqb n.sent.ssi a) m q h)

  ahead-other : eqb m.sent.ssi a ≡ false → one_ahead (of_address a (m ∷ q)) ≡ one_ahead (of_address a q)
  ahead-other h = ap one_ahead (keep-no (λ (n : Message). eqb n.sent.ssi a) m q h)

-- No message comes under way in the first pass, and the one that is stays ahead of the others or leaves.
none-thinned : (a : ℕ) (q q' : List Message) → Thinned AsBefore q q' → under_way a q ≡ false → under_way a q' ≡ false
none-thinned a q q' end h = h
none-thinned a q q' (left m {q = p} {q' = p'} t) h =
    by-test (eqb m.sent.ssi a)
    (λ e. none-thinned a p p' t (or_parts m.submitted _ (rw (way-own a m p e) at h)).1)
    (λ e. none-thinned a p p' t (rw (way-other a m p e) at h))
none-thinned a q q' (kept m m' {q = p} {q' = p'} s k t) h =
    by-test (eqb m.sent.ssi a)
    (λ e.
    let n = or_parts m.submitted _ (rw (way-own a m p e) at h) in
    rw (way-own a m' p' (rw s e), k, n.0) (none-thinned a p p' t n.1))
    (λ e. rw (way-other a m' p' (rw s e)) (none-thinned a p p' t (rw (way-other a m p e) at h)))

ahead-thinned :
    (a : ℕ) (q q' : List Message)
    → Thinned AsBefore q q'
    → one_ahead (of_address a q) ≡ true
    → one_ahead (of_address a q') ≡ true
ahead-thinned a q q' end h = h
ahead-thinned a q q' (left m {q = p} {q' = p'} t) h =
    by-test (eqb m.sent.ssi a)
    (λ e. none_ahead (of_address a p') (none-thinned a p p' t (not-true (under_way a p) (rw (ahead_own a m p e) at h))))
    (λ e. ahead-thinned a p p' t (rw (ahead-other a m p e) at h))
ahead-thinned a q q' (kept m m' {q = p} {q' = p'} s k t) h =
    by-test (eqb m.sent.ssi a)
    (λ e. rw (ahead_own a m' p' (rw s e), none-thinned a p p' t (not-true (under_way a p) (rw (ahead_own a m p e) at h))))
    (λ e. rw (ahead-other a m' p' (rw s e)) (ahead-thinned a p p' t (rw (ahead-other a m p e) at h)))

-- The second pass -----------------------------------------------------------------------------------------------------------

-- Of the second pass nothing more is said here; `way-blocked` and `ahead-first` tell what is submitted after it.
abbrev Whatever : Bool → Message → Type 0
Whatever b m' = Unit {0}

-- A first sending by its two tests: was the message submitted, and is its SSI blocked?
abbrev sent_first : Sending → Message → Bool → Bool → Visit Sending Message Record
sent_first s m b c =
    cond b
    (stay (record { receipts = s.receipts; blocked = m.sent.ssi ∷ s.blocked }) m)
    (cond c
    (stay s m)
    (record {
      state =
          record { receipts = mark Marks.reset m.sent.receipt s.receipts; blocked = m.sent.ssi ∷ s.blocked };
      stays = submitted_after m.resends m ∷ [];
      out = acknowledged m.sent ∷ [];
    }))

visited-by :
    (s : Sending) (m : Message) (b c : Bool)
    → Waiting s.receipts m
    → Visited Whatever m.sent m.submitted s.receipts (sent_first s m b c).state.receipts (sent_first s m b c).stays
visited-by s m true c w = record { touched = untouched m.sent.receipt s.receipts; remains = one m refl tt w }
visited-by s m false true w = record { touched = untouched m.sent.receipt s.receipts; remains = one m refl tt w }
visited-by s m false false w =
    record {
      touched = touched-mark Marks.reset m.sent.receipt s.receipts;
      remains =
          one (submitted_after m.resends m) refl tt
          (record {
            expects = mark-expects Marks.reset m.sent.receipt s.receipts m.sent.receipt ∙ w.expects;
            receipt = λ h. absurd (true≢false h);
            time = λ h. refl;
          });
    }

visited-first :
    (s : Sending) (m : Message)
    → Waiting s.receipts m
    → Visited Whatever m.sent m.submitted s.receipts (first_sending s m).state.receipts (first_sending s m).stays
unfolding first_sending
visited-first s m w = visited-by s m m.submitted (among m.sent.ssi s.blocked) w

passed_first :
    (s : Sending) (q : List Message)
    → Apart q
    → All (Waiting s.receipts) q
    → Passed Whatever s.receipts q (walk first_sending s q).state.receipts (walk first_sending s q).stays
unfolding walk
passed_first s [] a w = passed_none Whatever s.receipts
passed_first s (m ∷ q) a w =
    let v = visited-first s m w.0 in
    let s' : Sending = (first_sending s m).state in
    let rest = walk first_sending s' q in
    passed-more Whatever m q s.receipts s'.receipts rest.state.receipts (first_sending s m).stays rest.stays a v
    (passed_first s' q (apart-rest m q a)
    (still-waiting m.sent.receipt s.receipts s'.receipts q v.touched (alone m q a) w.1))

-- What a first sending makes of a message for its own address, and for another.
record SentFirst (s : Sending) (m : Message) (v : Visit Sending Message Record) : Type 0 where
  now : Message
  stays : v.stays ≡ now ∷ []
  sent : now.sent ≡ m.sent
  own : among m.sent.ssi v.state.blocked ≡ true
  others : (a : ℕ) → eqb m.sent.ssi a ≡ false → among a v.state.blocked ≡ among a s.blocked
  blocked : among m.sent.ssi s.blocked ≡ true → now.submitted ≡ m.submitted

among_first : (n : ℕ) (l : List ℕ) → among n (n ∷ l) ≡ true
unfolding any
among_first n l = rw (eq-eqb n n refl)

among-other : (n a : ℕ) (l : List ℕ) → eqb n a ≡ false → among a (n ∷ l) ≡ among a l
unfolding any
among-other n a l h = rw h

first_by :
    (s : Sending) (m : Message) (b c : Bool)
    → among m.sent.ssi s.blocked ≡ c
    → SentFirst s m (sent_first s m b c)
first_by s m true c f =
    record {
      now = m;
      stays = refl;
      sent = refl;
      own = among_first m.sent.ssi s.blocked;
      others = λ a h. among-other m.sent.ssi a s.blocked h;
      blocked = λ h. refl;
    }
first_by s m false true f =
    record { now = m; stays = refl; sent = refl; own = f; others = λ a h. refl; blocked = λ h. refl }
first_by s m false false f =
    record {
      now = submitted_after m.resends m;
      stays = refl;
      sent = refl;
      own = among_first m.sent.ssi s.blocked;
      others = λ a h. among-other m.sent.ssi a s.blocked h;
      blocked = λ h. clash _ h f;
    }

first-is : (s : Sending) (m : Message) → SentFirst s m (first_sending s m)
unfolding first_sending
first-is s m = first_by s m m.submitted (among m.sent.ssi s.blocked) refl

-- After the visit its own address is blocked.
own-blocked :
    (a : ℕ) (s : Sending) (m : Message)
    → eqb m.sent.ssi a ≡ true
    → among a (first_sending s m).state.blocked ≡ true
own-blocked a s m e = rw (← eqb-true m.sent.ssi a e) (first-is s m).own

-- An address that is blocked has a message under way after the second pass exactly if it had one.
way-blocked :
    (a : ℕ) (s : Sending) (q : List Message)
    → among a s.blocked ≡ true
    → under_way a (walk first_sending s q).stays ≡ under_way a q
unfolding walk
way-blocked a s [] h = refl
way-blocked a s (m ∷ q) h =
    let f = first-is s m in
    let s' : Sending = (first_sending s m).state in
    let rest : List Message = (walk first_sending s' q).stays in
    rw f.stays
    (by-test (eqb m.sent.ssi a)
    (λ e.
    let b = f.blocked (rw (eqb-true m.sent.ssi a e) h) in
    rw (way-own a f.now rest (rw f.sent e), way-own a m q e, b, way-blocked a s' q (own-blocked a s m e)))
    (λ e. rw (way-other a f.now rest (rw f.sent e), way-other a m q e) (way-blocked a s' q (f.others a e ∙ h))))

-- One that is not blocked has no message but its first under way.
ahead-first :
    (a : ℕ) (s : Sending) (q : List Message)
    → among a s.blocked ≡ false
    → one_ahead (of_address a q) ≡ true
    → one_ahead (of_address a (walk first_sending s q).stays) ≡ true
unfolding walk
ahead-first a s [] b h = h
ahead-first a s (m ∷ q) b h =
    let f = first-is s m in
    let s' : Sending = (first_sending s m).state in
    let rest : List Message = (walk first_sending s' q).stays in
    rw f.stays
    (by-test (eqb m.sent.ssi a)
    (λ e.
    let n = not-true (under_way a q) (rw (ahead_own a m q e) at h) in
    rw (ahead_own a f.now rest (rw f.sent e), way-blocked a s' q (own-blocked a s m e), n))
    (λ e.
    rw (ahead-other a f.now rest (rw f.sent e))
    (ahead-first a s' q (f.others a e ∙ b) (rw (ahead-other a m q e) at h))))

-- The tick end ----------------------------------------------------------------------------------------------------------------

owned_at :
    (h : Holders) (ps ps' : List Place)
    → ((j : ℕ) → is_free (place_at ps' j) ≡ is_free (place_at ps j))
    → (s : Sent)
    → Owned h ps s
    → Owned h ps' s
owned_at h ps ps' f s o = record { holder = o.holder; taken = f s.receipt ∙ o.taken }

-- The two passes of a tick end.
module _ (h : Holders) (l : Link) (s : Sound h l) where
  apart-before : Apart l.acknowledged
  apart-before j = omega (arith, s.apart j)

  first-pass : Passed AsBefore l.receipts l.acknowledged (retransmissions l).state (retransmissions l).stays
  unfolding retransmissions
  first-pass = passed-retransmissions l.time l.t251 l.receipts l.acknowledged apart-before s.waiting

  -- What holds between the two passes.
  pub owned-between : All (λ (m : Message). Owned h l.receipts m.sent) (retransmissions l).stays
  owned-between =
      all-thinned AsBefore (Owned h l.receipts) l.acknowledged (retransmissions l).stays first-pass.thinned s.owned

  pub ahead-between : (a : ℕ) → one_ahead (of_address a (retransmissions l).stays) ≡ true
  ahead-between a = ahead-thinned a l.acknowledged (retransmissions l).stays first-pass.thinned (s.ahead a)

  apart-between : Apart (retransmissions l).stays
  apart-between = apart-thinned AsBefore l.acknowledged (retransmissions l).stays first-pass.thinned apart-before

  second-pass :
      Passed Whatever (retransmissions l).state (retransmissions l).stays (first_sendings l).state.receipts (first_sendings l).stays
  unfolding first_sendings
  second-pass =
      passed_first (record { receipts = (retransmissions l).state; blocked = [] }) (retransmissions l).stays apart-between
      first-pass.waiting

  same-free : (j : ℕ) → is_free (place_at (first_sendings l).state.receipts j) ≡ is_free (place_at l.receipts j)
  same-free j = second-pass.free j ∙ first-pass.free j

  owned-after : All (λ (m : Message). Owned h (first_sendings l).state.receipts m.sent) (first_sendings l).stays
  owned-after =
      let P : Sent → Type 0 = Owned h l.receipts in
      let P' : Sent → Type 0 = Owned h (first_sendings l).state.receipts in
      all_map (λ (m : Message). P m.sent) (λ (m : Message). P' m.sent) (first_sendings l).stays
      (λ m. owned_at h l.receipts (first_sendings l).state.receipts same-free m.sent)
      (all-thinned Whatever P (retransmissions l).stays (first_sendings l).stays second-pass.thinned
      owned-between)

  apart-after : Apart (first_sendings l).stays
  apart-after = apart-thinned Whatever (retransmissions l).stays (first_sendings l).stays second-pass.thinned apart-between

  short-after : length (first_sendings l).stays ≤ 64
  short-after =
      omega (
        arith,
        length-thinned Whatever (retransmissions l).stays (first_sendings l).stays second-pass.thinned,
        length-thinned AsBefore l.acknowledged (retransmissions l).stays first-pass.thinned,
        s.limits.acknowledged,
      )

  ahead_after : (a : ℕ) → one_ahead (of_address a (first_sendings l).stays) ≡ true
  unfolding first_sendings any
  ahead_after a =
      ahead-first a (record { receipts = (retransmissions l).state; blocked = [] }) (retransmissions l).stays refl
      (ahead-between a)

-- What holds of the link holds after a tick end.
pub sound-tick-end : (h : Holders) (l : Link) → Sound h l → Sound h (on_tick_end l).state
unfolding on_tick_end keep
sound-tick-end h l s =
    record {
      limits =
          record {
            acknowledged = short-after h l s;
            unacknowledged = omega arith;
            due = omega arith;
            receipts = (second-pass h l s).long ∙ (first-pass h l s).long ∙ s.limits.receipts;
            rows = s.limits.rows;
          };
      owned = owned-after h l s;
      owned_too = tt;
      apart = λ i. omega (arith, apart-after h l s i);
      free = λ i. same-free h l s i ∙ s.free i;
      waiting = (second-pass h l s).waiting;
      waiting_too = tt;
      ahead = ahead_after h l s;
    }
