-- What is claimed of every run of the entry point, from what is proved of `step`.
use Prim.Native.Nat.{ℕ, ◌*◌, ◌≤◌}
use mathlib.Core.Path.{◌≡◌, ◌∙◌, refl, sym, ap, ap₂, subst}
use mathlib.Core.Bool.{true, false, not}
use mathlib.Core.List.{List, [], ◌∷◌, ◌++◌, map}
use mathlib.Core.Option.{Option, none, some}
use borrow.Author.Clash.{clash}
use borrow.Author.Tests.{eqb-true}
use lib.Dec.{eqb}
use lib.ListN.{length}
use Rattle.std.proofs.lemmas.Bool.{cond-true, cond-false}
use Rattle.lists.specs.Lists.{keep, among, All}
use Rattle.lists.proofs.Lists.{all_back}
use Rattle.lists.proofs.Choices.{by-test}
use Rattle.bits.proofs.Laws.{length-bits}
use Rattle.questions.specs.Outcome.{accepted}
use Rattle.llc_pdus.specs.Headers.{ns_of}
use Rattle.llc_pdus.specs.Frames.{frame_bits}
use Rattle.llc_pdus.specs.declared.Pdu.{Pdu}
use Rattle.llc_rule.specs.Limits.{store_bytes}
use Rattle.llc_rule.specs.Calls.{Request, Frame, frame, parsed}
use Rattle.llc_rule.specs.Link.{Link, new}
use Rattle.llc_rule.specs.Rule.{at_outset}
use Rattle.llc_rule.specs.Runs as Rule
use Rattle.llc_rule.specs.Runs.{Exchange}
use Rattle.llc_rule.specs.Past.{belongs_to, whose, History, history_of, holders_after, past, sight, held_by, taken_from}
use Rattle.llc_rule.specs.Seen.{rule_run, rule_sights, rule_after, calls, unhindered, SeesItsOwnPast, SeesTheSame, count_under_way, MarkedWhereTransmitted}
use Rattle.llc_rule.specs.Claim.{whose_after, Claims}
use Rattle.llc_rule.specs.Sound.{of_address}
use Rattle.llc_rule.specs.Repeats.{last_heard}
use Rattle.llc_rule.specs.Texts.{texts_in, shown as shown_of, unless_last, Framed, TextGoesUp}
use Rattle.llc_rule.specs.Records.{Record}
use Rattle.llc_rule.specs.ReadBack.{requests_after, ReadBack, AllReadBack}
use Rattle.llc_rule.specs.Sendings.{request_spelled, sendings, AtMostFour, EachAtMostFour}
use Rattle.llc_rule.specs.Messages.{place_at}
use Rattle.llc_rule.specs.Lost.{is_held, LostAfterFour}
use Rattle.llc_rule.proofs.Paths.{not-one}
use Rattle.llc_rule.proofs.Watches.{Watch, watch_from, Each, End}
use Rattle.llc_rule.proofs.Told as Told
use Rattle.llc_rule.proofs.Told.{lost-after-four, four-of-each}
use Rattle.llc_rule.proofs.Lost.{read-run, end-run}
use Rattle.llc_rule.proofs.Repeats.{StopsAfter, stops-run, repeats-stop}
use Rattle.llc_rule.proofs.Claim.{claims}
use Rattle.llc_state.specs.Ranges.{state_in_range}
use Rattle.llc_state.proofs.View.{new-in-range}
use Rattle.llc.specs.Entry.{lent_right}
use Rattle.llc_runs.specs.Runs.{Lent, Station, begin, left, exchange, run, after}
use Rattle.llc_runs.specs.Heard.{lent_enough, fitting, put_to}
use Rattle.llc_runs.specs.Outputs.{ReadOff}
use Rattle.llc_runs.specs.Claim.{link_at, receipts_after, messages_after, InRange, Claim}
use Rattle.llc_runs.proofs.Ones.{history-heard, unhindered-heard, each_read, watch-read, read-back-heard, each-heard, text-one, text_same, stops-one, stops_same}
use Rattle.llc_runs.proofs.Runs.{silent, run-split, Asked, asks, asks-not, fitting-append, fitting-yes, fitting-no, follows, wrong-is, stuck, begin-right, begin-wrong, as_step}
use Rattle.llc_runs.proofs.Settled.{settled-lent}
use Rattle.llc_runs.proofs.Outputs.{shown, readable, only, lines}

-- Number 1 tells of what is lent, if a call that is lent what is right is put to the link.
one-is :
    (s : Station) (c : Lent)
    → (lent_right s.store c.out ≡ true → Asked s c)
    → eqb (exchange s c).number 1 ≡ not (lent_right s.store c.out)
one-is s c a =
    by-test (lent_right s.store c.out)
    (λ e. ap (λ (x : Exchange). eqb x.number 1) (a e).asked ∙ not-one (link_at s) c.call ∙ ap not (sym e))
    (λ e. ap (λ (k : ℕ). eqb k 1) (asks-not s c e).one ∙ ap not (sym e))

begin-in-range : (store : List ℕ) → state_in_range (begin store).state ≡ true
unfolding begin
begin-in-range store = new-in-range

begin-long : (store : List ℕ) → length (begin store).store ≡ 8 * length store
unfolding begin
begin-long store = length-bits store

in-range : (store : List ℕ) (cs : List Lent) → InRange store cs
in-range store cs =
    by-test (eqb (length store) store_bytes)
    (λ right.
    let ok = (follows (begin store) cs (begin-right store right)).sane in
    record {
      state = ok.range;
      number = λ c. one-is (after (begin store) cs) c (asks (after (begin store) cs) c ok);
      length = ok.long ∙ ap (λ (k : ℕ). 8 * k) (sym (eqb-true (length store) store_bytes right));
    })
    (λ wrong.
    let w = begin-wrong store wrong in
    let n = (stuck (begin store) cs w).same in
    record {
      state = ap (λ (t : Station). state_in_range t.state) n ∙ begin-in-range store;
      number =
          λ c.
          one-is (after (begin store) cs) c
          (λ e. clash _ e (ap (λ (t : Station). lent_right t.store c.out) n ∙ wrong-is (begin store) c w));
      length = ap (λ (t : Station). length t.store) n ∙ begin-long store;
    })

-- A run, read as the run of `step` on the calls that are put to the link.
module _ (store : List ℕ) (cs : List Lent) where
  abbrev on_link : List Exchange
  on_link = Rule.run new (put_to store cs)

  pub history-is : history_of (run (begin store) cs) ≡ history_of on_link
  history-is = history-heard _ (run (begin store) cs) (silent (begin store) cs) ∙ ap history_of (as_step store cs).heard

  pub unhindered-is : unhindered (run (begin store) cs) ≡ unhindered on_link
  unhindered-is = unhindered-heard (run (begin store) cs) (silent (begin store) cs) ∙ ap unhindered (as_step store cs).heard

  held-are :
      (a : ℕ)
      → held_by a (holders_after (run (begin store) cs)) 0 (receipts_after store cs)
      ≡ held_by a (holders_after on_link) 0 (Rule.after new (put_to store cs)).receipts
  held-are a = ap₂ (λ (k : History) (l : Link). held_by a k.holders 0 l.receipts) history-is (as_step store cs).link

  -- What holds of the link's history and of the link holds of this one's.
  by-history : (P : History → Type 0) → P (history_of on_link) → P (history_of (run (begin store) cs))
  by-history P p = subst P (sym history-is) p

  by-link : (P : Link → Type 0) → P (Rule.after new (put_to store cs)) → P (link_at (after (begin store) cs))
  by-link P p = subst P (sym (as_step store cs).link) p

  on-link : unhindered (run (begin store) cs) ≡ true → unhindered on_link ≡ true
  on-link u = sym unhindered-is ∙ u

-- Demand 3.
sees-own :
    (store : List ℕ) (cs : List Lent)
    → unhindered (run (begin store) cs) ≡ true
    → (a : ℕ)
    → SeesItsOwnPast (run (begin store) cs) (receipts_after store cs) a
sees-own store cs u a =
    let d = claims.demand3 (put_to store cs) (on-link store cs u) a in
    let p : past a (run (begin store) cs) ≡ past a (on_link store cs) = ap (λ (k : History). k.past a) (history-is store cs) in
    record {
      seen = ap (map (sight a)) p ∙ d.seen ∙ ap (λ (es : List Exchange). rule_sights at_outset (calls es)) (sym p);
      receipts =
          held-are store cs a
          ∙ d.receipts
          ∙ ap (λ (es : List Exchange). taken_from 0 (rule_after at_outset (calls es)).receipts) (sym p);
      alone = ap (λ (k : History). k.strays a) (history-is store cs) ∙ d.alone;
    }

-- The same of what is read off a run.
sees-read :
    (store : List ℕ) (cs : List Lent) (es : List Exchange)
    → ReadOff (begin store) cs es
    → unhindered es ≡ true
    → (a : ℕ)
    → SeesItsOwnPast es (receipts_after store cs) a
sees-read store cs es r u a =
    let e = only store cs es r in
    subst (λ (x : List Exchange). SeesItsOwnPast x (receipts_after store cs) a) (sym e)
    (sees-own store cs (ap unhindered (sym e) ∙ u) a)

-- What an address sees of two lists of calls, on the link and from the entry point.
abbrev AlikeOnLink : ℕ → List (List ℕ) → List (List ℕ) → Type 0
AlikeOnLink a cs ds =
    SeesTheSame a (Rule.run new cs) (Rule.after new cs).receipts (Rule.run new ds) (Rule.after new ds).receipts

abbrev Alike : ℕ → List ℕ → List Lent → List Lent → Type 0
Alike a store cs ds =
    SeesTheSame a (run (begin store) cs) (receipts_after store cs) (run (begin store) ds) (receipts_after store ds)

-- Calls that change places: what is seen of the calls that are put to the link is seen of the run.
sees-same :
    (a : ℕ) (store : List ℕ) (cs ds : List Lent)
    → AlikeOnLink a (put_to store cs) (put_to store ds)
    → Alike a store cs ds
sees-same a store cs ds s =
    let p : past a (run (begin store) cs) ≡ past a (on_link store cs) = ap (λ (k : History). k.past a) (history-is store cs) in
    let q : past a (run (begin store) ds) ≡ past a (on_link store ds) = ap (λ (k : History). k.past a) (history-is store ds) in
    record {
      same_calls = ap calls p ∙ s.same_calls ∙ ap calls (sym q);
      same_sights = ap (map (sight a)) p ∙ s.same_sights ∙ ap (map (sight a)) (sym q);
      same_receipts = held-are store cs a ∙ s.same_receipts ∙ sym (held-are store ds a);
    }

sees-itself : (a : ℕ) (cs : List (List ℕ)) → AlikeOnLink a cs cs
sees-itself a cs = record { same_calls = refl; same_sights = refl; same_receipts = refl }

-- The same calls are put to the link.
sees-as-put : (a : ℕ) (store : List ℕ) (cs ds : List Lent) → put_to store cs ≡ put_to store ds → Alike a store cs ds
sees-as-put a store cs ds e =
    sees-same a store cs ds (subst (AlikeOnLink a (put_to store cs)) e (sees-itself a (put_to store cs)))

-- Two calls of which one is not put to the link, in either order.
one-put : (c d : Lent) (later : List Lent) → lent_enough c ≡ false → fitting (c ∷ d ∷ later) ≡ fitting (d ∷ c ∷ later)
one-put c d later f =
    fitting-no c (d ∷ later) f
    ∙ by-test (lent_enough d)
    (λ g.
    fitting-yes d later g
    ∙ ap (λ (x : List (List ℕ)). d.call ∷ x) (sym (fitting-no c later f))
    ∙ sym (fitting-yes d (c ∷ later) g))
    (λ g. fitting-no d later g ∙ sym (fitting-no c later f) ∙ sym (fitting-no d (c ∷ later) g))

pub two-put :
    (c d : Lent) (later : List Lent)
    → lent_enough c ≡ true
    → lent_enough d ≡ true
    → fitting (c ∷ d ∷ later) ≡ c.call ∷ d.call ∷ fitting later
two-put c d later f g = fitting-yes c (d ∷ later) f ∙ ap (λ (x : List (List ℕ)). c.call ∷ x) (fitting-yes d later g)

-- Calls before others, on a store of the right length.
pub put_right :
    (store : List ℕ) (before cs : List Lent) (ds : List (List ℕ))
    → eqb (length store) store_bytes ≡ true
    → fitting cs ≡ ds
    → put_to store (before ++ cs) ≡ put_to store before ++ ds
put_right store before cs ds right e =
    cond-true _ (fitting (before ++ cs)) [] right
    ∙ fitting-append before cs
    ∙ ap₂ (λ (x y : List (List ℕ)). x ++ y) (sym (cond-true _ (fitting before) [] right)) e

put_wrong : (store : List ℕ) (cs ds : List Lent) → eqb (length store) store_bytes ≡ false → put_to store cs ≡ put_to store ds
put_wrong store cs ds wrong = cond-false _ (fitting cs) [] wrong ∙ sym (cond-false _ (fitting ds) [] wrong)

put_same :
    (store : List ℕ) (before cs ds : List Lent)
    → eqb (length store) store_bytes ≡ true
    → fitting cs ≡ fitting ds
    → put_to store (before ++ cs) ≡ put_to store (before ++ ds)
put_same store before cs ds right e =
    put_right store before cs (fitting ds) right e ∙ sym (put_right store before ds (fitting ds) right refl)

swapped :
    (store : List ℕ) (before : List Lent) (c d : Lent) (later : List Lent) (s t : ℕ)
    → whose_after (run (begin store) before) c.call ≡ belongs_to s
    → whose_after (run (begin store) (before ++ (c ∷ []))) d.call ≡ belongs_to t
    → eqb s t ≡ false
    → unhindered (run (begin store) (before ++ (c ∷ d ∷ later))) ≡ true
    → unhindered (run (begin store) (before ++ (d ∷ c ∷ later))) ≡ true
    → (a : ℕ)
    → Alike a store (before ++ (c ∷ d ∷ later)) (before ++ (d ∷ c ∷ later))
unfolding keep
swapped store before c d later s t c-is d-is differ one other a =
    let cs : List Lent = before ++ (c ∷ d ∷ later) in
    let ds : List Lent = before ++ (d ∷ c ∷ later) in
    by-test (eqb (length store) store_bytes)
    (λ right.
    by-test (lent_enough c)
    (λ f.
    by-test (lent_enough d)
    (λ g.
    let put : List (List ℕ) = put_to store before in
    let p = put_right store before (c ∷ d ∷ later) (c.call ∷ d.call ∷ fitting later) right (two-put c d later f g) in
    let q = put_right store before (d ∷ c ∷ later) (d.call ∷ c.call ∷ fitting later) right (two-put d c later g f) in
    let with-c = put_right store before (c ∷ []) (c.call ∷ []) right (fitting-yes c [] f) in
    sees-same a store cs ds
    (subst (λ (x : List (List ℕ)). AlikeOnLink a x (put_to store ds)) (sym p)
    (subst (AlikeOnLink a (put ++ (c.call ∷ d.call ∷ fitting later))) (sym q)
    (claims.swap put c.call d.call (fitting later) s t
    (ap (λ (k : History). whose k.holders c.call) (sym (history-is store before)) ∙ c-is)
    (ap (λ (x : List (List ℕ)). whose_after (Rule.run new x) d.call) (sym with-c)
    ∙ ap (λ (k : History). whose k.holders d.call) (sym (history-is store (before ++ (c ∷ []))))
    ∙ d-is)
    differ
    (ap (λ (x : List (List ℕ)). unhindered (Rule.run new x)) (sym p) ∙ sym (unhindered-is store cs) ∙ one)
    (ap (λ (x : List (List ℕ)). unhindered (Rule.run new x)) (sym q) ∙ sym (unhindered-is store ds) ∙ other)
    a))))
    (λ g. sees-as-put a store cs ds (put_same store before (c ∷ d ∷ later) (d ∷ c ∷ later) right (sym (one-put d c later g)))))
    (λ f. sees-as-put a store cs ds (put_same store before (c ∷ d ∷ later) (d ∷ c ∷ later) right (one-put c d later f))))
    (λ wrong. sees-as-put a store cs ds (put_wrong store cs ds wrong))

calls-run : (s : Station) (cs : List Lent) → calls (run s cs) ≡ map (λ (c : Lent). c.call) cs
unfolding run exchange
calls-run s [] = refl
calls-run s (c ∷ cs) = ap (λ (x : List (List ℕ)). c.call ∷ x) (calls-run (left s c) cs)

-- What is read of a receipt, calls that got number 1 passed over.
read_of : (store : List ℕ) (cs : List Lent) (i : ℕ) → Each i Told.at_outset none (run (begin store) cs)
read_of store cs i =
    each_read i Told.at_outset none (run (begin store) cs) (silent (begin store) cs)
    (subst (Each i Told.at_outset none) (sym (as_step store cs).heard) (read-run (put_to store cs) i))

end-of-run :
    (store : List ℕ) (cs : List Lent) (i : ℕ)
    → End (watch_from i Told.at_outset none (run (begin store) cs)) (place_at (receipts_after store cs) i) (is_held i (messages_after store cs))
end-of-run store cs i =
    let w : Option Watch = watch_from i Told.at_outset none (run (begin store) cs) in
    by-link store cs (λ (l : Link). End w (place_at l.receipts i) (is_held i l.acknowledged))
    (subst (λ (o : Option Watch). End o (place_at (Rule.after new (put_to store cs)).receipts i) (is_held i (Rule.after new (put_to store cs)).acknowledged))
    (sym
    (watch-read i Told.at_outset none (run (begin store) cs) (silent (begin store) cs)
    ∙ ap (watch_from i Told.at_outset none) (as_step store cs).heard))
    (end-run (put_to store cs) i))

-- Demand 3 and what follows from it.
runs : (store : List ℕ) → Claims (λ (c : Lent). c.call) (run (begin store)) (receipts_after store) (messages_after store)
runs store =
    record {
      calls = calls-run (begin store);
      demand3 = sees-own store;
      swap = swapped store;
      one_under_way =
          λ cs u a.
          by-history store cs (λ (k : History). count_under_way (rule_after at_outset (calls (k.past a))).acknowledged ≤ 1)
          (claims.one_under_way (put_to store cs) (on-link store cs u) a);
      one_among_held =
          λ cs a. by-link store cs (λ (l : Link). count_under_way (of_address a l.acknowledged) ≤ 1) (claims.one_among_held (put_to store cs) a);
      where_transmitted =
          λ cs.
          by-link store cs (λ (l : Link). All (MarkedWhereTransmitted l.receipts) l.acknowledged)
          (claims.where_transmitted (put_to store cs));
      where_transmitted_by_rule =
          λ cs u a.
          by-history store cs
          (λ (k : History).
          All (MarkedWhereTransmitted (rule_after at_outset (calls (k.past a))).receipts)
          (rule_after at_outset (calls (k.past a))).acknowledged)
          (claims.where_transmitted_by_rule (put_to store cs) (on-link store cs u) a);
      texts =
          λ cs.
          record {
            each =
                each-heard TextGoesUp text-one text_same (run (begin store) cs)
                (λ before e later split. (claims.texts (put_to store cs)).each before e later (sym (as_step store cs).heard ∙ split));
          };
      repeats =
          λ cs.
          repeats-stop (run (begin store) cs)
          (each-heard StopsAfter stops-one stops_same (run (begin store) cs)
          (λ before e later split. stops-run (put_to store cs) before e later (sym (as_step store cs).heard ∙ split)));
      read_back =
          λ cs.
          read-back-heard (run (begin store) cs) (silent (begin store) cs)
          (subst AllReadBack (sym (as_step store cs).heard) (claims.read_back (put_to store cs)));
      four = λ cs. four-of-each (run (begin store) cs) (read_of store cs);
      four_by_rule =
          λ cs u a.
          by-history store cs (λ (k : History). EachAtMostFour (rule_run at_outset (calls (k.past a))))
          (claims.four_by_rule (put_to store cs) (on-link store cs u) a);
      lost =
          λ cs.
          lost-after-four (run (begin store) cs) (receipts_after store cs) (messages_after store cs) (read_of store cs) (end-of-run store cs);
      lost_by_rule =
          λ cs u a.
          by-history store cs
          (λ (k : History).
          LostAfterFour (rule_run at_outset (calls (k.past a)))
          (rule_after at_outset (calls (k.past a))).receipts
          (rule_after at_outset (calls (k.past a))).acknowledged)
          (claims.lost_by_rule (put_to store cs) (on-link store cs u) a);
      settled = settled-lent store;
    }

-- Four, by the calls: after any calls and before any calls.
pub four-later :
    (store : List ℕ) (before : List Lent) (c : Lent) (r : Request) (later : List Lent)
    → (exchange (after (begin store) before) c).number ≡ 0
    → request_spelled c.call ≡ some r
    → AtMostFour r (sendings r.receipt (run (left (after (begin store) before) c) later))
unfolding exchange
four-later store before c r later n q =
    let s : Station = after (begin store) before in
    ((runs store).four (before ++ (c ∷ later))).each (run (begin store) before) (exchange s c) (run (left s c) later) r
    (run-split (begin store) before c later)
    n
    q

-- A text that came in, by the calls: after any calls.
text_at :
    (store : List ℕ) (before : List Lent) (c : Lent) → TextGoesUp (run (begin store) before) (exchange (after (begin store) before) c)
text_at store before c =
    let s : Station = after (begin store) before in
    ((runs store).texts (before ++ (c ∷ []))).each (run (begin store) before) (exchange s c) (run (left s c) [])
    (run-split (begin store) before c [])

module _ (store : List ℕ) (before : List Lent) (c : Lent) (f : Frame) where
  pub text-later :
      (p : Pdu) (text : List ℕ)
      → parsed c.call ≡ accepted (frame f)
      → f.pdu ≡ frame_bits p text
      → (exchange (after (begin store) before) c).number ≡ 0
      → texts_in (exchange (after (begin store) before) c).records
      ≡ unless_last (last_heard f.ssi (run (begin store) before)) (ns_of p) (shown_of p text)
  unfolding exchange
  text-later p text e is z = (text_at store before c).up f p text e is z

  pub read-later :
      (p : Pdu) (text : List ℕ)
      → parsed c.call ≡ accepted (frame f)
      → f.pdu ≡ frame_bits p text
      → among (exchange (after (begin store) before) c).number (9 ∷ 10 ∷ 11 ∷ 12 ∷ []) ≡ false
  unfolding exchange
  read-later p text e is = (text_at store before c).read f p text e is

  pub framed-later :
      parsed c.call ≡ accepted (frame f)
      → (exchange (after (begin store) before) c).number ≡ 0
      → Framed f.pdu
  unfolding exchange
  framed-later e z = (text_at store before c).only f e z

-- What is handed down is read back: of one record of a call.
module _
    (store : List ℕ) (cs : List Lent) (before : List Exchange) (e : Exchange) (later : List Exchange) (front rest : List Record) (r : Record)
    (split : run (begin store) cs ≡ before ++ (e ∷ later))
    (there : e.records ≡ front ++ (r ∷ rest))
  where
    pub read_at : ReadBack (requests_after before) r
    read_at =
        let all = subst (All (ReadBack (requests_after before))) there (((runs store).read_back cs).each before e later split) in
        (all_back (ReadBack (requests_after before)) front (r ∷ rest) all).0

pub claim : Claim
claim =
    record {
      shown = shown;
      in_range = in-range;
      as_step = as_step;
      readable = readable;
      only = only;
      lines = lines;
      runs = runs;
      demand3_read = sees-read;
    }
