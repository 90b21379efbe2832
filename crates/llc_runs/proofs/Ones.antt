-- Calls that got number 1 are in no past and change no holder, and they give no record: a run may be read without them.
use Prim.Native.Nat.{ℕ}
use native.Mathlib.Omega.{arith}
use mathlib.Core.Path.{◌≡◌, ◌∙◌, refl, sym, ap, ap₂, subst}
use mathlib.Core.Bool.{Bool, true, false, cond, not, ◌&&◌, false≢true}
use mathlib.Core.List.{List, [], ◌∷◌, ◌++◌, append-nil}
use mathlib.Core.Option.{Option, none, some}
use borrow.Author.Tests.{eqb-true, not-false}
use lib.Dec.{eqb}
use Rattle.std.proofs.lemmas.Bool.{cond-false}
use Rattle.lists.specs.Lists.{keep, any, all, among, All}
use Rattle.lists.proofs.Lists.{keep-yes, keep-no, keep_append, all_back, all-unit}
use Rattle.lists.proofs.Choices.{by-test}
use Rattle.llc_pdus.specs.Headers.{ns_of}
use Rattle.llc_rule.specs.Calls.{parsed}
use Rattle.llc_rule.specs.Records.{Record, ssi_of, Sent}
use Rattle.llc_rule.specs.Runs.{Exchange}
use Rattle.llc_rule.specs.Past.{nobody, Holding, stays, about, Holders, held_after, done_to, holders, whose, concerns, left_out, in_past, History, and_then, history}
use Rattle.llc_rule.specs.Seen.{hindrances, unhindered}
use Rattle.llc_rule.specs.Sendings.{ends, handed, sendings}
use Rattle.llc_rule.specs.Lost.{Event, other, event, event_in, Clock, clock_next}
use Rattle.llc_rule.specs.ReadBack.{Requests, requests_then, requests_from, requests_after, ReadBack, AllReadBack}
use Rattle.llc_rule.specs.Repeats.{Hearing, hears, neither, hearing, heard_in, last_next, last_from, last_heard}
use Rattle.llc_rule.specs.Texts.{shown, unless_last, TextGoesUp}
use Rattle.llc_rule.proofs.Events.{takes-nothing}
use Rattle.llc_rule.proofs.Watches.{Watch, goes_on, if_any, watched_by, watched, watch_from, GoodBy, GoodIn, Each, first_fine}
use Rattle.llc_rule.proofs.Repeats.{Stops, StopsAfter}
use Rattle.llc_runs.specs.Heard.{was_heard, heard_of}

-- A call that got number 1 gave no record.
abbrev pub Silent : Exchange → Type 0
Silent e = e.number ≡ 1 → e.records ≡ []

-- What a reading of exchanges that passes over those with number 1 gives of all, it gives of the others; with a Q of exchanges.
pub read-heard :
    {S X : Type 0} (Q : Exchange → Type 0) (f : S → List Exchange → X)
    → ((s : S) (e : Exchange) (es ds : List Exchange) → ((t : S) → f t es ≡ f t ds) → f s (e ∷ es) ≡ f s (e ∷ ds))
    → ((s : S) (e : Exchange) (es : List Exchange) → e.number ≡ 1 → Q e → f s (e ∷ es) ≡ f s es)
    → (s : S) (es : List Exchange)
    → All Q es
    → f s es ≡ f s (heard_of es)
unfolding keep
read-heard Q f same over s [] q = refl
read-heard Q f same over s (e ∷ es) q =
    by-test (was_heard e)
    (λ w.
    same s e es (heard_of es) (λ t. read-heard Q f same over t es q.1) ∙ ap (f s) (sym (keep-yes was_heard e es w)))
    (λ w.
    let n = eqb-true e.number 1 (not-false (eqb e.number 1) w) in
    over s e es n q.0 ∙ read-heard Q f same over s es q.1 ∙ ap (f s) (sym (keep-no was_heard e es w)))

-- One such call.
pub done-one : (e : Exchange) → e.number ≡ 1 → done_to e ≡ stays
unfolding done_to
done-one e n = cond-false _ (about e.call).to_holding stays (ap (λ (k : ℕ). eqb k 0) n)

past_one : (a : ℕ) (h : Holders) (e : Exchange) → e.number ≡ 1 → in_past a h e ≡ false
unfolding in_past
past_one a h e n = ap (λ (k : ℕ). not (left_out k) && concerns a (whose h e.call)) n

history-one : (k : History) (e : Exchange) → e.number ≡ 1 → e.records ≡ [] → and_then e k ≡ k
unfolding and_then holders keep
history-one k e n g =
    let past_is : (a : ℕ) → k.past a ++ cond (in_past a k.holders e) (e ∷ []) [] ≡ k.past a =
    λ a.
    ap (λ (x : List Exchange). k.past a ++ x) (cond-false _ (e ∷ []) [] (past_one a k.holders e n)) ∙ append-nil (k.past a) in
    let strays-are : (a : ℕ) → k.strays a ++ cond (in_past a k.holders e) [] (keep (λ (r : Record). eqb (ssi_of r) a) e.records) ≡ k.strays a =
    λ a.
    ap (λ (x : List Record). k.strays a ++ x)
    (cond-false _ [] (keep (λ (r : Record). eqb (ssi_of r) a) e.records) (past_one a k.holders e n)
    ∙ ap (keep (λ (r : Record). eqb (ssi_of r) a)) g)
    ∙ append-nil (k.strays a) in
    λ i.
    record {
      holders = held_after (done-one e n i) k.holders;
      past = λ a. past_is a i;
      strays = λ a. strays-are a i;
    }

none-heard : (e : Exchange) → e.number ≡ 1 → heard_in e ≡ neither
unfolding heard_in
none-heard e n = cond-false _ (hearing (parsed e.call)) neither (ap (λ (k : ℕ). eqb k 0) n)

-- So it is of the history of a run.
pub history-heard : (k : History) (es : List Exchange) → All Silent es → history k es ≡ history k (heard_of es)
unfolding history
history-heard k es q =
    read-heard Silent history
    (λ s e es ds r. r (and_then e s))
    (λ s e es n g. ap (λ (x : History). history x es) (history-one s e n (g n)))
    k es q

pub unhindered-heard : (es : List Exchange) → All Silent es → unhindered es ≡ unhindered (heard_of es)
unfolding unhindered all any
unhindered-heard es q =
    let free : ℕ → Bool = λ (k : ℕ). not (among k hindrances) in
    read-heard {S = Unit {0}} Silent (λ u es. unhindered es)
    (λ s e es ds r. ap (λ (x : Bool). free e.number && x) (r tt))
    (λ s e es n g. ap (λ (k : ℕ). free k && unhindered es) n)
    tt es q

pub sendings-heard : (i : ℕ) (es : List Exchange) → All Silent es → sendings i es ≡ sendings i (heard_of es)
unfolding sendings handed
sendings-heard i es q =
    read-heard Silent sendings
    (λ j e es ds r. ap (λ (x : List Sent). cond (ends j (done_to e)) [] (handed j e.records ++ x)) (r j))
    (λ j e es n g.
    cond-false _ [] (handed j e.records ++ sendings j es) (ap (ends j) (done-one e n))
    ∙ ap (λ (rs : List Record). handed j rs ++ sendings j es) (g n))
    i es q

-- And of what is read of a receipt.
none_told : (e : Exchange) → e.number ≡ 1 → event_in e ≡ other
unfolding event_in
none_told e n = cond-false _ (event (parsed e.call)) other (ap (λ (k : ℕ). eqb k 0) n)

any_same : (i : ℕ) (k : Clock) (ss : List Sent) (w : Option Watch) → if_any (goes_on i k other ss) w ≡ w
any_same i k ss none = refl
any_same i k ss (some u) = refl

module _ (i : ℕ) (k : Clock) (w : Option Watch) (e : Exchange) (one : e.number ≡ 1) (silent : e.records ≡ []) where
  none-handed : handed i e.records ≡ []
  unfolding handed
  none-handed = ap (handed i) silent

  watched-one : watched i k e w ≡ w
  unfolding watched
  watched-one =
      ap₂ (λ (v : Event) (x : Holding). watched_by i k v x (handed i e.records) w) (none_told e one) (done-one e one)
      ∙ any_same i k (handed i e.records) w

  good-by : (o : Option Watch) → GoodBy i k o other stays []
  good-by none = refl
  good-by (some u) =
      record {
        untaken = λ r t. takes-nothing stays refl r t;
        sent = tt;
        unreported = λ order how t. let no : false ≡ true = cc in absurd (false≢true no);
      }

  good-one : GoodIn i k w e
  good-one =
      subst (λ (v : Event). GoodBy i k w v (done_to e) (handed i e.records)) (sym (none_told e one))
      (subst (λ (x : Holding). GoodBy i k w other x (handed i e.records)) (sym (done-one e one))
      (subst (GoodBy i k w other stays) (sym none-handed) (good-by w)))

  clock-one : clock_next k (event_in e) ≡ k
  clock-one = ap (clock_next k) (none_told e one)

pub each_read :
    (i : ℕ) (k : Clock) (w : Option Watch) (es : List Exchange) → All Silent es → Each i k w (heard_of es) → Each i k w es
unfolding keep
each_read i k w [] q each = each
each_read i k w (e ∷ es) q each =
    by-test (was_heard e)
    (λ h.
    let here = subst (Each i k w) (keep-yes was_heard e es h) each in
    (here.0, (here.1.0, each_read i (clock_next k (event_in e)) (watched i k e w) es q.1 here.1.1)))
    (λ h.
    let one = eqb-true e.number 1 (not-false (eqb e.number 1) h) in
    let none_here = q.0 one in
    let rest = each_read i k w es q.1 (subst (Each i k w) (keep-no was_heard e es h) each) in (
      first_fine i k w es rest,
      (
        good-one i k w e one none_here,
        subst (λ (c : Clock). Each i c (watched i k e w) es) (sym (clock-one i k w e one none_here))
            (subst (λ (o : Option Watch). Each i k o es) (sym (watched-one i k w e one none_here)) rest),
      ),
    ))

pub watch-read :
    (i : ℕ) (k : Clock) (w : Option Watch) (es : List Exchange) → All Silent es → watch_from i k w es ≡ watch_from i k w (heard_of es)
unfolding watch_from keep
watch-read i k w [] q = refl
watch-read i k w (e ∷ es) q =
    by-test (was_heard e)
    (λ h. watch-read i (clock_next k (event_in e)) (watched i k e w) es q.1 ∙ ap (watch_from i k w) (sym (keep-yes was_heard e es h)))
    (λ h.
    let one = eqb-true e.number 1 (not-false (eqb e.number 1) h) in
    let none_here = q.0 one in
    ap₂ (λ (c : Clock) (o : Option Watch). watch_from i c o es) (clock-one i k w e one none_here) (watched-one i k w e one none_here)
    ∙ watch-read i k w es q.1
    ∙ ap (watch_from i k w) (sym (keep-no was_heard e es h)))

-- And of the last N(S) accepted from an address.
last-heard : (a : ℕ) (es : List Exchange) → last_heard a es ≡ last_heard a (heard_of es)
unfolding last_from
last-heard a es =
    read-heard (λ (e : Exchange). Unit {0}) (last_from a)
    (λ last e es ds r. r (last_next a last (heard_in e)))
    (λ last e es n q. ap (λ (h : Hearing). last_from a (last_next a last h) es) (none-heard e n))
    none es (all-unit es)

-- And of the requests that hold receipts.
requests-heard : (es : List Exchange) → requests_after es ≡ requests_after (heard_of es)
unfolding requests_from
requests-heard es =
    read-heard (λ (e : Exchange). Unit {0}) requests_from
    (λ h e es ds r. r (requests_then (done_to e) h))
    (λ h e es n q. ap (λ (x : Holding). requests_from (requests_then x h) es) (done-one e n))
    nobody es (all-unit es)

-- What holds of each exchange by those before it that were heard, and of those with number 1 anyhow, holds of all.
module _
    (P : List Exchange → Exchange → Type 0)
    (ones : (before : List Exchange) (e : Exchange) → e.number ≡ 1 → P before e)
    (same : (before : List Exchange) (e : Exchange) → P (heard_of before) e → P before e)
  where
    pub each-heard :
        (es : List Exchange)
        → ((before : List Exchange) (e : Exchange) (later : List Exchange) → heard_of es ≡ before ++ (e ∷ later) → P before e)
        → (before : List Exchange) (e : Exchange) (later : List Exchange)
        → es ≡ before ++ (e ∷ later)
        → P before e
    unfolding keep
    each-heard es each before e later split =
        by-test (was_heard e)
        (λ w.
        same before e
        (each (heard_of before) e (heard_of later)
        (ap heard_of split
        ∙ keep_append was_heard before (e ∷ later)
        ∙ ap (λ (x : List Exchange). heard_of before ++ x) (keep-yes was_heard e later w))))
        (λ w. ones before e (eqb-true e.number 1 (not-false (eqb e.number 1) w)))

-- A call that got number 1 was not refused by its bits, and was not accepted.
pub text-one : (before : List Exchange) (e : Exchange) → e.number ≡ 1 → TextGoesUp before e
unfolding any
text-one before e n =
    record {
      read = λ f p text q is. ap (λ (k : ℕ). among k (9 ∷ 10 ∷ 11 ∷ 12 ∷ [])) n;
      up = λ f p text q is z. absurd (omega arith);
      only = λ f q z. absurd (omega arith);
    }

pub text_same : (before : List Exchange) (e : Exchange) → TextGoesUp (heard_of before) e → TextGoesUp before e
text_same before e t =
    record {
      read = t.read;
      up =
          λ f p text q is z.
          t.up f p text q is z ∙ ap (λ (x : Option Bool). unless_last x (ns_of p) (shown p text)) (sym (last-heard f.ssi before));
      only = t.only;
    }

pub stops-one : (before : List Exchange) (e : Exchange) → e.number ≡ 1 → StopsAfter before e
stops-one before e n a ns sdu h = let no : neither ≡ hears a ns sdu = sym (none-heard e n) ∙ h in let f : false ≡ true = cc in absurd (false≢true f)

pub stops_same : (before : List Exchange) (e : Exchange) → StopsAfter (heard_of before) e → StopsAfter before e
stops_same before e t a ns sdu h =
    subst (λ (x : Option Bool). Stops a x ns sdu e.records) (sym (last-heard a before)) (t a ns sdu h)

-- What is read back of an exchange that gave no record, if it got number 1.
abbrev pub ReadBackOf : List Exchange → Exchange → Type 0
ReadBackOf before e = Silent e → All (ReadBack (requests_after before)) e.records

read_one : (before : List Exchange) (e : Exchange) → e.number ≡ 1 → ReadBackOf before e
read_one before e n q = subst (All (ReadBack (requests_after before))) (sym (q n)) tt

read_same : (before : List Exchange) (e : Exchange) → ReadBackOf (heard_of before) e → ReadBackOf before e
read_same before e r q = subst (λ (h : Requests). All (ReadBack h) e.records) (sym (requests-heard before)) (r q)

pub read-back-heard : (es : List Exchange) → All Silent es → AllReadBack (heard_of es) → AllReadBack es
read-back-heard es q r =
    record {
      each =
          λ before e later split.
          each-heard ReadBackOf read_one read_same es (λ before e later split s. r.each before e later split) before e later split
          (all_back Silent before (e ∷ later) (subst (All Silent) split q)).0;
    }
