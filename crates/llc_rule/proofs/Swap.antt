-- Two neighbouring calls about different addresses may change places, and no address sees a difference.
use Prim.Native.Nat.{ℕ}
use mathlib.Core.Path.{◌≡◌, ◌∙◌, refl, sym, ap, ap₂}
use mathlib.Core.Bool.{Bool, true, false, not, ◌&&◌, false≢true}
use mathlib.Core.List.{List, [], ◌∷◌, ◌++◌, map, map-append, append-nil}
use mathlib.Core.Option.{Option, none, some}
use borrow.Author.Tests.{eqb-true, eqb-false, eq-eqb, ne_eqb}
use lib.Dec.{eqb}
use Rattle.std.proofs.lemmas.Bool.{and_parts, and_right}
use Rattle.lists.specs.Lists.{all, among}
use Rattle.lists.proofs.Choices.{by-test}
use Rattle.questions.specs.Outcome.{number}
use Rattle.llc_rule.specs.Messages.{place_at, is_free}
use Rattle.llc_rule.specs.Link.{Link, new}
use Rattle.llc_rule.specs.Step.{step}
use Rattle.llc_rule.specs.Rule.{Own, rule}
use Rattle.llc_rule.specs.Runs.{left, given, Exchange, exchange, run, after}
use Rattle.llc_rule.specs.Past.{Whom, everybody, address, holder_of, no_one, about, Holders, Whose, belongs_to, holder's, whose_of, whose, concerns, left_out, in_past, History, nothing_yet, and_then, history, Sight, sight, is_holder, taken_from}
use Rattle.llc_rule.specs.Seen.{calls, hindrances, unhindered, SeesTheSame}
use Rattle.llc_rule.specs.Claim.{whose_after}
use Rattle.llc_rule.specs.Sound.{Sound}
use Rattle.llc_rule.proofs.Own.{own, place-blank}
use Rattle.llc_rule.proofs.SeenCalls.{Unhindered}
use Rattle.llc_rule.proofs.SoundCalls.{sound-new, sound-next}
use Rattle.llc_rule.proofs.Demand3.{Mine, mine, others, holder-somebody, held-own, calls_last}

-- A moment of a run: what is known of it, and the link. The next one, after a call.
record Moment : Type 0 where
  known : History
  link : Link

abbrev next : Moment → List ℕ → Moment
next x c = record { known = and_then (exchange c (step x.link c)) x.known; link = left x.link (step x.link c) }

abbrev ends : Moment → List (List ℕ) → Moment
ends x cs = record { known = history x.known (run x.link cs); link = after x.link cs }

abbrev SoundAt : Moment → Type 0
SoundAt x = Sound x.known.holders x.link

-- Whose a call is at a moment.
abbrev whose_at : Moment → List ℕ → Whose
whose_at x c = whose x.known.holders c

abbrev number_at : Moment → List ℕ → ℕ
number_at x c = number (step x.link c)

-- Two moments at which an address has seen the same and has the same.
record Alike (a : ℕ) (x y : Moment) : Type 0 where
  same-calls : calls (x.known.past a) ≡ calls (y.known.past a)
  same-sights : map (sight a) (x.known.past a) ≡ map (sight a) (y.known.past a)
  same-own : own a x.known.holders x.link ≡ own a y.known.holders y.link

alike-itself : (a : ℕ) (x : Moment) → Alike a x x
alike-itself a x = record { same-calls = refl; same-sights = refl; same-own = refl }

turned : (a : ℕ) (x y : Moment) → Alike a x y → Alike a y x
turned a x y s = record { same-calls = sym s.same-calls; same-sights = sym s.same-sights; same-own = sym s.same-own }

-- A call that does not concern the address, on the one side.
own-other :
    (a : ℕ) (x : Moment) (c : List ℕ)
    → SoundAt x
    → concerns a (whose_at x c) ≡ false
    → own a (next x c).known.holders (next x c).link ≡ own a x.known.holders x.link
unfolding and_then in_past
own-other a x c ok w = (others a x.known.holders x.link c ok (and_right (not (left_out (number_at x c))) _ w)).next

alike-other : (a : ℕ) (x y : Moment) (c : List ℕ) → SoundAt x → concerns a (whose_at x c) ≡ false → Alike a x y → Alike a (next x c) y
unfolding and_then in_past
alike-other a x y c ok w s =
    let p = and_right (not (left_out (number_at x c))) _ w in
    let n = append-nil (x.known.past a) in
    record {
      same-calls = rw (p, n) s.same-calls;
      same-sights = rw (p, n) s.same-sights;
      same-own = own-other a x c ok w ∙ s.same-own;
    }

-- A call that concerns it on both sides.
alike-mine :
    (a : ℕ) (x y : Moment) (c : List ℕ)
    → concerns a (whose_at x c) ≡ true
    → concerns a (whose_at y c) ≡ true
    → Mine a x.known.holders x.link c
    → Mine a y.known.holders y.link c
    → Alike a x y
    → Alike a (next x c) (next y c)
unfolding and_then in_past sight
alike-mine a x y c w v m n s =
    let e : Exchange = exchange c (step x.link c) in
    let f : Exchange = exchange c (step y.link c) in
    let numbers : number_at x c ≡ number_at y c = m.number ∙ ap (λ (o : Own). number (rule o c)) s.same-own ∙ sym n.number in
    let records : (sight a e).records ≡ (sight a f).records =
    m.records ∙ ap (λ (o : Own). given (rule o c)) s.same-own ∙ sym n.records
    in
    let sights : sight a e ≡ sight a f = λ i. record { number = numbers i; records = records i } in
    let own-next = m.next ∙ ap (λ (o : Own). left o (rule o c)) s.same-own ∙ sym n.next in
    let in_both : in_past a x.known.holders e ≡ in_past a y.known.holders f =
    ap₂ (λ (k : ℕ) (b : Bool). not (left_out k) && b) numbers (w ∙ sym v)
    in
    by-test (in_past a x.known.holders e)
    (λ p.
    record {
      same-calls =
          rw (p, sym in_both ∙ p)
          (calls_last (x.known.past a) e
          ∙ ap (λ (t : List (List ℕ)). t ++ (c ∷ [])) s.same-calls
          ∙ sym (calls_last (y.known.past a) f));
      same-sights =
          rw (p, sym in_both ∙ p)
          (map-append (sight a) (x.known.past a) (e ∷ [])
          ∙ ap₂ (λ (t : List Sight) (z : Sight). t ++ (z ∷ [])) s.same-sights sights
          ∙ sym (map-append (sight a) (y.known.past a) (f ∷ [])));
      same-own = own-next;
    })
    (λ p.
    record {
      same-calls = rw (p, sym in_both ∙ p, append-nil (x.known.past a), append-nil (y.known.past a)) s.same-calls;
      same-sights = rw (p, sym in_both ∙ p, append-nil (x.known.past a), append-nil (y.known.past a)) s.same-sights;
      same-own = own-next;
    })

concerns-holder : (a : ℕ) (w : Option ℕ) → concerns a (holder's w) ≡ is_holder a w
concerns-holder a none = refl
concerns-holder a (some b) = refl

-- Which receipts an address holds is told by what it has.
holds : (a : ℕ) (h : Holders) (l : Link) (i : ℕ) → Sound h l → is_holder a (h i) ≡ not (is_free (place_at (own a h l).receipts i))
unfolding own
holds a h l i ok =
    by-test (is_holder a (h i))
    (λ e. rw (place-blank a h l.receipts i, e, ok.free i, holder-somebody a (h i) e))
    (λ e. rw (place-blank a h l.receipts i, e))

-- And so is whether a call concerns it.
concerns-whom : (a : ℕ) (h g : Holders) (w : Whom) → ((i : ℕ) → is_holder a (h i) ≡ is_holder a (g i)) → concerns a (whose_of h w) ≡ concerns a (whose_of g w)
concerns-whom a h g everybody e = refl
concerns-whom a h g (address b) e = refl
concerns-whom a h g (holder_of i) e = concerns-holder a (h i) ∙ e i ∙ sym (concerns-holder a (g i))
concerns-whom a h g no_one e = refl

same-concern : (a : ℕ) (x y : Moment) (c : List ℕ) → SoundAt x → SoundAt y → own a x.known.holders x.link ≡ own a y.known.holders y.link → concerns a (whose_at x c) ≡ concerns a (whose_at y c)
unfolding whose
same-concern a x y c ok also q =
    concerns-whom a x.known.holders y.known.holders (about c).whom
    (λ i.
    holds a x.known.holders x.link i ok
    ∙ ap (λ (o : Own). not (is_free (place_at o.receipts i))) q
    ∙ sym (holds a y.known.holders y.link i also))

-- The same calls, from two moments that are alike.
first-unhindered : (l : Link) (c : List ℕ) (cs : List (List ℕ)) → unhindered (run l (c ∷ cs)) ≡ true → Unhindered (number (step l c)) × (unhindered (run (left l (step l c)) cs) ≡ true)
unfolding unhindered all run
first-unhindered l c cs u = and_parts (not (among (number (step l c)) hindrances)) (unhindered (run (left l (step l c)) cs)) u

alike_next : (a : ℕ) (x y : Moment) (c : List ℕ) → SoundAt x → SoundAt y → Unhindered (number_at x c) → Unhindered (number_at y c) → Alike a x y → Alike a (next x c) (next y c)
alike_next a x y c ok also u v s =
    let both-are = same-concern a x y c ok also s.same-own in
    by-test (concerns a (whose_at x c))
    (λ w.
    alike-mine a x y c w (sym both-are ∙ w)
    (mine a x.known.holders x.link c ok u w)
    (mine a y.known.holders y.link c also v (sym both-are ∙ w))
    s)
    (λ w.
    alike-other a x (next y c) c ok w (turned a (next y c) x (alike-other a y x c also (sym both-are ∙ w) (turned a x y s))))

alike-later :
    (a : ℕ) (x y : Moment) (cs : List (List ℕ))
    → SoundAt x
    → SoundAt y
    → unhindered (run x.link cs) ≡ true
    → unhindered (run y.link cs) ≡ true
    → Alike a x y
    → Alike a (ends x cs) (ends y cs)
unfolding run after history
alike-later a x y [] ok also u v s = s
alike-later a x y (c ∷ cs) ok also u v s =
    let here = first-unhindered x.link c cs u in
    let there = first-unhindered y.link c cs v in
    alike-later a (next x c) (next y c) cs (sound-next x.known x.link c ok) (sound-next y.known y.link c also)
    here.1
    there.1
    (alike_next a x y c ok also here.0 there.0 s)

concerned-holder : (t : ℕ) (w : Option ℕ) → concerns t (holder's w) ≡ true → holder's w ≡ belongs_to t
concerned-holder t none e = absurd (false≢true e)
concerned-holder t (some b) e = ap belongs_to (eqb-true b t e)

-- A call of one address that still concerns it is still its own.
still-belongs : (h g : Holders) (t : ℕ) (w : Whom) → whose_of g w ≡ belongs_to t → concerns t (whose_of h w) ≡ true → whose_of h w ≡ belongs_to t
still-belongs h g t everybody e c = e
still-belongs h g t (address b) e c = e
still-belongs h g t (holder_of i) e c = concerned-holder t (h i) c
still-belongs h g t no_one e c = e

-- Two calls of different addresses, from one sound moment.
module _
    (x : Moment) (c d : List ℕ) (s t : ℕ) (ok : SoundAt x) (c-is : whose_at x c ≡ belongs_to s)
    (d-is : whose_at (next x c) d ≡ belongs_to t) (differ : eqb s t ≡ false)
  where
    sound-c : SoundAt (next x c)
    sound-c = sound-next x.known x.link c ok

    sound-d : SoundAt (next x d)
    sound-d = sound-next x.known x.link d ok

    differ-too : eqb t s ≡ false
    differ-too = ne_eqb t s (λ e. eqb-false s t differ (sym e))

    -- The second call is of the same address before the first, and the first is after the second.
    d-first : whose_at x d ≡ belongs_to t
    unfolding whose
    d-first =
        still-belongs x.known.holders (next x c).known.holders t (about d).whom d-is
        (same-concern t x (next x c) d ok sound-c (sym (own-other t x c ok (ap (concerns t) c-is ∙ differ)))
        ∙ ap (concerns t) d-is
        ∙ eq-eqb t t refl)

    c-second : whose_at (next x d) c ≡ belongs_to s
    unfolding whose
    c-second =
        still-belongs (next x d).known.holders x.known.holders s (about c).whom c-is
        (same-concern s (next x d) x c sound-d ok (own-other s x d ok (ap (concerns s) d-first ∙ differ-too))
        ∙ ap (concerns s) c-is
        ∙ eq-eqb s s refl)

    -- Whichever comes first, an address sees the same.
    alike-swapped :
        (a : ℕ)
        → Unhindered (number_at x c)
        → Unhindered (number_at (next x c) d)
        → Unhindered (number_at x d)
        → Unhindered (number_at (next x d) c)
        → Alike a (next (next x c) d) (next (next x d) c)
    alike-swapped a uc ud vd vc =
        by-test (eqb s a)
        (λ p.
        let q = ne_eqb t a (λ e. eqb-false s t differ (eqb-true s a p ∙ sym e)) in
        alike-other a (next x c) (next (next x d) c) d sound-c (ap (concerns a) d-is ∙ q)
        (alike-mine a x (next x d) c (ap (concerns a) c-is ∙ p) (ap (concerns a) c-second ∙ p)
        (mine a x.known.holders x.link c ok uc (ap (concerns a) c-is ∙ p))
        (mine a (next x d).known.holders (next x d).link c sound-d vc (ap (concerns a) c-second ∙ p))
        (turned a (next x d) x (alike-other a x x d ok (ap (concerns a) d-first ∙ q) (alike-itself a x)))))
        (λ p.
        let skip-c = alike-other a x x c ok (ap (concerns a) c-is ∙ p) (alike-itself a x) in
        turned a (next (next x d) c) (next (next x c) d)
        (alike-other a (next x d) (next (next x c) d) c sound-d (ap (concerns a) c-second ∙ p)
        (turned a (next (next x c) d) (next x d)
        (by-test (eqb t a)
        (λ q.
        alike-mine a (next x c) x d (ap (concerns a) d-is ∙ q) (ap (concerns a) d-first ∙ q)
        (mine a (next x c).known.holders (next x c).link d sound-c ud (ap (concerns a) d-is ∙ q))
        (mine a x.known.holders x.link d ok vd (ap (concerns a) d-first ∙ q))
        skip-c)
        (λ q.
        alike-other a (next x c) (next x d) d sound-c (ap (concerns a) d-is ∙ q)
        (turned a (next x d) (next x c) (alike-other a x (next x c) d ok (ap (concerns a) d-first ∙ q) (turned a (next x c) x skip-c))))))))

-- And so it does after any calls before them and any behind them.
swap-after :
    (x : Moment) (before : List (List ℕ)) (c d : List ℕ) (later : List (List ℕ)) (s t : ℕ)
    → SoundAt x
    → whose_at (ends x before) c ≡ belongs_to s
    → whose_at (ends x (before ++ (c ∷ []))) d ≡ belongs_to t
    → eqb s t ≡ false
    → unhindered (run x.link (before ++ (c ∷ d ∷ later))) ≡ true
    → unhindered (run x.link (before ++ (d ∷ c ∷ later))) ≡ true
    → (a : ℕ)
    → Alike a (ends x (before ++ (c ∷ d ∷ later))) (ends x (before ++ (d ∷ c ∷ later)))
unfolding run after history
swap-after x [] c d later s t ok c-is d-is differ one other a =
    let uc = first-unhindered x.link c (d ∷ later) one in
    let ud = first-unhindered (next x c).link d later uc.1 in
    let vd = first-unhindered x.link d (c ∷ later) other in
    let vc = first-unhindered (next x d).link c later vd.1 in
    let there = sound-next x.known x.link c ok in
    let also = sound-next x.known x.link d ok in
    alike-later a (next (next x c) d) (next (next x d) c) later
    (sound-next (next x c).known (next x c).link d there)
    (sound-next (next x d).known (next x d).link c also)
    ud.1
    vc.1
    (alike-swapped x c d s t ok c-is d-is differ a uc.0 ud.0 vd.0 vc.0)
swap-after x (b ∷ before) c d later s t ok c-is d-is differ one other a =
    swap-after (next x b) before c d later s t (sound-next x.known x.link b ok) c-is d-is differ
    (first-unhindered x.link b (before ++ (c ∷ d ∷ later)) one).1
    (first-unhindered x.link b (before ++ (d ∷ c ∷ later)) other).1
    a

abbrev at_outset : Moment
at_outset = record { known = nothing_yet; link = new }

sound-at-first : SoundAt at_outset
unfolding nothing_yet
sound-at-first = sound-new

pub swap :
    (before : List (List ℕ)) (c d : List ℕ) (later : List (List ℕ)) (s t : ℕ)
    → whose_after (run new before) c ≡ belongs_to s
    → whose_after (run new (before ++ (c ∷ []))) d ≡ belongs_to t
    → eqb s t ≡ false
    → unhindered (run new (before ++ (c ∷ d ∷ later))) ≡ true
    → unhindered (run new (before ++ (d ∷ c ∷ later))) ≡ true
    → (a : ℕ)
    → SeesTheSame a
    (run new (before ++ (c ∷ d ∷ later)))
    (after new (before ++ (c ∷ d ∷ later))).receipts
    (run new (before ++ (d ∷ c ∷ later)))
    (after new (before ++ (d ∷ c ∷ later))).receipts
swap before c d later s t c-is d-is differ one other a =
    let same = swap-after at_outset before c d later s t sound-at-first c-is d-is differ one other a in
    let cs : List (List ℕ) = before ++ (c ∷ d ∷ later) in
    let ds : List (List ℕ) = before ++ (d ∷ c ∷ later) in
    record {
      same_calls = same.same-calls;
      same_sights = same.same-sights;
      same_receipts = held-own a cs ∙ ap (λ (o : Own). taken_from 0 o.receipts) same.same-own ∙ sym (held-own a ds);
    }
