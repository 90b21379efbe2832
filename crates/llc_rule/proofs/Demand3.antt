-- Demand 3 on the link as lists: each address has seen what the one-address rule gives on its past alone.
use Prim.Native.Nat.{ℕ, suc, ◌+◌}
use native.Mathlib.Omega.{arith}
use mathlib.Core.Path.{◌≡◌, ◌∙◌, refl, sym, ap, ap₂}
use mathlib.Core.Bool.{true, false, cond, not, ◌&&◌, ◌||◌, false≢true}
use mathlib.Core.List.{List, [], ◌∷◌, ◌++◌, map, map-append, append-nil}
use mathlib.Core.Option.{Option, none, some}
use Rattle.std.proofs.lemmas.Bool.{and_parts}
use Rattle.lists.specs.Lists.{keep, all, among, first_or}
use Rattle.lists.proofs.Choices.{by-test, either}
use Rattle.questions.specs.Outcome.{Outcome, accepted, refused, number}
use Rattle.llc_rule.specs.Calls.{Call, is_start, parsed}
use Rattle.llc_rule.specs.Ranges.{in_range}
use Rattle.llc_rule.specs.Records.{Record}
use Rattle.llc_rule.specs.Messages.{Place, place_at, is_free, no_receipts}
use Rattle.llc_rule.specs.Done.{Done}
use Rattle.llc_rule.specs.Link.{Link, new}
use Rattle.llc_rule.specs.Step.{called, step}
use Rattle.llc_rule.specs.Rule.{Own, at_outset, judged, rule}
use Rattle.llc_rule.specs.Runs.{left, given, Exchange, exchange, run, after}
use Rattle.llc_rule.specs.Past.{about_read, about_call, about, Holders, held_after, done_to, holders, whose_of, whose, concerns, left_out, in_past, History, nothing_yet, and_then, history, holders_after, is_tick_end, Sight, sight, is_holder, held_by, taken_from}
use Rattle.llc_rule.specs.Seen.{rule_run, rule_sights, rule_after, calls, kept_by_rule, hindrances, unhindered, SeesItsOwnPast}
use Rattle.llc_rule.specs.Sound.{Sound, is_nobody}
use Rattle.llc_rule.proofs.Paths.{step-law, refused-number}
use Rattle.llc_rule.proofs.Own.{of_ssi, blank_from, blank, own, seen_as}
use Rattle.llc_rule.proofs.SeenCalls.{Unhindered, own-call, other-paths}
use Rattle.llc_rule.proofs.SoundCalls.{holders-accepted, holders-refused, sound-new, sound-next, sound-run}

-- One call ------------------------------------------------------------------------------------------------------------------

-- What an address has of the records of a call.
abbrev shown_of : ℕ → Outcome Call → List Record → List Record
shown_of a c rs = cond (is_tick_end c) (keep (of_ssi a) rs) rs

-- A call of its past: the rule on what it has gives what the link gives, as it has that.
judged-is :
    (a : ℕ) (h : Holders) (l : Link) (c : Outcome Call)
    → Sound h l
    → concerns a (whose_of h (about_read c).whom) ≡ true
    → Unhindered (number (called l c))
    → judged (own a h l) c ≡ seen_as (own a (held_after (about_read c).to_holding h)) (shown_of a c) (called l c)
unfolding judged called seen_as own
judged-is a h l (refused n) ok w u = absurd (false≢true w)
judged-is a h l (accepted c) ok w u =
    by-test (is_start c || l.started)
    (λ s. rw s (by-test (in_range c) (λ r. rw r (own-call a h l c ok w r (rw (s, r) at u))) (λ r. rw r)))
    (λ s. rw s)

-- A call of its past: it sees the number and the records that the rule gives, and then has what the rule keeps.
pub record Mine (a : ℕ) (h : Holders) (l : Link) (c : List ℕ) : Type 0 where
  pub number : number (step l c) ≡ number (rule (own a h l) c)
  pub records : (sight a (exchange c (step l c))).records ≡ given (rule (own a h l) c)
  pub next : own a (holders (exchange c (step l c)) h) (left l (step l c)) ≡ left (own a h l) (rule (own a h l) c)

-- Another call: it sees nothing of it, and has what it had.
pub record Others (a : ℕ) (h : Holders) (l : Link) (c : List ℕ) : Type 0 where
  pub silent : keep (of_ssi a) (given (step l c)) ≡ []
  pub next : own a (holders (exchange c (step l c)) h) (left l (step l c)) ≡ own a h l

mine-by :
    (a : ℕ) (h : Holders) (l : Link) (c : List ℕ) (o : Outcome (Done Link))
    → step l c ≡ o
    → rule (own a h l) c ≡ seen_as (own a (held_after (about c).to_holding h)) (shown_of a (parsed c)) o
    → Mine a h l c
unfolding seen_as sight holders done_to keep
mine-by a h l c (accepted d) e g = record { number = rw (e, g); records = rw (e, g); next = rw (e, g) }
mine-by a h l c (refused n) e g =
    record {
      number = rw (e, g);
      records = rw (e, g) (either (λ (rs : List Record). rs ≡ []) (is_tick_end (parsed c)) refl refl);
      next = rw (e, g) (ap (λ (x : Holders). own a x l) (holders-refused h c n [] (refused-number l c n e)));
    }

pub mine :
    (a : ℕ) (h : Holders) (l : Link) (c : List ℕ)
    → Sound h l
    → Unhindered (number (step l c))
    → concerns a (whose h c) ≡ true
    → Mine a h l c
unfolding whose about rule step
mine a h l c ok u w = mine-by a h l c (step l c) refl (judged-is a h l (parsed c) ok w u)

-- A call of its past concerns the address.
pub concerned : (a : ℕ) (h : Holders) (e : Exchange) → in_past a h e ≡ true → concerns a (whose h e.call) ≡ true
unfolding in_past
concerned a h e p = (and_parts (not (left_out e.number)) (concerns a (whose h e.call)) p).1

whose-accepted : (h : Holders) (bytes : List ℕ) (c : Call) → parsed bytes ≡ accepted c → whose h bytes ≡ whose_of h (about_call c).whom
unfolding whose about
whose-accepted h bytes c e = rw e

-- What is said of another call, by its outcome.
record OthersBy (a : ℕ) (h : Holders) (l : Link) (c : List ℕ) (o : Outcome (Done Link)) : Type 0 where
  silent : keep (of_ssi a) (given o) ≡ []
  next : own a (holders (exchange c o) h) (left l o) ≡ own a h l

pub others : (a : ℕ) (h : Holders) (l : Link) (c : List ℕ) → Sound h l → in_past a h (exchange c (step l c)) ≡ false → Others a h l c
unfolding in_past keep
others a h l c ok p =
    let o =
    step-law l _ (other-paths a h l ok) c
    (λ o. not (left_out (number o)) && concerns a (whose h c) ≡ false → OthersBy a h l c o)
    (λ n k q. record { silent = refl; next = ap (λ (x : Holders). own a x l) (holders-refused h c n [] k) })
    (λ call d e u q.
    let x = u (ap (concerns a) (sym (whose-accepted h c call e)) ∙ q) in
    record {
      silent = x.silent;
      next = ap (λ (x : Holders). own a x d.state) (holders-accepted h c call d.records e) ∙ x.same;
    })
    p
    in
    record { silent = o.silent; next = o.next }

-- Runs ----------------------------------------------------------------------------------------------------------------------

-- One more call for the rule.
pub calls_last : (es : List Exchange) (e : Exchange) → calls (es ++ (e ∷ [])) ≡ calls es ++ (e.call ∷ [])
calls_last es e = map-append (λ (x : Exchange). x.call) es (e ∷ [])

after_last : (o : Own) (cs : List (List ℕ)) (c : List ℕ) → rule_after o (cs ++ (c ∷ [])) ≡ left (rule_after o cs) (rule (rule_after o cs) c)
unfolding rule_after
after_last o [] c = refl
after_last o (x ∷ cs) c = after_last (left o (rule o x)) cs c

sights-last :
    (o : Own) (cs : List (List ℕ)) (c : List ℕ)
    → rule_sights o (cs ++ (c ∷ []))
    ≡ rule_sights o cs ++ (record { number = number (rule (rule_after o cs) c); records = given (rule (rule_after o cs) c) } ∷ [])
unfolding rule_sights rule_run rule_after
sights-last o [] c = refl
sights-last o (x ∷ cs) c =
    ap (λ (t : List Sight). record { number = number (rule o x); records = given (rule o x) } ∷ t)
    (sights-last (left o (rule o x)) cs c)

-- At a moment of a run: what an address has seen of its past is what the rule gives, it has what the rule keeps, and it saw
-- nothing else.
record Seen (a : ℕ) (k : History) (l : Link) : Type 0 where
  seen : map (sight a) (k.past a) ≡ rule_sights at_outset (calls (k.past a))
  has : own a k.holders l ≡ rule_after at_outset (calls (k.past a))
  alone : k.strays a ≡ []

-- The next call keeps that.
module _ (a : ℕ) (k : History) (l : Link) (c : List ℕ) (ok : Sound k.holders l) (s : Seen a k l) where
  seen-mine : in_past a k.holders (exchange c (step l c)) ≡ true → Unhindered (number (step l c)) → Seen a (and_then (exchange c (step l c)) k) (left l (step l c))
  unfolding and_then sight
  seen-mine p u =
      let e : Exchange = exchange c (step l c) in
      let es : List Exchange = k.past a in
      let m = mine a k.holders l c ok u (concerned a k.holders e p) in
      let o : Own = own a k.holders l in
      let r : Own = rule_after at_outset (calls es) in
      let here : sight a e ≡ record { number = number (rule r c); records = given (rule r c) } =
      (λ i. record { number = m.number i; records = m.records i })
      ∙ ap (λ (x : Own). record { number = number (rule x c); records = given (rule x c) }) s.has in
      record {
        seen =
            rw p
            (map-append (sight a) es (e ∷ [])
            ∙ ap₂ (λ (x : List Sight) (y : Sight). x ++ (y ∷ [])) s.seen here
            ∙ sym (ap (rule_sights at_outset) (calls_last es e) ∙ sights-last at_outset (calls es) c));
        has =
            rw p
            (m.next
            ∙ ap (λ (x : Own). left x (rule x c)) s.has
            ∙ sym (ap (rule_after at_outset) (calls_last es e) ∙ after_last at_outset (calls es) c));
        alone = rw (p, append-nil (k.strays a)) s.alone;
      }

  seen_other : in_past a k.holders (exchange c (step l c)) ≡ false → Seen a (and_then (exchange c (step l c)) k) (left l (step l c))
  unfolding and_then
  seen_other p =
      let o = others a k.holders l c ok p in
      record {
        seen = rw (p, append-nil (k.past a)) s.seen;
        has = rw (p, append-nil (k.past a)) (o.next ∙ s.has);
        alone = rw p (ap₂ (λ (x y : List Record). x ++ y) s.alone o.silent);
      }

  seen_next : Unhindered (number (step l c)) → Seen a (and_then (exchange c (step l c)) k) (left l (step l c))
  seen_next u = by-test (in_past a k.holders (exchange c (step l c))) (λ p. seen-mine p u) (λ p. seen_other p)

-- A run from a sound link.
sees :
    (a : ℕ) (k : History) (l : Link) (cs : List (List ℕ))
    → Sound k.holders l
    → unhindered (run l cs) ≡ true
    → Seen a k l
    → Seen a (history k (run l cs)) (after l cs)
unfolding history run after unhindered all
sees a k l [] ok u s = s
sees a k l (c ∷ cs) ok u s =
    let e : Exchange = exchange c (step l c) in
    let now = and_parts (not (among e.number hindrances)) (unhindered (run (left l (step l c)) cs)) u in
    sees a (and_then e k) (left l (step l c)) cs (sound-next k l c ok) now.1 (seen_next a k l c ok s now.0)

pub holder-somebody : (a : ℕ) (w : Option ℕ) → is_holder a w ≡ true → is_nobody w ≡ false
holder-somebody a none e = absurd (false≢true e)
holder-somebody a (some b) e = refl

-- The receipts that an address holds are those taken in what it has.
held-taken :
    (a : ℕ) (h : Holders) (i : ℕ) (ps : List Place)
    → ((j : ℕ) → is_free (place_at ps j) ≡ is_nobody (h (i + j)))
    → held_by a h i ps ≡ taken_from i (blank_from a h i ps)
unfolding held_by taken_from blank_from
held-taken a h i [] f = refl
held-taken a h i (p ∷ ps) f =
    let here : is_free p ≡ is_nobody (h i) = f 0 ∙ ap (λ (k : ℕ). is_nobody (h k)) (omega arith) in
    let rest = held-taken a h (suc i) ps (λ j. f (suc j) ∙ ap (λ (k : ℕ). is_nobody (h k)) (omega arith)) in
    by-test (is_holder a (h i))
    (λ e. rw (e, here ∙ holder-somebody a (h i) e, rest))
    (λ e. rw (e, rest))

-- At first an address has nothing.
seen-new : (a : ℕ) → Seen a nothing_yet new
unfolding own new at_outset no_receipts first_or keep blank_from nothing_yet rule_sights rule_run rule_after
seen-new a = record { seen = refl; has = refl; alone = refl }

seen-run : (a : ℕ) (cs : List (List ℕ)) → unhindered (run new cs) ≡ true → Seen a (history nothing_yet (run new cs)) (after new cs)
unfolding nothing_yet
seen-run a cs u = sees a nothing_yet new cs sound-new u (seen-new a)

own-receipts : (a : ℕ) (h : Holders) (l : Link) → blank a h l.receipts ≡ (own a h l).receipts
unfolding own
own-receipts a h l = refl

-- The receipts that it holds after a run, by what it has.
pub held-own :
    (a : ℕ) (cs : List (List ℕ))
    → held_by a (holders_after (run new cs)) 0 (after new cs).receipts ≡ taken_from 0 (own a (holders_after (run new cs)) (after new cs)).receipts
held-own a cs =
    let h : Holders = holders_after (run new cs) in
    held-taken a h 0 (after new cs).receipts (λ j. (sound-run cs).free j ∙ ap (λ (k : ℕ). is_nobody (h k)) (omega arith))
    ∙ ap (taken_from 0) (own-receipts a h (after new cs))

-- What it has after a run is what the rule keeps.
pub has-own : (a : ℕ) (cs : List (List ℕ)) → unhindered (run new cs) ≡ true → own a (holders_after (run new cs)) (after new cs) ≡ kept_by_rule a (run new cs)
has-own a cs u = (seen-run a cs u).has

-- Demand 3.
pub demand3 : (cs : List (List ℕ)) → unhindered (run new cs) ≡ true → (a : ℕ) → SeesItsOwnPast (run new cs) (after new cs).receipts a
demand3 cs u a =
    let s = seen-run a cs u in
    record {
      seen = s.seen;
      receipts = held-own a cs ∙ ap (λ (o : Own). taken_from 0 o.receipts) s.has;
      alone = s.alone;
    }
