-- The same of what the one-address rule answers on a past: what is read off an address's past of a receipt that it holds is what is
-- read off the run.
use Prim.Native.Nat.{ℕ}
use mathlib.Core.Path.{◌≡◌, ◌∙◌, refl, sym, ap, ap₂, subst}
use mathlib.Core.Bool.{Bool, true, false, cond, false≢true}
use mathlib.Core.List.{List, [], ◌∷◌, map}
use mathlib.Core.Option.{Option, none, some, none-ne-some}
use borrow.Author.Clash.{clash}
use borrow.Author.Tests.{eqb-true, ne_eqb}
use lib.Dec.{eqb}
use Rattle.std.proofs.lemmas.Bool.{cond_both, cond-true, cond-false}
use Rattle.lists.specs.Lists.{keep, All}
use Rattle.lists.proofs.Lists.{all_map, all_back}
use Rattle.lists.proofs.Choices.{by-test}
use Rattle.questions.specs.Outcome.{number}
use Rattle.llc_pdus.specs.declared.Pdu.{Pdu}
use Rattle.llc_rule.specs.Calls.{Request, parsed}
use Rattle.llc_rule.specs.Records.{Record, acknowledged, reply, unacknowledged, data_up, unitdata_up, ssi_of, Sent}
use Rattle.llc_rule.specs.Messages.{Message, Place, place_at, sent_of}
use Rattle.llc_rule.specs.Link.{Link, new}
use Rattle.llc_rule.specs.Rule.{Own, at_outset, rule}
use Rattle.llc_rule.specs.Runs.{Exchange, left, given, run, after}
use Rattle.llc_rule.specs.Past.{Whom, Holding, empties, takes, frees, stays, about, taken_by, Holders, nobody, done_to, holders, whose_of, whose, concerns, is_holder, in_past, past, is_tick_end, Sight, sight, History, nothing_yet, and_then, history, holders_after}
use Rattle.llc_rule.specs.Seen.{rule_run, rule_sights, calls, ruled, kept_by_rule, unhindered}
use Rattle.llc_rule.specs.Sound.{of_address, Sound}
use Rattle.llc_rule.specs.Sendings.{handed, EachAtMostFour}
use Rattle.llc_rule.specs.Lost.{Event, started, ticked, tick_ended, ordered, reported_on, other, event_in, Clock, clock_next, is_held, LostAfterFour}
use Rattle.llc_rule.proofs.Own.{blank, own, place-own, any-keep}
use Rattle.llc_rule.proofs.About.{Agree, agree}
use Rattle.llc_rule.proofs.Histories.{past_from, past-from}
use Rattle.llc_rule.proofs.SoundCalls.{sound-run}
use Rattle.llc_rule.proofs.Demand3.{concerned, has-own, demand3}
use Rattle.llc_rule.proofs.Events.{takes-nothing, ticking, OutsideEvent, OutsideHolding, outside, takes_only, taking-event}
use Rattle.llc_rule.proofs.Watches.{Watch, asking, is_order, goes_on, if_any, holding_now, watched_by, watched, watch_from, AllSentWell, Good, GoodIn, Fine, Each, first_fine, End}
use Rattle.llc_rule.proofs.Told as Told
use Rattle.llc_rule.proofs.Told.{goes-taken, lost-after-four, four-of-each}
use Rattle.llc_rule.proofs.Follows.{is_of}
use Rattle.llc_rule.proofs.FollowsCalls.{holder_is, holder-next}
use Rattle.llc_rule.proofs.Lost.{read-run, end-run}

-- An exchange as address a sees it.
abbrev seen_by : ℕ → Exchange → Exchange
seen_by a e = record { call = e.call; number = (sight a e).number; records = (sight a e).records }

-- What is read of a receipt while the address holds it.
abbrev of_owner : ℕ → Option Watch → Option Watch
of_owner a w = cond (is_holder a (holder_is w)) w none

-- Records -----------------------------------------------------------------------------------------------------------------

module _ (i a : ℕ) where
  abbrev to : Record → Bool
  to r = eqb (ssi_of r) a

  -- What is handed down to the address is among its records, and what is handed down to others is not.
  handed-own : (rs : List Record) → All (λ (s : Sent). eqb s.ssi a ≡ true) (handed i rs) → handed i (keep to rs) ≡ handed i rs
  unfolding keep handed
  handed-own [] all = refl
  handed-own (acknowledged s ∷ rs) all =
      by-test (eqb s.receipt i)
      (λ e.
      let both : All (λ (s : Sent). eqb s.ssi a ≡ true) (s ∷ handed i rs) = rw e at all in
      rw (both.0, e) (ap (λ (ss : List Sent). s ∷ ss) (handed-own rs both.1)))
      (λ e.
      let rest : All (λ (s : Sent). eqb s.ssi a ≡ true) (handed i rs) = rw e at all in
      by-test (eqb s.ssi a) (λ t. rw (t, e) (handed-own rs rest)) (λ t. rw (t, e) (handed-own rs rest)))
  handed-own (reply r ∷ rs) all = by-test (eqb r.ssi a) (λ t. rw t (handed-own rs all)) (λ t. rw t (handed-own rs all))
  handed-own (unacknowledged s ∷ rs) all = by-test (eqb s.ssi a) (λ t. rw t (handed-own rs all)) (λ t. rw t (handed-own rs all))
  handed-own (data_up u ∷ rs) all = by-test (eqb u.ssi a) (λ t. rw t (handed-own rs all)) (λ t. rw t (handed-own rs all))
  handed-own (unitdata_up u ∷ rs) all = by-test (eqb u.ssi a) (λ t. rw t (handed-own rs all)) (λ t. rw t (handed-own rs all))

  handed-others : (rs : List Record) → All (λ (s : Sent). eqb s.ssi a ≡ false) (handed i rs) → handed i (keep to rs) ≡ []
  unfolding keep handed
  handed-others [] all = refl
  handed-others (acknowledged s ∷ rs) all =
      by-test (eqb s.receipt i)
      (λ e. let both : All (λ (s : Sent). eqb s.ssi a ≡ false) (s ∷ handed i rs) = rw e at all in rw both.0 (handed-others rs both.1))
      (λ e.
      let rest : All (λ (s : Sent). eqb s.ssi a ≡ false) (handed i rs) = rw e at all in
      by-test (eqb s.ssi a) (λ t. rw (t, e) (handed-others rs rest)) (λ t. rw t (handed-others rs rest)))
  handed-others (reply r ∷ rs) all = by-test (eqb r.ssi a) (λ t. rw t (handed-others rs all)) (λ t. rw t (handed-others rs all))
  handed-others (unacknowledged s ∷ rs) all = by-test (eqb s.ssi a) (λ t. rw t (handed-others rs all)) (λ t. rw t (handed-others rs all))
  handed-others (data_up u ∷ rs) all = by-test (eqb u.ssi a) (λ t. rw t (handed-others rs all)) (λ t. rw t (handed-others rs all))
  handed-others (unitdata_up u ∷ rs) all = by-test (eqb u.ssi a) (λ t. rw t (handed-others rs all)) (λ t. rw t (handed-others rs all))

-- What is handed down for a request is to its address.
sent-ssi : (r : Request) (carrier link : ℕ) (p : Pdu) (s : Sent) → s ≡ sent_of r carrier link p → s.ssi ≡ r.ssi
unfolding sent_of
sent-ssi r carrier link p s e = ap (λ (x : Sent). x.ssi) e

module _ (i : ℕ) (k : Clock) (u : Watch) (e : Exchange) (good : GoodIn i k (some u) e) (fine : Fine (watched i k e (some u))) where
  handed-by : (ss : List Sent) → handed i e.records ≡ ss → All (λ (s : Sent). s.ssi ≡ u.request.ssi) ss
  unfolding watched
  handed-by [] eh = tt
  handed-by (s ∷ ss) eh =
      let well = subst (AllSentWell k u (event_in e)) eh good.sent in
      let t = ticking e well.tick_end in
      let is : watched i k e (some u) ≡ some (goes_on i k tick_ended (s ∷ ss) u) =
      ap (λ (x : Holding). if_any (goes_on i k (event_in e) (handed i e.records)) (holding_now i (event_in e) x (some u))) t.stays
      ∙ ap₂ (λ (v : Event) (hs : List Sent). some (goes_on i k v hs u)) well.tick_end eh in
      let few = subst Fine is fine in
      all_map _ _ (s ∷ ss) (λ x q. sent-ssi u.request few.carrier few.link few.header x q)
      (all_back (λ (x : Sent). x ≡ sent_of u.request few.carrier few.link few.header) u.sent (s ∷ ss) few.same)

  all-handed : All (λ (s : Sent). s.ssi ≡ u.request.ssi) (handed i e.records)
  all-handed = handed-by (handed i e.records) refl

module _ (i a : ℕ) (e : Exchange) where
  -- Of a tick end an address sees its own records, of another call of its past all.
  filtered : is_tick_end (parsed e.call) ≡ true → handed i (sight a e).records ≡ handed i (keep (to i a) e.records)
  unfolding sight
  filtered t = ap (handed i) (cond-true _ _ _ t)

  silent-seen : handed i e.records ≡ [] → handed i (sight a e).records ≡ []
  unfolding sight
  silent-seen n =
      cond_both (is_tick_end (parsed e.call)) _ _ (λ (rs : List Record). handed i rs ≡ [])
      (λ t. handed-others i a e.records (subst (All (λ (s : Sent). eqb s.ssi a ≡ false)) (sym n) tt))
      (λ t. n)

  module _ (k : Clock) (u : Watch) (good : GoodIn i k (some u) e) (fine : Fine (watched i k e (some u))) where
    -- By what was handed down: nothing, or something at a tick end.
    by-handed :
        (P : List Sent → List Sent → Type 0)
        → P [] []
        → (is_tick_end (parsed e.call) ≡ true → P (handed i (keep (to i a) e.records)) (handed i e.records))
        → (ss : List Sent)
        → handed i e.records ≡ ss
        → P (handed i (sight a e).records) (handed i e.records)
    by-handed P none_so so [] eh =
        subst (P (handed i (sight a e).records)) (sym eh) (subst (λ (hs : List Sent). P hs []) (sym (silent-seen eh)) none_so)
    by-handed P none_so so (s ∷ ss) eh =
        let well = subst (AllSentWell k u (event_in e)) eh good.sent in
        let t = ticking e well.tick_end in
        subst (λ (hs : List Sent). P hs (handed i e.records)) (sym (filtered t.filtered)) (so t.filtered)

    own-handed : eqb u.request.ssi a ≡ true → handed i (sight a e).records ≡ handed i e.records
    own-handed mine =
        by-handed (λ (xs ys : List Sent). xs ≡ ys) refl
        (λ t.
        handed-own i a e.records
        (all_map _ _ (handed i e.records) (λ s q. ap (λ (n : ℕ). eqb n a) q ∙ mine) (all-handed i k u e good fine)))
        (handed i e.records)
        refl

    others-handed : eqb u.request.ssi a ≡ false → handed i (sight a e).records ≡ []
    others-handed not-mine =
        by-handed (λ (xs ys : List Sent). xs ≡ []) refl
        (λ t.
        handed-others i a e.records
        (all_map _ _ (handed i e.records) (λ s q. ap (λ (n : ℕ). eqb n a) q ∙ not-mine) (all-handed i k u e good fine)))
        (handed i e.records)
        refl

-- An exchange that is seen is the same call, with the same number.
seen-event : (a : ℕ) (e : Exchange) → event_in (seen_by a e) ≡ event_in e
unfolding event_in sight
seen-event a e = refl

-- One exchange ----------------------------------------------------------------------------------------------------------------

nobody-watched : (w : Option Watch) → holder_is w ≡ none → w ≡ none
nobody-watched none e = refl
nobody-watched (some u) e = absurd (none-ne-some _ (sym e))

module _ (a i : ℕ) (h : Holders) (k : Clock) (w : Option Watch) (e : Exchange) (holder : h i ≡ holder_is w) where
  abbrev then : Option Watch
  then = watched i k e w

  -- Whoever holds the receipt after it, by what it does.
  held_then : holder_is then ≡ holders e h i
  held_then = sym (holder-next i k h w e holder)

  no-owner : is_holder a (holders e h i) ≡ false → of_owner a then ≡ none
  no-owner t = cond-false _ then none (ap (is_holder a) held_then ∙ t)

  -- Outside its past nothing is read of what it holds, and it takes nothing.
  outside-holds : is_holder a (h i) ≡ false → (x : Holding) → OutsideHolding a h x → is_holder a (taken_by (λ (r : Request). r.ssi) x h i) ≡ false
  outside-holds n empties o = absurd o
  outside-holds n (takes r) o = cond_both (eqb i r.receipt) _ _ (λ (z : Option ℕ). is_holder a z ≡ false) (λ t. o) (λ t. n)
  outside-holds n (frees j) o = cond_both (eqb i j) _ _ (λ (z : Option ℕ). is_holder a z ≡ false) (λ t. refl) (λ t. n)
  outside-holds n stays o = n

  outside-goes : (u : Watch) (v : Event) (ss : List Sent) → is_holder a (h i) ≡ true → OutsideEvent a h v → goes_on i k v ss u ≡ u
  outside-goes u (started t251) ss y o = absurd o
  outside-goes u (ticked time) ss y o = absurd o
  outside-goes u tick_ended ss y o = absurd o
  outside-goes u (ordered r) ss y o = refl
  outside-goes u (reported_on j how) ss y o =
      cond-false _ _ u (ne_eqb j i (λ q. clash _ y (ap (λ (n : ℕ). is_holder a (h n)) (sym q) ∙ o)))
  outside-goes u other ss y o = refl

  outside-keeps :
      (u : Watch) (b : Bool) (x : Holding)
      → is_holder a (h i) ≡ true
      → OutsideHolding a h x
      → ((r : Request) → x ≡ takes r → eqb i r.receipt ≡ false)
      → taken_by (λ (r : Request). asking r b) x (λ j. some u) i ≡ some u
  outside-keeps u b empties y o untaken = absurd o
  outside-keeps u b (takes r) y o untaken = cond-false _ _ (some u) (untaken r refl)
  outside-keeps u b (frees j) y o untaken =
      cond-false _ none (some u) (ne_eqb i j (λ q. clash _ y (ap (λ (n : ℕ). is_holder a (h n)) q ∙ o)))
  outside-keeps u b stays y o untaken = refl

  outside-clock : (v : Event) → OutsideEvent a h v → clock_next k v ≡ k
  outside-clock (started t251) o = absurd o
  outside-clock (ticked time) o = absurd o
  outside-clock tick_ended o = absurd o
  outside-clock (ordered r) o = refl
  outside-clock (reported_on j how) o = refl
  outside-clock other o = refl

  outside-same :
      (z : Option Watch)
      → w ≡ z
      → GoodIn i k z e
      → is_holder a (h i) ≡ true
      → OutsideEvent a h (event_in e)
      → OutsideHolding a h (done_to e)
      → watched i k e z ≡ z
  unfolding watched
  outside-same none is good y ov ox = absurd (false≢true (sym (ap (is_holder a) (holder ∙ ap holder_is is)) ∙ y))
  outside-same (some u) is good y ov ox =
      ap (if_any (goes_on i k (event_in e) (handed i e.records))) (outside-keeps u _ (done_to e) y ox good.untaken)
      ∙ ap some (outside-goes u (event_in e) (handed i e.records) y ov)

  outside-watch : GoodIn i k w e → in_past a h e ≡ false → of_owner a then ≡ of_owner a w
  unfolding holders
  outside-watch good n =
      let o = outside a h e n in
      by-test (is_holder a (h i))
      (λ y. ap (of_owner a) (outside-same w refl good y o.0 o.1))
      (λ y.
      no-owner (outside-holds y (done_to e) o.1) ∙ sym (cond-false _ w none (ap (is_holder a) (sym holder) ∙ y)))

  -- Of its past the same is read.
  inside-kept :
      (z : Option Watch) (x : Holding)
      → is_holder a (h i) ≡ true
      → ((r : Request) → x ≡ takes r → eqb i r.receipt ≡ false)
      → holder_is z ≡ taken_by (λ (r : Request). r.ssi) x h i
      → of_owner a z ≡ z
  inside-kept z empties y untaken is = ap (of_owner a) (nobody-watched z is) ∙ sym (nobody-watched z is)
  inside-kept z (takes r) y untaken is = cond-true _ z none (ap (is_holder a) (is ∙ cond-false _ _ (h i) (untaken r refl)) ∙ y)
  inside-kept z (frees j) y untaken is =
      by-test (eqb i j)
      (λ t. let n = nobody-watched z (is ∙ cond-true _ none (h i) t) in ap (of_owner a) n ∙ sym n)
      (λ t. cond-true _ z none (ap (is_holder a) (is ∙ cond-false _ none (h i) t) ∙ y))
  inside-kept z stays y untaken is = cond-true _ z none (ap (is_holder a) is ∙ y)

  inside-takes : (r : Request) → in_past a h e ≡ true → done_to e ≡ takes r → eqb r.ssi a ≡ true
  unfolding done_to whose
  inside-takes r p t =
      by-test (eqb e.number 0)
      (λ z.
      let about-is : (about e.call).to_holding ≡ takes r = sym (cond-true _ (about e.call).to_holding stays z) ∙ t in
      let whom-is = subst (Agree (about e.call).whom) about-is (agree e.call) in
      sym (ap (λ (x : Whom). concerns a (whose_of h x)) whom-is) ∙ concerned a h e p)
      (λ z. takes-nothing stays refl r (sym (cond-false _ (about e.call).to_holding stays z) ∙ t))

  -- A receipt that it does not hold: it takes it, or nothing is read.
  inside-new :
      (x : Holding) (v : Event) (hs gs : List Sent) (z : Option Watch)
      → is_holder a (h i) ≡ false
      → holder_is z ≡ h i
      → ((r : Request) → x ≡ takes r → takes_only v ≡ true)
      → ((r : Request) → x ≡ takes r → eqb r.ssi a ≡ true)
      → holder_is (watched_by i k v x gs z) ≡ taken_by (λ (r : Request). r.ssi) x h i
      → watched_by i k v x hs none ≡ of_owner a (watched_by i k v x gs z)
  inside-new empties v hs gs z y is taking mine held = refl
  inside-new (takes r) v hs gs z y is taking mine held =
      by-test (eqb i r.receipt)
      (λ t.
      let u = asking r (is_order v) in
      let one : watched_by i k v (takes r) hs none ≡ some u =
      ap (if_any (goes_on i k v hs)) (cond-true _ (some u) none t) ∙ ap some (goes-taken i k u v hs (taking r refl)) in
      let two : watched_by i k v (takes r) gs z ≡ some u =
      ap (if_any (goes_on i k v gs)) (cond-true _ (some u) z t) ∙ ap some (goes-taken i k u v gs (taking r refl)) in
      one ∙ sym (ap (of_owner a) two ∙ cond-true _ (some u) none (mine r refl)))
      (λ t.
      ap (if_any (goes_on i k v hs)) (cond-false _ _ none t)
      ∙ sym (cond-false _ _ none (ap (is_holder a) (held ∙ cond-false _ _ (h i) t) ∙ y)))
  inside-new (frees j) v hs gs z y is taking mine held =
      by-test (eqb i j)
      (λ t.
      ap (if_any (goes_on i k v hs)) (cond-true _ none none t)
      ∙ sym (cond-false _ _ none (ap (is_holder a) (held ∙ cond-true _ none (h i) t))))
      (λ t.
      ap (if_any (goes_on i k v hs)) (cond-false _ none none t)
      ∙ sym (cond-false _ _ none (ap (is_holder a) (held ∙ cond-false _ none (h i) t) ∙ y)))
  inside-new stays v hs gs z y is taking mine held = sym (cond-false _ _ none (ap (is_holder a) held ∙ y))

  -- What is read, and that it is good.
  record Inside : Type 0 where
    watch : watched i k (seen_by a e) (of_owner a w) ≡ of_owner a then
    good : GoodIn i k (of_owner a w) (seen_by a e)
    fine : Fine (of_owner a w)

  inside-own :
      (z : Option Watch)
      → w ≡ z
      → is_holder a (holder_is z) ≡ true
      → GoodIn i k z e
      → Fine z
      → Fine (watched i k e z)
      → Inside
  unfolding watched holders sight event_in done_to
  inside-own none is y good fine next = absurd (false≢true y)
  inside-own (some u) is y good fine next =
      let own-w : of_owner a w ≡ some u = ap (of_owner a) is ∙ cond-true _ (some u) none y in
      let same = own-handed i a e k u good next y in
      let holds : is_holder a (h i) ≡ true = ap (is_holder a) (holder ∙ ap holder_is is) ∙ y in
      record {
        watch =
            ap (watched i k (seen_by a e)) own-w
            ∙ ap (λ (hs : List Sent). watched_by i k (event_in e) (done_to e) hs (some u)) same
            ∙ sym (ap (watched i k e) is)
            ∙ sym (inside-kept then (done_to e) holds good.untaken held_then);
        good =
            subst (λ (o : Option Watch). GoodIn i k o (seen_by a e)) (sym own-w)
            (subst (Good i k u (event_in e) (done_to e)) (sym same) good);
        fine = subst Fine (sym own-w) fine;
      }

  silent-for : (z : Option Watch) → is_holder a (holder_is z) ≡ false → GoodIn i k z e → Fine (watched i k e z) → handed i (sight a e).records ≡ []
  silent-for none y good next = silent-seen i a e good
  silent-for (some u) y good next = others-handed i a e k u good next y

  inside-other : is_holder a (holder_is w) ≡ false → GoodIn i k w e → Fine then → in_past a h e ≡ true → Inside
  unfolding watched holders sight event_in done_to
  inside-other y good next p =
      let none-w : of_owner a w ≡ none = cond-false _ w none y in
      record {
        watch =
            ap (watched i k (seen_by a e)) none-w
            ∙ inside-new (done_to e) (event_in e) (handed i (sight a e).records) (handed i e.records) w
            (ap (is_holder a) holder ∙ y)
            (sym holder)
            (taking-event e)
            (λ r. inside-takes r p)
            held_then;
        good = subst (λ (o : Option Watch). GoodIn i k o (seen_by a e)) (sym none-w) (silent-for w y good next);
        fine = subst Fine (sym none-w) tt;
      }

  inside : GoodIn i k w e → Fine w → Fine then → in_past a h e ≡ true → Inside
  inside good fine next p =
      by-test (is_holder a (holder_is w))
      (λ y. inside-own w refl y good fine next)
      (λ y. inside-other y good next p)

-- Runs --------------------------------------------------------------------------------------------------------------------------

-- What is read off the past of an address.
each-past :
    (a i : ℕ) (h : Holders) (k : Clock) (w : Option Watch) (es : List Exchange)
    → h i ≡ holder_is w
    → Each i k w es
    → Each i k (of_owner a w) (map (seen_by a) (past_from a h es))
unfolding past_from
each-past a i h k w [] holder fine = cond_both (is_holder a (holder_is w)) _ _ Fine (λ y. fine) (λ y. tt)
each-past a i h k w (e ∷ es) holder each =
    let ih = each-past a i (holders e h) (clock_next k (event_in e)) (watched i k e w) es (holder-next i k h w e holder) each.1.1 in
    by-test (in_past a h e)
    (λ p.
    let x = inside a i h k w e holder each.1.0 each.0 (first_fine i _ _ es each.1.1) p in
    rw p (
      x.fine,
      (
        x.good,
        subst (λ (o : Option Watch). Each i (clock_next k (event_in (seen_by a e))) o (map (seen_by a) (past_from a (holders e h) es))) (sym x.watch)
            (subst (λ (v : Event). Each i (clock_next k v) (of_owner a (watched i k e w)) (map (seen_by a) (past_from a (holders e h) es))) (sym (seen-event a e)) ih),
      ),
    ))
    (λ p.
    rw p
    (subst (λ (o : Option Watch). Each i k o (map (seen_by a) (past_from a (holders e h) es))) (outside-watch a i h k w e holder each.1.0 p)
    (subst (λ (c : Clock). Each i c (of_owner a (watched i k e w)) (map (seen_by a) (past_from a (holders e h) es))) (outside-clock a i h k w e holder (event_in e) (outside a h e p).0) ih)))

watch-past :
    (a i : ℕ) (h : Holders) (k : Clock) (w : Option Watch) (es : List Exchange)
    → h i ≡ holder_is w
    → Each i k w es
    → watch_from i k (of_owner a w) (map (seen_by a) (past_from a h es)) ≡ of_owner a (watch_from i k w es)
unfolding past_from watch_from
watch-past a i h k w [] holder fine = refl
watch-past a i h k w (e ∷ es) holder each =
    let rest : List Exchange = map (seen_by a) (past_from a (holders e h) es) in
    let ih = watch-past a i (holders e h) (clock_next k (event_in e)) (watched i k e w) es (holder-next i k h w e holder) each.1.1 in
    by-test (in_past a h e)
    (λ p.
    let x = inside a i h k w e holder each.1.0 each.0 (first_fine i _ _ es each.1.1) p in
    rw p
    (ap (λ (o : Option Watch). watch_from i (clock_next k (event_in (seen_by a e))) o rest) x.watch
    ∙ ap (λ (v : Event). watch_from i (clock_next k v) (of_owner a (watched i k e w)) rest) (seen-event a e)
    ∙ ih))
    (λ p.
    rw p
    (ap (λ (o : Option Watch). watch_from i k o rest) (sym (outside-watch a i h k w e holder each.1.0 p))
    ∙ ap (λ (c : Clock). watch_from i c (of_owner a (watched i k e w)) rest) (sym (outside-clock a i h k w e holder (event_in e) (outside a h e p).0))
    ∙ ih))

-- Who holds the receipt after a run.
holder-after : (i : ℕ) (q : History) (k : Clock) (w : Option Watch) (es : List Exchange) → q.holders i ≡ holder_is w → (history q es).holders i ≡ holder_is (watch_from i k w es)
unfolding history and_then watch_from
holder-after i q k w [] is = is
holder-after i q k w (e ∷ es) is = holder-after i (and_then e q) (clock_next k (event_in e)) (watched i k e w) es (holder-next i k q.holders w e is)

-- What an address has of the receipts and of the messages that it holds.
module _ (a i : ℕ) (h : Holders) (l : Link) (sound : Sound h l) (w : Option Watch) (holder : h i ≡ holder_is w) where
  held-own : is_holder a (h i) ≡ true → is_held i (of_address a l.acknowledged) ≡ is_held i l.acknowledged
  held-own y =
      any-keep (λ (m : Message). eqb m.sent.ssi a) (is_of i) l.acknowledged
      (all_map _ _ l.acknowledged
      (λ m o e. ap (is_holder a) (sym o.holder) ∙ ap (λ (j : ℕ). is_holder a (h j)) (eqb-true m.sent.receipt i e) ∙ y)
      sound.owned)

  end-own : End w (place_at l.receipts i) (is_held i l.acknowledged) → End (of_owner a w) (place_at (own a h l).receipts i) (is_held i (own a h l).acknowledged)
  unfolding own
  end-own end =
      cond_both (is_holder a (holder_is w)) _ _ (λ (o : Option Watch). End o (place_at (blank a h l.receipts) i) (is_held i (of_address a l.acknowledged)))
      (λ y.
      let mine : is_holder a (h i) ≡ true = ap (is_holder a) holder ∙ y in
      subst (λ (p : Place). End w p (is_held i (of_address a l.acknowledged))) (sym (place-own a h l.receipts i mine))
      (subst (λ (b : Bool). End w (place_at l.receipts i) b) (sym (held-own mine)) end))
      (λ y. tt)

-- What the rule answers is what the address sees, if numbers and records are the same.
answers-seen :
    (a : ℕ) (o : Own) (es : List Exchange)
    → map (sight a) es ≡ rule_sights o (calls es)
    → map (seen_by a) es ≡ rule_run o (calls es)
unfolding rule_sights rule_run
answers-seen a o [] q = refl
answers-seen a o (e ∷ es) q =
    let c : List ℕ = e.call in
    let here : sight a e ≡ record { number = number (rule o c); records = given (rule o c) } = cc in
    let rest : map (sight a) es ≡ rule_sights (left o (rule o c)) (calls es) = cc in
    ap₂ (λ (x : Sight) (ds : List Exchange). record { call = c; number = x.number; records = x.records } ∷ ds)
    here
    (answers-seen a (left o (rule o c)) es rest)

module _ (cs : List (List ℕ)) (u : unhindered (run new cs) ≡ true) (a : ℕ) where
  abbrev es : List Exchange
  es = run new cs

  abbrev seen : List Exchange
  seen = map (seen_by a) (past_from a nobody es)

  answers-are : seen ≡ ruled a es
  answers-are = ap (map (seen_by a)) (sym (past-from a es)) ∙ answers-seen a at_outset (past a es) (demand3 cs u a).seen

  each_seen : (i : ℕ) → Each i Told.at_outset none seen
  each_seen i = each-past a i nobody Told.at_outset none es refl (read-run cs i)

  end_seen : (i : ℕ) → End (watch_from i Told.at_outset none seen) (place_at (kept_by_rule a es).receipts i) (is_held i (kept_by_rule a es).acknowledged)
  unfolding nothing_yet
  end_seen i =
      let w = watch_from i Told.at_outset none es in
      subst (λ (o : Own). End (watch_from i Told.at_outset none seen) (place_at o.receipts i) (is_held i o.acknowledged)) (has-own a cs u)
      (subst (λ (o : Option Watch). End o (place_at (own a (holders_after es) (after new cs)).receipts i) (is_held i (own a (holders_after es) (after new cs)).acknowledged))
      (sym (watch-past a i nobody Told.at_outset none es refl (read-run cs i)))
      (end-own a i (holders_after es) (after new cs) (sound-run cs) w (holder-after i nothing_yet Told.at_outset none es refl)
      (end-run cs i)))

  pub lost-ruled : LostAfterFour (ruled a es) (kept_by_rule a es).receipts (kept_by_rule a es).acknowledged
  lost-ruled =
      subst (λ (ds : List Exchange). LostAfterFour ds (kept_by_rule a es).receipts (kept_by_rule a es).acknowledged) answers-are
      (lost-after-four seen (kept_by_rule a es).receipts (kept_by_rule a es).acknowledged each_seen end_seen)

  -- And at most four of every request that the rule accepts.
  pub four-ruled : EachAtMostFour (ruled a es)
  four-ruled = subst EachAtMostFour answers-are (four-of-each seen each_seen)
