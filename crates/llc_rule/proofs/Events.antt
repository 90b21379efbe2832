-- What a call is to an order, and what it does to holding, belong together.
use Prim.Native.Nat.{ℕ}
use mathlib.Core.Path.{◌≡◌, ◌∙◌, refl, sym, ap, subst}
use mathlib.Core.Bool.{Bool, true, false, not, ◌&&◌, true≢false}
use mathlib.Core.Option.{Option, none, some}
use borrow.Author.Clash.{clash}
use borrow.Author.Tests.{eqb-true, eq-eqb}
use lib.Dec.{eqb}
use Rattle.std.proofs.lemmas.Bool.{cond-true, cond-false}
use Rattle.lists.proofs.Choices.{by-test, either}
use Rattle.questions.specs.Outcome.{Outcome, accepted, refused}
use Rattle.llc_rule.specs.Calls.{Call, start, tick_start, tick_end, request, frame, by_receipt, tl_data, tl_unitdata, report, release, Request, parsed}
use Rattle.llc_rule.specs.Ranges.{steals}
use Rattle.llc_rule.specs.Runs.{Exchange}
use Rattle.llc_rule.specs.Past.{Holding, empties, takes, frees, stays, done_to, about, about_read, Holders, is_holder, holder's, whose_of, whose, concerns, left_out, in_past, is_tick_end}
use Rattle.llc_rule.specs.Sendings.{request_spelled}
use Rattle.llc_rule.specs.Lost.{Event, started, ticked, tick_ended, ordered, reported_on, other, event, event_in, is_tick_ended}
use Rattle.llc_rule.proofs.About.{takes-for}

-- What an order takes.
abbrev to_take : Event → Holding
to_take (started t251) = stays
to_take (ticked time) = stays
to_take tick_ended = stays
to_take (ordered r) = takes r
to_take (reported_on i how) = stays
to_take other = stays

abbrev pub is_taking : Holding → Bool
is_taking empties = false
is_taking (takes r) = true
is_taking (frees i) = false
is_taking stays = false

pub takes-nothing : {G : Type 0} (x : Holding) → is_taking x ≡ false → (r : Request) → x ≡ takes r → G
takes-nothing x n r e = clash _ (ap is_taking e) n

not-taking : {G : Type 0} (v : Event) (r : Request) → to_take v ≡ stays → v ≡ ordered r → G
not-taking v r n q = clash _ (ap (λ (x : Event). is_taking (to_take x)) q) (ap is_taking n)

spelled-takes : (o : Outcome Call) (r : Request) → event o ≡ ordered r → (about_read o).to_holding ≡ takes r
spelled-takes (refused n) r q = not-taking other r refl q
spelled-takes (accepted (start carrier t251)) r q = not-taking (started t251) r refl q
spelled-takes (accepted (tick_start time)) r q = not-taking (ticked time) r refl q
spelled-takes (accepted tick_end) r q = not-taking tick_ended r refl q
spelled-takes (accepted (request tl_data s)) r q =
    by-test (eqb s.type 1 && not (steals s))
    (λ z. ap to_take (sym (cond-true _ (ordered s) other z) ∙ q))
    (λ z. not-taking other r refl (sym (cond-false _ (ordered s) other z) ∙ q))
spelled-takes (accepted (request tl_unitdata s)) r q = not-taking other r refl q
spelled-takes (accepted (frame f)) r q = not-taking other r refl q
spelled-takes (accepted (by_receipt i (report how))) r q = not-taking (reported_on i how) r refl q
spelled-takes (accepted (by_receipt i release)) r q = not-taking other r refl q

-- An accepted order takes its receipt.
pub ordered-takes : (e : Exchange) (r : Request) → event_in e ≡ ordered r → done_to e ≡ takes r
unfolding event_in done_to about
ordered-takes e r ev =
    by-test (eqb e.number 0)
    (λ z. rw z (spelled-takes (parsed e.call) r (sym (cond-true _ (event (parsed e.call)) other z) ∙ ev)))
    (λ z. not-taking other r refl (sym (cond-false _ (event (parsed e.call)) other z) ∙ ev))

-- A call that takes a receipt is an order or none of the others.
abbrev pub takes_only : Event → Bool
takes_only (started t251) = false
takes_only (ticked time) = false
takes_only tick_ended = false
takes_only (ordered r) = true
takes_only (reported_on i how) = false
takes_only other = true

abbrev Takes : Event → Holding → Type 0
Takes v empties = Unit {0}
Takes v (takes r) = takes_only v ≡ true
Takes v (frees i) = Unit {0}
Takes v stays = Unit {0}

spelled-event : (o : Outcome Call) → Takes (event o) (about_read o).to_holding
spelled-event (refused n) = tt
spelled-event (accepted (start carrier t251)) = tt
spelled-event (accepted (tick_start time)) = tt
spelled-event (accepted tick_end) = tt
spelled-event (accepted (request tl_data s)) = either (λ (v : Event). takes_only v ≡ true) (eqb s.type 1 && not (steals s)) refl refl
spelled-event (accepted (request tl_unitdata s)) = refl
spelled-event (accepted (frame f)) = tt
spelled-event (accepted (by_receipt i (report how))) = tt
spelled-event (accepted (by_receipt i release)) = tt

taking : (e : Exchange) → Takes (event_in e) (done_to e)
unfolding event_in done_to about
taking e = by-test (eqb e.number 0) (λ z. rw z (spelled-event (parsed e.call))) (λ z. rw z tt)

pub taking-event : (e : Exchange) (r : Request) → done_to e ≡ takes r → takes_only (event_in e) ≡ true
taking-event e r t = subst (Takes (event_in e)) t (taking e)

-- An accepted request takes its receipt.
pub request-takes : (e : Exchange) (r : Request) → e.number ≡ 0 → request_spelled e.call ≡ some r → done_to e ≡ takes r
unfolding done_to
request-takes e r n t =
    cond-true _ (about e.call).to_holding stays (eq-eqb e.number 0 n) ∙ takes-for (about e.call).to_holding r t

-- A tick end does nothing to holding, and is one of those that are in every past.
pub record Ticking (e : Exchange) : Type 0 where
  pub stays : done_to e ≡ stays
  pub filtered : is_tick_end (parsed e.call) ≡ true

abbrev IsTick : Outcome Call → Type 0
IsTick o = ((about_read o).to_holding ≡ stays) × (is_tick_end o ≡ true)

not-ticking : {G : Type 0} (v : Event) → is_tick_ended v ≡ false → v ≡ tick_ended → G
not-ticking v n q = clash _ (ap is_tick_ended q) n

spelled-tick : (o : Outcome Call) → event o ≡ tick_ended → IsTick o
spelled-tick (refused n) q = not-ticking other refl q
spelled-tick (accepted (start carrier t251)) q = not-ticking (started t251) refl q
spelled-tick (accepted (tick_start time)) q = not-ticking (ticked time) refl q
spelled-tick (accepted tick_end) q = (refl, refl)
spelled-tick (accepted (request tl_data s)) q =
    not-ticking (event (accepted (request tl_data s))) (either (λ (v : Event). is_tick_ended v ≡ false) (eqb s.type 1 && not (steals s)) refl refl) q
spelled-tick (accepted (request tl_unitdata s)) q = not-ticking other refl q
spelled-tick (accepted (frame f)) q = not-ticking other refl q
spelled-tick (accepted (by_receipt i (report how))) q = not-ticking (reported_on i how) refl q
spelled-tick (accepted (by_receipt i release)) q = not-ticking other refl q

pub ticking : (e : Exchange) → event_in e ≡ tick_ended → Ticking e
unfolding event_in done_to about
ticking e ev =
    by-test (eqb e.number 0)
    (λ z.
    let t = spelled-tick (parsed e.call) (sym (cond-true _ (event (parsed e.call)) other z) ∙ ev) in
    record { stays = cond-true _ _ _ z ∙ t.0; filtered = t.1 })
    (λ z. not-ticking other refl (sym (cond-false _ (event (parsed e.call)) other z) ∙ ev))

-- What a call outside the past of address a can be: neither a start nor a tick, and about other receipts than those that a holds.
abbrev pub OutsideEvent : ℕ → Holders → Event → Type 0
OutsideEvent a h (started t251) = ⊥
OutsideEvent a h (ticked time) = ⊥
OutsideEvent a h tick_ended = ⊥
OutsideEvent a h (ordered r) = Unit {0}
OutsideEvent a h (reported_on j how) = is_holder a (h j) ≡ false
OutsideEvent a h other = Unit {0}

abbrev pub OutsideHolding : ℕ → Holders → Holding → Type 0
OutsideHolding a h empties = ⊥
OutsideHolding a h (takes r) = eqb r.ssi a ≡ false
OutsideHolding a h (frees j) = is_holder a (h j) ≡ false
OutsideHolding a h stays = Unit {0}

pub not-holder : (a : ℕ) (o : Option ℕ) → concerns a (holder's o) ≡ false → is_holder a o ≡ false
not-holder a none e = refl
not-holder a (some b) e = e

spelled-outside :
    (a : ℕ) (h : Holders) (o : Outcome Call)
    → concerns a (whose_of h (about_read o).whom) ≡ false
    → OutsideEvent a h (event o) × OutsideHolding a h (about_read o).to_holding
spelled-outside a h (refused n) e = (tt, tt)
spelled-outside a h (accepted (start carrier t251)) e = absurd (true≢false e)
spelled-outside a h (accepted (tick_start time)) e = absurd (true≢false e)
spelled-outside a h (accepted tick_end) e = absurd (true≢false e)
spelled-outside a h (accepted (request tl_data s)) e = (either (OutsideEvent a h) (eqb s.type 1 && not (steals s)) tt tt, e)
spelled-outside a h (accepted (request tl_unitdata s)) e = (tt, e)
spelled-outside a h (accepted (frame f)) e = (tt, tt)
spelled-outside a h (accepted (by_receipt i (report how))) e = (not-holder a (h i) e, tt)
spelled-outside a h (accepted (by_receipt i release)) e = (tt, not-holder a (h i) e)

pub outside : (a : ℕ) (h : Holders) (e : Exchange) → in_past a h e ≡ false → OutsideEvent a h (event_in e) × OutsideHolding a h (done_to e)
unfolding event_in done_to about in_past whose
outside a h e n =
    by-test (eqb e.number 0)
    (λ z.
    rw z
    (spelled-outside a h (parsed e.call)
    (sym (ap (λ (k : ℕ). not (left_out k) && concerns a (whose_of h (about_read (parsed e.call)).whom)) (eqb-true e.number 0 z)) ∙ n)))
    (λ z. rw z (tt, tt))
