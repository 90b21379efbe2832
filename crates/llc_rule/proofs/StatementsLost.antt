-- What the statement of four sendings (specs/Lost.antt) refuses: histories that a wrong link would give, written by hand. A reason
-- is determined by the exchanges, so that each can be looked up.
use Prim.Native.Nat.{ℕ, ◌≤◌}
use native.Mathlib.Omega.{arith}
use mathlib.Core.Path.{◌≡◌, ◌∙◌, refl, sym, ap, subst}
use mathlib.Core.Bool.{Bool, true, false, cond, ◌||◌, true≢false, false≢true}
use mathlib.Core.List.{List, [], ◌∷◌, ◌++◌, append_assoc}
use mathlib.Core.Option.{Option, none, some, some-injective, none-ne-some}
use borrow.Author.Tests.{eq-eqb}
use lib.Dec.{eqb}
use lib.ListN.{drop, replicate}
use Rattle.std.proofs.lemmas.Bool.{or_parts, cond-true, cond-false}
use Rattle.lists.specs.Lists.{any}
use Rattle.lists.proofs.Lists.{any_append}
use Rattle.lists.proofs.Choices.{by-test}
use Rattle.tdma_time.specs.declared.TdmaTime.{TdmaTime}
use Rattle.tx_receipt.specs.declared.TxState.{TxState}
use Rattle.tx_receipt.specs.declared.TxState.TheVariants.{Transmitted, Lost}
use Rattle.llc_rule.specs.Calls.{to_bytes, Request, request_in}
use Rattle.llc_rule.specs.Records.{Record, acknowledged, Sent}
use Rattle.llc_rule.specs.Messages.{Message, waiting, Place, free, taken, place_at}
use Rattle.llc_rule.specs.Runs.{Exchange}
use Rattle.llc_rule.specs.Past.{about, done_to}
use Rattle.llc_rule.specs.Sendings.{handed, sendings}
use Rattle.llc_rule.specs.Lost.{Event, started, ticked, tick_ended, ordered, reported_on, other, event_in, is_tick_ended, is_report, ends_tick, reports, sends, ends_holding, clock_from, clock_after, OldEnough, Reason, LeftAfterFour, is_held, OrderTold, LostAfterFour}
use Rattle.llc_rule.proofs.Runs.{hex, request, exchanges}

-- A list at an element ------------------------------------------------------------------------------------------------------

record Cut : Type 0 where
  before : List Exchange
  at : Exchange
  behind : List Exchange

abbrev ahead : Exchange → Option Cut → Option Cut
ahead x none = none
ahead x (some c) = some (record { before = x ∷ c.before; at = c.at; behind = c.behind })

-- The first that passes a test, and the last.
unfoldable first_cut : (Exchange → Bool) → List Exchange → Option Cut
first_cut p [] = none
first_cut p (x ∷ l) = cond (p x) (some (record { before = []; at = x; behind = l })) (ahead x (first_cut p l))

unfoldable last_cut : (Exchange → Bool) → List Exchange → Option Cut
last_cut p [] = none
last_cut p (x ∷ l) =
    cond (p x) (cond (any p l) (ahead x (last_cut p l)) (some (record { before = []; at = x; behind = l }))) (ahead x (last_cut p l))

module _ (p : Exchange → Bool) (x : Exchange) (b : List Exchange) (is : p x ≡ true) where
  first-is : (f : List Exchange) → any p f ≡ false → first_cut p (f ++ (x ∷ b)) ≡ some (record { before = f; at = x; behind = b })
  unfolding first_cut any
  first-is [] n = cond-true _ _ _ is
  first-is (y ∷ f) n =
      let t = or_parts (p y) (any p f) n in cond-false _ _ _ t.0 ∙ ap (ahead y) (first-is f t.1)

  last-is : (f : List Exchange) → any p b ≡ false → last_cut p (f ++ (x ∷ b)) ≡ some (record { before = f; at = x; behind = b })
  unfolding last_cut any
  last-is [] n = cond-true _ _ _ is ∙ cond-false _ _ _ n
  last-is (y ∷ f) n =
      by-test (p y)
      (λ e. cond-true _ _ _ e ∙ cond-true _ _ _ (any_append p f (x ∷ b) ∙ rw is (or-true (any p f))) ∙ ap (ahead y) (last-is f n))
      (λ e. cond-false _ _ _ e ∙ ap (ahead y) (last-is f n))
    where
      or-true : (c : Bool) → c || true ≡ true
      or-true true = refl
      or-true false = refl

-- What a reason is, by the exchanges since the request: the sending, the report and the tick end that notes it.
record Parts : Type 0 where
  sending : Cut
  report : Cut
  noting : Cut

abbrev with_noting : Cut → Cut → Option Cut → Option Parts
with_noting s r none = none
with_noting s r (some n) = some (record { sending = s; report = r; noting = n })

abbrev with_report : Cut → Option Cut → Option Parts
with_report s none = none
with_report s (some r) = with_noting s r (first_cut ends_tick r.behind)

abbrev with_sending : ℕ → Option Cut → Option Parts
with_sending i none = none
with_sending i (some s) = with_report s (first_cut (reports i) s.behind)

unfoldable parts_of : ℕ → List Exchange → Option Parts
parts_of i since = with_sending i (last_cut (sends i) since)

-- When the report was noted.
abbrev noted_in : List Exchange → Parts → TdmaTime
noted_in asked c =
    (clock_after (asked ++ (c.sending.before ++ (c.sending.at ∷ (c.report.before ++ (c.report.at ∷ c.noting.before)))))).time

record Determined (i : ℕ) (asked since : List Exchange) (r : Reason i asked since) : Type 0 where
  parts : Parts
  are : parts_of i since ≡ some parts
  old : OldEnough (clock_after (asked ++ since)) (noted_in asked parts)
  says : event_in parts.report.at ≡ reported_on i r.how

determined : (i : ℕ) (asked since : List Exchange) (r : Reason i asked since) → Determined i asked since r
unfolding parts_of
determined i asked since r =
    let s = r.sending in
    let p = r.report in
    let n = r.noting in
    let reported : reports i p.report ≡ true = is-report i r.how p.report p.says in
    let ticked : ends_tick n.ending ≡ true = is-tick n.ending n.is_one in
    let sending : Cut = record { before = s.before; at = s.sending; behind = r.behind_sending } in
    let report : Cut = record { before = p.before; at = p.report; behind = r.behind_report } in
    let noting : Cut = record { before = n.before; at = n.ending; behind = r.behind_noting } in
    record {
      parts = record { sending = sending; report = report; noting = noting };
      are =
          ap (λ (l : List Exchange). with_sending i (last_cut (sends i) l)) s.there
          ∙ ap (with_sending i) (last-is (sends i) s.sending r.behind_sending s.hands_down s.before s.not_again)
          ∙ ap (λ (l : List Exchange). with_report sending (first_cut (reports i) l)) p.there
          ∙ ap (with_report sending) (first-is (reports i) p.report r.behind_report reported p.before p.not_before)
          ∙ ap (λ (l : List Exchange). with_noting sending report (first_cut ends_tick l)) n.there
          ∙ ap (with_noting sending report) (first-is ends_tick n.ending r.behind_noting ticked n.before n.not_before);
      old = r.old;
      says = p.says;
    }
  where
    is-report : (i how : ℕ) (e : Exchange) → event_in e ≡ reported_on i how → reports i e ≡ true
    is-report i how e v = ap (is_report i) v ∙ eq-eqb i i refl

    is-tick : (e : Exchange) → event_in e ≡ tick_ended → ends_tick e ≡ true
    is-tick e v = ap is_tick_ended v

-- Histories ---------------------------------------------------------------------------------------------------------------------

-- A start with T251 4, and an order with receipt 7; a tick end that hands it down, or nothing; reports, and times.
abbrev pub told : List ℕ → List Record → Exchange
told c rs = record { call = c; number = 0; records = rs }

abbrev pub message : Sent
message =
    record {
      ssi = 0x0003e9;
      type = 1;
      carrier = 0x05fa;
      link = 0;
      endpoint = 0;
      handle = 0;
      steal = false;
      mask = none;
      receipt = 7;
      block = [];
      pdu = 0 ∷ 0 ∷ 0 ∷ 1 ∷ 0 ∷ [];
    }

abbrev pub starts : Exchange
starts = told (hex 7 0x21000405fa0004) []

abbrev pub orders : Exchange
orders = told (request 7) []

abbrev pub order : Request
order = request_in (drop 3 (request 7))

abbrev pub sends_it : Exchange
sends_it = told (hex 3 0x230000) (acknowledged message ∷ [])

abbrev pub sends_none : Exchange
sends_none = told (hex 3 0x230000) []

abbrev pub transmitted : Exchange
transmitted = told (hex 5 0x2700020701) []

abbrev pub discarded : Exchange
discarded = told (hex 5 0x2700020702) []

-- Slot t of frame f, of the first multiframe.
abbrev pub slot : ℕ → ℕ → Exchange
slot f t = told (hex 6 0x220005000001 ++ (f ∷ t ∷ [])) []

-- The order is accepted, and the exchanges before a sending are these: it has no reason, or one that is not old.
module _ (later : List Exchange) (ps : List Place) (ms : List Message) (so : LostAfterFour (starts ∷ orders ∷ later) ps ms) where
  is-order : event_in orders ≡ ordered order
  unfolding event_in to_bytes request_in exchanges
  is-order = refl

  told_of : OrderTold order (starts ∷ []) orders later (place_at ps 7) (is_held 7 ms)
  unfolding request_in to_bytes exchanges
  told_of = so.each (starts ∷ []) orders later order refl is-order

  -- A sending after another has the reason that can be looked up.
  reason-of :
      (since : List Exchange) (e : Exchange) (behind : List Exchange)
      → later ≡ since ++ (e ∷ behind)
      → any (ends_holding 7) since ≡ false
      → sends 7 e ≡ true
      → any (sends 7) since ≡ true
      → Reason 7 (starts ∷ orders ∷ []) since
  unfolding request_in to_bytes exchanges
  reason-of since e behind split holds s again = (told_of.sent since e behind split holds s).again again

-- The parts of a reason are those that are looked up.
parts_are : (i : ℕ) (asked since : List Exchange) (c : Parts) → parts_of i since ≡ some c → Reason i asked since → OldEnough (clock_after (asked ++ since)) (noted_in asked c)
parts_are i asked since c is r =
    let d = determined i asked since r in
    subst (λ (x : Parts). OldEnough (clock_after (asked ++ since)) (noted_in asked x)) (some-injective d.parts c (sym d.are ∙ is)) d.old

no-parts : (i : ℕ) (asked since : List Exchange) → parts_of i since ≡ none → Reason i asked since → ⊥
no-parts i asked since is r = let d = determined i asked since r in none-ne-some d.parts (sym is ∙ d.are)

-- The sending before, the report and the tick end that notes it, in these places.
abbrev parts_at : List Exchange → Exchange → List Exchange → Exchange → List Exchange → Exchange → List Exchange → Parts
parts_at before sending unreported report unnoted noting behind =
    record {
      sending = record { before = before; at = sending; behind = unreported ++ (report ∷ (unnoted ++ (noting ∷ behind))) };
      report = record { before = unreported; at = report; behind = unnoted ++ (noting ∷ behind) };
      noting = record { before = unnoted; at = noting; behind = behind };
    }

-- A sending again 3 slots after the tick end that notes the report, where T251 is 4.
abbrev pub to_early : List Exchange
to_early = sends_it ∷ transmitted ∷ slot 1 2 ∷ sends_none ∷ slot 2 1 ∷ []

early-are : parts_of 7 to_early ≡ some (parts_at [] sends_it [] transmitted (slot 1 2 ∷ []) sends_none (slot 2 1 ∷ []))
unfolding parts_of last_cut first_cut any handed event_in to_bytes exchanges
early-are = refl

pub early-refused : (ps : List Place) (ms : List Message) → LostAfterFour (starts ∷ orders ∷ (to_early ++ (sends_it ∷ []))) ps ms → ⊥
unfolding clock_from any handed event_in done_to about to_bytes exchanges
early-refused ps ms so =
    let young : 4 ≤ 3 =
    parts_are 7 (starts ∷ orders ∷ []) to_early _ early-are
    (reason-of (to_early ++ (sends_it ∷ [])) ps ms so to_early sends_it [] refl refl refl refl) in
    omega (arith, young)

-- One 4 slots after the report, and 2 after the tick end that notes it.
abbrev pub to_sooner : List Exchange
to_sooner = sends_it ∷ transmitted ∷ slot 1 3 ∷ sends_none ∷ slot 2 1 ∷ []

sooner-are : parts_of 7 to_sooner ≡ some (parts_at [] sends_it [] transmitted (slot 1 3 ∷ []) sends_none (slot 2 1 ∷ []))
unfolding parts_of last_cut first_cut any handed event_in to_bytes exchanges
sooner-are = refl

pub at-the-report-refused : (ps : List Place) (ms : List Message) → LostAfterFour (starts ∷ orders ∷ (to_sooner ++ (sends_it ∷ []))) ps ms → ⊥
unfolding clock_from any handed event_in done_to about to_bytes exchanges
at-the-report-refused ps ms so =
    let young : 4 ≤ 2 =
    parts_are 7 (starts ∷ orders ∷ []) to_sooner _ sooner-are
    (reason-of (to_sooner ++ (sends_it ∷ [])) ps ms so to_sooner sends_it [] refl refl refl refl) in
    omega (arith, young)

-- One by the report on the sending before the last.
abbrev pub to_old_report : List Exchange
to_old_report = sends_it ∷ transmitted ∷ slot 1 2 ∷ sends_none ∷ slot 2 2 ∷ sends_it ∷ slot 3 2 ∷ []

old-report-none : parts_of 7 to_old_report ≡ none
unfolding parts_of last_cut first_cut any handed event_in to_bytes exchanges
old-report-none = refl

pub old-report-refused : (ps : List Place) (ms : List Message) → LostAfterFour (starts ∷ orders ∷ (to_old_report ++ (sends_it ∷ []))) ps ms → ⊥
unfolding any handed event_in done_to about to_bytes exchanges
old-report-refused ps ms so =
    no-parts 7 (starts ∷ orders ∷ []) to_old_report old-report-none
    (reason-of (to_old_report ++ (sends_it ∷ [])) ps ms so to_old_report sends_it [] refl refl refl refl)

-- One without a report, however late.
abbrev pub to_unreported : List Exchange
to_unreported = sends_it ∷ sends_none ∷ slot 9 1 ∷ []

unreported-none : parts_of 7 to_unreported ≡ none
unfolding parts_of last_cut first_cut any handed event_in to_bytes exchanges
unreported-none = refl

pub unreported-refused : (ps : List Place) (ms : List Message) → LostAfterFour (starts ∷ orders ∷ (to_unreported ++ (sends_it ∷ []))) ps ms → ⊥
unfolding any handed event_in done_to about to_bytes exchanges
unreported-refused ps ms so =
    no-parts 7 (starts ∷ orders ∷ []) to_unreported unreported-none
    (reason-of (to_unreported ++ (sends_it ∷ [])) ps ms so to_unreported sends_it [] refl refl refl refl)

-- Two sendings in one tick end, and one that is none.
abbrev pub twice : List Exchange
twice = told (hex 3 0x230000) (acknowledged message ∷ acknowledged message ∷ []) ∷ []

pub twice-refused : (ps : List Place) (ms : List Message) → LostAfterFour (starts ∷ orders ∷ twice) ps ms → ⊥
unfolding any handed to_bytes request_in exchanges
twice-refused ps ms so = let two : ◌≡◌ {A = ℕ} 2 1 = ((told_of twice ps ms so).sent [] (told (hex 3 0x230000) (acknowledged message ∷ acknowledged message ∷ [])) [] refl refl refl).once in omega (arith, two)

abbrev pub by_report : List Exchange
by_report = told (hex 5 0x2700020701) (acknowledged message ∷ []) ∷ []

pub by-a-report-refused : (ps : List Place) (ms : List Message) → LostAfterFour (starts ∷ orders ∷ by_report) ps ms → ⊥
unfolding any handed event_in to_bytes request_in exchanges
by-a-report-refused ps ms so =
    let tick = ((told_of by_report ps ms so).sent [] (told (hex 5 0x2700020701) (acknowledged message ∷ [])) [] refl refl refl).tick_end in false≢true (ap is_tick_ended tick)

-- Five sendings.
abbrev pub five : List Exchange
five = sends_it ∷ sends_it ∷ sends_it ∷ sends_it ∷ sends_it ∷ []

pub five-refused : (ps : List Place) (ms : List Message) → LostAfterFour (starts ∷ orders ∷ five) ps ms → ⊥
unfolding sendings handed done_to about to_bytes request_in exchanges
five-refused ps ms so = let many : 5 ≤ 4 = (told_of five ps ms so).few.few in omega (arith, many)

-- What receipt 7 reads, and no other.
abbrev pub seventh : TxState → List Place
seventh s = replicate 7 free ++ (taken (record { expects_ack = true; state = s }) ∷ [])

-- Lost after three sendings; gone as Transmitted; Lost while it is held.
abbrev pub three : List Exchange
three = sends_it ∷ sends_it ∷ sends_it ∷ []

pub three-refused : LostAfterFour (starts ∷ orders ∷ three) (seventh Lost) [] → ⊥
unfolding sendings any handed done_to about to_bytes request_in exchanges
three-refused so = let few : ◌≡◌ {A = ℕ} 3 4 = ((told_of three (seventh Lost) [] so).left refl refl refl).four in omega (arith, few)

pub vanished-refused : LostAfterFour (starts ∷ orders ∷ three) (seventh Transmitted) [] → ⊥
unfolding any done_to about to_bytes request_in exchanges
vanished-refused so = false≢true ((told_of three (seventh Transmitted) [] so).ended refl refl)

abbrev pub held_message : Message
held_message = waiting message false

pub held-lost-refused : LostAfterFour (starts ∷ orders ∷ three) (seventh Lost) (held_message ∷ []) → ⊥
unfolding any done_to about to_bytes request_in exchanges
held-lost-refused so = true≢false ((told_of three (seventh Lost) (held_message ∷ []) so).over refl refl)

-- Four sendings, each reported and each time noted and old, the last report discarded: and it reads Lost.
abbrev pub round : ℕ → Exchange → List Exchange
round f report = sends_it ∷ report ∷ sends_none ∷ slot f 1 ∷ []

abbrev pub four : List Exchange
four = round 2 transmitted ++ (round 3 transmitted ++ (round 4 transmitted ++ (round 5 discarded ++ (sends_none ∷ []))))

-- The last report of what left is the one of its reason.
last-report :
    (i : ℕ) (asked later : List Exchange) (p : Place) (l : LeftAfterFour i asked later p)
    → last_cut (reports i) later
    ≡ some
    (record {
      before = l.reason.sending.before ++ (l.reason.sending.sending ∷ l.reason.report.before);
      at = l.reason.report.report;
      behind = l.reason.behind_report ++ (l.leaving ∷ l.behind);
    })
last-report i asked later p l =
    let r = l.reason in
    let s = r.sending in
    let t = r.report in
    let rest : List Exchange = l.leaving ∷ l.behind in
    let reported : reports i t.report ≡ true = ap (is_report i) t.says ∙ eq-eqb i i refl in
    ap (last_cut (reports i))
    (l.there
    ∙ ap (λ (x : List Exchange). x ++ rest) (s.there ∙ ap (λ (x : List Exchange). s.before ++ (s.sending ∷ x)) t.there)
    ∙ append_assoc s.before (s.sending ∷ (t.before ++ (t.report ∷ r.behind_report))) rest
    ∙ ap (λ (x : List Exchange). s.before ++ (s.sending ∷ x)) (append_assoc t.before (t.report ∷ r.behind_report) rest)
    ∙ sym (append_assoc s.before (s.sending ∷ t.before) (t.report ∷ (r.behind_report ++ rest))))
    ∙ last-is (reports i) t.report (r.behind_report ++ rest) reported (s.before ++ (s.sending ∷ t.before))
    (any_append (reports i) r.behind_report rest ∙ rw (t.not_again, l.last_report))

abbrev value_in : Event → ℕ
value_in (started t251) = 0
value_in (ticked time) = 0
value_in tick_ended = 0
value_in (ordered r) = 0
value_in (reported_on i how) = how
value_in other = 0

abbrev value_at : Option Cut → ℕ
value_at none = 0
value_at (some c) = value_in (event_in c.at)

discarded-last : value_at (last_cut (reports 7) four) ≡ 2
unfolding last_cut any event_in to_bytes exchanges
discarded-last = refl

pub lost-though-discarded-refused : LostAfterFour (starts ∷ orders ∷ four) (seventh Lost) [] → ⊥
unfolding any done_to about to_bytes request_in exchanges
lost-though-discarded-refused so =
    let l = (told_of four (seventh Lost) [] so).left refl refl refl in
    let how : l.reason.how ≡ 2 =
    sym (ap value_in l.reason.report.says)
    ∙ sym (ap value_at (last-report 7 (starts ∷ orders ∷ []) four (place_at (seventh Lost) 7) l))
    ∙ discarded-last in
    true≢false (l.lost ∙ ap (λ (n : ℕ). eqb n 1) how)
