-- Whom a call concerns and what it does to holding belong together.
use Prim.Native.Nat.{ℕ}
use mathlib.Core.Path.{◌≡◌, ◌∙◌, refl, ap}
use mathlib.Core.List.{List}
use mathlib.Core.Option.{some, some-injective, none-ne-some}
use borrow.Author.Tests.{eq-eqb}
use Rattle.std.proofs.lemmas.Bool.{cond-true}
use Rattle.questions.specs.Outcome.{Outcome, accepted, refused}
use Rattle.llc_rule.specs.Calls.{Call, start, tick_start, tick_end, request, frame, by_receipt, report, release, Request, parsed}
use Rattle.llc_rule.specs.Runs.{Exchange}
use Rattle.llc_rule.specs.Past.{Whom, everybody, address, holder_of, Holding, empties, takes, frees, stays, about_read, about_call, about, Holders, held_after, done_to, holders}
use Rattle.llc_rule.specs.Sendings.{taker, request_spelled}

-- What an accepted call is about.
pub about-accepted : (bytes : List ℕ) (c : Call) → parsed bytes ≡ accepted c → about bytes ≡ about_call c
unfolding about
about-accepted bytes c e = ap about_read e

-- An accepted request takes its receipt, and its SSI then holds that.
pub takes-for : (x : Holding) (r : Request) → taker x ≡ some r → x ≡ takes r
takes-for empties r t = absurd (none-ne-some r t)
takes-for (takes q) r t = ap takes (some-injective q r t)
takes-for (frees i) r t = absurd (none-ne-some r t)
takes-for stays r t = absurd (none-ne-some r t)

pub takes-own :
    (e : Exchange) (h : Holders) (r : Request)
    → e.number ≡ 0
    → request_spelled e.call ≡ some r
    → holders e h r.receipt ≡ some r.ssi
unfolding holders done_to
takes-own e h r n t =
    ap (λ (x : Holding). held_after x h r.receipt)
    (cond-true _ (about e.call).to_holding stays (eq-eqb e.number 0 n) ∙ takes-for (about e.call).to_holding r t)
    ∙ cond-true _ (some r.ssi) (h r.receipt) (eq-eqb r.receipt r.receipt refl)

-- What takes a receipt for a request concerns its address, what frees one its holder, and what empties all everybody.
abbrev pub Agree : Whom → Holding → Type 0
Agree w empties = w ≡ everybody
Agree w (takes r) = w ≡ address r.ssi
Agree w (frees i) = w ≡ holder_of i
Agree w stays = Unit {0}

agree-call : (c : Call) → Agree (about_call c).whom (about_call c).to_holding
agree-call (start carrier t251) = refl
agree-call (tick_start time) = tt
agree-call tick_end = tt
agree-call (request s r) = refl
agree-call (frame f) = tt
agree-call (by_receipt i (report how)) = tt
agree-call (by_receipt i release) = refl

agree-read : (o : Outcome Call) → Agree (about_read o).whom (about_read o).to_holding
agree-read (refused n) = tt
agree-read (accepted c) = agree-call c

pub agree : (bytes : List ℕ) → Agree (about bytes).whom (about bytes).to_holding
unfolding about
agree bytes = agree-read (parsed bytes)
