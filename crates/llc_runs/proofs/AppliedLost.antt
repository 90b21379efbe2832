-- What Lost tells, applied to the instance: before its receipt is released the order to the second address has left as Lost.
use Prim.Native.Nat.{ℕ}
use mathlib.Core.Path.{◌≡◌, ◌∙◌, refl, ap, ap₂}
use mathlib.Core.Bool.{Bool, true, false, ◌||◌}
use mathlib.Core.List.{List, [], ◌∷◌, ◌++◌}
use lib.ListN.{take}
use Rattle.lists.specs.Lists.{any, all, All}
use Rattle.tx_receipt.specs.declared.TxState.TheVariants.{Lost}
use Rattle.llc_rule.specs.Calls.{to_bytes}
use Rattle.llc_rule.specs.Messages.{place_at}
use Rattle.llc_rule.specs.Link.{Link, new}
use Rattle.llc_rule.specs.Step.{step}
use Rattle.llc_rule.specs.Runs as Rule
use Rattle.llc_rule.specs.Runs.{Exchange}
use Rattle.llc_rule.specs.Past.{about, done_to}
use Rattle.llc_rule.specs.Sendings.{ends}
use Rattle.llc_rule.specs.Lost.{ordered, event_in, ends_holding, reads, is_held, LeftAfterFour}
use Rattle.llc_rule.proofs.Runs.{exchanges}
use Rattle.llc_rule.proofs.Instance.{ask_first, ask_second, opening_calls, later_calls}
use Rattle.llc_rule.proofs.Applied.{second_request, asked}
use Rattle.llc_runs.specs.Runs.{Lent, begin, left, exchange, run, after}
use Rattle.llc_runs.specs.Heard.{heard_of, fitting, put_to}
use Rattle.llc_runs.specs.Claim.{link_at, receipts_after, messages_after}
use Rattle.llc_runs.proofs.Ones.{Silent, read-heard, done-one}
use Rattle.llc_runs.proofs.Runs.{silent, run-split, follows, fitting-yes, as_step}
use Rattle.llc_runs.proofs.Claim.{put_right, claim}
use Rattle.llc_runs.proofs.Instance.{zero_store, right, wide, wide_fits, is_bytes, lend, lent-fit, lent_first, lent_second, opening_lents, second_fits}
use Rattle.llc_runs.proofs.Applied.{first-put, asked_at, asked-there, asked-link}

-- The calls behind the request up to the one before the release.
unfoldable held_calls : List (List ℕ)
unfolding later_calls
held_calls = take 32 later_calls

held_bytes : all is_bytes held_calls ≡ true
unfolding all to_bytes held_calls later_calls
held_bytes = refl

pub held_lents : List Lent
held_lents = lend wide held_calls held_bytes

abbrev pub lost_lents : List Lent
lost_lents = (opening_lents ++ (lent_first ∷ [])) ++ (lent_second ∷ held_lents)

held-fit : fitting held_lents ≡ held_calls
unfolding held_lents
held-fit = lent-fit wide held_calls held_bytes wide_fits

-- What of it is put to the link.
abbrev lost_calls : List (List ℕ)
lost_calls = (opening_calls ++ (ask_first ∷ [])) ++ (ask_second ∷ held_calls)

lost-put : put_to zero_store lost_lents ≡ lost_calls
unfolding lent_second
lost-put =
    put_right zero_store (opening_lents ++ (lent_first ∷ [])) (lent_second ∷ held_lents) (ask_second ∷ held_calls) right
    (fitting-yes lent_second held_lents second_fits ∙ ap (λ (x : List (List ℕ)). ask_second ∷ x) held-fit)
    ∙ ap (λ (x : List (List ℕ)). x ++ (ask_second ∷ held_calls)) first-put

lost-link : link_at (after (begin zero_store) lost_lents) ≡ Rule.after new lost_calls
lost-link = (claim.as_step zero_store lost_lents).link ∙ ap (Rule.after new) lost-put

-- It is an order.
order-there : event_in (Rule.exchange ask_second (step asked ask_second)) ≡ ordered second_request
unfolding event_in Rule.after to_bytes exchanges opening_calls
order-there = refl

is-order : event_in (exchange asked_at lent_second) ≡ ordered second_request
unfolding lent_second
is-order =
    ap event_in asked-there.asked
    ∙ ap (λ (l : Link). event_in (Rule.exchange ask_second (step l ask_second))) asked-link
    ∙ order-there

-- Its request holds its receipt, also if calls that got number 1 are passed over.
holding-heard : (i : ℕ) (es : List Exchange) → All Silent es → any (ends_holding i) es ≡ any (ends_holding i) (heard_of es)
unfolding any
holding-heard i es q =
    read-heard Silent (λ j es. any (ends_holding j) es)
    (λ j e es ds r. ap (λ (b : Bool). ends_holding j e || b) (r j))
    (λ j e es n g. ap (λ (b : Bool). b || any (ends_holding j) es) (ap (ends j) (done-one e n)))
    i es q

holds-there : any (ends_holding 0x22) (Rule.run (Rule.left asked (step asked ask_second)) held_calls) ≡ false
unfolding any done_to about Rule.run Rule.after to_bytes exchanges opening_calls held_calls later_calls
holds-there = refl

holds : any (ends_holding 0x22) (run (left asked_at lent_second) held_lents) ≡ false
unfolding lent_second
holds =
    holding-heard 0x22 (run (left asked_at lent_second) held_lents) (silent (left asked_at lent_second) held_lents)
    ∙ ap (any (ends_holding 0x22))
    ((follows (left asked_at lent_second) held_lents asked-there.sane).heard
    ∙ ap₂ Rule.run (asked-there.leaves ∙ ap (λ (l : Link). Rule.left l (step l ask_second)) asked-link) held-fit)
    ∙ holds-there

-- Its message is no longer held, and its receipt reads Lost.
unheld : is_held 0x22 (messages_after zero_store lost_lents) ≡ false
unfolding any Rule.after to_bytes exchanges opening_calls held_calls later_calls
unheld = ap (λ (l : Link). is_held 0x22 l.acknowledged) lost-link ∙ refl

pub reads-lost : reads Lost (place_at (receipts_after zero_store lost_lents) 0x22) ≡ true
unfolding Rule.after to_bytes exchanges opening_calls held_calls later_calls
reads-lost = ap (λ (l : Link). reads Lost (place_at l.receipts 0x22)) lost-link ∙ refl

-- So it left after four sendings, for its reasons.
pub lost-lents :
    LeftAfterFour 0x22 (run (begin zero_store) (opening_lents ++ (lent_first ∷ [])) ++ (exchange asked_at lent_second ∷ []))
    (run (left asked_at lent_second) held_lents) (place_at (receipts_after zero_store lost_lents) 0x22)
lost-lents =
    (((claim.runs zero_store).lost lost_lents).each
    (run (begin zero_store) (opening_lents ++ (lent_first ∷ []))) (exchange asked_at lent_second) (run (left asked_at lent_second) held_lents) second_request
    (run-split (begin zero_store) (opening_lents ++ (lent_first ∷ [])) lent_second held_lents)
    is-order
    ).left holds unheld (rw reads-lost)
