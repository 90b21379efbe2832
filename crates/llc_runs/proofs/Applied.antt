-- The theorems applied to the instance: two requests that change places, and a request that is handed down four times.
use Prim.Native.Nat.{ℕ}
use mathlib.Core.Path.{◌≡◌, ◌∙◌, refl, ap, ap₂}
use mathlib.Core.Bool.{true}
use mathlib.Core.List.{List, [], ◌∷◌, ◌++◌}
use lib.Dec.{eqb}
use lib.ListN.{length, take, drop}
use Rattle.lists.specs.Lists.{keep}
use Rattle.questions.specs.Outcome.{number}
use Rattle.llc_rule.specs.Link.{Link, new}
use Rattle.llc_rule.specs.Step.{step}
use Rattle.llc_rule.specs.Rule.{at_outset}
use Rattle.llc_rule.specs.Runs as Rule
use Rattle.llc_rule.specs.Runs.{Exchange}
use Rattle.llc_rule.specs.Past.{whose, History, past}
use Rattle.llc_rule.specs.Seen.{rule_run, calls, ruled, SeesTheSame}
use Rattle.llc_rule.specs.Claim.{whose_after}
use Rattle.llc_rule.specs.Sendings.{sendings, AtMostFour}
use Rattle.llc_rule.proofs.Instance.{first, second, ask_first, ask_second, opening_calls, instance_calls}
use Rattle.llc_rule.proofs.Applied.{whose-first, whose-second, whose-second-then, whose-first-then, second_request, is-request, asked, is-accepted, four-times, answers, answers-are, fourth, fourth-asks, fourth-accepted, answers-parts}
use Rattle.llc_runs.specs.Runs.{Lent, Station, begin, left, exchange, run, after}
use Rattle.llc_runs.specs.Claim.{link_at, receipts_after}
use Rattle.llc_runs.specs.Heard.{fitting, put_to}
use Rattle.llc_runs.proofs.Ones.{sendings-heard}
use Rattle.llc_runs.proofs.Runs.{silent, Asked, asks, fitting-yes, right_is, follows, begin-right}
use Rattle.llc_runs.proofs.Claim.{history-is, put_right, four-later, claim}
use Rattle.llc_runs.proofs.Instance.{zero_store, right, lent_first, lent_second, later_lents, opening_lents, lents, turned_lents, first_fits, second_fits, opening-put, later-fit, lents-put, unhindered-lents, unhindered-turned-lents}

-- Whose a call is, by the calls that are put to the link.
whose-put :
    (cs : List Lent) (ds : List (List ℕ)) (c : Lent)
    → put_to zero_store cs ≡ ds
    → whose_after (run (begin zero_store) cs) c.call ≡ whose_after (Rule.run new ds) c.call
whose-put cs ds c e =
    ap (λ (k : History). whose k.holders c.call) (history-is zero_store cs)
    ∙ ap (λ (x : List (List ℕ)). whose_after (Rule.run new x) c.call) e

-- What is put to the link before the second of the two.
pub first-put : put_to zero_store (opening_lents ++ (lent_first ∷ [])) ≡ opening_calls ++ (ask_first ∷ [])
unfolding lent_first keep
first-put =
    put_right zero_store opening_lents (lent_first ∷ []) (ask_first ∷ []) right (fitting-yes lent_first [] first_fits)
    ∙ ap (λ (x : List (List ℕ)). x ++ (ask_first ∷ [])) opening-put

second-put : put_to zero_store (opening_lents ++ (lent_second ∷ [])) ≡ opening_calls ++ (ask_second ∷ [])
unfolding lent_second keep
second-put =
    put_right zero_store opening_lents (lent_second ∷ []) (ask_second ∷ []) right (fitting-yes lent_second [] second_fits)
    ∙ ap (λ (x : List (List ℕ)). x ++ (ask_second ∷ [])) opening-put

-- They change places, and change back.
pub swap-lents :
    (a : ℕ)
    → SeesTheSame a
    (run (begin zero_store) lents)
    (receipts_after zero_store lents)
    (run (begin zero_store) turned_lents)
    (receipts_after zero_store turned_lents)
unfolding lent_first lent_second
swap-lents =
    (claim.runs zero_store).swap opening_lents lent_first lent_second later_lents first second
    (whose-put opening_lents opening_calls lent_first opening-put ∙ whose-first)
    (whose-put (opening_lents ++ (lent_first ∷ [])) (opening_calls ++ (ask_first ∷ [])) lent_second first-put ∙ whose-second-then)
    refl
    unhindered-lents
    unhindered-turned-lents

pub swap-turned-lents :
    (a : ℕ)
    → SeesTheSame a
    (run (begin zero_store) turned_lents)
    (receipts_after zero_store turned_lents)
    (run (begin zero_store) lents)
    (receipts_after zero_store lents)
unfolding lent_first lent_second
swap-turned-lents =
    (claim.runs zero_store).swap opening_lents lent_second lent_first later_lents second first
    (whose-put opening_lents opening_calls lent_second opening-put ∙ whose-second)
    (whose-put (opening_lents ++ (lent_second ∷ [])) (opening_calls ++ (ask_second ∷ [])) lent_first second-put ∙ whose-first-then)
    refl
    unhindered-turned-lents
    unhindered-lents

-- State and store when the second is asked for: the call is put to the link.
abbrev pub asked_at : Station
asked_at = after (begin zero_store) (opening_lents ++ (lent_first ∷ []))

pub asked-there : Asked asked_at lent_second
asked-there =
    let ok = (follows (begin zero_store) (opening_lents ++ (lent_first ∷ [])) (begin-right zero_store right)).sane in
    asks asked_at lent_second ok (right_is asked_at lent_second ok ∙ second_fits)

pub asked-link : link_at asked_at ≡ asked
asked-link = (claim.as_step zero_store (opening_lents ++ (lent_first ∷ []))).link ∙ ap (Rule.after new) first-put

accepted-there : (exchange asked_at lent_second).number ≡ 0
unfolding lent_second
accepted-there =
    ap (λ (e : Exchange). e.number) asked-there.asked
    ∙ ap (λ (l : Link). number (step l ask_second)) asked-link
    ∙ is-accepted

-- It is handed down four times, and no more.
pub four-lents : AtMostFour second_request (sendings 0x22 (run (left asked_at lent_second) later_lents))
unfolding lent_second
four-lents = four-later zero_store (opening_lents ++ (lent_first ∷ [])) lent_second second_request later_lents accepted-there is-request

-- What follows the request, as the link gives it.
sendings-there :
    sendings 0x22 (run (left asked_at lent_second) later_lents)
    ≡ sendings 0x22 (Rule.run (Rule.left (link_at asked_at) (step (link_at asked_at) lent_second.call)) (fitting later_lents))
sendings-there =
    sendings-heard 0x22 (run (left asked_at lent_second) later_lents) (silent (left asked_at lent_second) later_lents)
    ∙ ap (sendings 0x22)
    ((follows (left asked_at lent_second) later_lents asked-there.sane).heard
    ∙ ap (λ (l : Link). Rule.run l (fitting later_lents)) asked-there.leaves)

pub four-times-lents : eqb (length (sendings 0x22 (run (left asked_at lent_second) later_lents))) 4 ≡ true
unfolding lent_second
four-times-lents =
    ap (λ (n : ℕ). eqb n 4)
    (ap length
    (sendings-there
    ∙ ap₂ (λ (l : Link) (x : List (List ℕ)). sendings 0x22 (Rule.run (Rule.left l (step l ask_second)) x)) asked-link later-fit))
    ∙ four-times

-- And by the rule's own answers on the past of the second address.
past-lents : past second (run (begin zero_store) lents) ≡ past second (Rule.run new instance_calls)
past-lents =
    ap (λ (k : History). k.past second) (history-is zero_store lents)
    ∙ ap (λ (x : List (List ℕ)). past second (Rule.run new x)) lents-put

pub four-by-rule-lents :
    AtMostFour second_request
    (sendings 0x22 (drop 4 (ruled second (run (begin zero_store) lents))))
four-by-rule-lents =
    rw (past-lents, answers-are)
    (((claim.runs zero_store).four_by_rule lents unhindered-lents second).each (take 3 answers) fourth (drop 4 answers) second_request
    (ap (λ (es : List Exchange). rule_run at_outset (calls es)) past-lents ∙ answers-parts)
    fourth-accepted
    fourth-asks)
