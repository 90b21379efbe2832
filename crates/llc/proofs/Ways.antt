-- What the ways through the entry point need beside the definitions: as many bytes as asked for are eight times as many bits, and
-- question 5 of a decoded call is that of the rule's. And what an answer tells of its records.
use Prim.Native.Nat.{ℕ, ◌≤◌}
use native.Mathlib.Omega.{arith}
use mathlib.Core.Path.{◌≡◌, sym, subst}
use mathlib.Core.List.{List}
use lib.ListN.{length, drop, length-append}
use Rattle.questions.specs.Outcome.{Outcome, accepted, refused}
use Rattle.bits.proofs.Laws.{length-bits}
use Rattle.llc_rule.specs.Records.{all_bytes}
use Rattle.llc_calls.proofs.Laws.{in-range}
use Rattle.llc_state.specs.declared.State.{State}
use Rattle.llc_steps.specs.States.{Kept}
use Rattle.llc_steps.specs.declared.Answer.{Answer}
use Rattle.llc_steps.specs.Answers.{Effect, effect, laid_out, delivered}
use Rattle.llc.specs.Entry.{outcome_of, call_of}

pub ruleset asked = (length-bits, in-range)

-- The records that are told of are in the output.
len-fits : (s : State) (store out : List ℕ) (o : Outcome Kept) → (delivered s store out o).answer.len ≤ length (delivered s store out o).out
unfolding laid_out
len-fits s store out (accepted k) =
    omega (arith, length-append (all_bytes k.records) (drop (length (all_bytes k.records)) out))
len-fits s store out (refused n) = omega arith

pub told-fits :
    (s : State) (store out bytes : List ℕ) {r : Answer} {after left : List ℕ}
    → effect r after left ≡ call_of s store out bytes
    → r.len ≤ length left
unfolding call_of
told-fits s store out bytes e =
    subst (λ (x : Effect). x.answer.len ≤ length x.out) (sym e) (len-fits s store out (outcome_of s store out bytes))
