-- What is claimed of every run, of the link as lists.
use Prim.Native.Nat.{ℕ}
use mathlib.Core.Path.{◌≡◌, refl, ap}
use mathlib.Core.List.{List, [], ◌∷◌, map}
use Rattle.llc_rule.specs.Link.{Link, new}
use Rattle.llc_rule.specs.Step.{step}
use Rattle.llc_rule.specs.Runs.{left, run, after}
use Rattle.llc_rule.specs.Seen.{calls}
use Rattle.llc_rule.specs.Claim.{Claims}
use Rattle.llc_rule.proofs.Demand3.{demand3}
use Rattle.llc_rule.proofs.Swap.{swap}
use Rattle.llc_rule.proofs.UnderWay.{one-under-way, one-among-held}
use Rattle.llc_rule.proofs.WhereTransmitted.{where-transmitted, where-transmitted-by-rule}
use Rattle.llc_rule.proofs.ReadBack.{read-back-run}
use Rattle.llc_rule.proofs.Repeats.{repeats-run}
use Rattle.llc_rule.proofs.Texts.{texts-run}
use Rattle.llc_rule.proofs.Lost.{lost-run, four-run}
use Rattle.llc_rule.proofs.LostByRule.{lost-ruled, four-ruled}
use Rattle.llc_rule.proofs.Settled.{settled-run}

calls-run : (l : Link) (cs : List (List ℕ)) → calls (run l cs) ≡ map (λ (c : List ℕ). c) cs
unfolding run
calls-run l [] = refl
calls-run l (c ∷ cs) = ap (λ (x : List (List ℕ)). c ∷ x) (calls-run (left l (step l c)) cs)

pub claims :
    Claims (λ (c : List ℕ). c) (run new) (λ (cs : List (List ℕ)). (after new cs).receipts) (λ (cs : List (List ℕ)). (after new cs).acknowledged)
claims =
    record {
      calls = calls-run new;
      demand3 = demand3;
      swap = swap;
      one_under_way = one-under-way;
      one_among_held = one-among-held;
      where_transmitted = where-transmitted;
      where_transmitted_by_rule = where-transmitted-by-rule;
      texts = texts-run;
      repeats = repeats-run;
      read_back = read-back-run;
      four = four-run;
      four_by_rule = four-ruled;
      lost = lost-run;
      lost_by_rule = lost-ruled;
      settled = settled-run;
    }
