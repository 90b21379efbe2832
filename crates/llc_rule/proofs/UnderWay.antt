-- An address has at most one acknowledged message under way.
use Prim.Native.Nat.{ℕ, ◌≤◌}
use native.Mathlib.Omega.{arith}
use mathlib.Core.Path.{◌≡◌, ◌∙◌, refl, ap, subst}
use mathlib.Core.Bool.{Bool, true, false}
use mathlib.Core.List.{List, [], ◌∷◌}
use borrow.Author.Tests.{not-true}
use lib.ListN.{length}
use Rattle.std.proofs.lemmas.Bool.{or_parts}
use Rattle.lists.specs.Lists.{keep, any}
use Rattle.lists.proofs.Lists.{keep-yes, keep-no}
use Rattle.lists.proofs.Choices.{by-test}
use Rattle.llc_rule.specs.Messages.{Message}
use Rattle.llc_rule.specs.Link.{Link, new}
use Rattle.llc_rule.specs.Rule.{Own}
use Rattle.llc_rule.specs.Runs.{run, after}
use Rattle.llc_rule.specs.Past.{Holders, holders_after}
use Rattle.llc_rule.specs.Seen.{kept_by_rule, unhindered, count_under_way}
use Rattle.llc_rule.specs.Sound.{one_ahead, of_address}
use Rattle.llc_rule.proofs.Own.{own}
use Rattle.llc_rule.proofs.SoundCalls.{sound-run}
use Rattle.llc_rule.proofs.Demand3.{has-own}

abbrev is_submitted : Message → Bool
is_submitted m = m.submitted

none_kept : (ms : List Message) → any is_submitted ms ≡ false → count_under_way ms ≡ 0
unfolding any keep
none_kept [] e = refl
none_kept (m ∷ ms) e =
    let n = or_parts (is_submitted m) (any is_submitted ms) e in
    ap length (keep-no is_submitted m ms n.0) ∙ none_kept ms n.1

at_most_one : (ms : List Message) → one_ahead ms ≡ true → count_under_way ms ≤ 1
unfolding one_ahead keep
at_most_one [] e = omega arith
at_most_one (m ∷ ms) e =
    let rest = none_kept ms (not-true (any is_submitted ms) e) in
    by-test (is_submitted m)
    (λ t. omega (arith, rest, ap length (keep-yes is_submitted m ms t)))
    (λ t. omega (arith, rest, ap length (keep-no is_submitted m ms t)))

pub one-among-held : (cs : List (List ℕ)) (a : ℕ) → count_under_way (of_address a (after new cs).acknowledged) ≤ 1
one-among-held cs a = at_most_one (of_address a (after new cs).acknowledged) ((sound-run cs).ahead a)

own-acknowledged : (a : ℕ) (h : Holders) (l : Link) → of_address a l.acknowledged ≡ (own a h l).acknowledged
unfolding own
own-acknowledged a h l = refl

pub one-under-way : (cs : List (List ℕ)) → unhindered (run new cs) ≡ true → (a : ℕ) → count_under_way (kept_by_rule a (run new cs)).acknowledged ≤ 1
one-under-way cs u a =
    subst (λ (ms : List Message). count_under_way ms ≤ 1)
    (own-acknowledged a (holders_after (run new cs)) (after new cs) ∙ ap (λ (o : Own). o.acknowledged) (has-own a cs u))
    (one-among-held cs a)
