-- In a run the receipt of an acknowledged message expects an acknowledgement, so that it is marked wherever it is Transmitted.
use Prim.Native.Nat.{ℕ}
use mathlib.Core.Path.{◌≡◌, ◌∙◌, refl, ap, subst}
use mathlib.Core.Bool.{true}
use mathlib.Core.List.{List, [], ◌∷◌}
use lib.Dec.{eqb}
use Rattle.lists.specs.Lists.{keep, All}
use Rattle.lists.proofs.Lists.{all_map}
use Rattle.lists.proofs.Choices.{by-test}
use Rattle.tx_receipt.specs.States.{is}
use Rattle.tx_receipt.specs.Marks.{acknowledged, allowed}
use Rattle.tx_receipt.specs.declared.TxState.TheVariants.{Transmitted}
use Rattle.llc_rule.specs.Messages.{Message, Place, free, taken, place_at, taken?}
use Rattle.llc_rule.specs.Link.{new}
use Rattle.llc_rule.specs.Rule.{Own}
use Rattle.llc_rule.specs.Runs.{run, after}
use Rattle.llc_rule.specs.Past.{Holders, holders_after, is_holder}
use Rattle.llc_rule.specs.Seen.{kept_by_rule, unhindered, MarkedWhereTransmitted}
use Rattle.llc_rule.specs.Sound.{expects, Owned, Waiting, of_address}
use Rattle.llc_rule.proofs.Own.{own, blank, place-own}
use Rattle.llc_rule.proofs.SoundCalls.{sound-run}
use Rattle.llc_rule.proofs.Demand3.{has-own}

-- The table has one test for the two marks.
expecting : (p : Place) → taken? expects p ≡ true → taken? (allowed acknowledged) p ≡ taken? (is Transmitted) p
expecting free e = refl
expecting (taken r) e = rw e

held : (ps : List Place) (m : Message) → Waiting ps m → MarkedWhereTransmitted ps m
held ps m w =
    let e = expecting (place_at ps m.sent.receipt) w.expects in record { acknowledged = e; lost = e }

-- The same among the receipts that an address holds, of its own messages.
held-own :
    (a : ℕ) (h : Holders) (ps : List Place) (m : Message)
    → eqb m.sent.ssi a ≡ true
    → Owned h ps m.sent
    → Waiting ps m
    → MarkedWhereTransmitted (blank a h ps) m
held-own a h ps m e o w =
    let there = place-own a h ps m.sent.receipt (ap (is_holder a) o.holder ∙ e) in
    let marked = expecting (place_at ps m.sent.receipt) w.expects in
    record { acknowledged = rw there marked; lost = rw there marked }

all_own :
    (a : ℕ) (h : Holders) (ps : List Place) (ms : List Message)
    → All (λ (m : Message). Owned h ps m.sent) ms
    → All (Waiting ps) ms
    → All (MarkedWhereTransmitted (blank a h ps)) (of_address a ms)
unfolding keep
all_own a h ps [] o w = tt
all_own a h ps (m ∷ ms) o w =
    let rest = all_own a h ps ms o.1 w.1 in
    by-test (eqb m.sent.ssi a)
    (λ t. rw t (held-own a h ps m t o.0 w.0, rest))
    (λ t. rw t rest)

own-marked :
    (a : ℕ) (cs : List (List ℕ))
    → All
    (MarkedWhereTransmitted (own a (holders_after (run new cs)) (after new cs)).receipts)
    (own a (holders_after (run new cs)) (after new cs)).acknowledged
unfolding own
own-marked a cs =
    all_own a (holders_after (run new cs)) (after new cs).receipts (after new cs).acknowledged
    (sound-run cs).owned
    (sound-run cs).waiting

pub where-transmitted : (cs : List (List ℕ)) → All (MarkedWhereTransmitted (after new cs).receipts) (after new cs).acknowledged
where-transmitted cs = all_map _ _ (after new cs).acknowledged (held (after new cs).receipts) (sound-run cs).waiting

pub where-transmitted-by-rule :
    (cs : List (List ℕ))
    → unhindered (run new cs) ≡ true
    → (a : ℕ)
    → All (MarkedWhereTransmitted (kept_by_rule a (run new cs)).receipts) (kept_by_rule a (run new cs)).acknowledged
where-transmitted-by-rule cs u a =
    subst (λ (o : Own). All (MarkedWhereTransmitted o.receipts) o.acknowledged) (has-own a cs u) (own-marked a cs)
