-- By one call more, of the entry point: what has left is released then and not before, and its receipt reads as it did.
use Prim.Native.Nat.{ℕ}
use mathlib.Core.Path.{◌≡◌, ◌∙◌, refl, sym, ap, subst}
use mathlib.Core.Bool.{true, false, true≢false}
use mathlib.Core.List.{List, [], ◌∷◌, ◌++◌}
use lib.Dec.{eqb}
use lib.ListN.{length}
use Rattle.lists.proofs.Choices.{by-test}
use Rattle.llc_rule.specs.Limits.{store_bytes}
use Rattle.llc_rule.specs.Messages.{place_at}
use Rattle.llc_rule.specs.Link.{Link, new}
use Rattle.llc_rule.specs.Step.{step}
use Rattle.llc_rule.specs.Runs as Rule
use Rattle.llc_rule.specs.Runs.{Exchange}
use Rattle.llc_rule.specs.Past.{frees, stays, Holders, holders_after}
use Rattle.llc_rule.specs.Sound.{Sound}
use Rattle.llc_rule.specs.Lost.{StaysSettled}
use Rattle.llc_rule.proofs.SoundCalls.{sound-run}
use Rattle.llc_rule.proofs.Settled.{same-last, settled-step}
use Rattle.llc.specs.Entry.{lent_right}
use Rattle.llc_runs.specs.Runs.{Lent, Station, begin, left, exchange, run, after}
use Rattle.llc_runs.specs.Heard.{put_to}
use Rattle.llc_runs.specs.Claim.{link_at, receipts_after, messages_after}
use Rattle.llc_runs.proofs.Ones.{done-one}
use Rattle.llc_runs.proofs.Runs.{run-split, Asked, asks, Unasked, asks-not, follows, wrong-is, stuck, begin-right, begin-wrong, as_step}

-- A call after which the link is as a step leaves it, or as it was.
abbrev SettledBy : Station → Lent → Type 0
SettledBy s c = StaysSettled (exchange s c) (link_at s).receipts (link_at s).acknowledged (link_at (left s c)).receipts

settled-asked : (s : Station) (c : Lent) (h : Holders) → Sound h (link_at s) → Asked s c → SettledBy s c
settled-asked s c h sound a =
    subst (λ (e : Exchange). StaysSettled e (link_at s).receipts (link_at s).acknowledged (link_at (left s c)).receipts) (sym a.asked)
    (subst (λ (l : Link). StaysSettled (Rule.exchange c.call (step (link_at s) c.call)) (link_at s).receipts (link_at s).acknowledged l.receipts) (sym a.leaves)
    (settled-step h (link_at s) sound c.call))

frees-none : {G : Type 0} (i : ℕ) → stays ≡ frees i → G
frees-none i e = let no : true ≡ false = cc in absurd (true≢false no)

settled-unasked : (s : Station) (c : Lent) → Unasked s c → SettledBy s c
settled-unasked s c u =
    record {
      released = λ i d. frees-none i (sym (done-one (exchange s c) u.one) ∙ d);
      stays = λ i e unheld t. ap (λ (x : Station). place_at (link_at x).receipts i) u.same;
    }

settled-after : (store : List ℕ) (before : List Lent) (c : Lent) → SettledBy (after (begin store) before) c
settled-after store before c =
    let s = after (begin store) before in
    let sound = subst (Sound (holders_after (Rule.run new (put_to store before)))) (sym (as_step store before).link) (sound-run (put_to store before)) in
    by-test (eqb (length store) store_bytes)
    (λ right.
    let ok = (follows (begin store) before (begin-right store right)).sane in
    by-test (lent_right s.store c.out)
    (λ t. settled-asked s c (holders_after (Rule.run new (put_to store before))) sound (asks s c ok t))
    (λ t. settled-unasked s c (asks-not s c t)))
    (λ wrong.
    let w = begin-wrong store wrong in
    settled-unasked s c
    (asks-not s c (ap (λ (x : Station). lent_right x.store c.out) (stuck (begin store) before w).same ∙ wrong-is (begin store) c w)))

after_last : (s : Station) (cs : List Lent) (c : Lent) → after s (cs ++ (c ∷ [])) ≡ left (after s cs) c
unfolding after
after_last s [] c = refl
after_last s (b ∷ cs) c = after_last (left s b) cs c

pub settled-lent :
    (store : List ℕ) (before : List Lent) (c : Lent) (e : Exchange)
    → run (begin store) (before ++ (c ∷ [])) ≡ run (begin store) before ++ (e ∷ [])
    → StaysSettled e (receipts_after store before) (messages_after store before) (receipts_after store (before ++ (c ∷ [])))
unfolding run
settled-lent store before c e is =
    let s = after (begin store) before in
    subst (λ (x : Station). StaysSettled e (link_at s).receipts (link_at s).acknowledged (link_at x).receipts) (sym (after_last (begin store) before c))
    (subst (λ (d : Exchange). StaysSettled d (link_at s).receipts (link_at s).acknowledged (link_at (left s c)).receipts)
    (same-last (run (begin store) before) (exchange s c) e (sym (run-split (begin store) before c []) ∙ is))
    (settled-after store before c))
