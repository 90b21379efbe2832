-- What Lost tells, and at most four sendings of every accepted request: of every run.
use Prim.Native.Nat.{ℕ}
use mathlib.Core.Path.{refl}
use mathlib.Core.List.{List}
use mathlib.Core.Option.{none}
use Rattle.llc_rule.specs.Messages.{place_at}
use Rattle.llc_rule.specs.Link.{new}
use Rattle.llc_rule.specs.Runs.{run, after}
use Rattle.llc_rule.specs.Past.{nobody}
use Rattle.llc_rule.specs.Sendings.{EachAtMostFour}
use Rattle.llc_rule.specs.Lost.{is_held, LostAfterFour}
use Rattle.llc_rule.proofs.SoundCalls.{sound-new}
use Rattle.llc_rule.proofs.Watches.{watch_from, Each, End}
use Rattle.llc_rule.proofs.Told.{at_outset, lost-after-four, four-of-each}
use Rattle.llc_rule.proofs.Follows.{end_of}
use Rattle.llc_rule.proofs.FollowsCalls.{each-run, at-end, at_first}

-- What is read off a run of each receipt, and what the link has of it at the end.
pub read-run : (cs : List (List ℕ)) (i : ℕ) → Each i at_outset none (run new cs)
read-run cs i = each-run i nobody new at_outset none cs sound-new refl (at_first i)

pub end-run :
    (cs : List (List ℕ)) (i : ℕ)
    → End (watch_from i at_outset none (run new cs)) (place_at (after new cs).receipts i) (is_held i (after new cs).acknowledged)
end-run cs i =
    end_of i _ (watch_from i at_outset none (run new cs)) (after new cs) (at-end i nobody new at_outset none cs sound-new refl (at_first i))

pub lost-run : (cs : List (List ℕ)) → LostAfterFour (run new cs) (after new cs).receipts (after new cs).acknowledged
lost-run cs = lost-after-four (run new cs) (after new cs).receipts (after new cs).acknowledged (read-run cs) (end-run cs)

pub four-run : (cs : List (List ℕ)) → EachAtMostFour (run new cs)
four-run cs = four-of-each (run new cs) (read-run cs)
