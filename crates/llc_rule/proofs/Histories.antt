-- An address's past as it is read from the first exchange on, for proofs by induction on a run.
use Prim.Native.Nat.{ℕ}
use mathlib.Core.Path.{◌≡◌, ◌∙◌, sym}
use mathlib.Core.Bool.{cond}
use mathlib.Core.List.{List, [], ◌∷◌, ◌++◌, append_assoc, append-nil}
use Rattle.llc_rule.specs.Runs.{Exchange}
use Rattle.llc_rule.specs.Past.{Holders, nobody, holders, in_past, History, nothing_yet, and_then, history, past}

-- The exchanges that are in the past of address a, from holders h on.
unfoldable pub past_from : ℕ → Holders → List Exchange → List Exchange
past_from a h [] = []
past_from a h (e ∷ es) = cond (in_past a h e) (e ∷ []) [] ++ past_from a (holders e h) es

past-then : (a : ℕ) (k : History) (es : List Exchange) → (history k es).past a ≡ k.past a ++ past_from a k.holders es
unfolding past_from history and_then
past-then a k [] = sym (append-nil (k.past a))
past-then a k (e ∷ es) =
    past-then a (and_then e k) es
    ∙ append_assoc (k.past a) (cond (in_past a k.holders e) (e ∷ []) []) (past_from a (holders e k.holders) es)

pub past-from : (a : ℕ) (es : List Exchange) → past a es ≡ past_from a nobody es
unfolding nothing_yet
past-from a es = past-then a nothing_yet es
