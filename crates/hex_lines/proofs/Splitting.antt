-- Reading an input character by character gives the call of each of its lines.
use Prim.Native.Nat.{ℕ, ◌≤◌}
use mathlib.Core.Path.{◌≡◌, ◌∙◌, refl, ap}
use mathlib.Core.Bool.{false, cond}
use mathlib.Core.List.{List, [], ◌∷◌, ◌++◌, map, append_assoc, append-nil}
use mathlib.Core.Option.{Option}
use borrow.Author.Tests.{eqb-true}
use lib.Dec.{eqb}
use lib.ListN.{length}
use Rattle.lists.proofs.Choices.{by-test}
use Rattle.hex_lines.specs.Lines.{most_bytes, line_end, call_in, lines_of, NoEnd}
use Rattle.hex_lines.specs.Gathering.{fresh, feed_of, begun_of, finished_of, said, scan, calls, behind}
use Rattle.hex_lines.specs.Fed.{Fed}
use Rattle.hex_lines.specs.declared.Line.{Line}
use Rattle.hex_lines.proofs.Feeding.{begin, feed-keeps, finished-says}

-- A line up to its line end, and a last line without one.
pub whole-line : (l : List ℕ) → NoEnd l → (cs : List ℕ) → lines_of (l ++ (line_end ∷ cs)) ≡ l ∷ lines_of cs
unfolding lines_of
whole-line [] n cs = refl
whole-line (c ∷ l) n cs = rw (n.0, whole-line l n.1 cs)

pub last_line : (c : ℕ) (l : List ℕ) → NoEnd (c ∷ l) → lines_of (c ∷ l) ≡ (c ∷ l) ∷ []
unfolding lines_of
last_line c [] n = rw n.0
last_line c (d ∷ l) n = rw (n.0, last_line d l n.1)

no-end-more : (ps : List ℕ) (c : ℕ) → NoEnd ps → eqb c line_end ≡ false → NoEnd (ps ++ (c ∷ []))
no-end-more [] c n e = (e, tt)
no-end-more (p ∷ ps) c n e = (n.0, no-end-more ps c n.1 e)

-- The input's end.
at-end :
    (ps : List ℕ) {l : Line} {bs : List ℕ}
    → Fed ps l bs
    → NoEnd ps
    → cond (begun_of l) (said (finished_of l) bs ∷ []) [] ≡ map call_in (lines_of ps)
unfolding lines_of
at-end [] f n = rw f.begun
at-end (p ∷ ps) f n = rw (f.begun, last_line p ps n, finished-says f)

-- From a line of which the characters ps have come.
pub scan-on :
    {ps : List ℕ} {l : Line} {bs : List ℕ} (cs : List ℕ)
    → Fed ps l bs
    → NoEnd ps
    → scan l bs cs ≡ map call_in (lines_of (ps ++ cs))
unfolding scan
scan-on {ps} {l} {bs} [] f n = rw (append-nil ps) (at-end ps f n)
scan-on {ps} {l} {bs} (c ∷ cs) f n =
    by-test (eqb c line_end)
    (λ t.
    rw (t, eqb-true c line_end t, whole-line ps n cs, finished-says f)
    (ap (λ (r : List (Option (List ℕ))). said (finished_of l) bs ∷ r) (scan-on {ps = []} cs (begin bs f.room) tt)))
    (λ t. rw t (scan-on {ps = ps ++ (c ∷ [])} cs (feed-keeps c f) (no-end-more ps c n t) ∙ rw (append_assoc ps (c ∷ []) cs)))

-- A whole input, from its first character on.
pub scan-reads : (bs cs : List ℕ) → most_bytes ≤ length bs → scan fresh bs cs ≡ map call_in (lines_of cs)
scan-reads bs cs room = scan-on cs (begin bs room) tt

-- An input in chunks: the calls of the first one, then those from what is under way behind it.
pub scan-chunk :
    (cs : List ℕ) (l : Line) (bs ds : List ℕ)
    → scan l bs (cs ++ ds) ≡ calls l bs cs ++ scan (behind l bs cs).line (behind l bs cs).bytes ds
unfolding scan calls behind
scan-chunk [] l bs ds = refl
scan-chunk (c ∷ cs) l bs ds =
    by-test (eqb c line_end)
    (λ t. rw (t, scan-chunk cs fresh bs ds))
    (λ t. rw (t, scan-chunk cs (feed_of l bs c).line (feed_of l bs c).bytes ds))
