-- Searches by the words of iterators, and by the link's own.
use Prim.Native.Nat.{ℕ, ◌<◌, ◌≤◌}
use native.Mathlib.Omega.{arith}
use mathlib.Core.Path.{◌≡◌, ◌∙◌, refl, sym, ap}
use mathlib.Core.Bool.{Bool, true, false, ◌||◌}
use mathlib.Core.List.{◌++◌}
use borrow.Author.Clash.{clash}
use borrow.Author.Tests.{lt-ltb, le-ltb, ltb-true, ltb-false}
use lib.Dec.{ltb}
use lib.ListN.{length}
use Rattle.std.specs.Prelude as Prelude
use Rattle.std.specs.Prelude.{Some, None, unwrap_or}
use Rattle.std.specs.List.{list_any}
use Rattle.lists.specs.Arrays.{position, place_in}
use Rattle.lists.proofs.Arrays.{position-most, position-any}
use Rattle.lists.proofs.Choices.{by-test}
use Rattle.lists.proofs.Lists.{any_append}
use Rattle.lists.proofs.Std.{any-list, position-some, position-none}
use Rattle.questions.specs.Outcome.{accepted, refused, ask}
use Rattle.llc_state.specs.declared.State.{State}
use Rattle.llc_steps.specs.States.{messages_of, udata_of, rows_of}
use Rattle.llc_steps.specs.Calls.{held, waits, row_of, row_for}
use Rattle.llc_queues.specs.Queues.{with_receipt, waits_with}

-- Either of two tests, where the first passes, and where it fails.
pub or-then : (x y : Bool) {a v : Bool} → x || y ≡ v → a ≡ x → a ≡ true → a ≡ v
or-then true y e h t = h ∙ e
or-then false y e h t = clash _ t h

pub or-else : (x y : Bool) {a b v : Bool} → x || y ≡ v → a ≡ x → a ≡ false → b ≡ y → b ≡ v
or-else true y e h f k = clash _ h f
or-else false y e h f k = k ∙ e

pub held-by : (i : ℕ) (s : State) → list_any (with_receipt i) (messages_of s ++ udata_of s) ≡ held i s
unfolding held
held-by i s = any-list (with_receipt i) (messages_of s ++ udata_of s) ∙ any_append (with_receipt i) (messages_of s) (udata_of s)

pub waits-by : (i : ℕ) (s : State) → list_any (waits_with i) (messages_of s) || list_any (with_receipt i) (udata_of s) ≡ waits i s
unfolding waits
waits-by i s = rw (any-list (waits_with i) (messages_of s), any-list (with_receipt i) (udata_of s))

-- The place that a search found, or the count.
pub or-count : (n : ℕ) (o : Prelude.Option ℕ) → unwrap_or o n ≡ place_in n o
or-count n None = refl
or-count n (Some i) = refl

-- Question 7 by what an iterator finds: the row of an SSI, a free one for an SSI without a row, and none.
pub row-there :
    (a : ℕ) (s : State) {i : ℕ}
    → Prelude.position (row_of a) (rows_of s) ≡ Some i
    → accepted i ≡ ask 7 (row_for a s) (accepted (position (row_of a) (rows_of s)))
unfolding row_for
row-there a s e = let t = position-some (row_of a) (rows_of s) e in rw t.0 (ap accepted t.1)

pub row-behind :
    (a : ℕ) (s : State)
    → Prelude.position (row_of a) (rows_of s) ≡ None
    → length (rows_of s) ≡ s.n_rows
    → s.n_rows < 256
    → accepted s.n_rows ≡ ask 7 (row_for a s) (accepted (position (row_of a) (rows_of s)))
unfolding row_for
row-behind a s e n h =
    let t = position-none (row_of a) (rows_of s) e in rw (t.0, lt-ltb s.n_rows 256 h) (ap accepted (sym n ∙ sym t.1))

pub row-none :
    (a : ℕ) (s : State)
    → Prelude.position (row_of a) (rows_of s) ≡ None
    → 256 ≤ s.n_rows
    → refused 7 ≡ ask 7 (row_for a s) (accepted (position (row_of a) (rows_of s)))
unfolding row_for
row-none a s e h = rw ((position-none (row_of a) (rows_of s) e).0, le-ltb s.n_rows 256 h)

-- Question 7 by where the search for the row ends: it is there or can be added where that is below 256.
module _ (a : ℕ) (s : State) (few : s.n_rows ≤ 256) (count : length (rows_of s) ≡ s.n_rows) {row : ℕ} (is : row ≡ position (row_of a) (rows_of s)) where
  pub row-within : row ≤ s.n_rows
  row-within = omega (arith, is, count, position-most (row_of a) (rows_of s))

  row-by : row_for a s ≡ ltb row 256
  unfolding row_for
  row-by =
      rw (position-any (row_of a) (rows_of s), ← is, count)
      (by-test (ltb row s.n_rows)
      (λ t. rw (t, lt-ltb row 256 (omega (arith, few, ltb-true row s.n_rows t))))
      (λ f. let same : row ≡ s.n_rows = omega (arith, row-within, ltb-false row s.n_rows f) in rw (f, same)))

  pub row-below : row < 256 → accepted row ≡ ask 7 (row_for a s) (accepted (position (row_of a) (rows_of s)))
  row-below h = rw (row-by, ← is, lt-ltb row 256 h)

  pub row-beyond : 256 ≤ row → refused 7 ≡ ask 7 (row_for a s) (accepted (position (row_of a) (rows_of s)))
  row-beyond h = rw (row-by, ← is, le-ltb row 256 h)
