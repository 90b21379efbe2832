-- The address rows, as the link that a state holds has them.
use Prim.Native.Nat.{ℕ}
use mathlib.Core.Path.{◌≡◌, ◌∙◌, refl, sym, ap, ap₂}
use mathlib.Core.Bool.{◌||◌}
use mathlib.Core.List.{List, map}
use lib.Dec.{ltb}
use lib.ListN.{get_or, length-map}
use Rattle.lists.specs.Lists.{filed}
use Rattle.lists.specs.Arrays.{position, placed}
use Rattle.lists.proofs.Tables.{first-viewed, filed-viewed, first-at, filed-at}
use Rattle.llc_rule.specs.Link as Link
use Rattle.llc_rule.specs.Step as Step
use Rattle.llc_state.specs.States.{new_seq}
use Rattle.llc_state.specs.View.{numbers_in, row_in, link_in}
use Rattle.llc_state.specs.declared.LinkSendSeq.{LinkSendSeq}
use Rattle.llc_state.specs.declared.State.{State}
use Rattle.llc_state.proofs.Maps.{any-map}
use Rattle.llc_steps.specs.States.{rows_of}
use Rattle.llc_steps.specs.Calls.{row_of, seq_of, with_seq, row_for}
use Rattle.llc_steps.specs.Holds.{Counted}

-- The numbers of an address, and the rows with others.
pub seq_in : (a : ℕ) (rs : List LinkSendSeq) → Link.numbers_of a (map row_in rs) ≡ numbers_in (seq_of a rs)
unfolding row_in
seq_in a rs = ap (λ (w : Link.Row). w.numbers) (first-viewed row_in (row_of a) (Link.is_row_of a) (λ r. refl) (new_seq a) rs)

pub with-seq-in :
    (a : ℕ) (w : LinkSendSeq) (rs : List LinkSendSeq)
    → w.ssi ≡ a
    → map row_in (with_seq a w rs) ≡ Link.with_numbers a (numbers_in w) (map row_in rs)
unfolding row_in
with-seq-in a w rs e =
    sym (filed-viewed row_in (row_of a) (Link.is_row_of a) (λ r. refl) w rs)
    ∙ ap (λ (b : ℕ). filed (Link.is_row_of a) (Link.row_with b (numbers_in w)) (map row_in rs)) e

-- In the array: the row at the place where the search for it ends, and another put there.
pub seq-at :
    (a : ℕ) (rs : List LinkSendSeq) {row : ℕ} → row ≡ position (row_of a) rs → get_or rs row (new_seq a) ≡ seq_of a rs
seq-at a rs e = ap (λ (k : ℕ). get_or rs k (new_seq a)) e ∙ sym (first-at (row_of a) (new_seq a) rs)

pub placed-seq :
    (a : ℕ) (rs : List LinkSendSeq) {row : ℕ} {w v : LinkSendSeq}
    → row ≡ position (row_of a) rs
    → w ≡ v
    → placed w row rs ≡ with_seq a v rs
placed-seq a rs {v = v} e f = (λ i. placed (f i) (e i) rs) ∙ sym (filed-at (row_of a) v rs)

-- Question 7 of a row is that of the link that the state holds.
pub row-in : (a : ℕ) (s : State) (store : List ℕ) → Counted s → row_for a s ≡ Step.row_for a (link_in s store)
unfolding row_for Step.row_for link_in row_in
row-in a s store ok =
    ap₂ ◌||◌
    (sym (any-map row_in (Link.is_row_of a) (rows_of s)))
    (ap (λ (n : ℕ). ltb n 256) (sym (length-map (rows_of s) row_in ∙ ok.rows)))
