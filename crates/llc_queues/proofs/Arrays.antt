-- An array with an element in the place of one in use.
use Prim.Native.Nat.{ℕ, ◌≤◌, ◌<◌}
use native.Mathlib.Omega.{arith}
use mathlib.Core.Path.{◌≡◌, sym, ◌∙◌, ap, ap₂}
use mathlib.Core.List.{List, ◌++◌}
use lib.ListN.{length, take, drop, set, length-set, take-append-drop}
use lib.Seq.{length-take-le, set_split, take-set-lt, drop-set-lt}
use Rattle.lists.specs.Arrays.{laid, placed}
use Rattle.lists.proofs.Arrays.{laid_more}
use Rattle.llc_state.specs.declared.LinkSendSeq.{LinkSendSeq}
use Rattle.llc_state.specs.declared.State.{State}
use Rattle.llc_state.specs.States.{no_row}
use Rattle.llc_steps.specs.States.{rows_of, put_rows, with_rows}

module _ {A : Type 0} where
  -- An element put in the place of one in use.
  placed-is : (n i : ℕ) (l : List A) (x : A) → i < n → n ≤ length l → placed x i (take n l) ≡ take n (set l i x)
  placed-is n i l x h k =
      sym (set_split (take n l) i x (omega (arith, length-take-le n l k))) ∙ sym (take-set-lt n l i x h)

  length-placed : (n i : ℕ) (l : List A) (x : A) → i < n → n ≤ length l → length (placed x i (take n l)) ≡ n
  length-placed n i l x h k =
      ap length (placed-is n i l x h k) ∙ length-take-le n (set l i x) (omega (arith, length-set l i x))

  laid-placed :
      (empty : A) (n i : ℕ) (l : List A) (x : A)
      → i < n
      → n ≤ length l
      → laid empty n (placed x i (take n l)) l ≡ set l i x
  laid-placed empty n i l x h k =
      let e = length-placed n i l x h k in
      laid_more empty n (placed x i (take n l)) l (omega arith)
      ∙ ap₂ (λ (u : List A) (m : ℕ). u ++ drop m l) (placed-is n i l x h k) e
      ∙ ap (λ (t : List A). take n (set l i x) ++ t) (sym (drop-set-lt n l i x h))
      ∙ take-append-drop n (set l i x)

-- A row in the place of one in use.
pub puts_row :
    (s : State) (i : ℕ) (w : LinkSendSeq)
    → i < s.n_rows
    → s.n_rows ≤ length s.link_send_seq
    → put_rows s s.n_rows (set s.link_send_seq i w) ≡ with_rows s (placed w i (rows_of s))
puts_row s i w h k =
    ap₂ (put_rows s) (sym (length-placed s.n_rows i s.link_send_seq w h k)) (sym (laid-placed no_row s.n_rows i s.link_send_seq w h k))
