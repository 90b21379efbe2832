-- The elements of an array moved by one place: what is in use without the one of a place, and with it in front.
use Prim.Native.Nat.{ℕ, suc, ◌+◌, ◌-◌, ◌≤◌, ◌<◌}
use native.Mathlib.Omega.{arith}
use mathlib.Core.Path.{◌≡◌, sym, ◌∙◌, ap, ap₂}
use mathlib.Core.List.{List, ◌∷◌, ◌++◌, append_assoc, append-nil}
use borrow.Rule.Slice.PartMut.{mid_of, put_mid, Post-is}
use lib.ListN.{length, take, drop, get_or, set, replicate, take-append-drop, drop_of_length-le, length-append, length-take, length-drop}
use lib.Seq.{length-take-le, drop-cons, append_snoc, get_or-take, set_at, take-take, take_all, drop-append-le}
use Rattle.std.proofs.lemmas.Slice.{between_is}
use Rattle.std.proofs.lemmas.List.{drop-take}
use Rattle.lists.specs.Arrays.{laid, without, fronted}
use Rattle.lists.proofs.Arrays.{laid-fewer, laid_more, length_without}
use Rattle.llc_state.specs.declared.State.{State}
use Rattle.llc_state.specs.States.{no_entry}
use Rattle.llc_steps.specs.States.{messages_of, put_messages, with_messages}

module _ {A : Type 0} where
  module _ (n i : ℕ) (l : List A) (h : i < n) (k : n ≤ length l) where
    -- The first n without the one of a place are one fewer.
    length-out : n - 1 ≡ length (without i (take n l))
    length-out =
        let e = length-take-le n l k in
        omega (arith, length_without i (take n l) (omega (arith, e)), e)

    -- They are those before it and those behind it.
    without-is : without i (take n l) ≡ take i l ++ drop (suc i) (take n l)
    without-is = ap (λ (t : List A). t ++ drop (suc i) (take n l)) (take-take i n l (omega arith))

    part-is : (d : A) → drop i (take n l) ≡ get_or l i d ∷ drop (suc i) (take n l)
    part-is d =
        drop-cons (take n l) i d (omega (arith, length-take-le n l k))
        ∙ ap (λ (x : A). x ∷ drop (suc i) (take n l)) (get_or-take n l i d h)

    -- The one of a place moved behind the others, and an empty one in its place.
    pub taken-out :
        (e : A)
        → set (put_mid i (n - i) l (drop 1 (mid_of i (n - i) l) ++ take 1 (mid_of i (n - i) l))) (n - 1) e
        ≡ laid e n (without i (take n l)) l
    taken-out e =
        let v = drop (suc i) (take n l) in
        let x = get_or l i e in
        let one : n - length (without i (take n l)) ≡ 1 = omega (arith, length-out) in
        ap₂ (λ (p q : List A). set (take i l ++ ((drop 1 p ++ take 1 p) ++ q)) (n - 1) e)
        (between_is l i n ∙ part-is e)
        (Post-is i n l (omega arith))
        ∙ ap (λ (t : List A). set t (n - 1) e)
        (ap (λ (t : List A). take i l ++ t) (append_snoc v x (drop n l)) ∙ sym (append_assoc (take i l) v (x ∷ drop n l)))
        ∙ set_at (take i l ++ v) x (drop n l) e (n - 1) (ap length (sym without-is) ∙ sym length-out)
        ∙ sym
        (laid-fewer e n (without i (take n l)) l (omega (arith, length-out))
        ∙ ap₂ (λ (u : List A) (m : ℕ). u ++ (replicate m e ++ drop n l)) without-is one)

  -- The one of a place moved in front of the others: the first ones turned by one.
  pub turned :
      (i : ℕ) (l : List A)
      → i < length l
      → (drop (length (take (i + 1) l) - 1) (take (i + 1) l) ++ take (length (take (i + 1) l) - 1) (take (i + 1) l)) ++ drop (i + 1) l
      ≡ fronted i l
  turned i l h =
      let last : length (take (i + 1) l) - 1 ≡ i = omega (arith, length-take-le (i + 1) l (omega arith)) in
      let next : i + 1 ≡ suc i = omega arith in
      rw (last, drop-take i 1 l, next, take-take i (suc i) l (omega arith))
      (append_assoc (take 1 (drop i l)) (take i l) (drop (suc i) l))

  length-fronted : (i : ℕ) (l : List A) → i < length l → length (fronted i l) ≡ length l
  length-fronted i l h =
      omega
      (arith, length-append (take 1 (drop i l)) (without i l), length-take 1 (drop i l), length-drop i l, length_without i l h)

  -- The first n so moved are those of all so moved.
  fronted-first :
      (n i : ℕ) (l : List A)
      → i < n
      → n ≤ length l
      → fronted i (take n l) ++ drop n l ≡ fronted i l
  fronted-first n i l h k =
      let u = take n l in
      let here : take 1 (drop i u) ≡ take 1 (drop i l) =
      sym (drop-take i 1 u) ∙ ap (drop i) (take-take (i + 1) n l (omega arith)) ∙ drop-take i 1 l in
      let behind : drop (suc i) u ++ drop n l ≡ drop (suc i) l =
      sym (drop-append-le (suc i) u (drop n l) (omega (arith, length-take-le n l k))) ∙ ap (drop (suc i)) (take-append-drop n l) in
      append_assoc (take 1 (drop i u)) (without i u) (drop n l)
      ∙ ap₂ (λ (p q : List A). p ++ q) here
      (append_assoc (take i u) (drop (suc i) u) (drop n l)
      ∙ ap₂ (λ (p q : List A). p ++ q) (take-take i n l (omega arith)) behind)

-- The message of a place moved in front of the others.
pub fronts_message :
    (s : State) (i : ℕ)
    → i < s.n_messages
    → s.n_messages ≤ length s.outbound_messages
    → put_messages s s.n_messages (fronted i s.outbound_messages) ≡ with_messages s (fronted i (messages_of s))
fronts_message s i h k =
    let ms = fronted i (messages_of s) in
    let e = length-take-le s.n_messages s.outbound_messages k in
    let long : length ms ≡ s.n_messages = omega (arith, length-fronted i (messages_of s) (omega (arith, e)), e) in
    sym
    (ap₂ (put_messages s) long
    (laid_more no_entry s.n_messages ms s.outbound_messages (omega (arith, long))
    ∙ ap (λ (m : ℕ). ms ++ drop m s.outbound_messages) long
    ∙ fronted-first s.n_messages i s.outbound_messages h k))

-- Without the one of a place behind the first n they are as they were.
pub none-out : {A : Type 0} (n i : ℕ) (l : List A) → length (take n l) ≤ i → without i (take n l) ≡ take n l
none-out {A} n i l h =
    ap₂ (λ (a b : List A). a ++ b) (take_all i (take n l) h) (drop_of_length-le (take n l) {i = suc i} (omega (arith, h)))
    ∙ append-nil (take n l)
