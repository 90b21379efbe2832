-- A loop that visits a queue, one element a turn.
use Prim.Native.Nat.{ℕ, suc, ◌+◌, ◌≤◌, ◌<◌}
use native.Mathlib.Omega.{arith}
use mathlib.Core.Path.{◌≡◌, ◌∙◌, refl, sym, ap}
use mathlib.Core.List.{List, [], ◌++◌, append_assoc, append-nil}
use lib.ListN.{length, get_or, drop}
use lib.Seq.{drop-cons, drop-length}
use Rattle.lists.specs.Lists.{Visit, ◌then◌, walk}

module _ {S A R : Type 0} where
  -- The visits so far came to v, and with the visits to those from i on they are the whole walk.
  pub record Walking (f : S → A → Visit S A R) (s : S) (l : List A) (i : ℕ) (v : Visit S A R) : Type 0 where
    pub low : i ≤ length l
    pub left : ◌then◌ v (walk f v.state (drop i l)) ≡ walk f s l

  pub walks : (f : S → A → Visit S A R) (s : S) (l : List A) → Walking f s l 0 (record { state = s; stays = []; out = [] })
  walks f s l = record { low = omega arith; left = refl }

  then-assoc : (u v w : Visit S A R) → ◌then◌ (◌then◌ u v) w ≡ ◌then◌ u (◌then◌ v w)
  then-assoc u v w =
      λ i.
      record {
        state = w.state;
        stays = append_assoc u.stays v.stays w.stays i;
        out = append_assoc u.out v.out w.out i;
      }

  module _ {f : S → A → Visit S A R} {s : S} {l : List A} {i : ℕ} {v : Visit S A R} (h : Walking f s l i v) where
    -- One more visit, to the element x.
    pub walks-on : (d : A) → i < length l → Walking f s l (i + 1) (◌then◌ v (f v.state (get_or l i d)))
    unfolding walk
    walks-on d less =
        let one : i + 1 ≡ suc i = omega arith in
        let x : A = get_or l i d in
        record {
          low = omega (arith, less);
          left =
              ap (λ (k : ℕ). ◌then◌ (◌then◌ v (f v.state x)) (walk f (f v.state x).state (drop k l))) one
              ∙ then-assoc v (f v.state x) (walk f (f v.state x).state (drop (suc i) l))
              ∙ ap (λ (t : List A). ◌then◌ v (walk f v.state t)) (sym (drop-cons l i d less))
              ∙ h.left;
        }

    -- No element is left.
    pub walked : length l ≤ i → v ≡ walk f s l
    unfolding walk
    walked none =
        let e : i ≡ length l = omega (arith, h.low, none) in
        (λ k. record { state = v.state; stays = sym (append-nil v.stays) k; out = sym (append-nil v.out) k })
        ∙ ap (λ (t : List A). ◌then◌ v (walk f v.state t)) (sym (ap (λ (k : ℕ). drop k l) e ∙ drop-length l))
        ∙ h.left

    -- What was put out so far, and what the next visit puts out, is part of what the whole walk does.
    pub put-out : (walk f s l).out ≡ v.out ++ (walk f v.state (drop i l)).out
    put-out = sym (ap (λ (w : Visit S A R). w.out) h.left)
