-- The bytes of several records, one behind the other, as they are written.
use Prim.Native.Nat.{ℕ, suc, ◌+◌, ◌≤◌, ◌<◌}
use native.Mathlib.Omega.{arith}
use mathlib.Core.Path.{◌≡◌, ◌∙◌, sym, ap}
use mathlib.Core.List.{List, [], ◌∷◌, ◌++◌, map, append-nil, map-append}
use lib.ListN.{length, get_or, take, drop, length-append, take-append-drop}
use lib.Seq.{take-suc}
use Rattle.lists.specs.Writes.{Wrote}
use Rattle.lists.proofs.Writes.{◌⨾◌, as_long, same_bytes, wrote_none}
use Rattle.llc_rule.specs.Records.{Record, bytes, all_bytes}
use Rattle.llc_rule.proofs.Room.{all_bytes-append}

module _ {A : Type 0} (f : A → Record) where
  -- The bytes of the records that f makes.
  abbrev pub bytes_of : List A → List ℕ
  bytes_of l = all_bytes (map f l)

  pub bytes-append : (l m : List A) → bytes_of (l ++ m) ≡ bytes_of l ++ bytes_of m
  bytes-append l m = ap all_bytes (map-append f l m) ∙ all_bytes-append (map f l) (map f m)

  pub none-written : (out : List ℕ) (at : ℕ) → Wrote out at (bytes_of []) out at
  unfolding all_bytes
  none-written out at = wrote_none out at

  -- One more is written behind others, and there is room for it where there is room for all.
  pub bytes-more : (l : List A) (x : A) → bytes_of (l ++ (x ∷ [])) ≡ bytes_of l ++ bytes (f x)
  unfolding all_bytes
  bytes-more l x = bytes-append l (x ∷ []) ∙ ap (λ (t : List ℕ). bytes_of l ++ t) (append-nil (bytes (f x)))

  module _ {out₀ : List ℕ} {at : ℕ} (l : List A) {out : List ℕ} {p : ℕ} (w : Wrote out₀ at (bytes_of l) out p) (x : A) where
    pub one-more : {m : List ℕ} {q : ℕ} → Wrote out p (bytes (f x)) m q → Wrote out₀ at (bytes_of (l ++ (x ∷ []))) m q
    one-more v = same_bytes (sym (bytes-more l x)) (w ⨾ v)

    pub room-left :
        (rest : List A) {whole : List A}
        → whole ≡ (l ++ (x ∷ [])) ++ rest
        → at + length (bytes_of whole) ≤ length out₀
        → p + length (bytes (f x)) ≤ length out
    room-left rest is room =
        omega (
          arith,
          room,
          ap (λ (t : List A). length (bytes_of t)) is,
          ap length (bytes-append (l ++ (x ∷ [])) rest),
          length-append (bytes_of (l ++ (x ∷ []))) (bytes_of rest),
          ap length (bytes-more l x),
          length-append (bytes_of l) (bytes (f x)),
          w.next,
          as_long w,
        )

  -- A loop over a list, before turn i.
  module _
      {out₀ : List ℕ} {at : ℕ} (i : ℕ) (l : List A) {out : List ℕ} {p : ℕ}
      (w : Wrote out₀ at (bytes_of (take i l)) out p) (less : i < length l) (d : A) where
    taken-more : take i l ++ (get_or l i d ∷ []) ≡ take (i + 1) l
    taken-more =
        let one : suc i ≡ i + 1 = omega arith in
        sym (take-suc l i d less) ∙ ap (λ (k : ℕ). take k l) one

    pub room-next : at + length (bytes_of l) ≤ length out₀ → p + length (bytes (f (get_or l i d))) ≤ length out
    room-next =
        room-left (take i l) w (get_or l i d) (drop (i + 1) l)
        (sym (ap (λ (t : List A). t ++ drop (i + 1) l) taken-more ∙ take-append-drop (i + 1) l))

    pub written-next : {m : List ℕ} {q : ℕ} → Wrote out p (bytes (f (get_or l i d))) m q → Wrote out₀ at (bytes_of (take (i + 1) l)) m q
    written-next v = same_bytes (ap bytes_of taken-more) (one-more (take i l) w (get_or l i d) v)
