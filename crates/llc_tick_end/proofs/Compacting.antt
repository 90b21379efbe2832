-- A loop that moves the elements that stay to the front of an array.
use Prim.Native.Nat.{ℕ, suc, ◌+◌, ◌≤◌, ◌<◌}
use native.Mathlib.Nat.{add-zero}
use native.Mathlib.Omega.{arith}
use mathlib.Core.Path.{◌≡◌, ◌∙◌, refl, sym, ap}
use mathlib.Core.List.{List, [], ◌∷◌, ◌++◌, append-nil}
use lib.ListN.{length, get_or, set, take, drop, length-append, length-set}
use lib.Seq.{take-suc-set, drop-set-lt, drop-drop, get_or-drop}

module _ {A : Type 0} where
  -- Of the array l₀ those before i were visited: stays stand in the first j places, and those from i on are as they were.
  pub record Compacting (l₀ : List A) (stays : List A) (i j : ℕ) (l : List A) : Type 0 where
    pub long : length l ≡ length l₀
    pub count : j ≡ length stays
    pub low : j ≤ i
    pub front : take j l ≡ stays
    pub back : drop i l ≡ drop i l₀

  pub compacts : (l : List A) → Compacting l [] 0 0 l
  compacts l = record { long = refl; count = refl; low = omega arith; front = refl; back = refl }

  module _ {l₀ stays : List A} {i j : ℕ} {l : List A} (h : Compacting l₀ stays i j l) where
    -- The next to visit.
    pub as-was : (d : A) → get_or l i d ≡ get_or l₀ i d
    as-was d =
        ap (λ (k : ℕ). get_or l k d) (sym (add-zero i))
        ∙ sym (get_or-drop i l 0 d)
        ∙ ap (λ (t : List A). get_or t 0 d) h.back
        ∙ get_or-drop i l₀ 0 d
        ∙ ap (λ (k : ℕ). get_or l₀ k d) (add-zero i)

    -- Those behind it.
    back-on : drop (i + 1) l ≡ drop (i + 1) l₀
    back-on = sym (drop-drop 1 i l) ∙ ap (λ (t : List A). drop 1 t) h.back ∙ drop-drop 1 i l₀

    -- It does not stay, or it stays as x.
    pub goes : Compacting l₀ (stays ++ []) (i + 1) j l
    goes =
        record {
          long = h.long;
          count = h.count ∙ ap length (sym (append-nil stays));
          low = omega (arith, h.low);
          front = h.front ∙ sym (append-nil stays);
          back = back-on;
        }

    pub keeps : (x : A) → i < length l₀ → Compacting l₀ (stays ++ (x ∷ [])) (i + 1) (j + 1) (set l j x)
    keeps x high =
        let one : j + 1 ≡ suc j = omega arith in
        record {
          long = length-set l j x ∙ h.long;
          count = omega (arith, h.count, length-append stays (x ∷ []));
          low = omega (arith, h.low);
          front =
              ap (λ (k : ℕ). take k (set l j x)) one
              ∙ take-suc-set l j x (omega (arith, h.low, high, h.long))
              ∙ ap (λ (t : List A). t ++ (x ∷ [])) h.front;
          back = drop-set-lt (i + 1) l j x (omega (arith, h.low)) ∙ back-on;
        }
