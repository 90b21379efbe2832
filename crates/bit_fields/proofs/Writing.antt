-- A field that is written byte by byte: what was written stands behind its place, and no other bit is changed.
use Prim.Native.Nat.{ℕ, ◌+◌, ◌-◌, ◌*◌, ◌/◌, ◌%◌, ◌^◌, ◌≤◌, ◌<◌}
use native.Mathlib.Nat.{sub_self}
use native.Mathlib.Omega.{arith}
use mathlib.Core.Path.{◌≡◌, ◌∙◌, refl, sym, ap, ap₂}
use mathlib.Core.List.{List, ◌++◌}
use lib.ListN.{length, get_or, set, length-set}
use lib.Pow.{shr-shr}
use Rattle.bits.specs.Bits.{to_bits, bits, splice}
use Rattle.bits.proofs.Laws.{length-to_bits, length-bits, to_bits-append, bits-set, splice-none, splice-splice, to_bits-none}

-- The bytes l were l₀; all but the left lowest of v's n bits are written, up to place p; places count from byte first.
pub record Writing (l₀ : List ℕ) (first place n v : ℕ) (l : List ℕ) (p left : ℕ) : Type 0 where
  pub total : p + left ≡ place + n
  pub few : left ≤ n
  pub long : length l ≡ length l₀
  pub so_far : bits l ≡ splice (bits l₀) (8 * first + place) (to_bits (n - left) (v / 2 ^ left))

pub begins : (l : List ℕ) (first place n v : ℕ) → Writing l first place n v l place n
begins l first place n v =
    record {
      total = refl;
      few = omega arith;
      long = refl;
      so_far =
          sym (splice-none (bits l) (8 * first + place))
          ∙ ap (λ (t : List ℕ). splice (bits l) (8 * first + place) t)
          (sym (ap (λ (k : ℕ). to_bits k (v / 2 ^ n)) (sub_self n) ∙ to_bits-none (v / 2 ^ n)));
    }

-- One more piece: h bits of the byte at p, with s behind them.
pub goes_on :
    (l₀ : List ℕ) (first place n v : ℕ) (l : List ℕ) (p left h s b : ℕ)
    → Writing l₀ first place n v l p left
    → h ≤ left
    → p % 8 + (h + s) ≡ 8
    → first + p / 8 < length l
    → 8 * first + place + n ≤ 8 * length l₀
    → to_bits 8 b ≡ to_bits (8 - (h + s)) (get_or l (first + p / 8) 0 / 2 ^ (h + s)) ++ (to_bits h (v / 2 ^ (left - h)) ++ to_bits s (get_or l (first + p / 8) 0))
    → Writing l₀ first place n v (set l (first + p / 8) b) (p + h) (left - h)
goes_on l₀ first place n v l p left h s b c few eight inside fits byte =
    let vs : List ℕ = to_bits (n - left) (v / 2 ^ left) in
    let ws : List ℕ = to_bits h (v / 2 ^ (left - h)) in
    let at : ℕ = 8 * first + place in
    let vs-long : length vs ≡ n - left = length-to_bits (n - left) (v / 2 ^ left) in
    let ws-long : length ws ≡ h = length-to_bits h (v / 2 ^ (left - h)) in
    let here : 8 * (first + p / 8) + p % 8 ≡ at + length vs = omega (arith, c.total, c.few) in
    let more : n - (left - h) ≡ n - left + h = omega (arith, c.few) in
    let back : v / 2 ^ (left - h) / 2 ^ h ≡ v / 2 ^ left =
    shr-shr v (left - h) h ∙ ap (λ (k : ℕ). v / 2 ^ k) (omega arith) in
    let top : 8 - (h + s) ≡ p % 8 = omega arith in
    let old : ℕ = get_or l (first + p / 8) 0 in
    let joined : vs ++ ws ≡ to_bits (n - (left - h)) (v / 2 ^ (left - h)) =
    ap (λ (k : ℕ). to_bits (n - left) k ++ ws) (sym back)
    ∙ sym (to_bits-append (n - left) h (v / 2 ^ (left - h)))
    ∙ ap (λ (k : ℕ). to_bits k (v / 2 ^ (left - h))) (sym more) in
    record {
      total = omega (arith, c.total);
      few = omega (arith, c.few);
      long = length-set l (first + p / 8) b ∙ c.long;
      so_far =
          bits-set l (first + p / 8) (p % 8) h s b ws inside eight ws-long
          (byte ∙ ap (λ (k : ℕ). to_bits k (old / 2 ^ (h + s)) ++ (ws ++ to_bits s old)) top)
          ∙ ap₂ (λ (t : List ℕ) (k : ℕ). splice t k ws) c.so_far here
          ∙ splice-splice (bits l₀) at vs ws (rw (length-bits l₀) (omega (arith, c.few)))
          ∙ ap (λ (t : List ℕ). splice (bits l₀) at t) joined;
    }

-- With nothing left, the whole field is written.
pub ends :
    (l₀ : List ℕ) (first place n v : ℕ) (l : List ℕ) (p left : ℕ)
    → Writing l₀ first place n v l p left
    → left ≤ 0
    → bits l ≡ splice (bits l₀) (8 * first + place) (to_bits n v)
ends l₀ first place n v l p left c none =
    let z : left ≡ 0 = omega arith in
    let all : n - left ≡ n = omega arith in
    c.so_far
    ∙ ap₂ (λ (k x : ℕ). splice (bits l₀) (8 * first + place) (to_bits k x)) all (ap (λ (k : ℕ). v / 2 ^ k) z ∙ omega arith)
