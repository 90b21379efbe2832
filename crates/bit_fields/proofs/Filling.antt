-- A run of one bit that is written by up to 64 at once.
use Prim.Native.Nat.{ℕ, zero, suc, ◌+◌, ◌-◌, ◌*◌, ◌/◌, ◌^◌, ◌≤◌, ◌<◌}
use native.Mathlib.Omega.{arith}
use mathlib.Core.Path.{◌≡◌, ◌∙◌, refl, sym, ap}
use mathlib.Core.List.{List}
use mir.Val.{bool_byte}
use Rattle.std.specs.Prelude.{Bool, true, false, cond}
use lib.ListN.{length, drop, replicate, length-replicate, replicate-append-replicate}
use lib.Seq.{drop_at}
use Rattle.bits.specs.Bits.{to_bits, bits, splice}
use Rattle.bits.proofs.Laws.{length-to_bits, length-bits, to_bits-append, splice-splice}

-- The number whose 64 bits are all b, and its lowest h bits.
abbrev all64 : ℕ → ℕ
all64 b = b * (2 ^ 64 - 1)

alike : (b : ℕ) → b < 2 → to_bits 64 (all64 b) ≡ replicate 64 b
unfolding to_bits
alike zero h = refl
alike (suc zero) h = refl
alike (suc (suc b)) h = absurd (omega arith)

pub lowest-alike : (b h : ℕ) → b < 2 → h ≤ 64 → to_bits h (all64 b) ≡ replicate h b
lowest-alike b h bit few =
    let k : ℕ = 64 - h in
    let v : ℕ = all64 b in
    let all : k + h ≡ 64 = omega arith in
    sym (drop_at (to_bits k (v / 2 ^ h)) (to_bits h v) k (length-to_bits k (v / 2 ^ h)))
    ∙ ap (drop k)
    (sym (to_bits-append k h v)
    ∙ ap (λ (n : ℕ). to_bits n v) all
    ∙ alike b bit
    ∙ ap (λ (n : ℕ). replicate n b) (sym all)
    ∙ sym (replicate-append-replicate k h b))
    ∙ drop_at (replicate k b) (replicate h b) k (length-replicate k b)

-- A flag is one bit.
pub few : (b : Bool) → cond b 1 0 < 2
few true = omega arith
few false = omega arith

pub as_bit : (b : Bool) → bool_byte b ≡ cond b 1 0
as_bit true = refl
as_bit false = refl

-- The bytes l were l₀; done bits b are written from a place on.
pub record Filling (l₀ : List ℕ) (at b : ℕ) (l : List ℕ) (done : ℕ) : Type 0 where
  pub long : length l ≡ length l₀
  pub so_far : bits l ≡ splice (bits l₀) at (replicate done b)

pub goes_on :
    (l₀ : List ℕ) (at b : ℕ) (l : List ℕ) (done h : ℕ) (m : List ℕ)
    → Filling l₀ at b l done
    → h ≤ 64
    → b < 2
    → at + (done + h) ≤ 8 * length l₀
    → length m ≡ length l
    → bits m ≡ splice (bits l) (at + done) (to_bits h (all64 b))
    → Filling l₀ at b m (done + h)
goes_on l₀ at b l done h m c few bit room long put =
    let vs : List ℕ = replicate done b in
    let ws : List ℕ = replicate h b in
    let vs-long : length vs ≡ done = length-replicate done b in
    let ws-long : length ws ≡ h = length-replicate h b in
    record {
      long = long ∙ c.long;
      so_far =
          put
          ∙ ap (λ (t : List ℕ). splice (bits l) (at + done) t) (lowest-alike b h bit few)
          ∙ ap (λ (t : List ℕ). splice t (at + done) ws) c.so_far
          ∙ ap (λ (k : ℕ). splice (splice (bits l₀) at vs) (at + k) ws) (sym vs-long)
          ∙ splice-splice (bits l₀) at vs ws (rw (length-bits l₀) (omega arith))
          ∙ ap (λ (t : List ℕ). splice (bits l₀) at t) (replicate-append-replicate done h b);
    }
