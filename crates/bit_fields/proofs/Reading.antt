-- A field that is read byte by byte: what was read and what is left spell the whole.
use Prim.Native.Nat.{ℕ, ◌+◌, ◌-◌, ◌*◌, ◌/◌, ◌%◌, ◌^◌, ◌≤◌, ◌<◌}
use native.Mathlib.Nat.{add-mul, mul_assoc, add_assoc, mod-lt, mul-one}
use native.Mathlib.Omega.{arith}
use mathlib.Core.Path.{◌≡◌, ◌∙◌, sym, ap, ap₂}
use mathlib.Core.List.{List, ◌++◌}
use lib.ListN.{length, get_or}
use lib.Pow.{pow-add, pow_pos}
use Rattle.bits.specs.Bits.{value, bits, part}
use Rattle.bit_fields.proofs.Powers.{shifted_fits, joined-below}
use Rattle.bits.proofs.Laws.{value-append, value-to_bits, part-append, length_part, length-bits, bits-part}

-- r is read, left bits from place p on are not; places count from byte first.
pub record Reading (l : List ℕ) (first place n r p left : ℕ) : Type 0 where
  pub total : p + left ≡ place + n
  pub few : left ≤ n
  pub small : r < 2 ^ (n - left)
  pub whole : r * 2 ^ left + value (part (bits l) (8 * first + p) left) ≡ value (part (bits l) (8 * first + place) n)

-- One more piece: h bits of the byte at p, with s behind them.
pub goes_on :
    (l : List ℕ) (first place n r p left h s : ℕ)
    → Reading l first place n r p left
    → h ≤ left
    → p % 8 + (h + s) ≡ 8
    → first + p / 8 < length l
    → 8 * first + place + n ≤ 8 * length l
    → Reading l first place n (r * 2 ^ h + get_or l (first + p / 8) 0 / 2 ^ s % 2 ^ h) (p + h) (left - h)
goes_on l first place n r p left h s c few eight inside fits =
    let b : ℕ = get_or l (first + p / 8) 0 / 2 ^ s in
    let x : ℕ = b % 2 ^ h in
    let at : ℕ = 8 * first + p in
    let here : 8 * (first + p / 8) + p % 8 ≡ at = omega arith in
    let both : h + (left - h) ≡ left = omega arith in
    let next : at + h ≡ 8 * first + (p + h) = omega arith in
    let behind : List ℕ = part (bits l) (8 * first + (p + h)) (left - h) in
    let long : length behind ≡ left - h =
    length_part (bits l) (8 * first + (p + h)) (left - h) (rw (length-bits l) (omega (arith, c.total))) in
    let read : value (part (bits l) at h) ≡ x =
    ap (λ (k : ℕ). value (part (bits l) k h)) (sym here)
    ∙ ap value (bits-part l (first + p / 8) (p % 8) h s inside eight)
    ∙ value-to_bits h b in
    let rest : value (part (bits l) at left) ≡ x * 2 ^ (left - h) + value behind =
    ap (λ (k : ℕ). value (part (bits l) at k)) (sym both)
    ∙ ap value (part-append (bits l) at h (left - h))
    ∙ ap (λ (k : ℕ). value (part (bits l) at h ++ part (bits l) k (left - h))) next
    ∙ value-append (part (bits l) at h) behind
    ∙ ap₂ (λ (m k : ℕ). m * 2 ^ k + value behind) read long in
    let up : r * 2 ^ left ≡ r * 2 ^ h * 2 ^ (left - h) =
    ap (λ (k : ℕ). r * 2 ^ k) (sym both) ∙ ap (λ (k : ℕ). r * k) (pow-add 2 h (left - h)) ∙ sym (mul_assoc r (2 ^ h) (2 ^ (left - h))) in
    let more : n - (left - h) ≡ n - left + h = omega (arith, c.few) in
    record {
      total = omega (arith, c.total);
      few = omega (arith, c.few);
      small =
          rw more (joined-below (n - left) h r x c.small (mod-lt b (pow_pos h)));
      whole =
          rw (add-mul (r * 2 ^ h) x (2 ^ (left - h)))
          (add_assoc (r * 2 ^ h * 2 ^ (left - h)) (x * 2 ^ (left - h)) (value behind)
          ∙ ap₂ (λ (m k : ℕ). m + k) (sym up) (sym rest)
          ∙ c.whole);
    }

-- What is read has room for h bits more.
pub has_room : (l : List ℕ) (first place n r p left h : ℕ) → Reading l first place n r p left → h ≤ left → n ≤ 64 → r * 2 ^ h < 2 ^ 64
has_room l first place n r p left h c few small =
    shifted_fits (n - left) h r c.small (omega (arith, c.few))

-- With nothing left, what was read is the whole.
pub ends :
    (l : List ℕ) (first place n r p left : ℕ)
    → Reading l first place n r p left
    → left ≤ 0
    → r ≡ value (part (bits l) (8 * first + place) n)
unfolding value
ends l first place n r p left c none =
    let z : left ≡ 0 = omega arith in
    let w = rw z at c.whole in
    omega (arith, w, mul-one r)
