-- Parts cut out of bytes, and out of one another.
use Prim.Native.Nat.{ℕ, ◌+◌, ◌-◌, ◌*◌, ◌/◌, ◌%◌, ◌≤◌}
use native.Mathlib.Omega.{arith}
use mathlib.Core.Path.{◌≡◌, ◌∙◌, sym, ap}
use mathlib.Core.List.{List}
use lib.ListN.{length, take, drop, length-drop}
use lib.Seq.{drop-drop, take_all}
use Rattle.std.proofs.lemmas.List.{drop-take, take_rest}
use Rattle.bits.specs.Bits.{bits, part, AllBits}
use Rattle.bits.specs.Parts.{bits_of}
use Rattle.bits.specs.declared.parts.Part.{Part}
use Rattle.bits.proofs.Laws.{drop_bits, length-bits, length_part, part-take}
use Rattle.bits.proofs.Bytes.{all-part}

-- Bits behind the first q bytes are those bits from 8 * q places on.
pub part-rest :
    (l : List ℕ) (q p n : ℕ)
    → part (bits (take (length l - q) (drop q l))) p n ≡ part (bits l) (8 * q + p) n
part-rest l q p n =
    ap (λ (m : List ℕ). part (bits m) p n) (take_rest l q)
    ∙ ap (λ (m : List ℕ). take n (drop p m)) (sym (drop_bits q l))
    ∙ ap (take n) (drop-drop p (8 * q) (bits l))

-- So bits from any place on are those from a place in its byte on.
pub part_from : (l : List ℕ) (at n : ℕ) → part (bits (take (length l - at / 8) (drop (at / 8) l))) (at % 8) n ≡ part (bits l) at n
part_from l at n =
    let e : 8 * (at / 8) + at % 8 ≡ at = omega arith in
    part-rest l (at / 8) (at % 8) n ∙ ap (λ (p : ℕ). part (bits l) p n) e

-- The bits of a part behind its first ones.
pub drop-part : (l : List ℕ) (at n m : ℕ) → m ≤ n → drop m (part l at n) ≡ part l (at + m) (n - m)
drop-part l at n m h =
    let e : n ≡ m + (n - m) = omega arith in
    ap (λ (k : ℕ). drop m (take k (drop at l))) e
    ∙ drop-take m (n - m) (drop at l)
    ∙ ap (take (n - m)) (drop-drop m at l)

-- The bits of a part, by their place in the bytes that hold it.
module _ (p : Part) where
  inside-bits : p.place + p.len ≤ length (bits p.bytes.now)
  inside-bits = omega (arith, length-bits p.bytes.now, p.inside)

  pub length-bits_of : length (bits_of p) ≡ p.len
  length-bits_of = length_part (bits p.bytes.now) p.place p.len inside-bits

  pub cut-bits : (i k : ℕ) → i + k ≤ p.len → part (bits_of p) i k ≡ part (bits p.bytes.now) (p.place + i) k
  cut-bits i k h =
      let l = bits p.bytes.now in
      part-take (drop p.place l) p.len i k h (omega (arith, length-drop p.place l, inside-bits))
      ∙ ap (take k) (drop-drop i p.place l)

  pub all-bits_of : AllBits (bits_of p)
  all-bits_of = all-part p.bytes.now p.place p.len

  -- A front as long as the part is the part.
  pub whole-front : (n : ℕ) → p.len ≤ n → take n (bits_of p) ≡ bits_of p
  whole-front n h = take_all n (bits_of p) (omega (arith, length-bits_of))
