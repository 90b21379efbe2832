-- Bytes are determined by their bits: a contract that gives the bits of a slice leaves no byte of it free.
use Prim.Native.Nat.{ℕ, ◌*◌, ◌<◌}
use native.Mathlib.Nat.{mod-eq_of_lt}
use native.Mathlib.Omega.{arith}
use mathlib.Core.Path.{◌≡◌, ◌∙◌, refl, sym, ap, ap₂}
use mathlib.Core.List.{List, [], ◌∷◌, append-nil}
use lib.ListN.{length, take, drop}
use Rattle.bits.specs.Bits.{to_bits, value, bits, AllBytes}
use Rattle.bits.proofs.Laws.{length-bits, value-to_bits, take-bits, drop_bits}

-- The number that the bits of one byte spell is the byte.
value-byte : (b : ℕ) → b < 256 → value (bits (b ∷ [])) ≡ b
unfolding bits
value-byte b h = ap value (append-nil (to_bits 8 b)) ∙ value-to_bits 8 b ∙ mod-eq_of_lt h

pub bytes-by-bits : (l m : List ℕ) → AllBytes l → AllBytes m → bits l ≡ bits m → l ≡ m
bytes-by-bits [] [] a c e = refl
bytes-by-bits [] (y ∷ m) a c e = absurd (omega (arith, length-bits [], length-bits (y ∷ m), ap length e))
bytes-by-bits (x ∷ l) [] a c e = absurd (omega (arith, length-bits [], length-bits (x ∷ l), ap length e))
bytes-by-bits (x ∷ l) (y ∷ m) a c e =
    let one : bits (x ∷ []) ≡ bits (y ∷ []) = sym (take-bits 1 (x ∷ l)) ∙ ap (take (8 * 1)) e ∙ take-bits 1 (y ∷ m) in
    let more : bits l ≡ bits m = sym (drop_bits 1 (x ∷ l)) ∙ ap (drop (8 * 1)) e ∙ drop_bits 1 (y ∷ m) in
    ap₂ ◌∷◌
    (sym (value-byte x a.0) ∙ ap value one ∙ value-byte y c.0)
    (bytes-by-bits l m a.1 c.1 more)
