-- Whole bytes at the front of others, as bits.
use Prim.Native.Nat.{ℕ, ◌+◌, ◌*◌, ◌≤◌}
use native.Mathlib.Omega.{arith}
use mathlib.Core.Path.{◌≡◌, ◌∙◌, sym, ap, ap₂}
use mathlib.Core.List.{List, ◌++◌}
use lib.ListN.{length, take, drop}
use Rattle.bits.specs.Bits.{bits, part, splice}
use Rattle.bits.proofs.Laws.{length-bits, length_part, bits-append, drop_bits, take-bits}

-- n bytes of s from byte f on, and the bytes of d behind the first n.
pub at-front :
    (s d : List ℕ) (f n : ℕ)
    → f + n ≤ length s
    → bits (take n (drop f s) ++ drop n d) ≡ splice (bits d) 0 (part (bits s) (8 * f) (8 * n))
at-front s d f n inside =
    let vs : List ℕ = part (bits s) (8 * f) (8 * n) in
    let long : length vs ≡ 8 * n = length_part (bits s) (8 * f) (8 * n) (rw (length-bits s) (omega arith)) in
    let behind : 8 * n ≡ 0 + length vs = omega arith in
    bits-append (take n (drop f s)) (drop n d)
    ∙ ap₂ (λ (u v : List ℕ). u ++ v)
    (sym (take-bits n (drop f s)) ∙ ap (take (8 * n)) (sym (drop_bits f s)))
    (sym (drop_bits n d) ∙ ap (λ (k : ℕ). drop k (bits d)) behind)
