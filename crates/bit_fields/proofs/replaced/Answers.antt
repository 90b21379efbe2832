use Prim.Native.Nat.{ℕ, ◌+◌, ◌-◌, ◌*◌, ◌/◌, ◌%◌, ◌^◌}
use native.Mathlib.Nat.{mod-lt}
use native.Mathlib.Omega.{arith}
use mathlib.Core.List.{List, ◌++◌}
use mathlib.Core.Path.{◌≡◌, ◌∙◌, sym, ap, ap₂}
use Rattle.bits.proofs.Laws.{spelled-below, to_bits-spelled, to_bits-mod}
use Rattle.bits.specs.Bits.{to_bits}
use lib.Pow.{pow_pos}
use Rattle.bit_fields.proofs.replaced.Goals as goal

-- The byte that is put together, as a number.
spelled :
    (c : goal.After-joined)
    → c.joined.result ≡ (c.args.b / 2 ^ (c.args.h + c.args.s) % 2 ^ (8 - (c.args.h + c.args.s)) * 2 ^ c.args.h + c.args.x % 2 ^ c.args.h) * 2 ^ c.args.s + c.args.b % 2 ^ c.args.s
spelled c =
    let a = c.args in
    c.joined.ensures
    ∙ ap₂ (λ (u l : ℕ). u * 2 ^ a.s + l)
    (c.joined-upper.ensures ∙ ap₂ (λ (t x : ℕ). t * 2 ^ a.h + x) c.piece-top.ensures c.lowest.ensures)
    c.lowest-2.ensures

pub overflow_cast-result : goal.overflow_cast-result
overflow_cast-result c =
    let a = c.args in
    let p : ℕ = 8 - (a.h + a.s) in
    let eight : p + (a.h + a.s) ≡ 8 = omega arith in
    let below =
    spelled-below p a.h a.s (a.b / 2 ^ (a.h + a.s) % 2 ^ p) (a.x % 2 ^ a.h) (a.b % 2 ^ a.s) (mod-lt _ (pow_pos p)) (mod-lt _ (pow_pos a.h)) (mod-lt _ (pow_pos a.s)) in
    record { fits = rw (spelled c) (rw eight at below) }

pub returns : goal.returns
returns c =
    let a = c.args in
    let p : ℕ = 8 - (a.h + a.s) in
    let eight : p + (a.h + a.s) ≡ 8 = omega arith in
    let t : ℕ = a.b / 2 ^ (a.h + a.s) in
    ap (to_bits 8) (spelled c)
    ∙ ap (λ (k : ℕ). to_bits k ((t % 2 ^ p * 2 ^ a.h + a.x % 2 ^ a.h) * 2 ^ a.s + a.b % 2 ^ a.s)) (sym eight)
    ∙ to_bits-spelled p a.h a.s (t % 2 ^ p) (a.x % 2 ^ a.h) (a.b % 2 ^ a.s) (mod-lt _ (pow_pos a.h)) (mod-lt _ (pow_pos a.s))
    ∙ ap₂ (λ (u v : List ℕ). u ++ v) (to_bits-mod p t) (ap₂ (λ (u v : List ℕ). u ++ v) (to_bits-mod a.h a.x) (to_bits-mod a.s a.b))
