-- The filling of a call by its length, and by a block and bits: what the code tests is what the definition asks.
use Prim.Native.Nat.{ℕ, ◌+◌, ◌-◌, ◌*◌, ◌/◌, ◌≤◌, ◌<◌}
use native.Mathlib.Omega.{arith}
use mathlib.Core.Path.{◌≡◌, ◌∙◌, sym, ap}
use mathlib.Core.Bool.{false}
use mathlib.Core.List.{List}
use borrow.Author.Tests.{le-leb, lt-leb, eqb-false, eq-eqb, ne_eqb}
use lib.Dec.{leb, eqb}
use lib.ListN.{length, get_or, take, drop, length-drop}
use lib.Seq.{take_all}
use Rattle.std.proofs.lemmas.Bool.Decides.{nat_tests}
use Rattle.std.proofs.lemmas.List.{get_or-take, get_or-drop, drop-drop}
use Rattle.bits.specs.Bits.{value, bits, part}
use Rattle.bits.proofs.Laws.{length-bits}
use Rattle.llc_rule.specs.Calls.{from_bytes, count_at, block_at, bits_at, zeros, filled_from, filled}
use Rattle.llc_calls.proofs.Spelled.{two}

-- Too short for a tag and a length, or as long as the length says.
pub no-outer : (b : List ℕ) → length b < 3 → filled b ≡ false
unfolding filled
no-outer b h = rw (lt-leb 3 (length b) h)

pub by-outer : (b : List ℕ) → 3 ≤ length b → filled b ≡ eqb (length (drop 3 b)) (get_or b 1 0 * 256 + get_or b 2 0)
unfolding filled
by-outer b h = rw (le-leb 3 (length b) h, two b 1 (omega arith), length-drop 3 b) (grind (arith, nat_tests))

-- What the code's tests say of the outer length.
pub ruleset outer = (no-outer, by-outer)

-- What is behind the block.
abbrev pub past : List ℕ → List ℕ
past b = drop (get_or b 0 0) (drop 1 b)

module _ (b : List ℕ) where
  pub past-block : past b ≡ drop (0 + 1 + get_or b 0 0) b
  past-block = drop-drop (get_or b 0 0) 1 b

  pub past-count : drop 2 (past b) ≡ drop (0 + 3 + get_or b 0 0) b
  past-count = ap (drop 2) past-block ∙ drop-drop 2 (0 + 1 + get_or b 0 0) b ∙ ap (λ (k : ℕ). drop k b) (omega arith)

  long-past : length (past b) ≡ length b - (0 + 1 + get_or b 0 0)
  long-past = ap length past-block ∙ length-drop (0 + 1 + get_or b 0 0) b

  long-bits : length (drop 2 (past b)) ≡ length b - (0 + 3 + get_or b 0 0)
  long-bits = ap length past-count ∙ length-drop (0 + 3 + get_or b 0 0) b

  count-is : from_bytes (take 2 (past b)) ≡ count_at b 0
  count-is = ap (λ (l : List ℕ). from_bytes (take 2 l)) past-block

  -- Too short for the length, the block or the count; of another length than the bits need; else the spare bits decide.
  pub no-length : length b < 1 → filled_from b 0 ≡ false
  unfolding filled_from
  no-length h = rw (lt-leb (0 + 3 + get_or b 0 0) (length b) (omega arith))

  pub no-block : length (drop 1 b) < get_or b 0 0 → filled_from b 0 ≡ false
  unfolding filled_from
  no-block h = rw (lt-leb (0 + 3 + get_or b 0 0) (length b) (omega (arith, length-drop 1 b)))

  pub no-count : length (past b) < 2 → filled_from b 0 ≡ false
  unfolding filled_from
  no-count h = rw (lt-leb (0 + 3 + get_or b 0 0) (length b) (omega (arith, long-past)))

  pub no-bits : 2 ≤ length (past b) → eqb (length (drop 2 (past b))) ((from_bytes (take 2 (past b)) + 7) / 8) ≡ false → filled_from b 0 ≡ false
  unfolding filled_from
  no-bits h d =
      rw (
        le-leb (0 + 3 + get_or b 0 0) (length b) (omega (arith, long-past)),
        ne_eqb (length b) (0 + 3 + get_or b 0 0 + (count_at b 0 + 7) / 8) (λ e. eqb-false (length (drop 2 (past b))) ((from_bytes (take 2 (past b)) + 7) / 8) d (omega (arith, long-bits, count-is, e))),
      )

  spare :
      drop (count_at b 0) (bits (drop (0 + 3 + get_or b 0 0) b))
      ≡ part (bits (drop 2 (past b))) (from_bytes (take 2 (past b))) (8 * length (drop 2 (past b)) - from_bytes (take 2 (past b)))
  spare =
      let rest : List ℕ = drop 2 (past b) in
      let c : ℕ = from_bytes (take 2 (past b)) in
      let long : length (drop c (bits rest)) ≤ 8 * length rest - c = rw (length-drop c (bits rest), length-bits rest) (omega arith) in
      ap (λ (l : List ℕ). drop (count_at b 0) (bits l)) (sym past-count)
      ∙ ap (λ (k : ℕ). drop k (bits rest)) (sym count-is)
      ∙ sym (take_all (8 * length rest - c) (drop c (bits rest)) long)

  pub by-spare :
      2 ≤ length (past b)
      → length (drop 2 (past b)) ≡ (from_bytes (take 2 (past b)) + 7) / 8
      → filled_from b 0 ≡ eqb (value (part (bits (drop 2 (past b))) (from_bytes (take 2 (past b))) (8 * length (drop 2 (past b)) - from_bytes (take 2 (past b))))) 0
  unfolding filled_from
  by-spare h e =
      rw (
        le-leb (0 + 3 + get_or b 0 0) (length b) (omega (arith, long-past)),
        eq-eqb (length b) (0 + 3 + get_or b 0 0 + (count_at b 0 + 7) / 8) (omega (arith, long-past, long-bits, count-is)),
      )
      (ap zeros spare)

-- What the code's tests say of a filling.
pub ruleset filling = (past-block, past-count, no-length, no-block, no-count, no-bits, by-spare, get_or-take)

-- From a place on, or from the first byte of what is behind it.
module _ (v : List ℕ) (i : ℕ) where
  head : get_or (drop i v) 0 0 ≡ get_or v i 0
  head = get_or-drop i v 0 0 ∙ ap (λ (j : ℕ). get_or v j 0) (omega arith)

  rest : (k : ℕ) → drop (k + get_or v i 0) (drop i v) ≡ drop (i + k + get_or v i 0) v
  rest k = drop-drop (k + get_or v i 0) i v ∙ ap (λ (j : ℕ). drop j v) (omega arith)

  pub too-short : length v < i → filled_from v i ≡ false
  unfolding filled_from
  too-short h = rw (lt-leb (i + 3 + get_or v i 0) (length v) (omega arith))

  pub block-behind : block_at v i ≡ block_at (drop i v) 0
  block-behind = rw (head, drop-drop 1 i v)

  pub bits-behind : bits_at v i ≡ bits_at (drop i v) 0
  bits-behind = rw (head, rest 1, rest 3)

  pub filled-behind : i ≤ length v → filled_from v i ≡ filled_from (drop i v) 0
  unfolding filled_from
  filled-behind h =
      let n : length v ≡ i + length (drop i v) = omega (arith, length-drop i v) in
      let l : leb (i + 3 + get_or v i 0) (length v) ≡ leb (3 + get_or v i 0) (length (drop i v)) = grind (arith, nat_tests) in
      let e : eqb (length v) (i + 3 + get_or v i 0 + (count_at v i + 7) / 8) ≡ eqb (length (drop i v)) (3 + get_or v i 0 + (count_at v i + 7) / 8) = grind (arith, nat_tests) in
      rw (head, rest 1, rest 3, l, e)

-- What is asked from a place on, asked of what is behind it.
pub ruleset behind = (too-short, filled-behind)
