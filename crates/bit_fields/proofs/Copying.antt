-- Bits copied byte by byte, over bytes among others, and in three steps.
use Prim.Native.Nat.{ℕ, ◌+◌, ◌-◌, ◌*◌, ◌≤◌, ◌<◌}
use native.Mathlib.Omega.{arith}
use mathlib.Core.Path.{◌≡◌, ◌∙◌, sym, ap, ap₂}
use mathlib.Core.List.{List, [], ◌∷◌, ◌++◌, append_assoc, append-nil}
use lib.ListN.{length, take, drop, set, length-append, length-drop, take-append-drop}
use lib.Seq.{drop-drop, take-add, length-take-le}
use borrow.Rule.Slice.PartMut.{put_mid}
use Rattle.std.proofs.lemmas.List.{take_more_set}
use Rattle.bits.specs.Bits.{to_bits, bits, part, splice}
use Rattle.bits.proofs.Laws.{bits-append, take-bits, drop_bits, splice-splice}

-- One more byte of l holds eight more bits of m.
pub one_more :
    (l m : List ℕ) (i b : ℕ)
    → i < length l
    → bits (take i l) ≡ take (8 * i) m
    → to_bits 8 b ≡ part m (8 * i) 8
    → bits (take (i + 1) (set l i b)) ≡ take (8 * (i + 1)) m
unfolding bits
one_more l m i b inside so_far byte =
    let next : 8 * (i + 1) ≡ 8 * i + 8 = omega arith in
    rw (take_more_set l i b inside, bits-append (take i l) (b ∷ []), append-nil (to_bits 8 b), so_far, byte, next, take-add (8 * i) 8 m)

-- Bytes put over k of others put their bits over those.
pub over :
    (l m x : List ℕ) (i k : ℕ)
    → length x ≡ 8 * k
    → bits m ≡ x
    → bits (put_mid i (i + k - i) l m) ≡ splice (bits l) (8 * i) x
over l m x i k long e =
    let n : i + k - i ≡ k = omega arith in
    let there : 8 * i + length x ≡ 8 * (i + k) = omega arith in
    rw (n, drop-drop k i l, bits-append (take i l) (m ++ drop (i + k) l), bits-append m (drop (i + k) l), e, there, take-bits i l, drop_bits (i + k) l)

-- The first a bits of m, b behind them and the rest, put one behind the other.
pub in_three :
    (d m x y z : List ℕ) (at a b : ℕ)
    → at + length m ≤ length d
    → a + b ≤ length m
    → x ≡ splice d at (take a m)
    → y ≡ splice x (at + a) (take b (drop a m))
    → z ≡ splice y (at + (a + b)) (drop b (drop a m))
    → z ≡ splice d at m
in_three d m x y z at a b room few first second third =
    let vs : List ℕ = take a m in
    let ws : List ℕ = take b (drop a m) in
    let us : List ℕ = drop b (drop a m) in
    let more : length (drop a m) ≡ length m - a = length-drop a m in
    let vs-long : length vs ≡ a = length-take-le a m (omega arith) in
    let ws-long : length ws ≡ b = length-take-le b (drop a m) (omega arith) in
    let us-long : length us ≡ length m - a - b = length-drop b (drop a m) ∙ omega arith in
    let both : length (vs ++ ws) ≡ a + b = length-append vs ws ∙ omega arith in
    let two : y ≡ splice d at (vs ++ ws) =
    second
    ∙ ap₂ (λ (t : List ℕ) (k : ℕ). splice t (at + k) ws) first (sym vs-long)
    ∙ splice-splice d at vs ws (omega arith) in
    third
    ∙ ap₂ (λ (t : List ℕ) (k : ℕ). splice t (at + k) us) two (sym both)
    ∙ splice-splice d at (vs ++ ws) us (omega arith)
    ∙ ap (splice d at)
    (append_assoc vs ws us ∙ ap (λ (t : List ℕ). vs ++ t) (take-append-drop b (drop a m)) ∙ take-append-drop a m)
