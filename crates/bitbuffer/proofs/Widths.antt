-- The window after a long write, which goes by widths of 64 and what is left, in closed form.
use Prim.Native.Nat.{ℕ, zero, suc, ◌+◌, ◌-◌, ◌*◌, ◌/◌, ◌%◌, ◌≤◌}
use native.Mathlib.Omega.{arith}
use mathlib.Core.Path.{◌≡◌, ◌∙◌, ap}
use mathlib.Core.Bool.{cond}
use mathlib.Core.List.{List, [], ◌∷◌, ◌++◌}
use borrow.Author.Tests.{le-leb, lt-leb}
use lib.Dec.{leb, ltb}
use lib.ListN.{replicate}
use Rattle.bitbuffer.specs.Writes.{after, end_after, widths, after_all}
use Rattle.bitbuffer.specs.declared.BitBuffer.{BitBuffer}
use Rattle.bits.proofs.Laws.{by-leb}

-- The window with another position and end.
abbrev pub moved : BitBuffer → ℕ → ℕ → BitBuffer
moved w p e = record { start = w.start; pos = p; end = e; flag_autoexpand = w.flag_autoexpand }

same : (w : BitBuffer) {p q d e : ℕ} → p ≡ q → d ≡ e → moved w p d ≡ moved w q e
same w x y = λ i. moved w (x i) (y i)

-- The bits before the end.
abbrev left : BitBuffer → ℕ
left w = w.end - w.pos

-- The end after q widths of 64: each moves it but those that the bits before it hold.
abbrev end_after_many : BitBuffer → ℕ → ℕ
end_after_many w q = w.end + 64 * (q - left w / 64)

-- The end after n bits. Where they cross it, what is left after the widths of 64 moves it too if it crosses it.
unfoldable pub end_after_all : BitBuffer → ℕ → ℕ
end_after_all w n =
    cond (leb n (left w)) w.end
    (end_after_many w (n / 64) + cond (ltb (left w % 64) (n % 64)) (n % 64) 0)

-- One width of 64 and then q are q + 1.
step : (w : BitBuffer) (q : ℕ) → w.pos ≤ w.end → moved (after w 64) ((after w 64).pos + 64 * q) (end_after_many (after w 64) q) ≡ moved w (w.pos + 64 * suc q) (end_after_many w (suc q))
step w q h =
    same w (omega arith)
    (by-leb (λ t. cond t w.end (w.end + 64) + 64 * (q - (cond t w.end (w.end + 64) - (w.pos + 64)) / 64) ≡ end_after_many w (suc q)) (w.pos + 64) w.end
    (λ l. omega arith)
    (λ l. omega arith))

in_order : (w : BitBuffer) → w.pos ≤ w.end → (after w 64).pos ≤ (after w 64).end
in_order w h = by-leb (λ t. w.pos + 64 ≤ cond t w.end (w.end + 64)) (w.pos + 64) w.end (λ l. l) (λ l. omega arith)

many : (w : BitBuffer) (q : ℕ) → w.pos ≤ w.end → (ns : List ℕ) → after_all w (replicate q 64 ++ ns) ≡ after_all (moved w (w.pos + 64 * q) (end_after_many w q)) ns
unfolding after_all
many w zero h ns = ap (λ (v : BitBuffer). after_all v ns) (same w (omega arith) (omega arith))
many w (suc q) h ns = many (after w 64) q (in_order w h) ns ∙ ap (λ (v : BitBuffer). after_all v ns) (step w q h)

-- What is left, after them.
end_is : (w : BitBuffer) (n : ℕ) → w.pos ≤ w.end → end_after (moved w (w.pos + 64 * (n / 64)) (end_after_many w (n / 64))) (n % 64) ≡ end_after_all w n
unfolding end_after_all
end_is w n h =
    let p = w.pos + 64 * (n / 64) + n % 64 in
    let e = end_after_many w (n / 64) in
    by-leb (λ t. cond (leb p e) e (e + n % 64) ≡ cond t w.end (e + cond (ltb (left w % 64) (n % 64)) (n % 64) 0)) n (left w)
    (λ l. rw (le-leb p e (omega arith)) (omega arith))
    (λ l.
    by-leb (λ t. cond (leb p e) e (e + n % 64) ≡ e + cond t (n % 64) 0) (suc (left w % 64)) (n % 64)
    (λ m. rw (lt-leb p e (omega arith)))
    (λ m. rw (le-leb p e (omega arith)) (omega arith)))

pub after_all-is : (w : BitBuffer) (n : ℕ) → w.pos ≤ w.end → after_all w (widths n) ≡ moved w (w.pos + n) (end_after_all w n)
unfolding after_all widths
after_all-is w n h = many w (n / 64) h (n % 64 ∷ []) ∙ same w (omega arith) (end_is w n h)

-- Up to 64 bits are one width.
one_end : (w : BitBuffer) (n : ℕ) → w.pos ≤ w.end → n ≤ 64 → end_after_all w n ≡ end_after w n
unfolding end_after_all
one_end w n high few =
    let l : ℕ = w.end - w.pos in
    let e : ℕ = w.end + 64 * (n / 64 - l / 64) in
    by-leb (λ t. cond t w.end (e + cond (ltb (l % 64) (n % 64)) (n % 64) 0) ≡ end_after w n) n l
    (λ inside. rw (le-leb (w.pos + n) w.end (omega arith)))
    (λ more.
    rw (lt-leb (w.pos + n) w.end (omega arith))
    (by-leb (λ t. e + cond t (n % 64) 0 ≡ w.end + n) (suc (l % 64)) (n % 64) (λ h. omega arith) (λ h. omega arith)))

pub one_width : (w : BitBuffer) (n : ℕ) → w.pos ≤ w.end → n ≤ 64 → after_all w (widths n) ≡ after w n
one_width w n high few = after_all-is w n high ∙ ap (moved w (w.pos + n)) (one_end w n high few)

-- The window after any write.
pub ruleset growing = (after_all-is)
