-- The laws of bits, for callers and for the code over them.
use Prim.Native.Nat.{ℕ, zero, suc, ◌+◌, ◌-◌, ◌*◌, ◌/◌, ◌%◌, ◌^◌, ◌≤◌, ◌<◌, min}
use native.Mathlib.Nat.{pow-succ', add-zero, zero-add, suc-add, add_assoc, add_comm, add-mul, zero-mul, mul_assoc, mul-add-mod_self_right}
use native.Mathlib.Numerals.{one-add}
use native.Mathlib.Omega.{arith}
use mathlib.Core.Path.{◌≡◌, ◌∙◌, refl, sym, ap, ap₂}
use mathlib.Core.Bool.{Bool, true, false}
use mathlib.Core.List.{List, [], ◌∷◌, ◌++◌, append_assoc}
use borrow.Author.Tests.{leb-true, leb-false, le-leb, lt-leb}
use lib.Arith.{digits_lt}
use lib.Dec.{leb}
use lib.ListN.{length, take, drop, get_or, set, length-append, length-take, length-drop, take-append-drop}
use lib.Pow.{pow-add, high, shr-shr, mod-pow-add, mod-mod-pow, field}
use lib.Seq.{take-append-le, drop-append-le, take-append-add, drop-append-add, drop-nil, take-nil, take_at, drop_at, split_at, take-append_seam, drop-drop, take-take, take-add, drop-cons, length-take-le, set_split}
use Rattle.bits.specs.Bits.{to_bits, value, bits, part, splice, AllBits}

pub length-to_bits : (n v : ℕ) → length (to_bits n v) ≡ n
unfolding to_bits
length-to_bits zero v = refl
length-to_bits (suc n) v = ap suc (length-to_bits n v)

pub length-bits : (l : List ℕ) → length (bits l) ≡ 8 * length l
unfolding bits
length-bits [] = refl
length-bits (b ∷ l) = rw (length-append (to_bits 8 b) (bits l), length-to_bits 8 b, length-bits l) (omega arith)

-- n + m bits are the n above the m lowest, and those.
pub to_bits-append : (n m v : ℕ) → to_bits (n + m) v ≡ to_bits n (v / 2 ^ m) ++ to_bits m v
unfolding to_bits
to_bits-append zero m v = rw (zero-add m)
to_bits-append (suc n) m v =
    rw (suc-add n m, shr-shr v m n, add_comm m n) (ap (λ (t : List ℕ). v / 2 ^ (n + m) % 2 ∷ t) (to_bits-append n m v))

-- The lowest n bits do not depend on what is above them.
pub to_bits-mod : (n v : ℕ) → to_bits n (v % 2 ^ n) ≡ to_bits n v
unfolding to_bits
to_bits-mod zero v = refl
to_bits-mod (suc n) v =
    ap₂ (λ (b : ℕ) (t : List ℕ). b ∷ t)
    (ap (λ (k : ℕ). v % 2 ^ k / 2 ^ n % 2) (sym (one-add n)) ∙ ap (λ (k : ℕ). k % 2) (field v 1 n) ∙ omega arith)
    (sym (to_bits-mod n (v % 2 ^ suc n))
    ∙ ap (to_bits n) (ap (λ (k : ℕ). v % 2 ^ k % 2 ^ n) (sym (one-add n)) ∙ mod-mod-pow v 1 n)
    ∙ to_bits-mod n v)

pub to_bits-above : (n k v : ℕ) → to_bits n (k * 2 ^ n + v) ≡ to_bits n v
to_bits-above n k v = sym (to_bits-mod n (k * 2 ^ n + v)) ∙ ap (to_bits n) (mul-add-mod_self_right k (2 ^ n) v) ∙ to_bits-mod n v

pub bits-append : (l m : List ℕ) → bits (l ++ m) ≡ bits l ++ bits m
unfolding bits
bits-append [] m = refl
bits-append (b ∷ l) m = rw (bits-append l m) (sym (append_assoc (to_bits 8 b) (bits l) (bits m)))

pub value-append : (l m : List ℕ) → value (l ++ m) ≡ value l * 2 ^ length m + value m
unfolding value
value-append [] m = omega (arith, zero-mul (2 ^ length m))
value-append (b ∷ l) m =
    rw (value-append l m, length-append l m, pow-add 2 (length l) (length m), add-mul, mul_assoc b (2 ^ length l) (2 ^ length m))
    (omega arith)

-- The number that the lowest n bits of v spell.
pub value-to_bits : (n v : ℕ) → value (to_bits n v) ≡ v % 2 ^ n
unfolding to_bits value
value-to_bits zero v = omega arith
value-to_bits (suc n) v = rw (length-to_bits n v, value-to_bits n v, ← one-add n) (sym (mod-pow-add v 1 n))

-- Whole bytes are whole groups of eight bits.
one_more : (q b : ℕ) → 8 * suc q ≡ length (to_bits 8 b) + 8 * q
one_more q b = rw (length-to_bits 8 b) (omega arith)

pub drop_bits : (q : ℕ) (l : List ℕ) → drop (8 * q) (bits l) ≡ bits (drop q l)
unfolding bits
drop_bits zero l = refl
drop_bits (suc q) [] = drop-nil (8 * suc q)
drop_bits (suc q) (b ∷ l) = rw (one_more q b, drop-append-add (to_bits 8 b) (bits l) (8 * q)) (drop_bits q l)

pub take-bits : (q : ℕ) (l : List ℕ) → take (8 * q) (bits l) ≡ bits (take q l)
unfolding bits
take-bits zero l = refl
take-bits (suc q) [] = take-nil (8 * suc q)
take-bits (suc q) (b ∷ l) = rw (one_more q b, take-append-add (to_bits 8 b) (bits l) (8 * q), take-bits q l)

-- h bits of a number's lowest p + h + s, with p before and s behind them.
pub to_bits-part : (p h s v : ℕ) → part (to_bits (p + (h + s)) v) p h ≡ to_bits h (v / 2 ^ s)
to_bits-part p h s v =
    rw (to_bits-append p (h + s) v, drop_at (to_bits p (v / 2 ^ (h + s))) (to_bits (h + s) v) p (length-to_bits p (v / 2 ^ (h + s))), to_bits-append h s v)
    (take_at (to_bits h (v / 2 ^ s)) (to_bits s v) h (length-to_bits h (v / 2 ^ s)))

-- The bits of one byte among others.
pub byte-bits :
    (q : ℕ) (l : List ℕ)
    → q < length l
    → bits l ≡ bits (take q l) ++ (to_bits 8 (get_or l q 0) ++ bits (drop (suc q) l))
unfolding bits
byte-bits q l h = ap bits (split_at l q 0 h) ∙ bits-append (take q l) (get_or l q 0 ∷ drop (suc q) l)

-- h bits inside byte q, p behind its highest, with s behind them.
pub bits-part :
    (l : List ℕ) (q p h s : ℕ)
    → q < length l
    → p + (h + s) ≡ 8
    → part (bits l) (8 * q + p) h ≡ to_bits h (get_or l q 0 / 2 ^ s)
unfolding bits
bits-part l q p h s inside eight =
    let b : ℕ = get_or l q 0 in
    let tail : List ℕ = bits (drop (suc q) l) in
    let n : length (to_bits 8 b) ≡ 8 = length-to_bits 8 b in
    let m : length (drop p (to_bits 8 b)) ≡ 8 - p = length-drop p (to_bits 8 b) ∙ ap (λ (k : ℕ). k - p) n in
    ap (take h) (sym (drop-drop p (8 * q) (bits l)) ∙ ap (drop p) (drop_bits q l ∙ ap bits (drop-cons l q 0 inside)))
    ∙ ap (take h) (drop-append-le p (to_bits 8 b) tail (omega arith))
    ∙ take-append-le h (drop p (to_bits 8 b)) tail (omega arith)
    ∙ ap (λ (k : ℕ). part (to_bits k b) p h) (sym eight)
    ∙ to_bits-part p h s b

-- Two parts, one behind the other.
pub part-append : (l : List ℕ) (at n m : ℕ) → part l at (n + m) ≡ part l at n ++ part l (at + n) m
part-append l at n m = take-add n m (drop at l) ∙ ap (λ (t : List ℕ). part l at n ++ take m t) (drop-drop n at l)

pub length_part : (l : List ℕ) (at n : ℕ) → at + n ≤ length l → length (part l at n) ≡ n
length_part l at n h = length-take-le n (drop at l) (rw (length-drop at l) (omega arith))

-- Replacing what stands between two lists.
pub splice_at : (x h y vs : List ℕ) → length vs ≡ length h → splice (x ++ (h ++ y)) (length x) vs ≡ x ++ (vs ++ y)
splice_at x h y vs e =
    ap₂ (λ (s t : List ℕ). s ++ (vs ++ t))
    (take-append_seam x (h ++ y))
    (drop-append-add x (h ++ y) (length vs) ∙ drop_at h y (length vs) (sym e))

pub length-splice : (l : List ℕ) (at : ℕ) (vs : List ℕ) → at + length vs ≤ length l → length (splice l at vs) ≡ length l
length-splice l at vs h =
    length-append (take at l) (vs ++ drop (at + length vs) l)
    ∙ ap₂ (λ (m n : ℕ). m + n) (length-take-le at l (omega arith))
    (length-append vs (drop (at + length vs) l) ∙ ap (λ (n : ℕ). length vs + n) (length-drop (at + length vs) l))
    ∙ omega arith

-- One replacement behind another is one of both.
pub splice-splice :
    (l : List ℕ) (at : ℕ) (vs ws : List ℕ)
    → at + length vs + length ws ≤ length l
    → splice (splice l at vs) (at + length vs) ws ≡ splice l at (vs ++ ws)
splice-splice l at vs ws h =
    let n : ℕ = length ws in
    let d : List ℕ = drop (at + length vs) l in
    let x : List ℕ = take at l ++ vs in
    let x-long : length x ≡ at + length vs = length-append (take at l) vs ∙ ap (λ (k : ℕ). k + length vs) (length-take-le at l (omega arith)) in
    let d-long : length d ≡ length l - (at + length vs) = length-drop (at + length vs) l in
    ap₂ (λ (t : List ℕ) (k : ℕ). splice t k ws)
    (sym (append_assoc (take at l) vs d) ∙ ap (λ (t : List ℕ). x ++ t) (sym (take-append-drop n d)))
    (sym x-long)
    ∙ splice_at x (take n d) (drop n d) ws (sym (length-take-le n d (omega arith)))
    ∙ append_assoc (take at l) vs (ws ++ drop n d)
    ∙ ap (λ (t : List ℕ). take at l ++ t)
    (sym (append_assoc vs ws (drop n d))
    ∙ ap (λ (t : List ℕ). (vs ++ ws) ++ t)
    (drop-drop n (at + length vs) l
    ∙ ap (λ (k : ℕ). drop k l) (add_assoc at (length vs) n ∙ ap (λ (k : ℕ). at + k) (sym (length-append vs ws)))))

regroup : (a t m l c : List ℕ) → a ++ ((t ++ (m ++ l)) ++ c) ≡ (a ++ t) ++ (m ++ (l ++ c))
regroup a t m l c = simp append_assoc

-- Storing a byte replaces h bits of the old one, if the others are as they were.
pub bits-set :
    (l : List ℕ) (q p h s v : ℕ) (vs : List ℕ)
    → q < length l
    → p + (h + s) ≡ 8
    → length vs ≡ h
    → to_bits 8 v ≡ to_bits p (get_or l q 0 / 2 ^ (h + s)) ++ (vs ++ to_bits s (get_or l q 0))
    → bits (set l q v) ≡ splice (bits l) (8 * q + p) vs
unfolding bits
bits-set l q p h s v vs inside eight e byte =
    let b : ℕ = get_or l q 0 in
    let a : List ℕ = bits (take q l) in
    let c : List ℕ = bits (drop (suc q) l) in
    let top : List ℕ = to_bits p (b / 2 ^ (h + s)) in
    let mid : List ℕ = to_bits h (b / 2 ^ s) in
    let low : List ℕ = to_bits s b in
    let old : to_bits 8 b ≡ top ++ (mid ++ low) =
    ap (λ (k : ℕ). to_bits k b) (sym eight) ∙ to_bits-append p (h + s) b ∙ ap (λ (t : List ℕ). top ++ t) (to_bits-append h s b) in
    let long : length (a ++ top) ≡ 8 * q + p =
    length-append a top
    ∙ ap₂ (λ (m n : ℕ). m + n)
    (length-bits (take q l) ∙ ap (λ (k : ℕ). 8 * k) (length-take-le q l (omega arith)))
    (length-to_bits p (b / 2 ^ (h + s))) in
    let new : bits (set l q v) ≡ (a ++ top) ++ (vs ++ (low ++ c)) =
    ap bits (set_split l q v inside)
    ∙ bits-append (take q l) (v ∷ drop (suc q) l)
    ∙ ap (λ (t : List ℕ). a ++ (t ++ c)) byte
    ∙ regroup a top vs low c in
    let whole : bits l ≡ (a ++ top) ++ (mid ++ (low ++ c)) =
    byte-bits q l inside ∙ ap (λ (t : List ℕ). a ++ (t ++ c)) old ∙ regroup a top mid low c in
    new
    ∙ sym (splice_at (a ++ top) mid (low ++ c) vs (e ∙ sym (length-to_bits h (b / 2 ^ s))))
    ∙ ap₂ (λ (t : List ℕ) (k : ℕ). splice t k vs) (sym whole) long

-- Three numbers, one behind the other, as one number and as bits.
pub spelled-below : (p h s t x l : ℕ) → t < 2 ^ p → x < 2 ^ h → l < 2 ^ s → (t * 2 ^ h + x) * 2 ^ s + l < 2 ^ (p + (h + s))
spelled-below p h s t x l ht hx hl =
    rw (sym (add_assoc p h s), pow-add 2 (p + h) s, pow-add 2 p h) (digits_lt (digits_lt ht hx) hl)

pub to_bits-spelled :
    (p h s t x l : ℕ)
    → x < 2 ^ h
    → l < 2 ^ s
    → to_bits (p + (h + s)) ((t * 2 ^ h + x) * 2 ^ s + l) ≡ to_bits p t ++ (to_bits h x ++ to_bits s l)
to_bits-spelled p h s t x l hx hl =
    let v : ℕ = (t * 2 ^ h + x) * 2 ^ s + l in
    let mid : v / 2 ^ s ≡ t * 2 ^ h + x = high (t * 2 ^ h + x) s hl in
    let top : v / 2 ^ (h + s) ≡ t =
    ap (λ (k : ℕ). v / 2 ^ k) (add_comm h s) ∙ sym (shr-shr v s h) ∙ ap (λ (k : ℕ). k / 2 ^ h) mid ∙ high t h hx in
    to_bits-append p (h + s) v
    ∙ ap₂ (λ (a b : List ℕ). a ++ b) (ap (to_bits p) top)
    (to_bits-append h s v
    ∙ ap₂ (λ (a b : List ℕ). a ++ b) (ap (to_bits h) mid ∙ to_bits-above h t x) (to_bits-above s (t * 2 ^ h + x) l))

-- Replacing nothing.
pub splice-none : (l : List ℕ) (at : ℕ) → splice l at [] ≡ l
splice-none l at = ap (λ (k : ℕ). take at l ++ drop k l) (add-zero at) ∙ take-append-drop at l

pub to_bits-none : (v : ℕ) → to_bits 0 v ≡ []
unfolding to_bits
to_bits-none v = refl

-- ---- lists of bits

pub all-to_bits : (n v : ℕ) → AllBits (to_bits n v)
unfolding to_bits
all-to_bits zero v = tt
all-to_bits (suc n) v = (omega arith, all-to_bits n v)

pub all_append : (l m : List ℕ) → AllBits l → AllBits m → AllBits (l ++ m)
all_append [] m al am = am
all_append (b ∷ l) m al am = (al.0, all_append l m al.1 am)

pub all-bits : (l : List ℕ) → AllBits (bits l)
unfolding bits
all-bits [] = tt
all-bits (b ∷ l) = all_append (to_bits 8 b) (bits l) (all-to_bits 8 b) (all-bits l)

pub all_take : (n : ℕ) (l : List ℕ) → AllBits l → AllBits (take n l)
all_take zero l a = tt
all_take (suc n) [] a = tt
all_take (suc n) (b ∷ l) a = (a.0, all_take n l a.1)

pub all_drop : (n : ℕ) (l : List ℕ) → AllBits l → AllBits (drop n l)
all_drop zero l a = a
all_drop (suc n) [] a = tt
all_drop (suc n) (b ∷ l) a = all_drop n l a.1

pub value-below : (l : List ℕ) → AllBits l → value l < 2 ^ length l
unfolding value
value-below [] a = omega arith
value-below (b ∷ l) a =
    let up : 2 ^ suc (length l) ≡ 2 * 2 ^ length l = pow-succ' 2 (length l) in
    rw up (digits_lt a.0 (value-below l a.1))

-- A list of bits is spelled by the number that it spells.
pub to_bits-value : (l : List ℕ) → AllBits l → to_bits (length l) (value l) ≡ l
unfolding to_bits value
to_bits-value [] a = refl
to_bits-value (b ∷ l) a =
    let small : b % 2 ≡ b = omega (arith, a.0) in
    ap₂ (λ (x : ℕ) (t : List ℕ). x ∷ t)
    (ap (λ (k : ℕ). k % 2) (high b (length l) (value-below l a.1)) ∙ small)
    (to_bits-above (length l) b (value l) ∙ to_bits-value l a.1)

-- Lists of as many bits that spell the same number are the same.
pub value-determines : (l m : List ℕ) → AllBits l → AllBits m → length l ≡ length m → value l ≡ value m → l ≡ m
value-determines l m h k n e = sym (to_bits-value l h) ∙ ap₂ to_bits n e ∙ to_bits-value m k

-- And n bits of bytes are those of the number that they spell.
pub to_bits-of-part :
    (l : List ℕ) (at n : ℕ) → at + n ≤ 8 * length l → to_bits n (value (part (bits l) at n)) ≡ part (bits l) at n
to_bits-of-part l at n h =
    let long : length (part (bits l) at n) ≡ n = length_part (bits l) at n (rw (length-bits l) h) in
    ap (λ (k : ℕ). to_bits k (value (part (bits l) at n))) (sym long)
    ∙ to_bits-value (part (bits l) at n) (all_take n (drop at (bits l)) (all_drop at (bits l) (all-bits l)))

-- What holds of a test, shown where it holds and where it fails.
pub by-leb : (P : Bool → Type 0) (a b : ℕ) → (a ≤ b → P true) → (b < a → P false) → P (leb a b)
by-leb P a b holds fails = go (leb a b) refl
  where
    go : (t : Bool) → leb a b ≡ t → P t
    go true h = holds (leb-true a b h)
    go false h = fails (leb-false a b h)

-- n bits fit into bytes, where the bytes that they begin do.
pub within-bytes : (n : ℕ) (l : List ℕ) → leb (n / 8 + (n % 8 + 7) / 8) (length l) ≡ leb n (length (bits l))
within-bytes n l =
    rw (length-bits l)
    (by-leb (λ t. t ≡ leb n (8 * length l)) (n / 8 + (n % 8 + 7) / 8) (length l)
    (λ h. sym (le-leb n (8 * length l) (omega arith)))
    (λ h. sym (lt-leb n (8 * length l) (omega arith))))

-- A part of a list's front is that part of the list.
part-by-drop : (l : List ℕ) (at n : ℕ) → at ≤ length l → drop at (take (at + n) l) ≡ part l at n
part-by-drop l at n h =
    ap (drop at) (take-add at n l) ∙ drop_at (take at l) (part l at n) at (length-take-le at l h)

pub part-take : (l : List ℕ) (m at n : ℕ) → at + n ≤ m → at ≤ length l → part (take m l) at n ≡ part l at n
part-take l m at n inside there =
    let long : length (take m l) ≡ min m (length l) = length-take m l in
    sym (part-by-drop (take m l) at n (omega arith))
    ∙ ap (drop at) (take-take (at + n) m l inside)
    ∙ part-by-drop l at n there
