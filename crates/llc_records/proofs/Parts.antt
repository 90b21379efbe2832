-- Numbers, bytes and packed bits as the code writes them, and the fields put together.
use Prim.Native.Nat.{ℕ, zero, suc, ◌+◌, ◌-◌, ◌*◌, ◌/◌, ◌%◌, ◌^◌, ◌≤◌, ◌<◌}
use native.Mathlib.Nat.{zero-add, suc-add, mod-eq_of_lt, zero-mul, div-one}
use native.Mathlib.Omega.{arith}
use mathlib.Core.Path.{◌≡◌, ◌∙◌, refl, sym, ap, ap₂}
use mathlib.Core.Bool.{Bool, true, false}
use mathlib.Core.List.{List, [], ◌∷◌, ◌++◌, append_assoc}
use lib.ListN.{length, take, drop, get_or, replicate, length-append, length-drop, length-replicate, replicate-append-replicate}
use lib.Pow.{shl_exact, shl_lt}
use lib.Seq.{drop-drop, drop_at, take_at, take-append-le, drop-append-le, length-take-le}
use borrow.Rule.Slice.PartMut.{put_mid}
use Rattle.std.proofs.lemmas.List.{take-append-drop}
use Rattle.std.specs.Int.{w32, to_be_bytes}
use Rattle.lists.specs.Writes.{Wrote}
use Rattle.lists.proofs.Writes.{write-is}
use Rattle.bits.specs.Bits.{to_bits, value, bits, AllBits}
use Rattle.bits.proofs.Laws.{length-to_bits, value-to_bits, length-bits, value-append, value-below}
use Rattle.llc_pdus.specs.declared.Pdu.TheVariants.{BlAck}
use Rattle.llc_pdus.specs.Headers.{header}
use Rattle.llc_rule.specs.Calls.{to_bytes}
use Rattle.llc_rule.specs.Records.{number_field, packed, pack, counted, counted_if_any}
use Rattle.llc_rule.proofs.Records.{length-to_bytes, length-pack}

-- Numbers -----------------------------------------------------------------------------------------------------------------

-- The lowest bytes of a number, out of all four.
pub lowest : (n v : ℕ) → n ≤ 4 → take (4 - (4 - n)) (drop (4 - n) (to_be_bytes w32 v)) ≡ to_bytes n v
unfolding to_bytes
lowest zero v h = refl
lowest (suc zero) v h = rw (div-one v)
lowest (suc (suc zero)) v h = rw (div-one v)
lowest (suc (suc (suc zero))) v h = rw (div-one v)
lowest (suc (suc (suc (suc zero)))) v h = rw (div-one v)
lowest (suc (suc (suc (suc (suc n))))) v h = absurd (omega arith)

-- A number's field is its tag, its length and its bytes.
pub number_is : (tag n v : ℕ) → (tag ∷ to_bytes 2 n) ++ to_bytes n v ≡ number_field tag n v
number_is tag n v = ap (λ (k : ℕ). tag ∷ to_bytes 2 k ++ to_bytes n v) (sym (length-to_bytes n v))

-- Bytes ---------------------------------------------------------------------------------------------------------------------

-- Bytes that were copied over a part.
pub copied :
    (l bytes m : List ℕ) (i : ℕ)
    → i + length bytes ≤ length l
    → m ≡ bytes
    → Wrote l i bytes (put_mid i (i + length bytes - i) l m) (i + length bytes)
copied l bytes m i h e =
    let n : i + length bytes - i ≡ length bytes = omega arith in
    record {
      next = refl;
      holds = rw (e, n, drop-drop (length bytes) i l) (sym (write-is l i bytes h));
    }

-- Packed bits -------------------------------------------------------------------------------------------------------------

-- n bytes of bits read the first 8 n of them alone.
packed-front : (n : ℕ) (x y : List ℕ) → 8 * n ≤ length x → packed n (x ++ y) ≡ packed n x
unfolding packed
packed-front zero x y h = refl
packed-front (suc n) x y h =
    let long : length (drop 8 x) ≡ length x - 8 = length-drop 8 x in
    rw (take-append-le 8 x y (omega arith), drop-append-le 8 x y (omega arith), packed-front n (drop 8 x) y (omega arith))

packed-split : (n m : ℕ) (l : List ℕ) → packed (n + m) l ≡ packed n l ++ packed m (drop (8 * n) l)
unfolding packed
packed-split zero m l = rw (zero-add m)
packed-split (suc n) m l =
    let more : 8 * suc n ≡ 8 + 8 * n = omega arith in
    rw (suc-add n m, more, ← drop-drop (8 * n) 8 l, packed-split n m (drop 8 l))

packed-append : (n m : ℕ) (x y : List ℕ) → length x ≡ 8 * n → packed (n + m) (x ++ y) ≡ packed n x ++ packed m y
packed-append n m x y h = rw (packed-split n m (x ++ y), packed-front n x y (omega arith), drop_at x y (8 * n) h)

-- Bits before others that fill n bytes.
pack-append : (n : ℕ) (x y : List ℕ) → length x ≡ 8 * n → pack (x ++ y) ≡ packed n x ++ pack y
pack-append n x y h =
    let z : List ℕ = replicate 7 0 in
    let long : length (x ++ y) ≡ 8 * n + length y = rw (length-append x y, h) in
    let size : (length (x ++ y) + 7) / 8 ≡ n + (length y + 7) / 8 = omega arith in
    ap₂ packed size (append_assoc x y z) ∙ packed-append n ((length y + 7) / 8) x (y ++ z) h

-- Bits that fill n bytes.
pack-whole : (n : ℕ) (x : List ℕ) → length x ≡ 8 * n → packed n x ≡ pack x
pack-whole n x h =
    let size : (length x + 7) / 8 ≡ n = omega arith in
    rw size (sym (packed-front n x (replicate 7 0) (omega arith)))

-- Bits in two parts, the first of whole bytes.
pub pack-parts :
    (n : ℕ) (x : List ℕ)
    → n ≤ length x
    → n % 8 ≡ 0
    → pack (take n x) ++ pack (drop n x) ≡ pack x
pack-parts n x h whole =
    let long : length (take n x) ≡ 8 * (n / 8) = length-take-le n x h ∙ omega arith in
    ap (λ (t : List ℕ). t ++ pack (drop n x)) (sym (pack-whole (n / 8) (take n x) long))
    ∙ sym (pack-append (n / 8) (take n x) (drop n x) long)
    ∙ ap pack (take-append-drop n x)

-- Every element is a byte.
abbrev pub Bytes : List ℕ → Type 0
Bytes l = (i : ℕ) → get_or l i 0 < 256

-- Bytes are what packs their bits.
packed-bits : (l : List ℕ) → Bytes l → packed (length l) (bits l) ≡ l
unfolding packed bits
packed-bits [] h = refl
packed-bits (b ∷ l) h =
    let t : List ℕ = to_bits 8 b in
    rw (take_at t (bits l) 8 (length-to_bits 8 b), drop_at t (bits l) 8 (length-to_bits 8 b), value-to_bits 8 b, packed-bits l (λ i. h (suc i)))
    (ap (λ (k : ℕ). k ∷ l) (mod-eq_of_lt (h 0)))

bytes_behind : (t l : List ℕ) → Bytes (t ++ l) → Bytes l
bytes_behind [] l h = h
bytes_behind (b ∷ t) l h = bytes_behind t l (λ i. h (suc i))

bytes_before : (l d : List ℕ) → Bytes (l ++ d) → Bytes l
bytes_before [] d h i = omega arith
bytes_before (b ∷ l) d h zero = h 0
bytes_before (b ∷ l) d h (suc i) = bytes_before l d (λ j. h (suc j)) i

-- Bytes among others are their bits, packed.
pub packed_by_bits : (t l d x : List ℕ) → Bytes (t ++ (l ++ d)) → bits l ≡ x → l ≡ pack x
packed_by_bits t l d x h e =
    sym (packed-bits l (bytes_before l d (bytes_behind t (l ++ d) h))) ∙ pack-whole (length l) (bits l) (length-bits l) ∙ ap pack e

-- The last bits ------------------------------------------------------------------------------------------------------------

value-zeros : (n : ℕ) → value (replicate n 0) ≡ 0
unfolding value
value-zeros zero = refl
value-zeros (suc n) =
    let z : List ℕ = replicate n 0 in
    omega (arith, value-zeros n, zero-mul (2 ^ length z))

-- No bits are no byte, and one to eight bits are one.
pub pack-none : (x : List ℕ) → length x ≡ 0 → [] ≡ pack x
unfolding packed
pack-none [] h = refl
pack-none (b ∷ x) h = absurd (omega arith)

-- The first bits of others with zeros behind them.
take-zeros : (x : List ℕ) (n m : ℕ) → take (length x + n) (x ++ replicate (n + m) 0) ≡ x ++ replicate n 0
take-zeros x n m =
    let a : List ℕ = replicate n 0 in
    let long : length (x ++ a) ≡ length x + n = length-append x a ∙ ap (λ (k : ℕ). length x + k) (length-replicate n 0) in
    rw (← replicate-append-replicate {A = ℕ} n m 0, ← append_assoc x a (replicate m 0)) (take_at (x ++ a) (replicate m 0) (length x + n) long)

value-padded : (x : List ℕ) (n : ℕ) → value (x ++ replicate n 0) ≡ value x * 2 ^ n
value-padded x n = rw (value-append x (replicate n 0), value-zeros n, length-replicate {A = ℕ} n 0) (omega arith)

packed-one : (l : List ℕ) → packed 1 l ≡ value (take 8 l) ∷ []
unfolding packed
packed-one l = refl

pub pack-few : (x : List ℕ) (h : ℕ) → length x ≡ h → 0 < h → h < 8 → pack x ≡ value x * 2 ^ (8 - h) ∷ []
pack-few x h long some few =
    let one : (length x + 7) / 8 ≡ 1 = omega arith in
    let seven : (8 - h) + (h - 1) ≡ 7 = omega arith in
    let eight : length x + (8 - h) ≡ 8 = omega arith in
    rw (one, packed-one (x ++ replicate 7 0), ← value-padded x (8 - h), ← take-zeros x (8 - h) (h - 1), eight, seven)

-- Bits that spell v, in the highest bits of a byte.
pub last-exact :
    (x : List ℕ) (h v : ℕ)
    → AllBits x
    → length x ≡ h
    → h < 8
    → v ≡ value x
    → v * 2 ^ (8 - h) % 2 ^ 64 ≡ value x * 2 ^ (8 - h)
last-exact x h v all long few e =
    let low : value x < 2 ^ h = rw long at (value-below x all) in
    rw e (shl_exact h (8 - h) 64 low (omega arith))

pub last_fits :
    (x : List ℕ) (h v : ℕ)
    → AllBits x
    → length x ≡ h
    → h < 8
    → v ≡ value x
    → v * 2 ^ (8 - h) % 2 ^ 64 < 256
last_fits x h v all long few e =
    let low : value x < 2 ^ h = rw long at (value-below x all) in
    let eight : h + (8 - h) ≡ 8 = omega arith in
    rw (last-exact x h v all long few e) (rw eight at (shl_lt h (8 - h) low))

-- Fields ------------------------------------------------------------------------------------------------------------------

-- Field 0C is its tag, its length, the count and the bytes.
pub counted_is :
    (l : List ℕ) (n : ℕ)
    → length l ≡ n
    → (0x0C ∷ to_bytes 2 (2 + (n + 7) / 8)) ++ (to_bytes 2 n ++ pack l) ≡ counted l
unfolding counted
counted_is l n e =
    let size : length (to_bytes 2 (length l) ++ pack l) ≡ 2 + (length l + 7) / 8 =
    rw (length-append (to_bytes 2 (length l)) (pack l), length-to_bytes 2 (length l), length-pack l) in
    rw (← e, ← size)

pub any_none : (l : List ℕ) → length l ≡ 0 → [] ≡ counted_if_any l
unfolding counted_if_any
any_none [] h = refl
any_none (b ∷ l) h = absurd (omega arith)

pub any_some : (l : List ℕ) → 0 < length l → counted l ≡ counted_if_any l
unfolding counted_if_any
any_some [] h = absurd (omega arith)
any_some (b ∷ l) h = refl

-- The five bits of a BL-ACK as field 0C: one byte behind their count.
pub ack-set : (nr : Bool) → nr ≡ true → number_field 0x0C 3 0x0538 ≡ counted (header (BlAck false nr))
unfolding counted packed value to_bytes
ack-set true h = refl
ack-set false h = cc

pub ack-clear : (nr : Bool) → nr ≡ false → number_field 0x0C 3 0x0530 ≡ counted (header (BlAck false nr))
unfolding counted packed value to_bytes
ack-clear true h = cc
ack-clear false h = refl
