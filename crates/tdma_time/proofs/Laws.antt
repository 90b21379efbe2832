-- The laws of slot time, for callers: a time is its slots, sums and differences are those of whole numbers modulo W.
use Prim.Native.Nat.{ℕ, suc, ◌+◌, ◌-◌, ◌*◌, ◌/◌, ◌%◌, ◌≤◌, ◌<◌}
use native.Mathlib.Omega.{arith}
use mathlib.Core.Path.{◌≡◌, ◌∙◌, refl, sym, ap}
use mathlib.Core.Bool.{true}
use lib.Dec.{ltb→lt, lt→ltb, leb→le, le→leb}
use lib.IntN.{ℤ, pos, negsuc, neg_ℤ, ◌+ℤ◌, ◌-ℤ◌, ◌*ℤ◌, +ℤ_assoc, +ℤ_comm, +ℤ_idr, +ℤ_invr, +ℤ-neg_ℤ_cancel, -ℤ-+ℤ_cancel}
use Rattle.tdma_time.specs.Modulo.{modulo, Congruent}
use Rattle.tdma_time.specs.Slots.{W, half, valid, slots, time_at, plus, Near, centred, minus, ahead, forward}
use Rattle.tdma_time.specs.declared.TdmaTime.{TdmaTime}
use Rattle.signed.proofs.Integers.{by_order, sub-ge, Natural}
use Rattle.tdma_time.proofs.Range.{in_range, is-valid, slots-below}
use Rattle.tdma_time.proofs.Remainders.{modulo-below, modulo-small, modulo-congruent, modulo-same, modulo_frame}

-- ---- a time is its slots

same-fields : {a b : TdmaTime} → a.t ≡ b.t → a.f ≡ b.f → a.m ≡ b.m → a.h ≡ b.h → a ≡ b
same-fields t f m h = λ i. record { t = t i; f = f i; m = m i; h = h i }

-- The slots in whole numbers with sign: of a time in range each 1 is taken from at least 1.
pub slots-signed :
    (a : TdmaTime)
    → valid a ≡ true
    → pos (slots a) ≡ (pos a.t -ℤ pos 1) +ℤ pos 4 *ℤ (pos a.f -ℤ pos 1) +ℤ pos 72 *ℤ (pos a.m -ℤ pos 1) +ℤ pos 4320 *ℤ pos a.h
unfolding slots
slots-signed a v =
    let r = in_range a v in
    rw (sub-ge a.t 1 r.t-low, sub-ge a.f 1 r.f-low, sub-ge a.m 1 r.m-low)

-- The time with s slots has s slots, and is in range.
pub slots-time_at : (s : ℕ) → s < W → slots (time_at s) ≡ s
unfolding slots time_at
slots-time_at s h =
    let q : s / 72 ≡ s / 4 / 18 = omega arith in
    let p : s / 4320 ≡ s / 72 / 60 = omega arith in
    omega arith

pub time_at-valid : (s : ℕ) → s < W → valid (time_at s) ≡ true
unfolding time_at
time_at-valid s h = is-valid (omega arith)

-- A time in range is the one with its slots.
pub time_at-slots : (a : TdmaTime) → valid a ≡ true → time_at (slots a) ≡ a
unfolding slots time_at
time_at-slots a v =
    let r = in_range a v in
    let q : slots a / 4 ≡ (a.f - 1) + 18 * ((a.m - 1) + 60 * a.h) = omega arith in
    let p : slots a / 72 ≡ (a.m - 1) + 60 * a.h = omega arith in
    let f : (a.f - 1 + 18 * ((a.m - 1) + 60 * a.h)) % 18 ≡ a.f - 1 = omega arith in
    let m : (a.m - 1 + 60 * a.h) % 60 ≡ a.m - 1 = omega arith in
    same-fields (omega arith) (rw (q, f) (omega arith)) (rw (p, m) (omega arith)) (omega arith)

-- Two times in range with the same slots are equal.
pub same-slots : {a b : TdmaTime} → valid a ≡ true → valid b ≡ true → slots a ≡ slots b → a ≡ b
same-slots {a} {b} va vb e = sym (time_at-slots a va) ∙ ap time_at e ∙ time_at-slots b vb

-- ---- sums

-- The slots of a sum are the sum of the slots, modulo W; it is in range.
pub slots-plus : (a : TdmaTime) (n : ℤ) → slots (plus a n) ≡ modulo (pos (slots a) +ℤ n) W
unfolding plus
slots-plus a n = slots-time_at (modulo (pos (slots a) +ℤ n) W) (modulo-below (pos (slots a) +ℤ n) W (omega arith))

pub plus-valid : (a : TdmaTime) (n : ℤ) → valid (plus a n) ≡ true
unfolding plus
plus-valid a n = time_at-valid (modulo (pos (slots a) +ℤ n) W) (modulo-below (pos (slots a) +ℤ n) W (omega arith))

-- The sum is the only time in range whose slots are congruent to it.
pub plus-only : (a b : TdmaTime) (n : ℤ) → valid b ≡ true → Congruent W (pos (slots b)) (pos (slots a) +ℤ n) → b ≡ plus a n
plus-only a b n v c =
    same-slots v (plus-valid a n)
    (sym (modulo-small (slots b) (slots-below b v)) ∙ modulo-same c ∙ sym (slots-plus a n))

-- y more on both sides.
congruent-plus : {x x' : ℤ} (y : ℤ) → Congruent W x x' → Congruent W (x +ℤ y) (x' +ℤ y)
congruent-plus {x} {x'} y c =
    record {
      times = c.times;
      differ =
          ap (λ (z : ℤ). z +ℤ y) c.differ
          ∙ +ℤ_assoc x' (c.times *ℤ pos W) y
          ∙ ap (λ (z : ℤ). x' +ℤ z) (+ℤ_comm (c.times *ℤ pos W) y)
          ∙ sym (+ℤ_assoc x' y (c.times *ℤ pos W));
    }

-- Adding n and then m is adding n + m; adding 0 changes nothing.
pub plus-plus : (a : TdmaTime) (n m : ℤ) → plus (plus a n) m ≡ plus a (n +ℤ m)
unfolding plus
plus-plus a n m =
    ap time_at
    (ap (λ (s : ℕ). modulo (pos s +ℤ m) W) (slots-plus a n)
    ∙ modulo-same (congruent-plus m (modulo-congruent (pos (slots a) +ℤ n)))
    ∙ ap (λ (z : ℤ). modulo z W) (+ℤ_assoc (pos (slots a)) n m))

pub plus-zero : (a : TdmaTime) → valid a ≡ true → plus a (pos 0) ≡ a
unfolding plus
plus-zero a v =
    ap time_at (ap (λ (z : ℤ). modulo z W) (+ℤ_idr (pos (slots a))) ∙ modulo-small (slots a) (slots-below a v))
    ∙ time_at-slots a v

-- ---- differences

-- A difference lies from -W/2 up to W/2 - 1, and is congruent to what it is cut out of.
pub centred-near : (x : ℤ) → Near (centred x)
unfolding centred
centred-near x =
    let u : ℕ = modulo (x +ℤ pos half) W in
    let b : u < W = modulo-below (x +ℤ pos half) W (omega arith) in
    by_order Near u half
    (λ h. record { low = record { le = tt }; high = record { lt = lt→ltb (u - half) half (omega arith) } })
    (λ h.
    record {
      low = record { le = le→leb (half - suc u) (half - 1) (omega arith) };
      high = record { lt = tt };
    })

pub centred-congruent : (x : ℤ) → Congruent W (centred x) x
unfolding centred
centred-congruent x =
    rw (+ℤ-neg_ℤ_cancel x (pos half)) at (congruent-plus (neg_ℤ (pos half)) (modulo-congruent (x +ℤ pos half)))

-- W/2 more than such a number has no sign.
lifted : (d : ℤ) → Near d → Natural (d +ℤ pos half) W
lifted (pos n) near =
    record { by = n + half; is = refl; below = omega (arith, ltb→lt n half near.high.lt) }
lifted (negsuc n) near =
    let l : n ≤ half - 1 = leb→le n (half - 1) near.low.le in
    record { by = half - suc n; is = sub-ge half (suc n) (omega arith); below = omega arith }

-- It is the only such number.
pub centred-only : (x d : ℤ) → Near d → Congruent W d x → d ≡ centred x
unfolding centred
centred-only x d near c =
    let l = lifted d near in
    sym (+ℤ-neg_ℤ_cancel d (pos half))
    ∙ ap (λ (z : ℤ). z -ℤ pos half)
    (l.is
    ∙ ap pos
    (sym (modulo-small l.by l.below)
    ∙ ap (λ (z : ℤ). modulo z W) (sym l.is)
    ∙ modulo-same (congruent-plus (pos half) c)))

pub minus-near : (a b : TdmaTime) → Near (minus a b)
unfolding minus
minus-near a b = centred-near (pos (slots a) -ℤ pos (slots b))

pub minus-congruent : (a b : TdmaTime) → Congruent W (minus a b) (pos (slots a) -ℤ pos (slots b))
unfolding minus
minus-congruent a b = centred-congruent (pos (slots a) -ℤ pos (slots b))

pub minus-only : (a b : TdmaTime) (d : ℤ) → Near d → Congruent W d (pos (slots a) -ℤ pos (slots b)) → d ≡ minus a b
unfolding minus
minus-only a b = centred-only (pos (slots a) -ℤ pos (slots b))

-- Numbers that are congruent are brought to the same one.
centred-same : {x y : ℤ} → Congruent W x y → centred x ≡ centred y
unfolding centred
centred-same c = ap (λ (u : ℕ). pos u -ℤ pos half) (modulo-same (congruent-plus (pos half) c))

-- The difference of a sum is what was added, brought to where a difference lies; so it is n itself, if that lies there.
pub minus_plus : (a : TdmaTime) (n : ℤ) → minus (plus a n) a ≡ centred n
unfolding minus
minus_plus a n =
    let s : ℤ = pos (slots a) in
    ap (λ (u : ℕ). centred (pos u -ℤ s)) (slots-plus a n)
    ∙ centred-same (congruent-plus (neg_ℤ s) (modulo-congruent (s +ℤ n)))
    ∙ ap centred (ap (λ (z : ℤ). z -ℤ s) (+ℤ_comm s n) ∙ +ℤ-neg_ℤ_cancel n s)

pub minus-plus-near : (a : TdmaTime) (n : ℤ) → Near n → minus (plus a n) a ≡ n
minus-plus-near a n near =
    minus_plus a n ∙ sym (centred-only n n near (record { times = pos 0; differ = sym (+ℤ_idr n) }))

-- A time less itself is 0.
pub minus-self : (a : TdmaTime) → minus a a ≡ pos 0
unfolding minus centred modulo
minus-self a = ap centred (+ℤ_invr (pos (slots a)))

-- The sum of a difference is the time that it leads to.
pub plus-minus : (a b : TdmaTime) → valid a ≡ true → plus b (minus a b) ≡ a
unfolding plus
plus-minus a b v =
    let s : ℤ = pos (slots b) in
    ap time_at
    (ap (λ (z : ℤ). modulo z W) (+ℤ_comm s (minus a b))
    ∙ modulo-same (congruent-plus s (minus-congruent a b))
    ∙ ap (λ (z : ℤ). modulo z W) (-ℤ-+ℤ_cancel (pos (slots a)) s)
    ∙ modulo-small (slots a) (slots-below a v))
    ∙ time_at-slots a v

-- ---- forward

-- Going forward adds 0 to 3 slots, and leads to slot ts; a time in that slot is left as it is.
pub ahead-below : (a : TdmaTime) (ts : ℕ) → ahead a ts < 4
unfolding ahead
ahead-below a ts = modulo-below (pos ts -ℤ pos a.t) 4 (omega arith)

pub forward-slot : (a : TdmaTime) (ts : ℕ) → valid a ≡ true → 1 ≤ ts → ts ≤ 4 → (forward a ts).t ≡ ts
unfolding forward ahead plus time_at modulo slots
forward-slot a ts v low high =
    let r = in_range a v in
    let e = modulo_frame ts a.t r.t-high in
    omega arith

pub forward-here : (a : TdmaTime) → valid a ≡ true → forward a a.t ≡ a
unfolding forward ahead
forward-here a v =
    let r = in_range a v in
    let e : modulo (pos a.t -ℤ pos a.t) 4 ≡ 0 = modulo_frame a.t a.t r.t-high ∙ omega arith in
    ap (λ (k : ℕ). plus a (pos k)) e ∙ plus-zero a v
