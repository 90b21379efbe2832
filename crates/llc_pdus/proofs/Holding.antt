-- The bytes of a frame that hold an SDU.
use Prim.Native.Nat.{ℕ, zero, suc, ◌+◌, ◌-◌, ◌*◌, ◌/◌, ◌%◌, ◌≤◌, ◌<◌}
use native.Mathlib.Omega.{arith}
use mathlib.Core.Path.{◌≡◌, ◌∙◌, refl, sym, ap}
use mathlib.Core.List.{List, []}
use borrow.Author.Tests.{lt-ltb, le-ltb, le-leb, ne_eqb}
use lib.ListN.{length, take, drop, length-take, length-drop}
use lib.Seq.{drop-drop}
use Rattle.bits.specs.Bits.{bits, part}
use Rattle.bits.proofs.Laws.{length-bits, length_part, drop_bits, take-bits, part-take}
use Rattle.questions.specs.Outcome.{Outcome, accepted}
use Rattle.llc_pdus.specs.Sdus.{sdu_at, holding, handed}
use Rattle.llc_pdus.specs.declared.Sdu.{Sdu}

-- The byte behind the last one, as the code counts it: no sum passes a usize.
abbrev pub behind : ℕ → ℕ → ℕ
behind first n = first / 8 + n / 8 + (first % 8 + n % 8 + 7) / 8

-- What is handed back of an SDU that lies in the frame: of an empty one, and of one with bits.
module _ (f : List ℕ) (s : Sdu) where
  inside_is : behind s.first s.len ≤ length f → handed f s ≡ accepted (holding f s.first s.len)
  inside_is h = rw (le-leb (s.first + s.len) (8 * length f) (omega arith))

  pub none : behind s.first s.len ≤ length f → s.len ≡ 0 → accepted [] ≡ handed f s
  unfolding holding
  none h e = sym (inside_is h ∙ rw (le-ltb 0 s.len (omega arith)))

  pub held :
      behind s.first s.len ≤ length f
      → 0 < s.len
      → accepted (take (behind s.first s.len - s.first / 8) (drop (s.first / 8) f)) ≡ handed f s
  unfolding holding
  held h some =
      let last : behind s.first s.len ≡ (s.first + s.len + 7) / 8 = omega arith in
      ap (λ (k : ℕ). accepted (take (k - s.first / 8) (drop (s.first / 8) f))) last
      ∙ sym (inside_is h ∙ rw (lt-ltb 0 s.len some))

-- The bytes hold the bits, from the place beside them on.
pub held-bits :
    (f : List ℕ) (first n : ℕ)
    → 0 < n
    → first + n ≤ 8 * length f
    → part (bits (holding f first n)) (first % 8) n ≡ part (bits f) first n
unfolding holding
held-bits f first n some inside =
    let q : ℕ = first / 8 in
    let k : ℕ = (first + n + 7) / 8 - q in
    let here : 8 * q + first % 8 ≡ first = omega arith in
    let long : length (drop (8 * q) (bits f)) ≡ 8 * length f - 8 * q =
    length-drop (8 * q) (bits f) ∙ ap (λ (m : ℕ). m - 8 * q) (length-bits f) in
    rw (lt-ltb 0 n some)
    (ap (λ (t : List ℕ). part t (first % 8) n) (sym (take-bits k (drop q f)) ∙ ap (take (8 * k)) (sym (drop_bits q f)))
    ∙ part-take (drop (8 * q) (bits f)) (8 * k) (first % 8) n (omega arith) (omega arith)
    ∙ ap (take n) (drop-drop (first % 8) (8 * q) (bits f) ∙ ap (λ (m : ℕ). drop m (bits f)) here))

-- For callers: the bytes have room for the bits of an SDU from its place on, and hold them there.
place-some : (first n : ℕ) → 0 < n → (sdu_at first n).place ≡ first % 8
place-some first n h = rw (ne_eqb n 0 (omega arith))

pub record Held (f : List ℕ) (first n : ℕ) : Type 0 where
  pub fits : (sdu_at first n).place + n ≤ 8 * length (holding f first n)
  pub early : (sdu_at first n).place < 8
  pub same : part (bits (holding f first n)) (sdu_at first n).place n ≡ part (bits f) first n

pub held-is : (f : List ℕ) (first n : ℕ) → first + n ≤ 8 * length f → Held f first n
held-is f first zero h = record { fits = omega arith; early = omega arith; same = refl }
held-is f first (suc m) h =
    let n : ℕ = suc m in
    let b : List ℕ = bits (holding f first n) in
    let e = place-some first n (omega arith) in
    let same = held-bits f first n (omega arith) h in
    let long : length (part b (first % 8) n) ≡ n =
    ap length same ∙ length_part (bits f) first n (omega (arith, length-bits f)) in
    record {
      fits =
          rw e
          (omega (arith, length-take n (drop (first % 8) b), length-drop (first % 8) b, length-bits (holding f first n)));
      early = rw e (omega arith);
      same = rw e same;
    }

-- What is handed back of an SDU that lies in the frame.
pub handed-in :
    (f : List ℕ) (s : Sdu) {o : Outcome (List ℕ)}
    → s.first + s.len ≤ 8 * length f
    → o ≡ handed f s
    → o ≡ accepted (holding f s.first s.len)
handed-in f s h e = e ∙ rw (le-leb (s.first + s.len) (8 * length f) h)
