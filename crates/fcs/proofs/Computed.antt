-- The check bits of a lent part, from what the code carries at the end of it.
use Prim.Native.Nat.{ℕ, ◌+◌, ◌≤◌, ◌-◌}
use native.Mathlib.Omega.{arith}
use mathlib.Core.Path.{◌≡◌, ◌∙◌, sym, ap}
use mathlib.Core.List.{List, []}
use mathlib.Core.Bool.{true}
use borrow.Author.Tests.{le-leb}
use lib.ListN.{length, take, drop}
use lib.Dec.{leb, eqb}
use lib.Seq.{take-take}
use Rattle.bits.specs.Bits.{to_bits, value, part, AllBits}
use Rattle.bits.proofs.PartLaws.{drop-part}
use Rattle.questions.specs.Outcome.{accepted, ask}
use Rattle.questions.proofs.Asked.{accepted-passed, content}
use Rattle.fcs.specs.Register.{fed}
use Rattle.fcs.specs.Fcs.{start, fcs}
use Rattle.fcs.specs.Answers.{computed, check}
use Rattle.fcs.proofs.Ends.{fcs-fed}

pub sum-fed : (m : List ℕ) (s r : ℕ) → AllBits m → to_bits 32 s ≡ start (length m) → r ≡ fed s m → 0xFFFFFFFF - r ≡ value (fcs m)
sum-fed m s r h e f = rw f (sym (fcs-fed s m h e))

-- Where m is what asking for n bits of l from a place on gave.
module _ (m l : List ℕ) (at n : ℕ) (asked : accepted m ≡ ask 5 (leb (at + n) (length l)) (accepted (part l at n))) where
  abbrev given : (leb (at + n) (length l) ≡ true) × (accepted m ≡ accepted (part l at n))
  given = accepted-passed 5 (leb (at + n) (length l)) asked

  is-part : m ≡ part l at n
  is-part = ap (content []) given.1

  pub computed-by : (r : ℕ) → r ≡ value (fcs m) → accepted r ≡ computed l at n
  computed-by r e = rw given.0 (ap accepted (e ∙ ap (λ (k : List ℕ). value (fcs k)) is-part))

  -- The third question decides of at least 32 bits.
  pub compared : (s w : ℕ) → 32 ≤ n → s ≡ value (fcs (take (n - 32) m)) → w ≡ value (drop (n - 32) m) → check l at n ≡ ask 12 (eqb s w) (accepted tt)
  compared s w h e f =
      let k : n - (n - 32) ≡ 32 = omega arith in
      let front = ap (take (n - 32)) is-part ∙ take-take (n - 32) n (drop at l) (omega arith) in
      let end = ap (drop (n - 32)) is-part ∙ (rw k at (drop-part l at n (n - 32) (omega arith))) in
      rw (given.0, le-leb 32 n h, e, f, front, end)
