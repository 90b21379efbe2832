-- What the value of a digit is.
use Prim.Native.Nat.{ℕ, ◌+◌, ◌-◌, ◌≤◌, ◌<◌}
use native.Mathlib.Omega.{arith}
use mathlib.Core.Path.{◌≡◌, ◌∙◌, ap}
use mathlib.Core.Bool.{true}
use mathlib.Core.Option.{Option, none, some}
use borrow.Author.Tests.{leb-true, ltb-true, ltb-false, le-leb, lt-leb}
use lib.Dec.{leb, ltb}
use Rattle.std.proofs.lemmas.Bool.{cond_both, and_parts}
use Rattle.hex_lines.specs.Lines.{among, digit, hex_digit}

-- What a test of a range says.
pub within : (a b c : ℕ) → among a b c ≡ true → (a ≤ c) × (c ≤ b)
within a b c h = let t = and_parts (leb a c) (leb c b) h in (leb-true a c t.0, leb-true c b t.1)

-- A value, if there is one, is below 16.
abbrev pub Below : Option ℕ → Type 0
Below none = Unit {0}
Below (some v) = v < 16

pub digit-below : (c : ℕ) → Below (digit c)
unfolding digit
digit-below c =
    cond_both (among 48 57 c) _ _ Below
    (λ t. let r = within 48 57 c t in omega arith)
    (λ t.
    cond_both (among 97 102 c) _ _ Below
    (λ u. let r = within 97 102 c u in omega arith)
    (λ u. cond_both (among 65 70 c) _ _ Below (λ w. let r = within 65 70 c w in omega arith) (λ w. tt)))

-- The characters '0' to '9' and 'a' to 'f'.
decimal : (c : ℕ) → 48 ≤ c → c ≤ 57 → digit c ≡ some (c - 48)
unfolding digit
decimal c l h = rw (le-leb 48 c l, le-leb c 57 h)

lower : (c : ℕ) → 97 ≤ c → c ≤ 102 → digit c ≡ some (c - 87)
unfolding digit
lower c l h = rw (le-leb 48 c (omega arith), lt-leb c 57 (omega arith), le-leb 97 c l, le-leb c 102 h)

-- The digit of a value has that value.
pub digit-hex_digit : (v : ℕ) → v < 16 → digit (hex_digit v) ≡ some v
unfolding hex_digit
digit-hex_digit v h =
    cond_both (ltb v 10) _ _ (λ (c : ℕ). digit c ≡ some v)
    (λ t.
    let u : v < 10 = ltb-true v 10 t in
    let e : 48 + v - 48 ≡ v = omega arith in
    decimal (48 + v) (omega arith) (omega arith) ∙ ap some e)
    (λ t.
    let u : 10 ≤ v = ltb-false v 10 t in
    let e : 87 + v - 87 ≡ v = omega arith in
    lower (87 + v) (omega arith) (omega arith) ∙ ap some e)
