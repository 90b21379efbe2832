-- What a line's state and the bytes gathered say of the line's characters so far, whatever follows.
use Rattle.std.specs.Prelude.{ℕ, ◌/◌, ◌%◌, ◌≤◌, ◌≡◌, Bool, true, false, List, [], ◌∷◌, ◌++◌, length, get_or, take}
use Rattle.std.proofs.Math.Option.{Option, none, some}
use Rattle.hex_lines.specs.Lines.{most, most_bytes, digit, joined, bytes_of, call_in}
use Rattle.hex_lines.specs.Gathering.{begun_of, odd}
use Rattle.hex_lines.specs.declared.Line.{Line}

-- Has a list elements?
abbrev pub some_in : List ℕ → Bool
some_in [] = false
some_in (c ∷ cs) = true

-- Bytes in front of those that the rest spells.
abbrev pub onto : List ℕ → Option (List ℕ) → Option (List ℕ)
onto bs none = none
onto bs (some ds) = some (bs ++ ds)

-- The bytes that characters spell behind an even count of digits, or behind an odd one whose last has the value v.
abbrev pub resumed : Bool → ℕ → List ℕ → Option (List ℕ)
resumed false v ds = bytes_of ds
resumed true v [] = none
resumed true v (d ∷ ds) = joined (some v) (digit d) (bytes_of ds)

-- The n characters cs are digits, at most 4,096; the bytes of their pairs are gathered, and the value of an odd one out.
pub record Good (cs : List ℕ) (n : ℕ) (bs : List ℕ) : Type 0 where
  pub count : n ≡ length cs
  pub few : n ≤ most
  pub spells : (ds : List ℕ) → bytes_of (cs ++ ds) ≡ onto (take (n / 2) bs) (resumed (odd n) (get_or bs (n / 2) 0 % 16) ds)

-- The characters cs spell no call, whatever follows.
abbrev pub Hopeless : List ℕ → Type 0
Hopeless cs = (ds : List ℕ) → call_in (cs ++ ds) ≡ none

-- The line's state and the bytes hold what the characters cs say.
pub record Fed (cs : List ℕ) (l : Line) (bs : List ℕ) : Type 0 where
  pub room : most_bytes ≤ length bs
  pub begun : begun_of l ≡ some_in cs
  pub good : l.bad ≡ false → Good cs l.digits bs
  pub bad : l.bad ≡ true → Hopeless cs
