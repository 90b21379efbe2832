-- Lines of text, as lists of characters: what a line of hexadecimal digits spells, and how bytes and numbers are written.
use Rattle.std.specs.Prelude.{ℕ, ◌+◌, ◌-◌, ◌*◌, ◌/◌, ◌%◌, ◌<◌, ◌≡◌, Bool, false, cond, ◌&&◌, List, [], ◌∷◌, leb, ltb, eqb, length}
use Rattle.std.proofs.Math.Option.{Option, none, some}

-- The most digits of a call, and so the most bytes.
abbrev pub most : ℕ
most = 4_096

abbrev pub most_bytes : ℕ
most_bytes = 2_048

abbrev pub line_end : ℕ
line_end = 10

-- Is c from a up to b?
abbrev pub among : ℕ → ℕ → ℕ → Bool
among a b c = leb a c && leb c b

-- The value of a digit, '0' to '9', 'a' to 'f' or 'A' to 'F'; none for another character.
unfoldable pub digit : ℕ → Option ℕ
digit c =
    cond (among 48 57 c) (some (c - 48))
    (cond (among 97 102 c) (some (c - 87))
    (cond (among 65 70 c) (some (c - 55))
    none))

-- The byte of two digits, in front of the bytes behind it.
abbrev pub joined : Option ℕ → Option ℕ → Option (List ℕ) → Option (List ℕ)
joined none y bs = none
joined (some x) none bs = none
joined (some x) (some y) none = none
joined (some x) (some y) (some bs) = some ((x * 16 + y) ∷ bs)

-- The bytes that characters spell, two digits a byte; none for a character that is no digit and for an odd count.
unfoldable pub bytes_of : List ℕ → Option (List ℕ)
bytes_of [] = some []
bytes_of (a ∷ []) = none
bytes_of (a ∷ (b ∷ cs)) = joined (digit a) (digit b) (bytes_of cs)

-- The call that a line spells, without its line end: of at most 4,096 digits.
unfoldable pub call_in : List ℕ → Option (List ℕ)
call_in cs = cond (leb (length cs) most) (bytes_of cs) none

-- Each element is a byte.
abbrev pub Bytes : List ℕ → Type 0
Bytes [] = Unit {0}
Bytes (b ∷ bs) = (b < 256) × Bytes bs

-- The lower-case digit of a value below 16.
unfoldable pub hex_digit : ℕ → ℕ
hex_digit v = cond (ltb v 10) (48 + v) (87 + v)

-- Two digits for each byte.
unfoldable pub hex_of : List ℕ → List ℕ
hex_of [] = []
hex_of (b ∷ bs) = hex_digit (b / 16) ∷ (hex_digit (b % 16) ∷ hex_of bs)

-- The decimal digits of a number below 1,000, without leading zeros.
unfoldable pub decimal_of : ℕ → List ℕ
decimal_of n =
    cond (ltb n 10) ((48 + n) ∷ [])
    (cond (ltb n 100) ((48 + n / 10) ∷ ((48 + n % 10) ∷ []))
    ((48 + n / 100) ∷ ((48 + n / 10 % 10) ∷ ((48 + n % 10) ∷ []))))

-- A character in front of the first line.
abbrev pub on_first : ℕ → List (List ℕ) → List (List ℕ)
on_first c [] = (c ∷ []) ∷ []
on_first c (l ∷ ls) = (c ∷ l) ∷ ls

-- The lines of an input, without their line ends; a last line without a line end counts, nothing after a last line end is no line.
unfoldable pub lines_of : List ℕ → List (List ℕ)
lines_of [] = []
lines_of (c ∷ cs) = cond (eqb c line_end) ([] ∷ lines_of cs) (on_first c (lines_of cs))

-- No character of a line is a line end.
abbrev pub NoEnd : List ℕ → Type 0
NoEnd [] = Unit {0}
NoEnd (c ∷ cs) = (eqb c line_end ≡ false) × NoEnd cs
