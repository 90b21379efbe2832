-- Examples of bytes cut into records, worked out by the definitions.
use mathlib.Core.Path.{◌≡◌, refl}
use mathlib.Core.List.{[], ◌∷◌}
use Rattle.hex_lines.specs.Lines.{hex_digit, hex_of}
use Rattle.llc_rule.specs.Calls.{from_bytes}
use Rattle.record_lines.specs.Split.{cut, split, in_lines, lines_of_records}

-- Fields 01 and 08, and then field 01 again: two records. A byte 01 in a value begins none.
two_records :
    split (0x01 ∷ 0 ∷ 1 ∷ 2 ∷ 0x08 ∷ 0 ∷ 1 ∷ 1 ∷ 0x01 ∷ 0 ∷ 1 ∷ 3 ∷ [])
    ≡ (0x01 ∷ 0 ∷ 1 ∷ 2 ∷ 0x08 ∷ 0 ∷ 1 ∷ 1 ∷ []) ∷ (0x01 ∷ 0 ∷ 1 ∷ 3 ∷ []) ∷ []
unfolding split cut from_bytes
two_records = refl

-- Any bytes are cut: a first field of another tag begins a record, and a field cut short ends the last one.
cut_short : split (0x08 ∷ 0 ∷ 0 ∷ 0x01 ∷ 0 ∷ 9 ∷ 0x01 ∷ []) ≡ (0x08 ∷ 0 ∷ 0 ∷ []) ∷ (0x01 ∷ 0 ∷ 9 ∷ 0x01 ∷ []) ∷ []
unfolding split cut from_bytes
cut_short = refl

-- "010000", a line end, "0100", a line end.
as-lines : lines_of_records (0x01 ∷ 0 ∷ 0 ∷ 0x01 ∷ 0 ∷ []) ≡ 48 ∷ 49 ∷ 48 ∷ 48 ∷ 48 ∷ 48 ∷ 10 ∷ 48 ∷ 49 ∷ 48 ∷ 48 ∷ 10 ∷ []
unfolding split cut from_bytes in_lines hex_of hex_digit
as-lines = refl
