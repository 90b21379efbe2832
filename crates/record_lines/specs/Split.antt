-- The bytes of records one behind the other, cut into records again, and written as lines.
use Rattle.std.specs.Prelude.{ℕ, zero, suc, ◌+◌, cond, List, [], ◌∷◌, ◌++◌, eqb, take}
use Rattle.hex_lines.specs.Lines.{line_end, hex_of, on_first}
use Rattle.llc_rule.specs.Calls.{from_bytes}

-- "One-byte tag, two-byte length, value": how many bytes of a field stand behind its tag, by what follows the tag.
abbrev pub behind_tag : List ℕ → ℕ
behind_tag bs = 2 + from_bytes (take 2 bs)

-- Bytes cut before each field of tag 01, where n more bytes belong to the field under way. The first piece is what is left
-- of the record under way.
unfoldable pub cut : ℕ → List ℕ → List (List ℕ)
cut n [] = [] ∷ []
cut zero (tag ∷ bs) =
    cond (eqb tag 0x01)
    ([] ∷ on_first tag (cut (behind_tag bs) bs))
    (on_first tag (cut (behind_tag bs) bs))
cut (suc n) (b ∷ bs) = on_first b (cut n bs)

-- The records that bytes are cut into. Any bytes are: the first one begins a record, whatever it is, and a last field that
-- is cut short belongs to the last record.
unfoldable pub split : List ℕ → List (List ℕ)
split [] = []
split (tag ∷ bs) = on_first tag (cut (behind_tag bs) bs)

-- Each as a line of hexadecimal digits.
unfoldable pub in_lines : List (List ℕ) → List ℕ
in_lines [] = []
in_lines (r ∷ rs) = (hex_of r ++ (line_end ∷ [])) ++ in_lines rs

abbrev pub lines_of_records : List ℕ → List ℕ
lines_of_records bs = in_lines (split bs)
