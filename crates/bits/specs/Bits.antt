-- Bits, as document 01's paragraph of that name gives them: a bit is 0 or 1, and the first bit of a byte is its highest.
use Rattle.std.specs.Prelude.{ℕ, zero, suc, ◌+◌, ◌*◌, ◌/◌, ◌%◌, ◌^◌, ◌<◌, List, [], ◌∷◌, ◌++◌, length, take, drop}

-- The lowest n bits of v, the highest of them first.
unfoldable pub to_bits : ℕ → ℕ → List ℕ
to_bits zero v = []
to_bits (suc n) v = v / 2 ^ n % 2 ∷ to_bits n v

-- The number that a list of bits spells, the highest first.
unfoldable pub value : List ℕ → ℕ
value [] = 0
value (b ∷ bs) = b * 2 ^ length bs + value bs

-- The bits of a list of bytes.
unfoldable pub bits : List ℕ → List ℕ
bits [] = []
bits (b ∷ bs) = to_bits 8 b ++ bits bs

-- n bits of l from a place on.
abbrev pub part : List ℕ → ℕ → ℕ → List ℕ
part l at n = take n (drop at l)

-- l with vs in place of as many of its elements from a place on, and no other changed.
abbrev pub splice : List ℕ → ℕ → List ℕ → List ℕ
splice l at vs = take at l ++ (vs ++ drop (at + length vs) l)

-- Every element is a bit.
abbrev pub AllBits : List ℕ → Type 0
AllBits [] = Unit {0}
AllBits (b ∷ bs) = (b < 2) × AllBits bs

-- Every element is a byte, as in every slice of bytes.
abbrev pub AllBytes : List ℕ → Type 0
AllBytes [] = Unit {0}
AllBytes (b ∷ bs) = (b < 256) × AllBytes bs
