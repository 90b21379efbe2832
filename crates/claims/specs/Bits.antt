-- Bits (bits).
use Rattle.std.specs.Prelude.{ℕ, ◌%◌, ◌^◌, ◌≡◌, List, length}
use Rattle.bits.specs.Bits.{AllBits, AllBytes, bits, to_bits, value}

pub record Bits : Type 0 where
  -- The number that the lowest n bits of v spell.
  pub value-to_bits : (n v : ℕ) → value (to_bits n v) ≡ v % 2 ^ n
  -- A list of bits is spelled by the number that it spells.
  pub to_bits-value : (l : List ℕ) → AllBits l → to_bits (length l) (value l) ≡ l
  -- Bytes are determined by their bits.
  pub bytes-by-bits : (l m : List ℕ) → AllBytes l → AllBytes m → bits l ≡ bits m → l ≡ m
