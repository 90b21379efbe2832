-- The 32 bits that the code carries through a message, as a number.
use Rattle.std.specs.Prelude.{ℕ, ◌<◌, ◌≡◌, List, ◌++◌, length, get_or, replicate}
use Rattle.bits.specs.Bits.{to_bits, value}
use Rattle.fcs.specs.Polynomials.{plus, rest}

-- What is left of the message m times x ^ 32, with crc added to its first 32 coefficients.
unfoldable pub fed : ℕ → List ℕ → ℕ
fed crc m = value (rest (length m) (plus (to_bits 32 crc) (m ++ replicate 32 0)))

-- What is left of the k bits of q times x ^ 32: the rule of a table for k bits at once.
unfoldable pub entry : ℕ → ℕ → ℕ
entry k q = value (rest k (to_bits k q ++ replicate 32 0))

-- l is the table for eight bits at once.
pub record Ruled (l : List ℕ) : Type 0 where
  pub entries : (q : ℕ) → q < 256 → get_or l q 0 ≡ entry 8 q
