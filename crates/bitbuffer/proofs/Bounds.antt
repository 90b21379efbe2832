-- How a window lies in the lent bits: the count of bits by bytes, and a window in order inside them.
use Prim.Native.Nat.{ℕ, ◌≤◌}
use mathlib.Core.List.{List}
use lib.ListN.{length}
use Rattle.bits.proofs.Laws.{length-bits}
use Rattle.bitbuffer.specs.declared.BitBuffer.{BitBuffer}

-- How many bits the lent bytes have.
pub ruleset lengths = (length-bits)

pub record Ordered (w : BitBuffer) (l : List ℕ) : Type 0 where
  pub low : w.start ≤ w.pos
  pub high : w.pos ≤ w.end
  pub inside : w.end ≤ length l
