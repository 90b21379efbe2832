-- What is written is read back.
use Prim.Native.Nat.{ℕ, ◌*◌, ◌/◌, ◌%◌, ◌+◌, ◌≤◌}
use native.Mathlib.Omega.{arith}
use mathlib.Core.Path.{◌≡◌, refl}
use mathlib.Core.List.{List, [], ◌∷◌}
use mathlib.Core.Option.{some}
use borrow.Author.Tests.{le-leb}
use lib.ListN.{length}
use Rattle.hex_lines.specs.Lines.{most, most_bytes, bytes_of, call_in, hex_of, Bytes}
use Rattle.hex_lines.proofs.Digits.{digit-hex_digit}
use Rattle.hex_lines.proofs.Writes.{length-hex_of}

bytes_of-hex_of : (bs : List ℕ) → Bytes bs → bytes_of (hex_of bs) ≡ some bs
unfolding bytes_of hex_of
bytes_of-hex_of [] a = refl
bytes_of-hex_of (b ∷ bs) a =
    let e : b / 16 * 16 + b % 16 ≡ b = omega arith in
    rw (digit-hex_digit (b / 16) (omega (arith, a.0)), digit-hex_digit (b % 16) (omega arith), bytes_of-hex_of bs a.1, e)

-- The digits of at most 2,048 bytes spell them.
pub round_trip : (bs : List ℕ) → Bytes bs → length bs ≤ most_bytes → call_in (hex_of bs) ≡ some bs
unfolding call_in
round_trip bs a h =
    rw (le-leb (length (hex_of bs)) most (omega (arith, length-hex_of bs))) (bytes_of-hex_of bs a)
