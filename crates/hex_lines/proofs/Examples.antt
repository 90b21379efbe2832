-- Examples of lines, worked out by the definitions.
use Prim.Native.Nat.{ℕ, zero, suc}
use native.Mathlib.Omega.{arith}
use mathlib.Core.Path.{◌≡◌, refl}
use mathlib.Core.List.{[], ◌∷◌}
use mathlib.Core.Option.{none, some}
use lib.ListN.{replicate, length-replicate}
use Rattle.hex_lines.specs.Lines.{digit, bytes_of, call_in, hex_digit, hex_of, decimal_of, lines_of, Bytes}
use Rattle.hex_lines.proofs.Feeding.{too_long}
use Rattle.hex_lines.proofs.RoundTrip.{round_trip}

-- "0aF1": lower and upper case are digits.
two_bytes : call_in (48 ∷ 97 ∷ 70 ∷ 49 ∷ []) ≡ some (10 ∷ 241 ∷ [])
unfolding call_in bytes_of digit
two_bytes = refl

-- A blank line is a call of no bytes.
blank : call_in [] ≡ some []
unfolding call_in bytes_of
blank = refl

-- An odd count, a blank behind, a carriage return behind and "0g" spell no call.
odd-count : call_in (48 ∷ 49 ∷ 50 ∷ []) ≡ none
unfolding call_in bytes_of digit
odd-count = refl

with-blank : call_in (48 ∷ 49 ∷ 32 ∷ []) ≡ none
unfolding call_in bytes_of digit
with-blank = refl

with-return : call_in (48 ∷ 49 ∷ 50 ∷ 13 ∷ []) ≡ none
unfolding call_in bytes_of digit
with-return = refl

no_digit : call_in (48 ∷ 103 ∷ []) ≡ none
unfolding call_in bytes_of digit
no_digit = refl

-- The characters next to the digits are none.
next-to-digits :
    (digit 47 ≡ none) × (digit 58 ≡ none) × (digit 64 ≡ none) × (digit 71 ≡ none) × (digit 96 ≡ none) × (digit 103 ≡ none)
unfolding digit
next-to-digits = (refl, refl, refl, refl, refl, refl)

-- 4,098 digits are too many.
too_many : call_in (replicate 4_098 48) ≡ none
too_many = too_long (replicate 4_098 48) (omega (arith, length-replicate {A = ℕ} 4_098 48))

-- 4,096 digits are a call of 2,048 bytes.
zeros : (n : ℕ) → Bytes (replicate n 0)
zeros zero = tt
zeros (suc n) = (omega arith, zeros n)

as-many-as-allowed : call_in (hex_of (replicate 2_048 0)) ≡ some (replicate 2_048 0)
as-many-as-allowed =
    round_trip (replicate 2_048 0) (zeros 2_048) (omega (arith, length-replicate {A = ℕ} 2_048 0))

-- 10 and 241 in digits; 0, 14 and 255 in decimal.
in-hex : hex_of (10 ∷ 241 ∷ []) ≡ 48 ∷ 97 ∷ 102 ∷ 49 ∷ []
unfolding hex_of hex_digit
in-hex = refl

in-decimal : (decimal_of 0 ≡ 48 ∷ []) × (decimal_of 14 ≡ 49 ∷ 52 ∷ []) × (decimal_of 255 ≡ 50 ∷ 53 ∷ 53 ∷ [])
unfolding decimal_of
in-decimal = (refl, refl, refl)

-- Lines with and without a last line end, and blank ones.
three-lines : lines_of (48 ∷ 10 ∷ 10 ∷ 49 ∷ []) ≡ (48 ∷ []) ∷ [] ∷ (49 ∷ []) ∷ []
unfolding lines_of
three-lines = refl

ended : lines_of (48 ∷ 10 ∷ []) ≡ (48 ∷ []) ∷ []
unfolding lines_of
ended = refl

no_line : lines_of [] ≡ []
unfolding lines_of
no_line = refl
