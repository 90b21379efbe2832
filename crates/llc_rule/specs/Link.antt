-- The link as lists: one queue of acknowledged messages, one of unacknowledged ones, due acknowledgements, receipts and rows,
-- shared by all addresses.
use Rattle.std.specs.Prelude.{ℕ, Bool, true, false, List, [], eqb}
use Rattle.lists.specs.Lists.{first_or, filed}
use Rattle.llc_rule.specs.Keeps.{Keeps, Numbers, no_numbers, nothing_held}

-- An address row.
pub record Row : Type 0 where
  pub ssi : ℕ
  pub numbers : Numbers

abbrev pub Link : Type 0
Link = Keeps (List Row)

-- "The library's new state, which is empty and not started."
unfoldable pub new : Link
new = nothing_held false 0 0 []

-- "Start empties everything and sets carrier and T251." "From a start to the next 22 the time is h 0, m 1, f 1, t 1."
unfoldable pub started_with : ℕ → ℕ → Link
started_with carrier t251 = nothing_held true carrier t251 []

-- Is a row an address's? And an address's row with some numbers.
abbrev pub is_row_of : ℕ → Row → Bool
is_row_of a w = eqb w.ssi a

abbrev pub row_with : ℕ → Numbers → Row
row_with a n = record { ssi = a; numbers = n }

-- The numbers of an address, its bit, and the rows with other numbers, behind the rest if it had none.
abbrev pub numbers_of : ℕ → List Row → Numbers
numbers_of a rs = (first_or (is_row_of a) (row_with a no_numbers) rs).numbers

abbrev pub bit_of : ℕ → List Row → Bool
bit_of a rs = (numbers_of a rs).bit

abbrev pub with_numbers : ℕ → Numbers → List Row → List Row
with_numbers a n rs = filed (is_row_of a) (row_with a n) rs
