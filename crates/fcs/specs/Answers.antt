-- The questions that the functions on a lent part put, with document 01's number for each case.
use Rattle.std.specs.Prelude.{ℕ, ◌+◌, ◌-◌, List, leb, eqb, length}
use Rattle.bits.specs.Bits.{value, part}
use Rattle.questions.specs.Outcome.{Outcome, accepted, ask}
use Rattle.fcs.specs.Fcs.{fcs_bits, fcs}

-- The check bits of n bits of l from a place on, as a number: question 5 asks whether they lie inside l.
abbrev pub computed : List ℕ → ℕ → ℕ → Outcome ℕ
computed l at n = ask 5 (leb (at + n) (length l)) (accepted (value (fcs (part l at n))))

-- Question 12 of n bits of l from a place on: at least 32 are left, and the last 32 are the check bits of those before them.
abbrev pub check : List ℕ → ℕ → ℕ → Outcome (Unit {0})
check l at n =
    ask 5 (leb (at + n) (length l))
    (ask 12 (leb fcs_bits n)
    (ask 12 (eqb (value (fcs (part l at (n - fcs_bits)))) (value (part l (at + (n - fcs_bits)) fcs_bits))) (accepted tt)))
