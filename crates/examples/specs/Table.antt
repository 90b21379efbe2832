-- Document 01's "Proved examples", a table: what the definitions that the contracts cite give on each row, and what the paper
-- says.
use Rattle.std.specs.Prelude.{ℕ, Bool, true, false, ◌&&◌, List, [], ◌∷◌, ◌++◌, map, eqb, ℤ, pos, negsuc, length, replicate, take}
use Rattle.questions.specs.Outcome.{Outcome, accepted, refused}
use Rattle.questions.specs.Effect.{Effect}
use Rattle.fcs.specs.Answers.{computed}
use Rattle.llc_pdus.specs.Headers.{header}
use Rattle.llc_pdus.specs.Writes.{written}
use Rattle.llc_pdus.specs.declared.Pdu.TheVariants.{BlAdata}
use Rattle.llc_pdus.specs.Received.{Received, received}
use Rattle.tdma_time.specs.Answers.{added, difference, forwarded}
use Rattle.tdma_time.specs.Slots.{half, first, plus}
use Rattle.tdma_time.specs.declared.TdmaTime.{TdmaTime}

-- What a definition gives, told in whole numbers, and what document 01 says of it.
pub record Row : Type 0 where
  pub gives : Outcome (List ℤ)
  pub wanted : Outcome (List ℤ)

-- An outcome whose value is told in whole numbers.
abbrev pub told : {A : Type 0} → (A → List ℤ) → Outcome A → Outcome (List ℤ)
told f (accepted a) = accepted (f a)
told f (refused n) = refused n

-- One number, and the number of the question failed.
abbrev pub one : ℕ → List ℤ
one n = pos n ∷ []

abbrev pub number : ℕ → Outcome (List ℤ)
number n = refused n

-- The check bits of a message, as a number.
abbrev pub sum : List ℕ → Outcome (List ℤ)
sum m = told one (computed m 0 (length m))

-- Questions 9 to 12 put to a frame: its header and the length of its SDU.
abbrev pub parts : Received → List ℤ
parts r = map pos (header r.header) ++ one (length r.sdu)

abbrev pub frame : List ℕ → Outcome (List ℤ)
frame l = told parts (received l)

-- The bits that were written to the front.
abbrev pub front : Effect ℕ → Outcome (List ℤ)
front e = told (λ (n : ℕ). map pos (take n e.bits)) e.answer

-- A time as h, m, f, t.
abbrev pub time : TdmaTime → List ℤ
time a = pos a.h ∷ pos a.m ∷ pos a.f ∷ pos a.t ∷ []

abbrev pub last : TdmaTime
last = record { t = 4; f = 18; m = 60; h = 65535 }

-- A time in slot 3.
abbrev pub third : TdmaTime
third = record { t = 3; f = 1; m = 1; h = 0 }

-- The rows in document 01's order, with request P1's "example of 33 bits (now 1)".
unfoldable pub table : List Row
table =
    record { gives = sum []; wanted = accepted (one 0x00000000) }
    ∷ record { gives = sum (0 ∷ []); wanted = accepted (one 0xFB3EE248) }
    ∷ record { gives = sum (1 ∷ []); wanted = accepted (one 0xFFFFFFFF) }
    ∷ record { gives = sum (replicate 32 1); wanted = accepted (one 0xFFFFFFFF) }
    ∷ record {
      gives = frame (0 ∷ 1 ∷ 0 ∷ 1 ∷ 1 ∷ 1 ∷ replicate 32 1);
      wanted = accepted (pos 0 ∷ pos 1 ∷ pos 0 ∷ pos 1 ∷ pos 1 ∷ pos 1 ∷ []);
    }
    ∷ record { gives = frame (0 ∷ 1 ∷ 0 ∷ 1 ∷ 1 ∷ 1 ∷ replicate 31 1); wanted = number 12 }
    ∷ record { gives = frame (0 ∷ 0 ∷ 0 ∷ []); wanted = number 9 }
    ∷ record { gives = frame (1 ∷ 0 ∷ 0 ∷ 0 ∷ []); wanted = number 10 }
    ∷ record { gives = frame (0 ∷ 0 ∷ 0 ∷ 1 ∷ []); wanted = number 11 }
    ∷ record { gives = told time (added first (negsuc 1)); wanted = accepted (pos 65535 ∷ pos 60 ∷ pos 18 ∷ pos 3 ∷ []) }
    ∷ record { gives = told time (added last (pos 1)); wanted = accepted (time first) }
    ∷ record { gives = told time (forwarded third 1); wanted = told time (added third (pos 2)) }
    ∷ record { gives = told time (forwarded first 1); wanted = told time (added first (pos 0)) }
    ∷ record {
      gives = told (λ (d : ℤ). d ∷ []) (difference (plus third (pos half)) third);
      wanted = accepted (negsuc 141557759 ∷ []);
    }
    ∷ record {
      gives = front (written (BlAdata false true false) (replicate 8 1) [] 0 0);
      wanted = accepted (pos 0 ∷ pos 0 ∷ pos 0 ∷ pos 0 ∷ pos 1 ∷ pos 0 ∷ []);
    }
    ∷ []

unfoldable pub sameℤ : ℤ → ℤ → Bool
sameℤ (pos m) (pos n) = eqb m n
sameℤ (pos m) (negsuc n) = false
sameℤ (negsuc m) (pos n) = false
sameℤ (negsuc m) (negsuc n) = eqb m n

unfoldable pub same : List ℤ → List ℤ → Bool
same [] [] = true
same [] (y ∷ ys) = false
same (x ∷ xs) [] = false
same (x ∷ xs) (y ∷ ys) = sameℤ x y && same xs ys

unfoldable pub same_outcome : Outcome (List ℤ) → Outcome (List ℤ) → Bool
same_outcome (accepted x) (accepted y) = same x y
same_outcome (accepted x) (refused n) = false
same_outcome (refused m) (accepted y) = false
same_outcome (refused m) (refused n) = eqb m n

-- Does every row give what is wanted?
unfoldable pub right : List Row → Bool
right [] = true
right (r ∷ rs) = same_outcome r.gives r.wanted && right rs
