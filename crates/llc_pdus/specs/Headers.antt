-- The headers of the four basic link PDUs, as document 01's paragraph on frames gives them, and questions 9, 10 and 11.
use Rattle.std.specs.Prelude.{ℕ, Bool, true, false, not, List, [], ◌∷◌, leb, eqb, length, get_or}
use Rattle.std.specs.Prelude.{Option as Given, Some, None}
use Rattle.std.proofs.Math.Option.{Option, none, some}
use Rattle.questions.specs.Outcome.{Outcome, accepted, ask}
use Rattle.llc_pdus.specs.declared.Pdu.{Pdu}
use Rattle.llc_pdus.specs.declared.Pdu.TheVariants.{BlAdata, BlData, BlUdata, BlAck}

-- A flag or a number of one bit, as a bit.
abbrev pub bit : Bool → ℕ
bit false = 0
bit true = 1

-- "Four bits: 0, FCS flag, two type bits. Type 0 BL-ADATA: then N(R), N(S). 1 BL-DATA: N(S). 2 BL-UDATA: none.
-- 3 BL-ACK: N(R)."
abbrev pub header : Pdu → List ℕ
header (BlAdata fcs nr ns) = 0 ∷ bit fcs ∷ 0 ∷ 0 ∷ bit nr ∷ bit ns ∷ []
header (BlData fcs ns) = 0 ∷ bit fcs ∷ 0 ∷ 1 ∷ bit ns ∷ []
header (BlUdata fcs) = 0 ∷ bit fcs ∷ 1 ∷ 0 ∷ []
header (BlAck fcs nr) = 0 ∷ bit fcs ∷ 1 ∷ 1 ∷ bit nr ∷ []

-- The FCS flag of a PDU.
abbrev pub has_fcs : Pdu → Bool
has_fcs (BlAdata fcs nr ns) = fcs
has_fcs (BlData fcs ns) = fcs
has_fcs (BlUdata fcs) = fcs
has_fcs (BlAck fcs nr) = fcs

-- Its N(S) and its N(R), if it has one.
abbrev pub ns_of : Pdu → Option Bool
ns_of (BlAdata f nr ns) = some ns
ns_of (BlData f ns) = some ns
ns_of (BlUdata f) = none
ns_of (BlAck f nr) = none

abbrev pub nr_of : Pdu → Option Bool
nr_of (BlAdata f nr ns) = some nr
nr_of (BlData f ns) = none
nr_of (BlUdata f) = none
nr_of (BlAck f nr) = some nr

-- An option that the code gives, as one of the definitions.
abbrev pub option_of : {A : Type 0} → Given A → Option A
option_of (Some a) = some a
option_of None = none

-- The type by its two bits, and how long its header is.
pub data Kind : Type 0 where
  adata bdata udata ack : Kind

abbrev pub kind_of : Bool → Bool → Kind
kind_of false false = adata
kind_of false true = bdata
kind_of true false = udata
kind_of true true = ack

abbrev pub length_of : Kind → ℕ
length_of adata = 6
length_of bdata = 5
length_of udata = 4
length_of ack = 5

-- The PDU of a type with its FCS flag and the two bits behind the first four, of which it takes what it has.
abbrev pub pdu_of : Kind → Bool → Bool → Bool → Pdu
pdu_of adata fcs x y = BlAdata fcs x y
pdu_of bdata fcs x y = BlData fcs x
pdu_of udata fcs x y = BlUdata fcs
pdu_of ack fcs x y = BlAck fcs x

-- Is bit i of a frame a 1?
abbrev pub one : List ℕ → ℕ → Bool
one l i = eqb (get_or l i 0) 1

-- A PDU, and how many bits its header has, behind which the SDU stands.
pub record Reading : Type 0 where
  pub pdu : Pdu
  pub size : ℕ

abbrev pub kind_at : List ℕ → Kind
kind_at l = kind_of (one l 2) (one l 3)

abbrev pub reading_of : List ℕ → Reading
reading_of l = record { pdu = pdu_of (kind_at l) (one l 1) (one l 4) (one l 5); size = length_of (kind_at l) }

-- "9. Frame: four bits? 10. Type 0 to 7? 11. Whole header?" of the bits of a frame.
unfoldable pub reading : List ℕ → Outcome Reading
reading l =
    ask 9 (leb 4 (length l))
    (ask 10 (not (one l 0)) (ask 11 (leb (length_of (kind_at l)) (length l)) (accepted (reading_of l))))
