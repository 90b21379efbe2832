-- The sixteen LLC PDU types, by the four bits that a PDU begins with.
use Rattle.std.specs.Prelude.{ℕ, true, false, List, [], ◌∷◌, ltb, get_or}
use Rattle.questions.specs.Outcome.{Outcome, accepted, ask}
use Rattle.llc_pdus.specs.declared.Pdu.{Pdu}
use Rattle.llc_pdus.specs.declared.Pdu.TheVariants as Pdus
use Rattle.llc_pdus.specs.declared.llc_pdu_type.LlcPduType.{LlcPduType}
use Rattle.llc_pdus.specs.declared.llc_pdu_type.LlcPduType.TheVariants.{BlAdata, BlData, BlUdata, BlAck, BlAdataFcs, BlDataFcs, BlUdataFcs, BlAckFcs, AlSetup, AlDataAlFinal, AlAlUdataAlUfinal, AlAckAlRnr, AlReconnect, SuppLlcPdu, L2SigPdu, AlDisc}

-- The number that the four bits of a type spell.
abbrev pub raw : LlcPduType → ℕ
raw BlAdata = 0
raw BlData = 1
raw BlUdata = 2
raw BlAck = 3
raw BlAdataFcs = 4
raw BlDataFcs = 5
raw BlUdataFcs = 6
raw BlAckFcs = 7
raw AlSetup = 8
raw AlDataAlFinal = 9
raw AlAlUdataAlUfinal = 10
raw AlAckAlRnr = 11
raw AlReconnect = 12
raw SuppLlcPdu = 13
raw L2SigPdu = 14
raw AlDisc = 15

-- The types in the order of their numbers.
abbrev pub types : List LlcPduType
types =
    BlAdata ∷ BlData ∷ BlUdata ∷ BlAck ∷ BlAdataFcs ∷ BlDataFcs ∷ BlUdataFcs ∷ BlAckFcs
    ∷ AlSetup ∷ AlDataAlFinal ∷ AlAlUdataAlUfinal ∷ AlAckAlRnr ∷ AlReconnect ∷ SuppLlcPdu ∷ L2SigPdu ∷ AlDisc ∷ []

-- The type with a number: question 5 asks whether it fits into four bits. (Question 10 is put to a type, once there is one.)
abbrev pub from_raw : ℕ → Outcome LlcPduType
from_raw n = ask 5 (ltb n 16) (accepted (get_or types n AlDisc))

-- The four bits that a PDU of a type begins with: those of the basic link "0, FCS flag, two type bits", then, behind a 1, those
-- of the others in the order in which llc_pdu_type.rs numbers them.
abbrev pub first_bits : LlcPduType → List ℕ
first_bits BlAdata = 0 ∷ 0 ∷ 0 ∷ 0 ∷ []
first_bits BlData = 0 ∷ 0 ∷ 0 ∷ 1 ∷ []
first_bits BlUdata = 0 ∷ 0 ∷ 1 ∷ 0 ∷ []
first_bits BlAck = 0 ∷ 0 ∷ 1 ∷ 1 ∷ []
first_bits BlAdataFcs = 0 ∷ 1 ∷ 0 ∷ 0 ∷ []
first_bits BlDataFcs = 0 ∷ 1 ∷ 0 ∷ 1 ∷ []
first_bits BlUdataFcs = 0 ∷ 1 ∷ 1 ∷ 0 ∷ []
first_bits BlAckFcs = 0 ∷ 1 ∷ 1 ∷ 1 ∷ []
first_bits AlSetup = 1 ∷ 0 ∷ 0 ∷ 0 ∷ []
first_bits AlDataAlFinal = 1 ∷ 0 ∷ 0 ∷ 1 ∷ []
first_bits AlAlUdataAlUfinal = 1 ∷ 0 ∷ 1 ∷ 0 ∷ []
first_bits AlAckAlRnr = 1 ∷ 0 ∷ 1 ∷ 1 ∷ []
first_bits AlReconnect = 1 ∷ 1 ∷ 0 ∷ 0 ∷ []
first_bits SuppLlcPdu = 1 ∷ 1 ∷ 0 ∷ 1 ∷ []
first_bits L2SigPdu = 1 ∷ 1 ∷ 1 ∷ 0 ∷ []
first_bits AlDisc = 1 ∷ 1 ∷ 1 ∷ 1 ∷ []

-- The type of a PDU.
abbrev pub type_of : Pdu → LlcPduType
type_of (Pdus.BlAdata false nr ns) = BlAdata
type_of (Pdus.BlAdata true nr ns) = BlAdataFcs
type_of (Pdus.BlData false ns) = BlData
type_of (Pdus.BlData true ns) = BlDataFcs
type_of (Pdus.BlUdata false) = BlUdata
type_of (Pdus.BlUdata true) = BlUdataFcs
type_of (Pdus.BlAck false nr) = BlAck
type_of (Pdus.BlAck true nr) = BlAckFcs
