-- The laws of PDUs, for callers: what is written reads back, and what is read was written so.
use Prim.Native.Nat.{ℕ, zero, suc, ◌+◌, ◌*◌, ◌≤◌, ◌<◌}
use native.Mathlib.Omega.{arith}
use mathlib.Core.Path.{◌≡◌, refl, sym}
use mathlib.Core.Bool.{Bool, true, false, not, false≢true}
use mathlib.Core.List.{List, [], ◌∷◌, ◌++◌}
use borrow.Author.Tests.{le-leb, leb-true, not-true}
use lib.Dec.{leb, eqb}
use lib.ListN.{length, take}
use Rattle.bits.specs.Bits.{AllBits, value}
use Rattle.questions.specs.Outcome.{accepted}
use Rattle.questions.proofs.Asked.{accepted-passed}
use Rattle.llc_pdus.specs.Headers.{bit, header, length_of, one, Reading, kind_at, reading_of, reading}
use Rattle.llc_pdus.specs.Sdus.{header_end}
use Rattle.llc_pdus.specs.Types.{raw, from_raw, first_bits, type_of}
use Rattle.llc_pdus.specs.Frames.{check_sequence, frame_bits}
use Rattle.llc_pdus.specs.declared.Pdu.{Pdu}
use Rattle.llc_pdus.specs.declared.Pdu.TheVariants.{BlAdata, BlData, BlUdata, BlAck}
use Rattle.llc_pdus.specs.declared.llc_pdu_type.LlcPduType.{LlcPduType}
use Rattle.llc_pdus.specs.declared.llc_pdu_type.LlcPduType.TheVariants as Types

-- A header has at least four bits, and at most six.
pub header-long : (p : Pdu) → 4 ≤ length (header p)
header-long (BlAdata fcs nr ns) = omega arith
header-long (BlData fcs ns) = omega arith
header-long (BlUdata fcs) = omega arith
header-long (BlAck fcs nr) = omega arith

pub header-short : (p : Pdu) → length (header p) ≤ 6
header-short (BlAdata fcs nr ns) = omega arith
header-short (BlData fcs ns) = omega arith
header-short (BlUdata fcs) = omega arith
header-short (BlAck fcs nr) = omega arith

-- The bits of the bytes before the one that it ends in, and its bits there, are all its bits.
pub header-ends : (p : Pdu) → 8 * (header_end p).byte + (header_end p).bits ≡ length (header p)
header-ends p = omega (arith, header-long p)

-- Each type is the one with its number.
pub from-raw : (t : LlcPduType) → from_raw (raw t) ≡ accepted t
from-raw Types.BlAdata = refl
from-raw Types.BlData = refl
from-raw Types.BlUdata = refl
from-raw Types.BlAck = refl
from-raw Types.BlAdataFcs = refl
from-raw Types.BlDataFcs = refl
from-raw Types.BlUdataFcs = refl
from-raw Types.BlAckFcs = refl
from-raw Types.AlSetup = refl
from-raw Types.AlDataAlFinal = refl
from-raw Types.AlAlUdataAlUfinal = refl
from-raw Types.AlAckAlRnr = refl
from-raw Types.AlReconnect = refl
from-raw Types.SuppLlcPdu = refl
from-raw Types.L2SigPdu = refl
from-raw Types.AlDisc = refl

-- Its number is the one that the four bits of its PDUs spell.
pub raw-bits : (t : LlcPduType) → value (first_bits t) ≡ raw t
unfolding value
raw-bits Types.BlAdata = refl
raw-bits Types.BlData = refl
raw-bits Types.BlUdata = refl
raw-bits Types.BlAck = refl
raw-bits Types.BlAdataFcs = refl
raw-bits Types.BlDataFcs = refl
raw-bits Types.BlUdataFcs = refl
raw-bits Types.BlAckFcs = refl
raw-bits Types.AlSetup = refl
raw-bits Types.AlDataAlFinal = refl
raw-bits Types.AlAlUdataAlUfinal = refl
raw-bits Types.AlAckAlRnr = refl
raw-bits Types.AlReconnect = refl
raw-bits Types.SuppLlcPdu = refl
raw-bits Types.L2SigPdu = refl
raw-bits Types.AlDisc = refl

-- And a header begins with the four bits of its PDU's type.
pub header-type : (p : Pdu) → take 4 (header p) ≡ first_bits (type_of p)
header-type (BlAdata false nr ns) = refl
header-type (BlAdata true nr ns) = refl
header-type (BlData false ns) = refl
header-type (BlData true ns) = refl
header-type (BlUdata false) = refl
header-type (BlUdata true) = refl
header-type (BlAck false nr) = refl
header-type (BlAck true nr) = refl

-- A bit is 1 exactly if its flag is set.
one_bit : (b : Bool) → eqb (bit b) 1 ≡ b
one_bit true = refl
one_bit false = refl

-- What begins with a PDU's header reads as that PDU, with the SDU behind it.
pub header-reads : (p : Pdu) (sdu : List ℕ) → reading (header p ++ sdu) ≡ accepted (record { pdu = p; size = length (header p) })
unfolding reading
header-reads (BlAdata f r s) sdu =
    let l : List ℕ = 0 ∷ bit f ∷ 0 ∷ 0 ∷ bit r ∷ bit s ∷ sdu in
    rw (le-leb 4 (length l) (omega arith), le-leb 6 (length l) (omega arith), one_bit f, one_bit r, one_bit s)
header-reads (BlData f s) sdu =
    let l : List ℕ = 0 ∷ bit f ∷ 0 ∷ 1 ∷ bit s ∷ sdu in
    rw (le-leb 4 (length l) (omega arith), le-leb 5 (length l) (omega arith), one_bit f, one_bit s)
header-reads (BlUdata f) sdu =
    rw (le-leb 4 (length (0 ∷ bit f ∷ 1 ∷ 0 ∷ sdu)) (omega arith), one_bit f)
header-reads (BlAck f r) sdu =
    let l : List ℕ = 0 ∷ bit f ∷ 1 ∷ 1 ∷ bit r ∷ sdu in
    rw (le-leb 4 (length l) (omega arith), le-leb 5 (length l) (omega arith), one_bit f, one_bit r)

-- So does a frame.
pub frame-reads : (p : Pdu) (sdu : List ℕ) → reading (frame_bits p sdu) ≡ accepted (record { pdu = p; size = length (header p) })
unfolding frame_bits
frame-reads p sdu = header-reads p (sdu ++ check_sequence p sdu)

-- A bit, as the bit of its test.
bit-one : (b : ℕ) → b < 2 → b ≡ bit (eqb b 1)
bit-one zero h = refl
bit-one (suc zero) h = refl
bit-one (suc (suc b)) h = absurd (omega arith)

-- What begins with the bits of a type, and is long enough, begins with that PDU's header.
front :
    (b c d : ℕ) (t : List ℕ)
    → b < 2
    → c < 2
    → d < 2
    → AllBits t
    → length_of (kind_at (0 ∷ b ∷ c ∷ d ∷ t)) ≤ length (0 ∷ b ∷ c ∷ d ∷ t)
    → take (length_of (kind_at (0 ∷ b ∷ c ∷ d ∷ t))) (0 ∷ b ∷ c ∷ d ∷ t) ≡ header (reading_of (0 ∷ b ∷ c ∷ d ∷ t)).pdu
front b zero zero [] hb hc hd all long = absurd (omega arith)
front b zero zero (x ∷ []) hb hc hd all long = absurd (omega arith)
front b zero zero (x ∷ y ∷ t) hb hc hd all long =
    λ i. 0 ∷ bit-one b hb i ∷ 0 ∷ 0 ∷ bit-one x all.0 i ∷ bit-one y all.1.0 i ∷ []
front b zero (suc zero) [] hb hc hd all long = absurd (omega arith)
front b zero (suc zero) (x ∷ t) hb hc hd all long = λ i. 0 ∷ bit-one b hb i ∷ 0 ∷ 1 ∷ bit-one x all.0 i ∷ []
front b (suc zero) zero t hb hc hd all long = λ i. 0 ∷ bit-one b hb i ∷ 1 ∷ 0 ∷ []
front b (suc zero) (suc zero) [] hb hc hd all long = absurd (omega arith)
front b (suc zero) (suc zero) (x ∷ t) hb hc hd all long = λ i. 0 ∷ bit-one b hb i ∷ 1 ∷ 1 ∷ bit-one x all.0 i ∷ []
front b zero (suc (suc d)) t hb hc hd all long = absurd (omega arith)
front b (suc zero) (suc (suc d)) t hb hc hd all long = absurd (omega arith)
front b (suc (suc c)) d t hb hc hd all long = absurd (omega arith)

-- The questions, passed, of a list that is taken apart.
passed-header :
    (l : List ℕ)
    → AllBits l
    → 4 ≤ length l
    → one l 0 ≡ false
    → length_of (kind_at l) ≤ length l
    → take (length_of (kind_at l)) l ≡ header (reading_of l).pdu
passed-header [] all four zeroth long = absurd (omega arith)
passed-header (a ∷ []) all four zeroth long = absurd (omega arith)
passed-header (a ∷ b ∷ []) all four zeroth long = absurd (omega arith)
passed-header (a ∷ b ∷ c ∷ []) all four zeroth long = absurd (omega arith)
passed-header (zero ∷ b ∷ c ∷ d ∷ t) all four zeroth long =
    front b c d t all.1.0 all.1.1.0 all.1.1.1.0 all.1.1.1.1 long
passed-header (suc zero ∷ b ∷ c ∷ d ∷ t) all four zeroth long = absurd (false≢true (sym zeroth))
passed-header (suc (suc a) ∷ b ∷ c ∷ d ∷ t) all four zeroth long = absurd (let h = all.0 in omega arith)

-- And a list of bits that reads as a PDU begins with its header.
pub reading-header : (l : List ℕ) (r : Reading) → AllBits l → reading l ≡ accepted r → take r.size l ≡ header r.pdu
unfolding reading
reading-header l r all e =
    let nine = accepted-passed 9 (leb 4 (length l)) (sym e) in
    let ten = accepted-passed 10 (not (one l 0)) nine.1 in
    let eleven = accepted-passed 11 (leb (length_of (kind_at l)) (length l)) ten.1 in
    let is : r ≡ reading_of l = cc eleven.1 in
    rw is
    (passed-header l all (leb-true 4 (length l) nine.0) (not-true (one l 0) ten.0) (leb-true (length_of (kind_at l)) (length l) eleven.0))
