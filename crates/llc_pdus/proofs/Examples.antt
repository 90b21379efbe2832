-- Frames, and what they are received as and written from, from the papers alone: code and definition wrong alike are refused here.
use Prim.Native.Nat.{ℕ}
use mathlib.Core.Path.{◌≡◌, refl}
use mathlib.Core.Bool.{true, false}
use mathlib.Core.List.{List, [], ◌∷◌, map}
use Rattle.bits.specs.Bits.{to_bits, value}
use Rattle.fcs.specs.Polynomials.{plus, divisor, rest}
use Rattle.fcs.specs.Fcs.{start, fcs}
use Rattle.questions.specs.Outcome.{Outcome, accepted, refused}
use Rattle.llc_pdus.specs.Headers.{reading}
use Rattle.llc_pdus.specs.Frames.{frame_bits}
use Rattle.llc_pdus.specs.Received.{Received, checks, checked, received}
use Rattle.llc_pdus.specs.declared.Pdu.{Pdu}
use Rattle.llc_pdus.specs.declared.Pdu.TheVariants.{BlAdata, BlData, BlUdata, BlAck}

-- A PDU with an SDU.
abbrev pub is : Pdu → List ℕ → Outcome Received
is p sdu = accepted (record { header = p; sdu = sdu })

-- A frame, and what it should be received as.
pub record Row : Type 0 where
  pub frame : List ℕ
  pub wanted : Outcome Received

infixl 70 ◌reads◌
abbrev pub ◌reads◌ : List ℕ → Outcome Received → Row
l reads o = record { frame = l; wanted = o }

-- What all are received as, with all opened that it computes by.
unfoldable pub received_all : List Row → List (Outcome Received)
unfolding to_bits value plus divisor rest start fcs reading checks checked received
received_all rs = map (λ (r : Row). received r.frame) rs

-- Check bits alone.
unfoldable pub emptied : List Row
emptied =
    to_bits 38 0x1100000000 reads is (BlAdata true false true) []
    ∷ to_bits 37 0x0a00000000 reads is (BlData true false) []
    ∷ to_bits 36 0x600000000 reads is (BlUdata true) []
    ∷ to_bits 37 0x0f00000000 reads is (BlAck true true) []
    ∷ []

pub emptied-received : received_all emptied ≡ map (λ (r : Row). r.wanted) emptied
unfolding received_all emptied
emptied-received = refl

-- SDUs of 1, 7, 8 and 9 bits with their check bits.
unfoldable pub cut : List Row
cut =
    to_bits 39 0x21ffffffff reads is (BlAdata true false false) (to_bits 1 0x1)
    ∷ to_bits 38 0x16fb3ee248 reads is (BlData true true) (to_bits 1 0x0)
    ∷ to_bits 37 0x0dffffffff reads is (BlUdata true) (to_bits 1 0x1)
    ∷ to_bits 38 0x1efb3ee248 reads is (BlAck true true) (to_bits 1 0x0)
    ∷ to_bits 45 0x09f0c7b04242 reads is (BlAdata true true true) (to_bits 7 0x70)
    ∷ to_bits 44 0x5669127d480 reads is (BlData true false) (to_bits 7 0x66)
    ∷ to_bits 43 0x330f3363235 reads is (BlUdata true) (to_bits 7 0x30)
    ∷ to_bits 44 0x76aa42b4fe4 reads is (BlAck true false) (to_bits 7 0x6a)
    ∷ to_bits 46 0x11a3b264cf9c reads is (BlAdata true false true) (to_bits 8 0xa3)
    ∷ to_bits 45 0x0aac8a2b7221 reads is (BlData true false) (to_bits 8 0xac)
    ∷ to_bits 44 0x6c70dc57fd7 reads is (BlUdata true) (to_bits 8 0xc7)
    ∷ to_bits 45 0x0fe08ba19932 reads is (BlAck true true) (to_bits 8 0xe0)
    ∷ to_bits 47 0x24dcb886ae1a reads is (BlAdata true true false) (to_bits 9 0x0dc)
    ∷ to_bits 46 0x174f42c17281 reads is (BlData true true) (to_bits 9 0x14f)
    ∷ to_bits 45 0x0d5d0752929f reads is (BlUdata true) (to_bits 9 0x15d)
    ∷ to_bits 46 0x1ceb72f3938f reads is (BlAck true false) (to_bits 9 0x0eb)
    ∷ []

pub cut-received : received_all cut ≡ map (λ (r : Row). r.wanted) cut
unfolding received_all cut
cut-received = refl

-- SDUs of 31, 32 and 33 bits, and the nine digits 123456789, whose check value is published.
unfoldable pub lengths : List Row
lengths =
    to_bits 69 0x095ae34fc1fb61c9df reads is (BlAdata true true false) (to_bits 31 0x5ae34fc1)
    ∷ to_bits 69 0x0bffffffffffffffff reads is (BlData true true) (to_bits 32 0xffffffff)
    ∷ to_bits 69 0x0d6b8d3f05e0c401a6 reads is (BlUdata true) (to_bits 33 0x16b8d3f05)
    ∷ to_bits 109 0x0e313233343536373839fc891918 reads is (BlAck true false) (to_bits 72 0x313233343536373839)
    ∷ []

pub lengths-received : received_all lengths ≡ map (λ (r : Row). r.wanted) lengths
unfolding received_all lengths
lengths-received = refl

-- Without the flag nothing is cut.
unfoldable pub unflagged : List Row
unflagged =
    to_bits 6 0x00 reads is (BlAdata false false false) []
    ∷ to_bits 5 0x03 reads is (BlData false true) []
    ∷ to_bits 4 0x2 reads is (BlUdata false) []
    ∷ to_bits 5 0x07 reads is (BlAck false true) []
    ∷ to_bits 7 0x05 reads is (BlAdata false true false) (to_bits 1 0x1)
    ∷ to_bits 6 0x06 reads is (BlData false true) (to_bits 1 0x0)
    ∷ to_bits 5 0x05 reads is (BlUdata false) (to_bits 1 0x1)
    ∷ to_bits 6 0x0c reads is (BlAck false false) (to_bits 1 0x0)
    ∷ to_bits 13 0x00f4 reads is (BlAdata false false true) (to_bits 7 0x74)
    ∷ to_bits 12 0x168 reads is (BlData false false) (to_bits 7 0x68)
    ∷ to_bits 11 0x12f reads is (BlUdata false) (to_bits 7 0x2f)
    ∷ to_bits 12 0x3b8 reads is (BlAck false true) (to_bits 7 0x38)
    ∷ to_bits 14 0x037b reads is (BlAdata false true true) (to_bits 8 0x7b)
    ∷ to_bits 13 0x0276 reads is (BlData false false) (to_bits 8 0x76)
    ∷ to_bits 12 0x273 reads is (BlUdata false) (to_bits 8 0x73)
    ∷ to_bits 13 0x0619 reads is (BlAck false false) (to_bits 8 0x19)
    ∷ to_bits 15 0x001e reads is (BlAdata false false false) (to_bits 9 0x01e)
    ∷ to_bits 14 0x07a4 reads is (BlData false true) (to_bits 9 0x1a4)
    ∷ to_bits 13 0x0405 reads is (BlUdata false) (to_bits 9 0x005)
    ∷ to_bits 14 0x0e4d reads is (BlAck false true) (to_bits 9 0x04d)
    ∷ to_bits 38 0x02f7918232 reads is (BlAdata false true false) (to_bits 32 0xf7918232)
    ∷ to_bits 37 0x03e92a2dcf reads is (BlData false true) (to_bits 32 0xe92a2dcf)
    ∷ to_bits 36 0x28dbac839 reads is (BlUdata false) (to_bits 32 0x8dbac839)
    ∷ to_bits 37 0x0635608da8 reads is (BlAck false false) (to_bits 32 0x35608da8)
    ∷ to_bits 38 0x0100000000 reads is (BlAdata false false true) (to_bits 32 0x00000000)
    ∷ to_bits 37 0x0200000000 reads is (BlData false false) (to_bits 32 0x00000000)
    ∷ to_bits 36 0x200000000 reads is (BlUdata false) (to_bits 32 0x00000000)
    ∷ to_bits 37 0x0700000000 reads is (BlAck false true) (to_bits 32 0x00000000)
    ∷ to_bits 39 0x06fb3ee248 reads is (BlAdata false true true) (to_bits 33 0x0fb3ee248)
    ∷ to_bits 38 0x04fb3ee248 reads is (BlData false false) (to_bits 33 0x0fb3ee248)
    ∷ to_bits 37 0x04fb3ee248 reads is (BlUdata false) (to_bits 33 0x0fb3ee248)
    ∷ to_bits 38 0x0cfb3ee248 reads is (BlAck false false) (to_bits 33 0x0fb3ee248)
    ∷ []

pub unflagged-received : received_all unflagged ≡ map (λ (r : Row). r.wanted) unflagged
unfolding received_all unflagged
unflagged-received = refl

-- Written, each of them is the frame that it was read from.
abbrev frame_of : Outcome Received → List ℕ
frame_of (accepted r) = frame_bits r.header r.sdu
frame_of (refused n) = []

unfoldable pub written_all : List Row → List (List ℕ)
unfolding to_bits plus divisor rest start fcs frame_bits
written_all rs = map (λ (r : Row). frame_of r.wanted) rs

pub emptied-written : written_all emptied ≡ map (λ (r : Row). r.frame) emptied
unfolding written_all emptied
emptied-written = refl

pub cut-written : written_all cut ≡ map (λ (r : Row). r.frame) cut
unfolding written_all cut
cut-written = refl

pub lengths-written : written_all lengths ≡ map (λ (r : Row). r.frame) lengths
unfolding written_all lengths
lengths-written = refl

pub unflagged-written : written_all unflagged ≡ map (λ (r : Row). r.frame) unflagged
unfolding written_all unflagged
unflagged-written = refl

-- Too few bits for a check, and wrong checks; right ones between them.
unfoldable pub wrong : List Row
wrong =
    to_bits 6 0x12 reads refused 12
    ∷ to_bits 7 0x24 reads refused 12
    ∷ to_bits 37 0x0900000000 reads refused 12
    ∷ to_bits 37 0x095352d0d2 reads refused 12
    ∷ to_bits 37 0x09581916f0 reads refused 12
    ∷ to_bits 5 0x0b reads refused 12
    ∷ to_bits 6 0x17 reads refused 12
    ∷ to_bits 36 0x580000000 reads refused 12
    ∷ to_bits 36 0x5e795e6c9 reads refused 12
    ∷ to_bits 36 0x5c93e9376 reads refused 12
    ∷ to_bits 4 0x6 reads refused 12
    ∷ to_bits 5 0x0c reads refused 12
    ∷ to_bits 35 0x300000000 reads refused 12
    ∷ to_bits 35 0x3063d8212 reads refused 12
    ∷ to_bits 35 0x3419f366a reads refused 12
    ∷ to_bits 5 0x0e reads refused 12
    ∷ to_bits 6 0x1d reads refused 12
    ∷ to_bits 36 0x700000000 reads refused 12
    ∷ to_bits 36 0x7431ec109 reads refused 12
    ∷ to_bits 36 0x74fa9a73c reads refused 12
    ∷ to_bits 36 0x5ffffffff reads refused 12
    ∷ to_bits 37 0x0bffffffff reads refused 12
    ∷ to_bits 38 0x17ffffffff reads is (BlData true true) (to_bits 1 0x1)
    ∷ to_bits 43 0x2661127d480 reads refused 12
    ∷ to_bits 43 0x2679127d480 reads refused 12
    ∷ to_bits 43 0x2669127d480 reads is (BlAdata true true true) (to_bits 5 0x06)
    ∷ to_bits 42 0x149a968693c reads refused 12
    ∷ to_bits 42 0x159a968693d reads refused 12
    ∷ to_bits 42 0x149a968693d reads is (BlData true false) (to_bits 5 0x09)
    ∷ to_bits 41 0x0d9e578b24d reads refused 12
    ∷ to_bits 41 0x0dde579b24d reads refused 12
    ∷ to_bits 41 0x0d9e579b24d reads is (BlUdata true) (to_bits 5 0x19)
    ∷ to_bits 42 0x1d9e579b24f reads refused 12
    ∷ to_bits 42 0x1dbe579b24d reads refused 12
    ∷ to_bits 42 0x1d9e579b24d reads is (BlAck true false) (to_bits 5 0x19)
    ∷ to_bits 78 0x11fefb3ee2484e08bf4b reads is (BlAdata true false true) (to_bits 40 0xfefb3ee248)
    ∷ to_bits 46 0x11edf551d533 reads refused 12
    ∷ to_bits 78 0x11d81297a655807f4df4 reads refused 12
    ∷ to_bits 78 0x11eaa42b4fe43dde6e9b reads refused 12
    ∷ to_bits 46 0x117300000000 reads refused 12
    ∷ to_bits 77 0x0a2af9a1df7d4e08bf4b reads is (BlData true false) (to_bits 40 0x2af9a1df7d)
    ∷ to_bits 45 0x0a7f119f6477 reads refused 12
    ∷ to_bits 77 0x0ab8bdb29c18048353bf reads refused 12
    ∷ to_bits 77 0x0ab7ed7162302c41c1ba reads refused 12
    ∷ to_bits 45 0x0a8b00000000 reads refused 12
    ∷ to_bits 76 0x6b3fe7514ec4e08bf4b reads is (BlUdata true) (to_bits 40 0xb3fe7514ec)
    ∷ to_bits 44 0x69420407087 reads refused 12
    ∷ to_bits 76 0x6443830cb1f6c81fa7e reads refused 12
    ∷ to_bits 76 0x63293b8e9b57230caef reads refused 12
    ∷ to_bits 44 0x6d200000000 reads refused 12
    ∷ to_bits 77 0x0fa0bf27e9454e08bf4b reads is (BlAck true true) (to_bits 40 0xa0bf27e945)
    ∷ to_bits 45 0x0feab47ad4f7 reads refused 12
    ∷ to_bits 77 0x0fe93e0a07d1a8bece3f reads refused 12
    ∷ to_bits 77 0x0f832a47797cd9a11a82 reads refused 12
    ∷ to_bits 45 0x0f4b00000000 reads refused 12
    ∷ []

pub wrong-received : received_all wrong ≡ map (λ (r : Row). r.wanted) wrong
unfolding received_all wrong
wrong-received = refl
