-- Document 01, "Calls and records", the calls: bytes taken apart, with question 2 (do the outer length and, for a known tag,
-- the inner ones fill the call, spare bits zero?) and question 3 (is the tag known?).
use Rattle.std.specs.Prelude.{ℕ, zero, suc, ◌+◌, ◌*◌, ◌/◌, ◌%◌, ◌^◌, Bool, true, false, cond, ◌&&◌, List, [], ◌∷◌, eqb, leb, length, get_or, take, drop}
use Rattle.bits.specs.Bits.{value, bits}
use Rattle.questions.specs.Outcome.{Outcome, accepted, refused, ask}
use Rattle.tdma_time.specs.declared.TdmaTime.{TdmaTime}

-- The number that bytes spell, big-endian, and n bytes of a number.
unfoldable pub from_bytes : List ℕ → ℕ
from_bytes [] = 0
from_bytes (b ∷ bs) = b * 256 ^ length bs + from_bytes bs

unfoldable pub to_bytes : ℕ → ℕ → List ℕ
to_bytes zero v = []
to_bytes (suc n) v = v / 256 ^ n % 256 ∷ to_bytes n v

-- "24 data request and 25 unitdata request (SSI 3, type 1 individual or 2 group, carrier-given 0 or 1, carrier 2, link 4,
-- endpoint 4, handle 4, flags: 1 steal, 2 FCS, 4 mask present; mask 1, receipt 1, block length 1, block, bit count 2, bits)"
pub record Request : Type 0 where
  pub ssi : ℕ
  pub type : ℕ
  pub given : ℕ
  pub carrier : ℕ
  pub link : ℕ
  pub endpoint : ℕ
  pub handle : ℕ
  pub flags : ℕ
  pub mask : ℕ
  pub receipt : ℕ
  pub block : List ℕ
  pub sdu : List ℕ

-- "26 frame (SSI 3, type 1, carrier 2, link 4, endpoint 4, block length 1, block, bit count 2, bits)"
pub record Frame : Type 0 where
  pub ssi : ℕ
  pub type : ℕ
  pub carrier : ℕ
  pub link : ℕ
  pub endpoint : ℕ
  pub block : List ℕ
  pub pdu : List ℕ

-- The service that a request asks for: "24 data request and 25 unitdata request".
pub data Service : Type 0 where
  tl_data tl_unitdata : Service

-- What a call does by receipt: "27 report (receipt, 1 transmitted or 2 discarded); 28 release (receipt)".
pub data Action : Type 0 where
  report : ℕ → Action
  release : Action

-- "21 start (carrier 2 bytes, T251 2); 22 tick start (h 2, m, f, t); 23 tick end", a request, a frame, and a call by receipt. The
-- values are as they were given, in range or not.
pub data Call : Type 0 where
  start : ℕ → ℕ → Call
  tick_start : TdmaTime → Call
  tick_end : Call
  request : Service → Request → Call
  frame : Frame → Call
  by_receipt : ℕ → Action → Call

-- "Is this a start?"
abbrev pub is_start : Call → Bool
is_start (start carrier t251) = true
is_start (tick_start time) = false
is_start tick_end = false
is_start (request s r) = false
is_start (frame f) = false
is_start (by_receipt i a) = false

-- The number in n bytes from a place on.
abbrev pub number_at : List ℕ → ℕ → ℕ → ℕ
number_at v i n = from_bytes (take n (drop i v))

-- A block behind its length in one byte, and bits behind their count in two, from a place on.
abbrev pub block_at : List ℕ → ℕ → List ℕ
block_at v i = take (get_or v i 0) (drop (i + 1) v)

abbrev pub count_at : List ℕ → ℕ → ℕ
count_at v i = number_at v (i + 1 + get_or v i 0) 2

abbrev pub bits_at : List ℕ → ℕ → List ℕ
bits_at v i = take (count_at v i) (bits (drop (i + 3 + get_or v i 0) v))

-- Bits that are all 0.
abbrev pub zeros : List ℕ → Bool
zeros l = eqb (value l) 0

-- Does a value that has a block and bits from a place on end with them, "spare bits zero"?
unfoldable pub filled_from : List ℕ → ℕ → Bool
filled_from v i =
    leb (i + 3 + get_or v i 0) (length v)
    && eqb (length v) (i + 3 + get_or v i 0 + (count_at v i + 7) / 8)
    && zeros (drop (count_at v i) (bits (drop (i + 3 + get_or v i 0) v)))

-- The values of a tick start, of a request and of a frame, each field at its place.
abbrev pub time_in : List ℕ → TdmaTime
time_in v = record { t = get_or v 4 0; f = get_or v 3 0; m = get_or v 2 0; h = number_at v 0 2 }

unfoldable pub request_in : List ℕ → Request
request_in v =
    record {
      ssi = number_at v 0 3;
      type = get_or v 3 0;
      given = get_or v 4 0;
      carrier = number_at v 5 2;
      link = number_at v 7 4;
      endpoint = number_at v 11 4;
      handle = number_at v 15 4;
      flags = get_or v 19 0;
      mask = get_or v 20 0;
      receipt = get_or v 21 0;
      block = block_at v 22;
      sdu = bits_at v 22;
    }

unfoldable pub frame_in : List ℕ → Frame
frame_in v =
    record {
      ssi = number_at v 0 3;
      type = get_or v 3 0;
      carrier = number_at v 4 2;
      link = number_at v 6 4;
      endpoint = number_at v 10 4;
      block = block_at v 14;
      pdu = bits_at v 14;
    }

-- The calls by their tags.
pub data Tag : Type 0 where
  tag21 tag22 tag23 tag24 tag25 tag26 tag27 tag28 unknown : Tag

unfoldable pub tag_of : ℕ → Tag
tag_of n =
    cond (eqb n 0x21) tag21
    (cond (eqb n 0x22) tag22
    (cond (eqb n 0x23) tag23
    (cond (eqb n 0x24) tag24
    (cond (eqb n 0x25) tag25
    (cond (eqb n 0x26) tag26 (cond (eqb n 0x27) tag27 (cond (eqb n 0x28) tag28 unknown)))))))

-- The inner lengths of question 2, and question 3.
unfoldable pub inner : Tag → List ℕ → Outcome Call
inner tag21 v = ask 2 (eqb (length v) 4) (accepted (start (number_at v 0 2) (number_at v 2 2)))
inner tag22 v = ask 2 (eqb (length v) 5) (accepted (tick_start (time_in v)))
inner tag23 v = ask 2 (eqb (length v) 0) (accepted tick_end)
inner tag24 v = ask 2 (filled_from v 22) (accepted (request tl_data (request_in v)))
inner tag25 v = ask 2 (filled_from v 22) (accepted (request tl_unitdata (request_in v)))
inner tag26 v = ask 2 (filled_from v 14) (accepted (frame (frame_in v)))
inner tag27 v = ask 2 (eqb (length v) 2) (accepted (by_receipt (get_or v 0 0) (report (get_or v 1 0))))
inner tag28 v = ask 2 (eqb (length v) 1) (accepted (by_receipt (get_or v 0 0) release))
inner unknown v = refused 3

-- "All tagged: one-byte tag, two-byte length, value; big-endian." The outer length of question 2.
unfoldable pub filled : List ℕ → Bool
filled b = leb 3 (length b) && eqb (length b) (3 + number_at b 1 2)

-- Bytes as a call, or number 2 or 3.
unfoldable pub parsed : List ℕ → Outcome Call
parsed b = ask 2 (filled b) (inner (tag_of (get_or b 0 0)) (drop 3 b))
