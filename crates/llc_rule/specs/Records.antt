-- Document 01, "Calls and records", the records: the kinds 1 to 5 with their fields, and their bytes.
use Rattle.std.specs.Prelude.{ℕ, zero, suc, ◌+◌, ◌/◌, Bool, List, [], ◌∷◌, ◌++◌, length, take, drop, replicate}
use Rattle.std.proofs.Math.Option.{Option, none, some}
use Rattle.bits.specs.Bits.{value}
use Rattle.llc_pdus.specs.Headers.{bit}
use Rattle.llc_rule.specs.Calls.{to_bytes}

-- A message as it is handed down.
pub record Sent : Type 0 where
  pub ssi : ℕ
  pub type : ℕ
  pub carrier : ℕ
  pub link : ℕ
  pub endpoint : ℕ
  pub handle : ℕ
  pub steal : Bool
  pub mask : Option ℕ
  pub receipt : ℕ
  pub block : List ℕ
  pub pdu : List ℕ

-- An acknowledgement reply as it is handed down.
pub record Reply : Type 0 where
  pub ssi : ℕ
  pub type : ℕ
  pub carrier : ℕ
  pub link : ℕ
  pub steal : Bool
  pub mask : Option ℕ
  pub pdu : List ℕ

-- What a received frame sends up.
pub record Indication : Type 0 where
  pub ssi : ℕ
  pub type : ℕ
  pub link : ℕ
  pub endpoint : ℕ
  pub block : List ℕ
  pub fcs : Bool
  pub sdu : List ℕ

-- "01 kind (1 acknowledged, 2 reply, 3 unacknowledged, 4 data up, 5 unitdata up)"
pub data Record : Type 0 where
  acknowledged : Sent → Record
  reply : Reply → Record
  unacknowledged : Sent → Record
  data_up : Indication → Record
  unitdata_up : Indication → Record

-- The number of its kind, its field 01.
abbrev pub kind : Record → ℕ
kind (acknowledged s) = 1
kind (reply r) = 2
kind (unacknowledged s) = 3
kind (data_up i) = 4
kind (unitdata_up i) = 5

-- The SSI of a record, its field 02.
abbrev pub ssi_of : Record → ℕ
ssi_of (acknowledged s) = s.ssi
ssi_of (reply r) = r.ssi
ssi_of (unacknowledged s) = s.ssi
ssi_of (data_up i) = i.ssi
ssi_of (unitdata_up i) = i.ssi

-- "One-byte tag, two-byte length, value."
abbrev pub field : ℕ → List ℕ → List ℕ
field tag v = tag ∷ to_bytes 2 (length v) ++ v

-- A number of n bytes as a field.
abbrev pub number_field : ℕ → ℕ → ℕ → List ℕ
number_field tag n v = field tag (to_bytes n v)

-- n bytes of bits, the first bit of a byte its highest.
unfoldable pub packed : ℕ → List ℕ → List ℕ
packed zero l = []
packed (suc n) l = value (take 8 l) ∷ packed n (drop 8 l)

-- Bits as bytes, spare bits zero.
abbrev pub pack : List ℕ → List ℕ
pack l = packed ((length l + 7) / 8) (l ++ replicate 7 0)

-- "0C bit count and bits"
unfoldable pub counted : List ℕ → List ℕ
counted l = field 0x0C (to_bytes 2 (length l) ++ pack l)

-- "09 mask if present", and "0C if an SDU is left".
unfoldable pub masked : Option ℕ → List ℕ
masked none = []
masked (some m) = number_field 0x09 1 m

unfoldable pub counted_if_any : List ℕ → List ℕ
counted_if_any [] = []
counted_if_any (b ∷ l) = counted (b ∷ l)

-- "Fields in tag order save that 0C comes last: 01 kind, 02 SSI, 03 type, 04 carrier, 05 link, 06 endpoint, 07 handle,
-- 08 steal, 09 mask if present, 0A receipt, 0B block, 0D FCS flag, 0C bit count and bits. Replies lack 0A, 0B, 0D and carry
-- zeros for endpoint and handle; kinds 1 and 3 lack 0D."
unfoldable pub sent_bytes : ℕ → Sent → List ℕ
sent_bytes kind s =
    number_field 0x01 1 kind
    ++ (number_field 0x02 3 s.ssi
    ++ (number_field 0x03 1 s.type
    ++ (number_field 0x04 2 s.carrier
    ++ (number_field 0x05 4 s.link
    ++ (number_field 0x06 4 s.endpoint
    ++ (number_field 0x07 4 s.handle
    ++ (number_field 0x08 1 (bit s.steal)
    ++ (masked s.mask ++ (number_field 0x0A 1 s.receipt ++ (field 0x0B s.block ++ counted s.pdu))))))))))

unfoldable pub reply_bytes : Reply → List ℕ
reply_bytes r =
    number_field 0x01 1 2
    ++ (number_field 0x02 3 r.ssi
    ++ (number_field 0x03 1 r.type
    ++ (number_field 0x04 2 r.carrier
    ++ (number_field 0x05 4 r.link
    ++ (number_field 0x06 4 0 ++ (number_field 0x07 4 0 ++ (number_field 0x08 1 (bit r.steal) ++ (masked r.mask ++ counted r.pdu))))))))

-- "Up records hold 01, 02, 03, 05, 06, 0B, 0D, and 0C if an SDU is left."
unfoldable pub indication_bytes : ℕ → Indication → List ℕ
indication_bytes kind i =
    number_field 0x01 1 kind
    ++ (number_field 0x02 3 i.ssi
    ++ (number_field 0x03 1 i.type
    ++ (number_field 0x05 4 i.link
    ++ (number_field 0x06 4 i.endpoint ++ (field 0x0B i.block ++ (number_field 0x0D 1 (bit i.fcs) ++ counted_if_any i.sdu))))))

-- The bytes of a record, and of several.
unfoldable pub bytes : Record → List ℕ
bytes (acknowledged s) = sent_bytes 1 s
bytes (reply r) = reply_bytes r
bytes (unacknowledged s) = sent_bytes 3 s
bytes (data_up i) = indication_bytes 4 i
bytes (unitdata_up i) = indication_bytes 5 i

unfoldable pub all_bytes : List Record → List ℕ
all_bytes [] = []
all_bytes (r ∷ rs) = bytes r ++ all_bytes rs
