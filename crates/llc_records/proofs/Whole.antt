-- The records as the code puts them together, and the room that they take.
use Prim.Native.Nat.{ℕ, ◌+◌, ◌/◌}
use native.Mathlib.Omega.{arith}
use mathlib.Core.Path.{◌≡◌}
use mathlib.Core.Bool.{false}
use mathlib.Core.List.{List, ◌++◌, append_assoc}
use lib.ListN.{length}
use Rattle.bits.specs.Parts.{bits_of}
use Rattle.llc_pdus.specs.declared.Pdu.TheVariants.{BlAck}
use Rattle.llc_pdus.specs.Headers.{bit, header, option_of}
use Rattle.llc_rule.specs.Records.{number_field, masked, counted, counted_if_any, sent_bytes, reply_bytes, indication_bytes}
use Rattle.llc_rule.proofs.Records.{length-sent, length-reply, length-indication, length-masked, length-counted_if_any}
use Rattle.llc_records.specs.declared.SentRecord.{SentRecord}
use Rattle.llc_records.specs.declared.ReplyRecord.{ReplyRecord}
use Rattle.llc_records.specs.declared.IndicationRecord.{IndicationRecord}
use Rattle.bits.proofs.PartLaws.{length-bits_of}
use Rattle.llc_records.specs.Records.{sent, reply, indication, head_fields, end_fields, route_fields, steal_fields, down_fields, up_fields}

-- The fields in groups, and one behind the other.
regroup :
    (a b c d e f g h i j : List ℕ)
    → (a ++ (b ++ c)) ++ ((d ++ ((e ++ f) ++ g)) ++ ((h ++ i) ++ j))
    ≡ a ++ (b ++ (c ++ (d ++ (e ++ (f ++ (g ++ (h ++ (i ++ j))))))))
regroup a b c d e f g h i j = simp append_assoc

regroup-up : (a b c d e f : List ℕ) → (a ++ (b ++ c)) ++ ((d ++ e) ++ f) ≡ a ++ (b ++ (c ++ (d ++ (e ++ f))))
regroup-up a b c d e f = simp append_assoc

pub sent_is :
    (k : ℕ) (s : SentRecord)
    → head_fields k s.ssi s.ssi_type
    ++ (route_fields s.carrier s.link s.endpoint s.handle
    ++ (steal_fields s.steal (option_of s.mask) ++ down_fields s.receipt s.block.now (bits_of s.frame)))
    ≡ sent_bytes k (sent s)
unfolding sent_bytes
sent_is k s =
    regroup (number_field 0x01 1 k) (number_field 0x02 3 s.ssi) (number_field 0x03 1 s.ssi_type) (number_field 0x04 2 s.carrier)
    (number_field 0x05 4 s.link) (number_field 0x06 4 s.endpoint) (number_field 0x07 4 s.handle) (number_field 0x08 1 (bit s.steal))
    (masked (option_of s.mask))
    (down_fields s.receipt s.block.now (bits_of s.frame))

pub reply-is :
    (s : ReplyRecord)
    → head_fields 2 s.ssi s.ssi_type
    ++ (route_fields s.carrier s.link 0 0
    ++ (steal_fields s.steal (option_of s.mask) ++ counted (header (BlAck false s.nr))))
    ≡ reply_bytes (reply s)
unfolding reply_bytes
reply-is s =
    regroup (number_field 0x01 1 2) (number_field 0x02 3 s.ssi) (number_field 0x03 1 s.ssi_type) (number_field 0x04 2 s.carrier)
    (number_field 0x05 4 s.link) (number_field 0x06 4 0) (number_field 0x07 4 0) (number_field 0x08 1 (bit s.steal))
    (masked (option_of s.mask))
    (counted (header (BlAck false s.nr)))

pub indication-is :
    (k : ℕ) (s : IndicationRecord)
    → head_fields k s.ssi s.ssi_type ++ (end_fields s.link s.endpoint ++ up_fields s.block.now s.has_fcs (bits_of s.sdu))
    ≡ indication_bytes k (indication s)
unfolding indication_bytes
indication-is k s =
    regroup-up (number_field 0x01 1 k) (number_field 0x02 3 s.ssi) (number_field 0x03 1 s.ssi_type)
    (number_field 0x05 4 s.link) (number_field 0x06 4 s.endpoint)
    (up_fields s.block.now s.has_fcs (bits_of s.sdu))

-- How many bytes each takes.
pub size_sent :
    (k : ℕ) (s : SentRecord)
    → length (sent_bytes k (sent s))
    ≡ 56 + length (masked (option_of s.mask)) + length s.block.now + (s.frame.len + 7) / 8
size_sent k s =
    let size = length-sent k (sent s) in
    omega (arith, length-masked (option_of s.mask), length-bits_of s.frame)

pub size_reply : (s : ReplyRecord) → length (reply_bytes (reply s)) ≡ 50 + length (masked (option_of s.mask))
size_reply s = omega (arith, length-reply (reply s), length-masked (option_of s.mask))

pub size_indication :
    (k : ℕ) (s : IndicationRecord)
    → length (indication_bytes k (indication s)) ≡ 35 + length s.block.now + length (counted_if_any (bits_of s.sdu))
size_indication k s =
    let size = length-indication k (indication s) in
    omega (arith, length-counted_if_any (bits_of s.sdu))
