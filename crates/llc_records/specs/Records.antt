-- What the structs of a record say.
use Rattle.std.specs.Prelude.{ℕ, Bool, false, List, ◌++◌}
use Rattle.std.proofs.Math.Option.{Option}
use Rattle.bits.specs.Parts.{bits_of}
use Rattle.llc_pdus.specs.declared.Pdu.TheVariants.{BlAck}
use Rattle.llc_pdus.specs.Headers.{bit, header, option_of}
use Rattle.llc_rule.specs.Records.{Sent, Reply, Indication, field, number_field, masked, counted, counted_if_any}
use Rattle.llc_records.specs.declared.SentRecord.{SentRecord}
use Rattle.llc_records.specs.declared.ReplyRecord.{ReplyRecord}
use Rattle.llc_records.specs.declared.IndicationRecord.{IndicationRecord}

-- A message, with its block and its PDU.
abbrev pub sent : SentRecord → Sent
sent s =
    record {
      ssi = s.ssi;
      type = s.ssi_type;
      carrier = s.carrier;
      link = s.link;
      endpoint = s.endpoint;
      handle = s.handle;
      steal = s.steal;
      mask = option_of s.mask;
      receipt = s.receipt;
      block = s.block.now;
      pdu = bits_of s.frame;
    }

-- A reply: its PDU is a BL-ACK without FCS flag.
abbrev pub reply : ReplyRecord → Reply
reply s =
    record {
      ssi = s.ssi;
      type = s.ssi_type;
      carrier = s.carrier;
      link = s.link;
      steal = s.steal;
      mask = option_of s.mask;
      pdu = header (BlAck false s.nr);
    }

-- What goes up of a frame, with its block and its SDU.
abbrev pub indication : IndicationRecord → Indication
indication s =
    record {
      ssi = s.ssi;
      type = s.ssi_type;
      link = s.link;
      endpoint = s.endpoint;
      block = s.block.now;
      fcs = s.has_fcs;
      sdu = bits_of s.sdu;
    }

-- Fields that the code writes together: 01 to 03, 05 and 06, 04 to 07, 08 and 09, 0A to 0C, and 0B, 0D and 0C.
abbrev pub head_fields : ℕ → ℕ → ℕ → List ℕ
head_fields kind ssi type = number_field 0x01 1 kind ++ (number_field 0x02 3 ssi ++ number_field 0x03 1 type)

abbrev pub end_fields : ℕ → ℕ → List ℕ
end_fields link endpoint = number_field 0x05 4 link ++ number_field 0x06 4 endpoint

abbrev pub route_fields : ℕ → ℕ → ℕ → ℕ → List ℕ
route_fields carrier link endpoint handle = number_field 0x04 2 carrier ++ (end_fields link endpoint ++ number_field 0x07 4 handle)

abbrev pub steal_fields : Bool → Option ℕ → List ℕ
steal_fields steal mask = number_field 0x08 1 (bit steal) ++ masked mask

abbrev pub down_fields : ℕ → List ℕ → List ℕ → List ℕ
down_fields receipt block pdu = number_field 0x0A 1 receipt ++ (field 0x0B block ++ counted pdu)

abbrev pub up_fields : List ℕ → Bool → List ℕ → List ℕ
up_fields block fcs sdu = field 0x0B block ++ (number_field 0x0D 1 (bit fcs) ++ counted_if_any sdu)
