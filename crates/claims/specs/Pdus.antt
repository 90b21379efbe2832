-- PDUs (llc_pdus).
use Rattle.std.specs.Prelude.{ℕ, ◌%◌, ◌*◌, ◌+◌, ◌<◌, ◌≤◌, ◌≡◌, List, ◌++◌, length, take, Ok}
use Rattle.questions.specs.Outcome.{accepted}
use Rattle.bits.specs.Bits.{AllBits, bits, part, splice, value}
use Rattle.llc_pdus.specs.Answers.{answered, read_from}
use Rattle.llc_pdus.specs.Headers.{Reading, header, reading}
use Rattle.llc_pdus.specs.Frames.{check_bits, frame_bits}
use Rattle.llc_pdus.specs.Received.{Received, received}
use Rattle.llc_pdus.specs.Types.{first_bits, from_raw, raw, type_of}
use Rattle.llc_pdus.specs.Sdus.{header_end, holding}
use Rattle.llc_pdus.specs.Writes.{frame}
use Rattle.llc_pdus.specs.declared.Pdu.{Pdu}
use Rattle.llc_pdus.specs.declared.Sdu.{Sdu}
use Rattle.llc_pdus.specs.declared.llc_pdu_type.LlcPduType.{LlcPduType}

pub record Pdus : Type 0 where
  -- What begins with a PDU's header reads as that PDU, with a header of so many bits.
  pub header-reads : (p : Pdu) (sdu : List ℕ) → reading (header p ++ sdu) ≡ accepted (record { pdu = p; size = length (header p) })
  -- A list of bits that reads as a PDU begins with its header.
  pub reading-header : (l : List ℕ) (r : Reading) → AllBits l → reading l ≡ accepted r → take r.size l ≡ header r.pdu
  -- Each type is the one with its number.
  pub from-raw : (t : LlcPduType) → from_raw (raw t) ≡ accepted t
  -- Its number is the one that the four bits of its PDUs spell.
  pub raw-bits : (t : LlcPduType) → value (first_bits t) ≡ raw t
  -- A header begins with the four bits of its PDU's type.
  pub header-type : (p : Pdu) → take 4 (header p) ≡ first_bits (type_of p)
  -- The bits of the bytes before the one that a header ends in, and its bits there, are all its bits.
  pub header-ends : (p : Pdu) → 8 * (header_end p).byte + (header_end p).bits ≡ length (header p)
  -- The bytes handed back hold the SDU, from the place beside them on.
  pub held-bits :
      (f : List ℕ) (first n : ℕ)
      → 0 < n
      → first + n ≤ 8 * length f
      → part (bits (holding f first n)) (first % 8) n ≡ part (bits f) first n
  -- The header of what was written reads back.
  pub reads-back :
      (p : Pdu) (l s : List ℕ) (from n : ℕ)
      → reading (take (length (frame p s from n)) (splice l 0 (frame p s from n))) ≡ accepted (record { pdu = p; size = length (header p) })
  -- Behind it stand the SDU bits.
  pub sdu-back :
      (p : Pdu) (l s : List ℕ) (from n : ℕ)
      → from + n ≤ length s
      → part (splice l 0 (frame p s from n)) (length (header p)) n ≡ part s from n
  -- It is received as the same PDU with the same SDU, with the FCS flag and without.
  pub received-back :
      (p : Pdu) (l s : List ℕ) (from n : ℕ)
      → received (take (length (frame p s from n)) (splice l 0 (frame p s from n))) ≡ accepted (record { header = p; sdu = part s from n })
  -- So many bits it has, with check bits or without.
  pub length-frame : (p : Pdu) (sdu : List ℕ) → length (frame_bits p sdu) ≡ length (header p) + length sdu + check_bits p
  -- A frame with its SDU, and with the check bits of that where the flag announces them, is received as that PDU with that SDU.
  pub frame-received : (p : Pdu) (sdu : List ℕ) → received (frame_bits p sdu) ≡ accepted (record { header = p; sdu = sdu })
  -- And nothing else is received.
  pub received-frame : (l : List ℕ) (r : Received) → AllBits l → received l ≡ accepted r → l ≡ frame_bits r.header r.sdu
  -- The bytes handed back of a frame that was read hold what it is received as.
  pub held-sdu :
      (f : List ℕ) (n : ℕ) (p : Pdu) (s : Sdu)
      → answered (Ok (p, s)) ≡ read_from (bits f) n
      → received (take n (bits f))
      ≡ accepted (record { header = p; sdu = part (bits (holding f s.first s.len)) s.place s.len })
