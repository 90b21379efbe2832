-- How a PDU with its SDU looks as a frame, for writing and for reading.
use Rattle.std.specs.Prelude.{ℕ, cond, List, [], ◌++◌}
use Rattle.fcs.specs.Fcs.{fcs_bits, fcs}
use Rattle.llc_pdus.specs.Headers.{header, has_fcs}
use Rattle.llc_pdus.specs.declared.Pdu.{Pdu}

-- How many bits of a frame behind its header are check bits.
abbrev pub check_bits : Pdu → ℕ
check_bits p = cond (has_fcs p) fcs_bits 0

-- "Every frame written with the flag carries the FCS of its SDU as its last 32 bits": of the SDU alone, also of an empty one.
abbrev pub check_sequence : Pdu → List ℕ → List ℕ
check_sequence p sdu = cond (has_fcs p) (fcs sdu) []

-- The header, behind it the SDU, and behind that its check bits.
unfoldable pub frame_bits : Pdu → List ℕ → List ℕ
frame_bits p sdu = header p ++ (sdu ++ check_sequence p sdu)
