-- What of a received frame goes up.
use Rattle.std.specs.Prelude.{ℕ, List, [], ◌∷◌}
use Rattle.llc_pdus.specs.Headers.{has_fcs}
use Rattle.llc_pdus.specs.declared.Pdu.{Pdu}
use Rattle.llc_pdus.specs.declared.Pdu.TheVariants.{BlAdata, BlData, BlUdata, BlAck}
use Rattle.llc_rule.specs.Calls.{Frame}
use Rattle.llc_rule.specs.Records.{Record, data_up, unitdata_up, Indication}

-- What goes up of an SDU behind a header: "link id 0 except after BL-DATA and BL-ADATA".
abbrev pub indication : Frame → Pdu → ℕ → List ℕ → Indication
indication f p link sdu =
    record { ssi = f.ssi; type = f.type; link = link; endpoint = f.endpoint; block = f.block; fcs = has_fcs p; sdu = sdu }

-- "But BL-ACK with nothing left sends nothing up", so too "a BL-ACK with FCS and nothing else".
abbrev pub unless_empty : List ℕ → Record → List Record
unless_empty [] r = []
unless_empty (b ∷ l) r = r ∷ []

-- "Then the SDU goes up, as kind 5 after BL-UDATA and else as kind 4, also when it is empty."
unfoldable pub upward : Frame → Pdu → List ℕ → List Record
upward f (BlAdata c nr ns) sdu = data_up (indication f (BlAdata c nr ns) f.link sdu) ∷ []
upward f (BlData c ns) sdu = data_up (indication f (BlData c ns) f.link sdu) ∷ []
upward f (BlUdata c) sdu = unitdata_up (indication f (BlUdata c) 0 sdu) ∷ []
upward f (BlAck c nr) sdu = unless_empty sdu (data_up (indication f (BlAck c nr) 0 sdu))
