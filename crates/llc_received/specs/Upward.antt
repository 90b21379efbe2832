-- What goes up of a frame.
use Rattle.std.specs.Prelude.{ℕ, Bool, List}
use Rattle.llc_rule.specs.Calls.{Frame}
use Rattle.llc_rule.specs.Records.{Indication}

-- Its SDU, with a link id and an FCS flag.
abbrev pub sent_up : Frame → ℕ → Bool → List ℕ → Indication
sent_up f link fcs sdu =
    record { ssi = f.ssi; type = f.type; link = link; endpoint = f.endpoint; block = f.block; fcs = fcs; sdu = sdu }
