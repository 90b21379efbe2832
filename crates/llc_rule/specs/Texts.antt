-- What the desk is shown of a text that came in: "The desk shows four odd characters after any text that came with an FCS. From
-- now on a received SDU ends before its 32 check bits."
use Rattle.std.specs.Prelude.{ℕ, ◌≡◌, Bool, false, cond, List, [], ◌∷◌, ◌++◌}
use Rattle.std.specs.Bool.{beq}
use Rattle.std.proofs.Math.Option.{Option, none, some}
use Rattle.lists.specs.Lists.{among}
use Rattle.questions.specs.Outcome.{accepted}
use Rattle.llc_pdus.specs.Headers.{ns_of}
use Rattle.llc_pdus.specs.Frames.{frame_bits}
use Rattle.llc_pdus.specs.declared.Pdu.{Pdu}
use Rattle.llc_pdus.specs.declared.Pdu.TheVariants.{BlAdata, BlData, BlUdata, BlAck}
use Rattle.llc_rule.specs.Calls.{Frame, frame, parsed}
use Rattle.llc_rule.specs.Records.{Record, acknowledged, reply, unacknowledged, data_up, unitdata_up}
use Rattle.llc_rule.specs.Runs.{Exchange}
use Rattle.llc_rule.specs.Repeats.{last_heard}

-- The texts that records bring up.
unfoldable pub texts_in : List Record → List (List ℕ)
texts_in [] = []
texts_in (acknowledged s ∷ rs) = texts_in rs
texts_in (reply r ∷ rs) = texts_in rs
texts_in (unacknowledged s ∷ rs) = texts_in rs
texts_in (data_up i ∷ rs) = i.sdu ∷ texts_in rs
texts_in (unitdata_up i ∷ rs) = i.sdu ∷ texts_in rs

-- What a frame with a text should show: the text, also an empty one, but "a BL-ACK with FCS and nothing else sends nothing up",
-- nor does one without FCS.
abbrev pub shown : Pdu → List ℕ → List (List ℕ)
shown (BlAdata fcs nr ns) text = text ∷ []
shown (BlData fcs ns) text = text ∷ []
shown (BlUdata fcs) text = text ∷ []
shown (BlAck fcs nr) [] = []
shown (BlAck fcs nr) (b ∷ text) = (b ∷ text) ∷ []

-- A frame that is a PDU with a text.
pub record Framed (l : List ℕ) : Type 0 where
  pub pdu : Pdu
  pub text : List ℕ
  pub is : l ≡ frame_bits pdu text

-- Of a repeat nothing: by the last N(S) accepted from its address, and its own.
abbrev pub unless_last : Option Bool → Option Bool → List (List ℕ) → List (List ℕ)
unless_last last none texts = texts
unless_last none (some ns) texts = texts
unless_last (some last) (some ns) texts = cond (beq last ns) [] texts

-- Of a call that spells a frame of a PDU with a text, and with the check bits of that text where the flag is set, after some
-- exchanges: it is not refused by 9, 10, 11 or 12, and if it is accepted exactly the text goes up, of a repeat nothing. And no
-- other frame is accepted.
pub record TextGoesUp (before : List Exchange) (e : Exchange) : Type 0 where
  pub read :
      (f : Frame) (p : Pdu) (text : List ℕ)
      → parsed e.call ≡ accepted (frame f)
      → f.pdu ≡ frame_bits p text
      → among e.number (9 ∷ 10 ∷ 11 ∷ 12 ∷ []) ≡ false
  pub up :
      (f : Frame) (p : Pdu) (text : List ℕ)
      → parsed e.call ≡ accepted (frame f)
      → f.pdu ≡ frame_bits p text
      → e.number ≡ 0
      → texts_in e.records ≡ unless_last (last_heard f.ssi before) (ns_of p) (shown p text)
  pub only : (f : Frame) → parsed e.call ≡ accepted (frame f) → e.number ≡ 0 → Framed f.pdu

-- Of every call of a run.
pub record TextsGoUp (es : List Exchange) : Type 0 where
  pub each :
      (before : List Exchange) (e : Exchange) (later : List Exchange)
      → es ≡ before ++ (e ∷ later)
      → TextGoesUp before e
