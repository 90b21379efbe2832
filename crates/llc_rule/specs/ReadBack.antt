-- What a handset makes of the frames that are handed down: "Handsets throw away our frames that have the FCS flag, because no FCS
-- follows. Every frame written with the flag carries the FCS of its SDU as its last 32 bits".
use Rattle.std.specs.Prelude.{ℕ, ◌≤◌, ◌≡◌, Bool, false, List, [], ◌∷◌, ◌++◌, length}
use Rattle.std.proofs.Math.Option.{some}
use Rattle.lists.specs.Lists.{All}
use Rattle.questions.specs.Outcome.{accepted}
use Rattle.llc_pdus.specs.Headers.{has_fcs}
use Rattle.llc_pdus.specs.Received.{received}
use Rattle.llc_pdus.specs.declared.Pdu.{Pdu}
use Rattle.llc_pdus.specs.declared.Pdu.TheVariants.{BlAdata, BlData, BlUdata, BlAck}
use Rattle.llc_rule.specs.Calls.{Request}
use Rattle.llc_rule.specs.Limits.{longest_frame}
use Rattle.llc_rule.specs.Past.{HeldBy, nobody, Holding, taken_by, done_to}
use Rattle.llc_rule.specs.Ranges.{wants_fcs}
use Rattle.llc_rule.specs.Records.{Record, acknowledged, reply, unacknowledged, data_up, unitdata_up, Sent}
use Rattle.llc_rule.specs.Runs.{Exchange}

-- Which request holds each receipt, after something is done to holding, and after some exchanges.
abbrev pub Requests : Type 0
Requests = HeldBy Request

abbrev pub requests_then : Holding → Requests → Requests
requests_then x h = taken_by (λ (r : Request). r) x h

unfoldable pub requests_from : Requests → List Exchange → Requests
requests_from h [] = h
requests_from h (e ∷ es) = requests_from (requests_then (done_to e) h) es

-- And after those of a run.
abbrev pub requests_after : List Exchange → Requests
requests_after es = requests_from nobody es

-- The FCS flag of a request's frame: the one that it asks for, in a BL-UDATA never.
abbrev pub flag_in : Request → Pdu → Bool
flag_in r (BlAdata fcs nr ns) = wants_fcs r
flag_in r (BlData fcs ns) = wants_fcs r
flag_in r (BlUdata fcs) = false
flag_in r (BlAck fcs nr) = wants_fcs r

-- Bits that are read as a request's frame: no longer than question 5 lets a frame be, passed by questions 9 to 12, and then
-- exactly the request's SDU is left.
pub record ReadAs (r : Request) (l : List ℕ) : Type 0 where
  pub pdu : Pdu
  pub flag : has_fcs pdu ≡ flag_in r pdu
  pub short : length l ≤ longest_frame
  pub read : received l ≡ accepted (record { header = pdu; sdu = r.sdu })

-- What is handed down with a receipt is the frame of the request that holds it.
pub record Carries (h : Requests) (s : Sent) : Type 0 where
  pub request : Request
  pub holds : h s.receipt ≡ some request
  pub reads : ReadAs request s.pdu

-- A reply is read as a BL-ACK without flag and SDU.
pub record ReadAsReply (l : List ℕ) : Type 0 where
  pub nr : Bool
  pub read : received l ≡ accepted (record { header = BlAck false nr; sdu = [] })

-- Of each record that hands something down, by the requests that hold receipts when it comes.
abbrev pub ReadBack : Requests → Record → Type 0
ReadBack h (acknowledged s) = Carries h s
ReadBack h (reply r) = ReadAsReply r.pdu
ReadBack h (unacknowledged s) = Carries h s
ReadBack h (data_up i) = Unit {0}
ReadBack h (unitdata_up i) = Unit {0}

-- Of every record of a run.
pub record AllReadBack (es : List Exchange) : Type 0 where
  pub each :
      (before : List Exchange) (e : Exchange) (later : List Exchange)
      → es ≡ before ++ (e ∷ later)
      → All (ReadBack (requests_after before)) e.records
