-- "Each record of kind 1 with its receipt, while its request holds that, hands it down."
use Rattle.std.specs.Prelude.{ℕ, ◌≤◌, ◌≡◌, Bool, true, false, cond, List, [], ◌∷◌, ◌++◌, eqb, length}
use Rattle.std.proofs.Math.Option.{Option, none, some}
use Rattle.lists.specs.Lists.{All}
use Rattle.llc_pdus.specs.declared.Pdu.{Pdu}
use Rattle.llc_rule.specs.Calls.{Request}
use Rattle.llc_rule.specs.Records.{Record, acknowledged, reply, unacknowledged, data_up, unitdata_up, Sent}
use Rattle.llc_rule.specs.Messages.{sent_of}
use Rattle.llc_rule.specs.Runs.{Exchange}
use Rattle.llc_rule.specs.Past.{Holding, empties, takes, frees, stays, about, done_to}

-- The request for which a receipt is taken.
abbrev pub taker : Holding → Option Request
taker empties = none
taker (takes r) = some r
taker (frees i) = none
taker stays = none

-- The request that a call is.
abbrev pub request_spelled : List ℕ → Option Request
request_spelled bytes = taker (about bytes).to_holding

-- Does this end the holding of receipt i?
abbrev pub ends : ℕ → Holding → Bool
ends i empties = true
ends i (takes r) = false
ends i (frees j) = eqb j i
ends i stays = false

-- What is handed down with receipt i among some records.
unfoldable pub handed : ℕ → List Record → List Sent
handed i [] = []
handed i (acknowledged s ∷ rs) = cond (eqb s.receipt i) (s ∷ handed i rs) (handed i rs)
handed i (reply r ∷ rs) = handed i rs
handed i (unacknowledged s ∷ rs) = handed i rs
handed i (data_up u ∷ rs) = handed i rs
handed i (unitdata_up u ∷ rs) = handed i rs

-- And in a run, while the request that took receipt i before it holds that.
unfoldable pub sendings : ℕ → List Exchange → List Sent
sendings i [] = []
sendings i (e ∷ es) = cond (ends i (done_to e)) [] (handed i e.records ++ sendings i es)

-- At most four, and all the same: the request's message on one carrier, with one link id, behind one header.
pub record AtMostFour (r : Request) (ss : List Sent) : Type 0 where
  pub few : length ss ≤ 4
  pub carrier : ℕ
  pub link : ℕ
  pub header : Pdu
  pub same : All (λ (s : Sent). s ≡ sent_of r carrier link header) ss

-- Of every request that is accepted among some exchanges, by those that follow it.
pub record EachAtMostFour (es : List Exchange) : Type 0 where
  pub each :
      (before : List Exchange) (e : Exchange) (later : List Exchange) (r : Request)
      → es ≡ before ++ (e ∷ later)
      → e.number ≡ 0
      → request_spelled e.call ≡ some r
      → AtMostFour r (sendings r.receipt later)
