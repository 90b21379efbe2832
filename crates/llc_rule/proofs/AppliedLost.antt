-- What Lost tells, applied: orders of the computed runs that left, where the clock stood, wrapped and jumped, as Lost and as
-- Discarded. The hypotheses are computed; four sendings, the reasons and the last report are then the theorem's.
use Prim.Native.Nat.{ℕ}
use mathlib.Core.Path.{◌≡◌, refl}
use mathlib.Core.Bool.{Bool, true, false}
use mathlib.Core.List.{List, [], ◌∷◌, ◌++◌, map}
use lib.ListN.{take, drop, get_or}
use Rattle.lists.specs.Lists.{any}
use Rattle.tx_receipt.specs.declared.TxState.TheVariants.{Discarded, Lost}
use Rattle.llc_rule.specs.Calls.{to_bytes, Request, request_in}
use Rattle.llc_rule.specs.Messages.{place_at}
use Rattle.llc_rule.specs.Link.{Link, new}
use Rattle.llc_rule.specs.Step.{step}
use Rattle.llc_rule.specs.Runs.{Exchange, exchange, left, run, after}
use Rattle.llc_rule.specs.Past.{about, done_to}
use Rattle.llc_rule.specs.Lost.{ordered, event_in, ends_holding, reads, reads_lost_or_discarded, LeftAfterFour, is_held}
use Rattle.llc_rule.proofs.Runs.{Told, exchanges}
use Rattle.llc_rule.proofs.Runs.Lost as Runs
use Rattle.llc_rule.proofs.Applied.{run-split}
use Rattle.llc_rule.proofs.Lost.{lost-run}

-- By the calls: those before the order, the order, and those after it.
module _ (before : List (List ℕ)) (c : List ℕ) (later : List (List ℕ)) where
  -- The exchanges up to the order, those later, and the link after all.
  abbrev pub up_to : List Exchange
  up_to = run new before ++ (exchange c (step (after new before) c) ∷ [])

  abbrev pub since : List Exchange
  since = run (left (after new before) (step (after new before) c)) later

  abbrev pub end : Link
  end = after new (before ++ (c ∷ later))

  -- An order that was accepted, whose request holds its receipt, and whose message is no longer held.
  pub record Gone (r : Request) : Type 0 where
    pub ordered : event_in (exchange c (step (after new before) c)) ≡ ordered r
    pub holds : any (ends_holding r.receipt) since ≡ false
    pub unheld : is_held r.receipt end.acknowledged ≡ false
    pub reads : reads_lost_or_discarded (place_at end.receipts r.receipt) ≡ true

  abbrev pub Left : Request → Type 0
  Left r = LeftAfterFour r.receipt up_to since (place_at end.receipts r.receipt)

  pub left_by : (r : Request) → Gone r → Left r
  left_by r g =
      ((lost-run (before ++ (c ∷ later))).each
      (run new before) (exchange c (step (after new before) c)) since r
      (run-split new before c later)
      g.ordered
      ).left g.holds g.unheld g.reads

-- Calls of a computed run.
abbrev calls_of : List Told → List (List ℕ)
calls_of ts = map (λ (t : Told). t.call) ts

unfoldable pub stands_calls : List (List ℕ)
unfolding Runs.stands
stands_calls = calls_of Runs.stands

unfoldable pub wraps_calls : List (List ℕ)
unfolding Runs.wraps
wraps_calls = calls_of Runs.wraps

unfoldable pub jumps_calls : List (List ℕ)
unfolding Runs.jumps
jumps_calls = calls_of Runs.jumps

-- The order that is call n of a run, and the calls behind it up to call m.
abbrev pub order_at : List (List ℕ) → ℕ → List ℕ
order_at cs n = get_or cs n []

abbrev pub request_at : List (List ℕ) → ℕ → Request
request_at cs n = request_in (drop 3 (order_at cs n))

abbrev pub between : List (List ℕ) → ℕ → ℕ → List (List ℕ)
between cs n m = take m (drop n cs)

-- The clock stands, with T251 1: an order that is Lost.
pub stands-lost-gone : Gone (take 2 stands_calls) (order_at stands_calls 2) (between stands_calls 3 39) (request_at stands_calls 2)
unfolding to_bytes any event_in done_to about run after request_in exchanges stands_calls
stands-lost-gone = record { ordered = refl; holds = refl; unheld = refl; reads = refl }

pub stands-lost : Left (take 2 stands_calls) (order_at stands_calls 2) (between stands_calls 3 39) (request_at stands_calls 2)
stands-lost = left_by (take 2 stands_calls) (order_at stands_calls 2) (between stands_calls 3 39) (request_at stands_calls 2) stands-lost-gone

-- The clock wraps, with T251 773 across the wrap: one that is Lost, and one that is Discarded, with T251 1.
pub wraps-lost-gone : Gone (take 2 wraps_calls) (order_at wraps_calls 2) (between wraps_calls 3 38) (request_at wraps_calls 2)
unfolding to_bytes any event_in done_to about run after request_in exchanges wraps_calls
wraps-lost-gone = record { ordered = refl; holds = refl; unheld = refl; reads = refl }

pub wraps-lost : Left (take 2 wraps_calls) (order_at wraps_calls 2) (between wraps_calls 3 38) (request_at wraps_calls 2)
wraps-lost = left_by (take 2 wraps_calls) (order_at wraps_calls 2) (between wraps_calls 3 38) (request_at wraps_calls 2) wraps-lost-gone

pub wraps-discarded-gone : Gone (take 58 wraps_calls) (order_at wraps_calls 58) (between wraps_calls 59 23) (request_at wraps_calls 58)
unfolding to_bytes any event_in done_to about run after request_in exchanges wraps_calls
wraps-discarded-gone = record { ordered = refl; holds = refl; unheld = refl; reads = refl }

pub wraps-discarded : Left (take 58 wraps_calls) (order_at wraps_calls 58) (between wraps_calls 59 23) (request_at wraps_calls 58)
wraps-discarded = left_by (take 58 wraps_calls) (order_at wraps_calls 58) (between wraps_calls 59 23) (request_at wraps_calls 58) wraps-discarded-gone

-- The clock jumps back by 1, by 5,000 and by half of all slots, and ahead by half of them less one: one that is Lost, and one that is
-- Discarded.
pub jumps-lost-gone : Gone (take 2 jumps_calls) (order_at jumps_calls 2) (between jumps_calls 3 21) (request_at jumps_calls 2)
unfolding to_bytes any event_in done_to about run after request_in exchanges jumps_calls
jumps-lost-gone = record { ordered = refl; holds = refl; unheld = refl; reads = refl }

pub jumps-lost : Left (take 2 jumps_calls) (order_at jumps_calls 2) (between jumps_calls 3 21) (request_at jumps_calls 2)
jumps-lost = left_by (take 2 jumps_calls) (order_at jumps_calls 2) (between jumps_calls 3 21) (request_at jumps_calls 2) jumps-lost-gone

pub jumps-discarded-gone : Gone (take 25 jumps_calls) (order_at jumps_calls 25) (between jumps_calls 26 24) (request_at jumps_calls 25)
unfolding to_bytes any event_in done_to about run after request_in exchanges jumps_calls
jumps-discarded-gone = record { ordered = refl; holds = refl; unheld = refl; reads = refl }

pub jumps-discarded : Left (take 25 jumps_calls) (order_at jumps_calls 25) (between jumps_calls 26 24) (request_at jumps_calls 25)
jumps-discarded = left_by (take 25 jumps_calls) (order_at jumps_calls 25) (between jumps_calls 26 24) (request_at jumps_calls 25) jumps-discarded-gone

-- What the five receipts read.
abbrev pub marks_of : List (List ℕ) → ℕ → ℕ → List Bool
marks_of cs n m =
    let p = place_at (after new (take m cs)).receipts (request_at cs n).receipt in
    reads Lost p ∷ reads Discarded p ∷ []

pub stands-marks : marks_of stands_calls 2 42 ≡ true ∷ false ∷ []
unfolding to_bytes run after request_in exchanges stands_calls
stands-marks = refl

pub wraps-marks : marks_of wraps_calls 2 41 ++ marks_of wraps_calls 58 82 ≡ true ∷ false ∷ false ∷ true ∷ []
unfolding to_bytes run after request_in exchanges wraps_calls
wraps-marks = refl

pub jumps-marks : marks_of jumps_calls 2 24 ++ marks_of jumps_calls 25 50 ≡ true ∷ false ∷ false ∷ true ∷ []
unfolding to_bytes run after request_in exchanges jumps_calls
jumps-marks = refl
