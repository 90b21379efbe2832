-- What Lost tells (llc_rule specs/Lost.antt), of runs of the entry point: spelled out; met by computed runs; and what it refuses.
use Rattle.std.specs.Prelude.{ℕ, ◌≤◌, ◌≡◌, Bool, true, false, ◌||◌, List, [], ◌∷◌, ◌++◌, eqb, pos, length, take}
use Rattle.lists.specs.Lists.{any}
use Rattle.tdma_time.specs.Slots.{minus}
use Rattle.tx_receipt.specs.declared.TxState.TheVariants.{Discarded, Transmitted, Lost, Acknowledged}
use Rattle.llc_rule.specs.Calls.{Request}
use Rattle.llc_rule.specs.Messages.{Message, Place, place_at}
use Rattle.llc_rule.specs.Runs.{Exchange}
use Rattle.llc_rule.specs.Past.{frees, done_to}
use Rattle.llc_rule.specs.Sendings.{handed, sendings}
use Rattle.llc_rule.specs.Lost.{tick_ended, ordered, reported_on, event_in, ends_tick, reports, sends, ends_holding, clock_after, reads, LeftAfterFour, is_held, LostAfterFour}
use Rattle.llc_rule.proofs.AppliedLost.{stands_calls, wraps_calls, jumps_calls, order_at, request_at, between, Left, marks_of}
use Rattle.llc_rule.proofs.StatementsLost.{starts, orders, sends_it, to_early, to_sooner, to_old_report, to_unreported, twice, by_report, three, four, five, seventh, held_message}
use Rattle.llc_runs.specs.Claim.{receipts_after, messages_after}
use Rattle.llc_runs.specs.Runs.{Lent, begin, left, exchange, run}
use Rattle.llc_runs.proofs.Instance.{zero_store, lent_first, lent_second, opening_lents}
use Rattle.llc_runs.proofs.Applied.{asked_at}
use Rattle.llc_runs.proofs.AppliedLost.{held_lents, lost_lents}

-- An order r that was accepted in a run, by the exchanges before it and those later.
pub record Ordered (store : List ℕ) (cs : List Lent) (before : List Exchange) (e : Exchange) (later : List Exchange) (r : Request) : Type 0 where
  pub there : run (begin store) cs ≡ before ++ (e ∷ later)
  pub order : event_in e ≡ ordered r

-- The exchanges since the request are these: a sending, the one report on it and the first tick end after that, with none of the kind
-- between; and now less the time of that tick end is T251 or more, unless it is below zero.
abbrev pub Because : ℕ → List Exchange → List Exchange → Type 0
Because i asked since =
    (a : List Exchange)
    × ((s : Exchange)
    × ((b : List Exchange)
    × ((p : Exchange)
    × ((how : ℕ)
    × ((c : List Exchange)
    × ((t : Exchange)
    × ((d : List Exchange)
    × ((since ≡ a ++ (s ∷ (b ++ (p ∷ (c ++ (t ∷ d))))))
    × ((sends i s ≡ true)
    × ((event_in p ≡ reported_on i how)
    × ((event_in t ≡ tick_ended)
    × ((any (sends i) (b ++ (p ∷ (c ++ (t ∷ d)))) ≡ false)
    × ((any (reports i) b ≡ false)
    × ((any (reports i) (c ++ (t ∷ d)) ≡ false)
    × ((any ends_tick c ≡ false)
    × ((n : ℕ)
    → minus (clock_after (asked ++ since)).time (clock_after (asked ++ (a ++ (s ∷ (b ++ (p ∷ c)))))).time ≡ pos n
    → (clock_after (asked ++ since)).t251 ≤ n))))))))))))))))

-- The last report on receipt i.
abbrev pub LastReport : ℕ → List Exchange → ℕ → Type 0
LastReport i later how =
    (a : List Exchange)
    × ((p : Exchange)
    × ((b : List Exchange) × ((later ≡ a ++ (p ∷ b)) × ((event_in p ≡ reported_on i how) × (any (reports i) b ≡ false)))))

module _
    (store : List ℕ) (cs : List Lent) (before : List Exchange) (e : Exchange) (later : List Exchange) (r : Request)
  where
    -- The place of its receipt, and whether its message is held.
    abbrev pub place : Place
    place = place_at (receipts_after store cs) r.receipt

    abbrev pub held : Bool
    held = is_held r.receipt (messages_after store cs)

    -- While its request holds its receipt.
    pub record OfOrder : Type 0 where
      -- A message that is no longer held and reads Lost or Discarded has been handed down exactly four times.
      pub four :
          any (ends_holding r.receipt) later ≡ false
          → held ≡ false
          → reads Lost place || reads Discarded place ≡ true
          → length (sendings r.receipt later) ≡ 4
      -- It leaves in no other way, and is not held where it reads Acknowledged or Lost.
      pub ended :
          any (ends_holding r.receipt) later ≡ false
          → held ≡ false
          → reads Acknowledged place || (reads Lost place || reads Discarded place) ≡ true
      pub over :
          any (ends_holding r.receipt) later ≡ false
          → reads Acknowledged place || reads Lost place ≡ true
          → held ≡ false
      -- Each sending is one record of a tick end; each after the first has its reason.
      pub sent :
          (since : List Exchange) (d : Exchange) (behind : List Exchange)
          → later ≡ since ++ (d ∷ behind)
          → any (ends_holding r.receipt) since ≡ false
          → sends r.receipt d ≡ true
          → (event_in d ≡ tick_ended) × (length (handed r.receipt d.records) ≡ 1)
      pub resent :
          (since : List Exchange) (d : Exchange) (behind : List Exchange)
          → later ≡ since ++ (d ∷ behind)
          → any (ends_holding r.receipt) since ≡ false
          → sends r.receipt d ≡ true
          → any (sends r.receipt) since ≡ true
          → Because r.receipt (before ++ (e ∷ [])) since
      -- Lost exactly if the last report was transmitted, Discarded exactly if it was discarded.
      pub told :
          any (ends_holding r.receipt) later ≡ false
          → held ≡ false
          → reads Lost place || reads Discarded place ≡ true
          → (how : ℕ)
          × (LastReport r.receipt later how × ((reads Lost place ≡ eqb how 1) × (reads Discarded place ≡ eqb how 2)))

pub record OrdersLost : Type 0 where
  pub of_each :
      (store : List ℕ) (cs : List Lent) (before : List Exchange) (e : Exchange) (later : List Exchange) (r : Request)
      → Ordered store cs before e later r
      → OfOrder store cs before e later r
  -- What has left is released then and not before, and its receipt reads as it did.
  pub released :
      (store : List ℕ) (before : List Lent) (c : Lent) (e : Exchange) (i : ℕ)
      → run (begin store) (before ++ (c ∷ [])) ≡ run (begin store) before ++ (e ∷ [])
      → done_to e ≡ frees i
      → is_held i (messages_after store before) ≡ false
  pub stays :
      (store : List ℕ) (before : List Lent) (c : Lent) (e : Exchange) (i : ℕ)
      → run (begin store) (before ++ (c ∷ [])) ≡ run (begin store) before ++ (e ∷ [])
      → ends_holding i e ≡ false
      → is_held i (messages_after store before) ≡ false
      → reads Lost (place_at (receipts_after store before) i) ≡ true
      → place_at (receipts_after store (before ++ (c ∷ []))) i ≡ place_at (receipts_after store before) i
  -- Met by an order of the instance, in a run of the entry point.
  pub reads-lost : reads Lost (place_at (receipts_after zero_store lost_lents) 0x22) ≡ true
  pub lost-lents :
      LeftAfterFour 0x22 (run (begin zero_store) (opening_lents ++ (lent_first ∷ [])) ++ (exchange asked_at lent_second ∷ []))
      (run (left asked_at lent_second) held_lents) (place_at (receipts_after zero_store lost_lents) 0x22)
  -- Met by orders of computed runs, where the clock stands, wraps and jumps.
  pub stands-lost : Left (take 2 stands_calls) (order_at stands_calls 2) (between stands_calls 3 39) (request_at stands_calls 2)
  pub wraps-lost : Left (take 2 wraps_calls) (order_at wraps_calls 2) (between wraps_calls 3 38) (request_at wraps_calls 2)
  pub wraps-discarded : Left (take 58 wraps_calls) (order_at wraps_calls 58) (between wraps_calls 59 23) (request_at wraps_calls 58)
  pub jumps-lost : Left (take 2 jumps_calls) (order_at jumps_calls 2) (between jumps_calls 3 21) (request_at jumps_calls 2)
  pub jumps-discarded : Left (take 25 jumps_calls) (order_at jumps_calls 25) (between jumps_calls 26 24) (request_at jumps_calls 25)
  pub stands-marks : marks_of stands_calls 2 42 ≡ true ∷ false ∷ []
  pub wraps-marks : marks_of wraps_calls 2 41 ++ marks_of wraps_calls 58 82 ≡ true ∷ false ∷ false ∷ true ∷ []
  pub jumps-marks : marks_of jumps_calls 2 24 ++ marks_of jumps_calls 25 50 ≡ true ∷ false ∷ false ∷ true ∷ []
  -- Histories that wrong links would give do not meet it.
  pub early-refused : (ps : List Place) (ms : List Message) → LostAfterFour (starts ∷ orders ∷ (to_early ++ (sends_it ∷ []))) ps ms → ⊥
  pub at-the-report-refused : (ps : List Place) (ms : List Message) → LostAfterFour (starts ∷ orders ∷ (to_sooner ++ (sends_it ∷ []))) ps ms → ⊥
  pub old-report-refused : (ps : List Place) (ms : List Message) → LostAfterFour (starts ∷ orders ∷ (to_old_report ++ (sends_it ∷ []))) ps ms → ⊥
  pub unreported-refused : (ps : List Place) (ms : List Message) → LostAfterFour (starts ∷ orders ∷ (to_unreported ++ (sends_it ∷ []))) ps ms → ⊥
  pub twice-refused : (ps : List Place) (ms : List Message) → LostAfterFour (starts ∷ orders ∷ twice) ps ms → ⊥
  pub by-a-report-refused : (ps : List Place) (ms : List Message) → LostAfterFour (starts ∷ orders ∷ by_report) ps ms → ⊥
  pub five-refused : (ps : List Place) (ms : List Message) → LostAfterFour (starts ∷ orders ∷ five) ps ms → ⊥
  pub three-refused : LostAfterFour (starts ∷ orders ∷ three) (seventh Lost) [] → ⊥
  pub vanished-refused : LostAfterFour (starts ∷ orders ∷ three) (seventh Transmitted) [] → ⊥
  pub held-lost-refused : LostAfterFour (starts ∷ orders ∷ three) (seventh Lost) (held_message ∷ []) → ⊥
  pub lost-though-discarded-refused : LostAfterFour (starts ∷ orders ∷ four) (seventh Lost) [] → ⊥
