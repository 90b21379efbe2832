-- What is claimed of every run of the entry point: any store, any list of calls, each a list of bytes and an output of any
-- length and content.
use Rattle.std.specs.Prelude.{ℕ, ◌*◌, ◌≡◌, true, not, List, map, eqb, length}
use Rattle.llc_rule.specs.Records.{bytes, all_bytes}
use Rattle.llc_rule.specs.Messages.{Message, Place}
use Rattle.llc_rule.specs.Link.{Link, new}
use Rattle.llc_rule.specs.Runs as Rule
use Rattle.llc_rule.specs.Runs.{Exchange}
use Rattle.llc_rule.specs.Seen.{unhindered, SeesItsOwnPast}
use Rattle.llc_rule.specs.Claim.{Claims}
use Rattle.record_lines.specs.Split.{in_lines, lines_of_records}
use Rattle.llc_state.specs.Ranges.{state_in_range}
use Rattle.llc_state.specs.View.{link_in}
use Rattle.llc_steps.specs.Answers.{laid_out}
use Rattle.llc.specs.Entry.{lent_right, call_of}
use Rattle.llc_runs.specs.Runs.{Lent, Station, begin, given, exchange, run, after}
use Rattle.llc_runs.specs.Heard.{heard_of, put_to}
use Rattle.llc_runs.specs.Outputs.{in_output, ReadOff}

-- The link that state and store hold.
abbrev pub link_at : Station → Link
link_at s = link_in s.state s.store

-- The output of a call holds the records that it gave, from the front on, and then the bytes that it held before; and the
-- answer tells how many bytes are records.
pub record Shown (s : Station) (c : Lent) : Type 0 where
  pub out : (call_of s.state s.store c.out c.call).out ≡ laid_out (given s c) c.out
  pub len : (call_of s.state s.store c.out c.call).answer.len ≡ length (all_bytes (given s c))

-- "The new state and every state that a call of a run leaves have all counts and values within range, so that in a run number 1
-- tells only of a lent length that is wrong."
pub record InRange (store : List ℕ) (cs : List Lent) : Type 0 where
  pub state : state_in_range (after (begin store) cs).state ≡ true
  pub number : (c : Lent) → eqb (exchange (after (begin store) cs) c).number 1 ≡ not (lent_right (after (begin store) cs).store c.out)
  -- A store is right or wrong for a whole run.
  pub length : length (after (begin store) cs).store ≡ 8 * length store

-- Its numbers and records are those of `step`'s run on the calls that are put to the link, and so is the link that it leaves.
-- Only this rules out an engine that loses places, so that a released receipt or a place in a queue cannot be had again: each
-- later request for it is refused with 6, 7, 8 or 13, so the run is hindered and demand 3 says nothing of it.
pub record AsStep (store : List ℕ) (cs : List Lent) : Type 0 where
  pub heard : heard_of (run (begin store) cs) ≡ Rule.run new (put_to store cs)
  pub link : link_at (after (begin store) cs) ≡ Rule.after new (put_to store cs)

-- The receipts that a run leaves.
abbrev pub receipts_after : List ℕ → List Lent → List Place
receipts_after store cs = (link_at (after (begin store) cs)).receipts

-- The acknowledged messages that it leaves.
abbrev pub messages_after : List ℕ → List Lent → List Message
messages_after store cs = (link_at (after (begin store) cs)).acknowledged

pub record Claim : Type 0 where
  pub shown : (s : Station) (c : Lent) → Shown s c
  pub in_range : (store : List ℕ) (cs : List Lent) → InRange store cs
  pub as_step : (store : List ℕ) (cs : List Lent) → AsStep store cs
  -- What lies in the outputs of a run reads as its records, and as no others: bytes determine records without a condition.
  pub readable : (store : List ℕ) (cs : List Lent) → ReadOff (begin store) cs (run (begin store) cs)
  pub only :
      (store : List ℕ) (cs : List Lent) (es : List Exchange) → ReadOff (begin store) cs es → es ≡ run (begin store) cs
  -- And is cut into one line for each record.
  pub lines :
      (store : List ℕ) (before : List Lent) (c : Lent)
      → lines_of_records (in_output (after (begin store) before) c) ≡ in_lines (map bytes (given (after (begin store) before) c))
  -- Demand 3 and what follows from it, of the runs from any store.
  pub runs : (store : List ℕ) → Claims (λ (c : Lent). c.call) (run (begin store)) (receipts_after store) (messages_after store)
  -- Demand 3 of what somebody reads off the answers and outputs alone.
  pub demand3_read :
      (store : List ℕ) (cs : List Lent) (es : List Exchange)
      → ReadOff (begin store) cs es
      → unhindered es ≡ true
      → (a : ℕ)
      → SeesItsOwnPast es (receipts_after store cs) a
