-- What the link keeps for all addresses and the one-address rule for its own: the same lists, and beside them the rows.
use Rattle.std.specs.Prelude.{ℕ, Bool, false, List, []}
use Rattle.std.proofs.Math.Option.{Option, none, some}
use Rattle.tdma_time.specs.Slots.{first}
use Rattle.tdma_time.specs.declared.TdmaTime.{TdmaTime}
use Rattle.llc_rule.specs.Records.{Sent}
use Rattle.llc_rule.specs.Messages.{Message, Due, Place, no_receipts}

-- What an address row holds beside its SSI: the bit that the next acknowledged message takes as N(S), and "the last N(S) accepted
-- from that SSI, or that there is none".
pub record Numbers : Type 0 where
  pub bit : Bool
  pub last : Option Bool

-- Before the first of each: "the row's bit (first 0)".
abbrev pub no_numbers : Numbers
no_numbers = record { bit = false; last = none }

-- The same with another bit, and with a last N(S).
abbrev pub with_bit : Numbers → Bool → Numbers
with_bit n b = record { bit = b; last = n.last }

abbrev pub with_last : Numbers → Bool → Numbers
with_last n ns = record { bit = n.bit; last = some ns }

-- With R for the rows.
pub record Keeps (R : Type 0) : Type 0 where
  pub started : Bool
  pub carrier : ℕ
  pub t251 : ℕ
  pub time : TdmaTime
  pub acknowledged : List Message
  pub unacknowledged : List Sent
  pub due : List Due
  pub receipts : List Place
  pub rows : R

module _ {R : Type 0} where
  -- Nothing is held: all lists are empty, and the time is the first.
  abbrev pub nothing_held : Bool → ℕ → ℕ → R → Keeps R
  nothing_held started carrier t251 rows =
      record {
        started = started;
        carrier = carrier;
        t251 = t251;
        time = first;
        acknowledged = [];
        unacknowledged = [];
        due = [];
        receipts = no_receipts;
        rows = rows;
      }

  -- The same at another time, and with other acknowledged or unacknowledged messages, acknowledgements due, receipts or rows.
  abbrev pub with_time : Keeps R → TdmaTime → Keeps R
  with_time k t =
      record {
        started = k.started;
        carrier = k.carrier;
        t251 = k.t251;
        time = t;
        acknowledged = k.acknowledged;
        unacknowledged = k.unacknowledged;
        due = k.due;
        receipts = k.receipts;
        rows = k.rows;
      }

  abbrev pub acknowledged_now : Keeps R → List Message → Keeps R
  acknowledged_now k ms =
      record {
        started = k.started;
        carrier = k.carrier;
        t251 = k.t251;
        time = k.time;
        acknowledged = ms;
        unacknowledged = k.unacknowledged;
        due = k.due;
        receipts = k.receipts;
        rows = k.rows;
      }

  abbrev pub unacknowledged_now : Keeps R → List Sent → Keeps R
  unacknowledged_now k us =
      record {
        started = k.started;
        carrier = k.carrier;
        t251 = k.t251;
        time = k.time;
        acknowledged = k.acknowledged;
        unacknowledged = us;
        due = k.due;
        receipts = k.receipts;
        rows = k.rows;
      }

  abbrev pub due_now : Keeps R → List Due → Keeps R
  due_now k ds =
      record {
        started = k.started;
        carrier = k.carrier;
        t251 = k.t251;
        time = k.time;
        acknowledged = k.acknowledged;
        unacknowledged = k.unacknowledged;
        due = ds;
        receipts = k.receipts;
        rows = k.rows;
      }

  abbrev pub with_receipts : Keeps R → List Place → Keeps R
  with_receipts k ps =
      record {
        started = k.started;
        carrier = k.carrier;
        t251 = k.t251;
        time = k.time;
        acknowledged = k.acknowledged;
        unacknowledged = k.unacknowledged;
        due = k.due;
        receipts = ps;
        rows = k.rows;
      }

  abbrev pub with_rows : Keeps R → R → Keeps R
  with_rows k rs =
      record {
        started = k.started;
        carrier = k.carrier;
        t251 = k.t251;
        time = k.time;
        acknowledged = k.acknowledged;
        unacknowledged = k.unacknowledged;
        due = k.due;
        receipts = k.receipts;
        rows = rs;
      }
