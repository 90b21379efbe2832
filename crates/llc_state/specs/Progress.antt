-- How far a message has come, and an entry that has come further.
use Rattle.std.specs.Prelude.{ℕ, Bool, true, false}
use Rattle.tdma_time.specs.Slots.{first}
use Rattle.tdma_time.specs.declared.TdmaTime.{TdmaTime}
use Rattle.llc_state.specs.declared.Progress.{Progress}
use Rattle.llc_state.specs.declared.Entry.{Entry}

-- A new message, by its N(S).
abbrev pub new_progress : Bool → Progress
new_progress ns =
    record {
      ns = ns;
      submitted_to_umac = false;
      has_umac_done = false;
      t_umac_done = first;
      retransmit_count = 0;
    }

-- As passed down after so many retransmissions.
abbrev pub submitted_after : ℕ → Progress → Progress
submitted_after k p =
    record {
      ns = p.ns;
      submitted_to_umac = true;
      has_umac_done = false;
      t_umac_done = p.t_umac_done;
      retransmit_count = k;
    }

-- With its done time.
abbrev pub done_at : TdmaTime → Progress → Progress
done_at t p =
    record {
      ns = p.ns;
      submitted_to_umac = p.submitted_to_umac;
      has_umac_done = true;
      t_umac_done = t;
      retransmit_count = p.retransmit_count;
    }

-- An entry that has come so far.
abbrev pub with_progress : Entry → Progress → Entry
with_progress e p = record { sent = e.sent; frame = e.frame; progress = p }
