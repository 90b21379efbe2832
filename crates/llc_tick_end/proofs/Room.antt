-- Room for the records of a tick end on a state of which question 1 was passed.
use Prim.Native.Nat.{ℕ, ◌≤◌}
use native.Mathlib.Omega.{arith}
use mathlib.Core.Path.{◌≡◌, ◌∙◌}
use mathlib.Core.Bool.{Bool, true}
use mathlib.Core.List.{List, [], ◌∷◌, map}
use lib.ListN.{length, take, drop, length-map, length-take}
use Rattle.std.proofs.lemmas.Bool.{and_parts}
use Rattle.lists.specs.Lists.{all, All}
use Rattle.llc_rule.specs.Limits.{output_bytes}
use Rattle.llc_rule.specs.Messages.{Message}
use Rattle.llc_rule.specs.Records.{all_bytes}
use Rattle.llc_rule.specs.Sizes.{SmallSent, Small}
use Rattle.llc_rule.specs.Sound.{Within}
use Rattle.llc_rule.proofs.Room.{tick-end-room}
use Rattle.llc_state.specs.Ranges.{message_in_range, udata_in_range, state_in_range}
use Rattle.llc_state.specs.View.{place_bit, frame_at, sent_in, message_in, due_in, place_in, row_in, link_in}
use Rattle.llc_state.specs.declared.Entry.{Entry}
use Rattle.llc_state.specs.declared.State.{State}
use Rattle.llc_state.proofs.InRange.{range-tells}
use Rattle.llc_state.specs.Lengths.{Lengths}
use Rattle.llc_steps.specs.TickEnd.{tick_records}
use Rattle.llc_steps.proofs.TickEnd.{records-in}
use Rattle.llc_tick_end.proofs.Entries.{Measures, message-measures, udata-measures}

-- The first n of an array are at most n, and so is what they are made into.
few : {A : Type 0} (n : ℕ) (l : List A) → length (take n l) ≤ n
few n l = omega (arith, length-take n l)

few-made : {A B : Type 0} (g : A → B) (n : ℕ) (l : List A) → length (map g (take n l)) ≤ n
few-made g n l = omega (arith, length-map (take n l) g, few n l)

pub within_in : (s : State) (store : List ℕ) → Lengths s → state_in_range s ≡ true → Within (link_in s store)
unfolding link_in
within_in s store long h =
    let r = (range-tells s h).head in
    record {
      acknowledged = omega (arith, r.messages, few-made (message_in store) s.n_messages s.outbound_messages);
      unacknowledged = omega (arith, r.udata, few-made (sent_in store) s.n_udata s.outbound_udata_messages);
      due = omega (arith, r.acks, few-made due_in s.n_acks s.scheduled_out_acks);
      receipts = length-map s.receipts place_in ∙ long.places;
      rows = omega (arith, r.rows, few-made row_in s.n_rows s.link_send_seq);
    }

-- What all entries that pass a test are made into.
all_made :
    {A B : Type 0} (p : A → Bool) (P : B → Type 0) (g : A → B)
    → ((x : A) → p x ≡ true → P (g x))
    → (l : List A)
    → all p l ≡ true
    → All P (map g l)
unfolding all
all_made p P g f [] h = tt
all_made p P g f (x ∷ l) h = let t = and_parts (p x) (all p l) h in (f x t.0, all_made p P g f l t.1)

small-entry : (store : List ℕ) (e : Entry) → Measures e → SmallSent (sent_in store e)
unfolding sent_in frame_at
small-entry store e t =
    record {
      block = omega (arith, t.block, few e.sent.block_len e.sent.block);
      pdu = omega (arith, t.len, few e.frame.len (drop (place_bit e.frame.place) store));
    }

pub small-in : (s : State) (store : List ℕ) → state_in_range s ≡ true → Small (link_in s store)
unfolding link_in message_in
small-in s store h =
    let r = range-tells s h in
    record {
      acknowledged =
          all_made message_in_range (λ (m : Message). SmallSent m.sent) (message_in store) (λ e t. small-entry store e (message-measures e t))
          (take s.n_messages s.outbound_messages) r.messages;
      unacknowledged =
          all_made udata_in_range SmallSent (sent_in store) (λ e t. small-entry store e (udata-measures e t))
          (take s.n_udata s.outbound_udata_messages) r.udata;
    }

pub tick-room : (s : State) (store : List ℕ) → Lengths s → state_in_range s ≡ true → length (all_bytes (tick_records s store)) ≤ output_bytes
tick-room s store long h = rw (records-in store s) (tick-end-room (link_in s store) (within_in s store long h) (small-in s store h))
