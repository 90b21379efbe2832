-- Question 1 of a state gives what a call needs of it.
use Prim.Native.Nat.{ℕ, ◌*◌}
use native.Mathlib.Omega.{arith}
use mathlib.Core.Path.{◌≡◌}
use mathlib.Core.Bool.{Bool, true}
use mathlib.Core.List.{List, [], ◌∷◌}
use lib.ListN.{length}
use lib.Seq.{length-take-le}
use Rattle.std.proofs.lemmas.Bool.{and_parts}
use Rattle.lists.specs.Lists.{all, All}
use Rattle.llc_rule.specs.Limits.{store_bytes}
use Rattle.llc_state.specs.Ranges.{message_in_range, udata_in_range, state_in_range}
use Rattle.llc_state.specs.declared.Entry.{Entry}
use Rattle.llc_state.specs.declared.State.{State}
use Rattle.llc_state.proofs.InRange.{entry-tells, message-tells, udata-tells, range-tells}
use Rattle.llc_state.specs.Lengths.{Lengths}
use Rattle.llc_steps.specs.Holds.{Stored, Ready}
use Rattle.llc_steps.specs.States.{messages_of, udata_of}

message-stored : (e : Entry) → message_in_range e ≡ true → Stored e
message-stored e h = let m = message-tells e h in ((entry-tells e m.entry).place, m.high)

udata-stored : (e : Entry) → udata_in_range e ≡ true → Stored e
udata-stored e h = let u = udata-tells e h in ((entry-tells e u.entry).place, omega (arith, u.high))

all-stored : (p : Entry → Bool) → ((e : Entry) → p e ≡ true → Stored e) → (es : List Entry) → all p es ≡ true → All Stored es
unfolding all
all-stored p f [] h = tt
all-stored p f (e ∷ es) h = let t = and_parts (p e) (all p es) h in (f e t.0, all-stored p f es t.1)

-- The arrays have their lengths in every state that the code has (`lengths` of llc_state).
pub ready : (s : State) (store : List ℕ) → Lengths s → state_in_range s ≡ true → length store ≡ 8 * store_bytes → Ready s store
ready s store long h e =
    let r = range-tells s h in
    record {
      counted =
          record {
            messages = length-take-le s.n_messages s.outbound_messages (omega (arith, long.messages, r.head.messages));
            udata = length-take-le s.n_udata s.outbound_udata_messages (omega (arith, long.udata, r.head.udata));
            acks = length-take-le s.n_acks s.scheduled_out_acks (omega (arith, long.acks, r.head.acks));
            rows = length-take-le s.n_rows s.link_send_seq (omega (arith, long.rows, r.head.rows));
          };
      long = e;
      messages = all-stored message_in_range message-stored (messages_of s) r.messages;
      udata = all-stored udata_in_range udata-stored (udata_of s) r.udata;
      few = r.head.messages;
      few_too = r.head.udata;
    }
