-- Neither question 1 nor the link that lies in a state looks at a value that is not in use.
use Prim.Native.Nat.{ℕ}
use native.Mathlib.Omega.{arith}
use mathlib.Core.Path.{◌≡◌, refl, ap₂}
use mathlib.Core.Bool.{Bool, true, false, cond, ◌&&◌}
use mathlib.Core.List.{List, [], ◌∷◌, map}
use mathlib.Core.Option.{none, some}
use lib.Dec.{ltb}
use lib.ListN.{take, length-map, length-take}
use lib.Seq.{take_all}
use Rattle.lists.specs.Lists.{all}
use Rattle.tdma_time.specs.Slots.{valid, first}
use Rattle.llc_rule.specs.Messages.{free, taken}
use Rattle.llc_state.specs.Ranges.{if_there, sent_in_range, progress_in_range, entry_in_range, message_in_range, udata_in_range, row_in_range, place_in_range, head_in_range, state_in_range}
use Rattle.llc_state.specs.States.{no_progress}
use Rattle.llc_state.specs.Receipts.{receipt_of}
use Rattle.llc_state.specs.View.{frame_at, sent_in, message_in, place_in, row_in, link_in}
use Rattle.llc_state.specs.InUse.{used_sent, used_progress, used_of, used_message, used_udata, used_place, used_row, used}
use Rattle.llc_state.specs.declared.Progress.{Progress}
use Rattle.llc_state.specs.declared.Entry.{Entry}
use Rattle.llc_state.specs.declared.ReceiptPlace.{ReceiptPlace}
use Rattle.llc_state.specs.declared.LinkSendSeq.{LinkSendSeq}
use Rattle.llc_state.specs.declared.State.{State}

-- A value that is asked, or read, only where a flag says that it is there.
there-same : {A : Type 0} (b : Bool) (p : A → Bool) (x d : A) → if_there b (p (cond b x d)) ≡ if_there b (p x)
there-same true p x d = refl
there-same false p x d = refl

some_same : {A : Type 0} (b : Bool) (x d : A) → cond b (some (cond b x d)) none ≡ cond b (some x) none
some_same true x d = refl
some_same false x d = refl

module _ {A : Type 0} (g : A → A) where
  -- The first n of an array, and what is made of them.
  take-made : (n : ℕ) (l : List A) → take n (map g (take n l)) ≡ map g (take n l)
  take-made n l = take_all n (map g (take n l)) (omega (arith, length-map (take n l) g, length-take n l))

  map_same : {B : Type 0} (f : A → B) → ((x : A) → f (g x) ≡ f x) → (l : List A) → map f (map g l) ≡ map f l
  map_same f h [] = refl
  map_same f h (x ∷ l) = ap₂ ◌∷◌ (h x) (map_same f h l)

  all_same : (p : A → Bool) → ((x : A) → p (g x) ≡ p x) → (l : List A) → all p (map g l) ≡ all p l
  unfolding all
  all_same p h [] = refl
  all_same p h (x ∷ l) = ap₂ ◌&&◌ (h x) (all_same p h l)

take_twice : {A : Type 0} (n : ℕ) (l : List A) → take n (take n l) ≡ take n l
take_twice n l = take_all n (take n l) (omega (arith, length-take n l))

-- Question 1 -------------------------------------------------------------------------------------------------------------

entry-asked : (e : Entry) (p : Progress) → entry_in_range (used_of e p) ≡ entry_in_range e
unfolding entry_in_range sent_in_range used_sent
entry-asked e p = rw (there-same e.sent.has_mask (λ (m : ℕ). ltb m 16) e.sent.mask 0)

progress-asked : (p : Progress) → progress_in_range (used_progress p) ≡ progress_in_range p
unfolding progress_in_range used_progress
progress-asked p = rw (there-same p.has_umac_done valid p.t_umac_done first)

message-asked : (e : Entry) → message_in_range (used_message e) ≡ message_in_range e
unfolding message_in_range
message-asked e = rw (entry-asked e (used_progress e.progress), progress-asked e.progress)

udata-asked : (e : Entry) → udata_in_range (used_udata e) ≡ udata_in_range e
unfolding udata_in_range
udata-asked e = rw (entry-asked e no_progress)

place-asked : (p : ReceiptPlace) → place_in_range (used_place p) ≡ place_in_range p
unfolding place_in_range
place-asked p = there-same p.taken (λ (n : ℕ). ltb n 5) p.state 0

row-asked : (r : LinkSendSeq) → row_in_range (used_row r) ≡ row_in_range r
unfolding row_in_range
row-asked r = refl

pub used-asked : (s : State) → state_in_range (used s) ≡ state_in_range s
unfolding state_in_range head_in_range used
used-asked s =
    rw (
      take-made used_message s.n_messages s.outbound_messages,
      all_same used_message message_in_range message-asked (take s.n_messages s.outbound_messages),
      take-made used_udata s.n_udata s.outbound_udata_messages,
      all_same used_udata udata_in_range udata-asked (take s.n_udata s.outbound_udata_messages),
      take_twice s.n_acks s.scheduled_out_acks,
      take-made used_row s.n_rows s.link_send_seq,
      all_same used_row row_in_range row-asked (take s.n_rows s.link_send_seq),
      all_same used_place place_in_range place-asked s.receipts,
    )

-- The link ---------------------------------------------------------------------------------------------------------------

sent-seen : (store : List ℕ) (e : Entry) (p : Progress) → sent_in store (used_of e p) ≡ sent_in store e
unfolding sent_in frame_at used_sent
sent-seen store e p =
    rw (some_same e.sent.has_mask e.sent.mask 0, take_twice e.sent.block_len e.sent.block)

message-seen : (store : List ℕ) (e : Entry) → message_in store (used_message e) ≡ message_in store e
unfolding message_in used_progress
message-seen store e =
    rw (
      sent-seen store e (used_progress e.progress),
      some_same e.progress.has_umac_done e.progress.t_umac_done first,
    )

udata-seen : (store : List ℕ) (e : Entry) → sent_in store (used_udata e) ≡ sent_in store e
udata-seen store e = sent-seen store e no_progress

place-seen : (p : ReceiptPlace) → place_in (used_place p) ≡ place_in p
unfolding place_in
place-seen p = by_flag p.taken
  where
    by_flag :
        (b : Bool)
        → cond b (taken (receipt_of (record { taken = b; expects_ack = cond b p.expects_ack false; state = cond b p.state 0 }))) free
        ≡ cond b (taken (receipt_of p)) free
    by_flag true = refl
    by_flag false = refl

row_seen : (r : LinkSendSeq) → row_in (used_row r) ≡ row_in r
unfolding row_in
row_seen r = rw (some_same r.has_last_ns r.last_ns false)

pub used-seen : (s : State) (store : List ℕ) → link_in (used s) store ≡ link_in s store
unfolding link_in used
used-seen s store =
    rw (
      take-made used_message s.n_messages s.outbound_messages,
      map_same used_message (message_in store) (message-seen store) (take s.n_messages s.outbound_messages),
      take-made used_udata s.n_udata s.outbound_udata_messages,
      map_same used_udata (sent_in store) (udata-seen store) (take s.n_udata s.outbound_udata_messages),
      take_twice s.n_acks s.scheduled_out_acks,
      take-made used_row s.n_rows s.link_send_seq,
      map_same used_row row_in row_seen (take s.n_rows s.link_send_seq),
      map_same used_place place_in place-seen s.receipts,
    )
