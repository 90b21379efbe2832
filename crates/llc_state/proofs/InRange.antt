-- What question 1 tells of a state, part by part.
use Prim.Native.Nat.{◌≤◌, ◌<◌, ℕ}
use native.Mathlib.Omega.{arith}
use mathlib.Core.Path.{◌≡◌, refl}
use mathlib.Core.Bool.{Bool, true, false, ◌&&◌}
use borrow.Author.Clash.{clash}
use borrow.Author.Tests.{leb-true, ltb-true, le-leb}
use lib.Dec.{leb, ltb}
use lib.ListN.{take}
use Rattle.std.proofs.lemmas.Bool.{and_parts, and_from}
use Rattle.lists.specs.Lists.{all}
use Rattle.tdma_time.specs.Slots.{valid}
use Rattle.tdma_time.specs.declared.TdmaTime.{TdmaTime}
use Rattle.llc_pdus.specs.Headers.{bdata, udata, ack, length_of}
use Rattle.llc_pdus.specs.Writes.{longest_of, longest_sent}
use Rattle.llc_rule.specs.Limits.{store_places}
use Rattle.llc_rule.specs.Ranges.{is_type, is_receipt}
use Rattle.llc_state.specs.Progress.{new_progress, submitted_after, done_at, with_progress}
use Rattle.llc_state.specs.Ranges.{if_there, is_ssi, sent_in_range, progress_in_range, entry_in_range, message_in_range, udata_in_range, ack_in_range, row_in_range, place_in_range, head_in_range, state_in_range}
use Rattle.llc_state.specs.declared.Progress.{Progress}
use Rattle.llc_state.specs.declared.Entry.{Entry}
use Rattle.llc_state.specs.declared.State.{State}

-- A flag and what is asked where it says so.
pub there-tells : {there fits : Bool} → if_there there fits ≡ true → there ≡ true → fits ≡ true
there-tells {there = true} h e = h
there-tells {there = false} h e = clash _ e refl

pub there-holds : {there fits : Bool} → (there ≡ true → fits ≡ true) → if_there there fits ≡ true
there-holds {there = true} f = f refl
there-holds {there = false} f = refl

-- An entry of either queue.
pub record Held (e : Entry) : Type 0 where
  pub receipt : e.sent.receipt < 128
  pub block : e.sent.block_len ≤ 64
  pub place : e.frame.place < store_places

pub entry-tells : (e : Entry) → entry_in_range e ≡ true → Held e
unfolding entry_in_range sent_in_range
entry-tells e h =
    let c = and_parts (sent_in_range e.sent) (ltb e.frame.place store_places) h in
    let b = and_parts _ (leb e.sent.block_len 64) c.0 in
    let a =
    and_parts (is_ssi e.sent.ssi && is_type e.sent.ssi_type && if_there e.sent.has_mask (ltb e.sent.mask 16)) (is_receipt e.sent.receipt) b.0
    in
    record { receipt = ltb-true _ _ a.1; block = leb-true _ _ b.1; place = ltb-true _ _ c.1 }

-- How far a message has come: what is told of it, and what leaves it in range.
pub record Come (p : Progress) : Type 0 where
  pub count : p.retransmit_count ≤ 3
  pub done : p.has_umac_done ≡ true → valid p.t_umac_done ≡ true

pub progress-tells : (p : Progress) → progress_in_range p ≡ true → Come p
unfolding progress_in_range
progress-tells p h =
    let b =
    and_parts (leb p.retransmit_count 3) (if_there p.has_umac_done (valid p.t_umac_done)) h
    in
    record { count = leb-true _ _ b.0; done = there-tells b.1 }

progress-holds : (p : Progress) → Come p → progress_in_range p ≡ true
unfolding progress_in_range
progress-holds p c = rw (le-leb p.retransmit_count 3 c.count, there-holds c.done)

pub new-fits : (ns : Bool) → progress_in_range (new_progress ns) ≡ true
new-fits ns = progress-holds (new_progress ns) (record { count = omega arith; done = λ t. clash _ t refl })

pub submitted-fits : (k : ℕ) (p : Progress) → k ≤ 3 → progress_in_range (submitted_after k p) ≡ true
submitted-fits k p few = progress-holds (submitted_after k p) (record { count = few; done = λ t. clash _ t refl })

pub done-fits : (time : TdmaTime) (p : Progress) → valid time ≡ true → progress_in_range p ≡ true → progress_in_range (done_at time p) ≡ true
done-fits time p v h = progress-holds (done_at time p) (record { count = (progress-tells p h).count; done = λ t. v })

-- One of the acknowledged queue.
pub record Message (e : Entry) : Type 0 where
  pub entry : entry_in_range e ≡ true
  pub low : length_of bdata ≤ e.frame.len
  pub high : e.frame.len ≤ longest_sent
  pub progress : progress_in_range e.progress ≡ true

pub message-tells : (e : Entry) → message_in_range e ≡ true → Message e
unfolding message_in_range
message-tells e h =
    let c = and_parts _ (progress_in_range e.progress) h in
    let b = and_parts _ (leb e.frame.len longest_sent) c.0 in
    let a = and_parts (entry_in_range e) (leb (length_of bdata) e.frame.len) b.0 in
    record { entry = a.0; low = leb-true _ _ a.1; high = leb-true _ _ b.1; progress = c.1 }

pub message-holds : (e : Entry) → Message e → message_in_range e ≡ true
unfolding message_in_range
message-holds e m =
    rw (
      m.entry,
      le-leb (length_of bdata) e.frame.len m.low,
      le-leb e.frame.len longest_sent m.high,
      m.progress,
    )

pub come-fits : (e : Entry) (p : Progress) → message_in_range e ≡ true → progress_in_range p ≡ true → message_in_range (with_progress e p) ≡ true
unfolding entry_in_range
come-fits e p h k =
    let m = message-tells e h in
    message-holds (with_progress e p) (record { entry = m.entry; low = m.low; high = m.high; progress = k })

-- One of the unacknowledged queue.
pub record Udata (e : Entry) : Type 0 where
  pub entry : entry_in_range e ≡ true
  pub low : length_of udata ≤ e.frame.len
  pub high : e.frame.len ≤ longest_of ack

pub udata-tells : (e : Entry) → udata_in_range e ≡ true → Udata e
unfolding udata_in_range
udata-tells e h =
    let b = and_parts _ (leb e.frame.len (longest_of ack)) h in
    let a = and_parts (entry_in_range e) (leb (length_of udata) e.frame.len) b.0 in
    record { entry = a.0; low = leb-true _ _ a.1; high = leb-true _ _ b.1 }

pub udata-holds : (e : Entry) → Udata e → udata_in_range e ≡ true
unfolding udata_in_range
udata-holds e u = rw (u.entry, le-leb (length_of udata) e.frame.len u.low, le-leb e.frame.len (longest_of ack) u.high)

-- The counts, and T251 and the time once they are set.
pub record Head (s : State) : Type 0 where
  pub messages : s.n_messages ≤ 64
  pub udata : s.n_udata ≤ 32
  pub acks : s.n_acks ≤ 64
  pub rows : s.n_rows ≤ 256
  pub timer : s.started ≡ true → ltb 0 s.t251 ≡ true
  pub time : s.started ≡ true → valid s.dltime ≡ true

pub head-tells : (s : State) → head_in_range s ≡ true → Head s
unfolding head_in_range
head-tells s h =
    let e = and_parts _ (if_there s.started (ltb 0 s.t251 && valid s.dltime)) h in
    let d = and_parts _ (leb s.n_rows 256) e.0 in
    let c = and_parts _ (leb s.n_acks 64) d.0 in
    let b = and_parts _ (leb s.n_udata 32) c.0 in
    record {
      messages = leb-true _ _ b.0;
      udata = leb-true _ _ b.1;
      acks = leb-true _ _ c.1;
      rows = leb-true _ _ d.1;
      timer = λ t. (and_parts _ (valid s.dltime) (there-tells e.1 t)).0;
      time = λ t. (and_parts (ltb 0 s.t251) _ (there-tells e.1 t)).1;
    }

pub head-holds : (s : State) → Head s → head_in_range s ≡ true
unfolding head_in_range
head-holds s h =
    rw (
      le-leb s.n_messages 64 h.messages,
      le-leb s.n_udata 32 h.udata,
      le-leb s.n_acks 64 h.acks,
      le-leb s.n_rows 256 h.rows,
      there-holds {there = s.started} {fits = ltb 0 s.t251 && valid s.dltime} (λ t. and_from _ _ (h.timer t) (h.time t)),
    )

-- The whole state.
pub record InRange (s : State) : Type 0 where
  pub head : Head s
  pub messages : all message_in_range (take s.n_messages s.outbound_messages) ≡ true
  pub udata : all udata_in_range (take s.n_udata s.outbound_udata_messages) ≡ true
  pub acks : all ack_in_range (take s.n_acks s.scheduled_out_acks) ≡ true
  pub rows : all row_in_range (take s.n_rows s.link_send_seq) ≡ true
  pub places : all place_in_range s.receipts ≡ true

pub range-tells : (s : State) → state_in_range s ≡ true → InRange s
unfolding state_in_range
range-tells s h =
    let e = and_parts _ (all place_in_range s.receipts) h in
    let d = and_parts _ (all row_in_range (take s.n_rows s.link_send_seq)) e.0 in
    let c = and_parts _ (all ack_in_range (take s.n_acks s.scheduled_out_acks)) d.0 in
    let b = and_parts _ (all udata_in_range (take s.n_udata s.outbound_udata_messages)) c.0 in
    let a = and_parts _ (all message_in_range (take s.n_messages s.outbound_messages)) b.0 in
    record { head = head-tells s a.0; messages = a.1; udata = b.1; acks = c.1; rows = d.1; places = e.1 }

pub in-range : (s : State) → InRange s → state_in_range s ≡ true
unfolding state_in_range
in-range s r = rw (head-holds s r.head, r.messages, r.udata, r.acks, r.rows, r.places)
