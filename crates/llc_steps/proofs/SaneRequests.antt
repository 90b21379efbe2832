-- What a request leaves of a state and a store that passed question 1 passes it.
use Prim.Native.Nat.{ℕ, ◌+◌, ◌≤◌, ◌<◌}
use native.Mathlib.Omega.{arith}
use mathlib.Core.Path.{◌≡◌, ◌∙◌}
use mathlib.Core.Bool.{Bool, true, false}
use mathlib.Core.List.{List}
use borrow.Author.Tests.{ltb-true, lt-ltb}
use lib.Dec.{ltb}
use lib.ListN.{length}
use Rattle.lists.specs.Lists.{Found, nothing, first, others}
use Rattle.lists.proofs.Lists.{find-by}
use Rattle.lists.proofs.Choices.{either}
use Rattle.questions.specs.Outcome.{accepted}
use Rattle.questions.proofs.Asked.{by-question}
use Rattle.bits.specs.Bits.{splice}
use Rattle.bits.proofs.Laws.{length-splice}
use Rattle.llc_pdus.specs.Headers.{header, bdata, udata, ack, length_of}
use Rattle.llc_pdus.specs.Frames.{frame_bits}
use Rattle.llc_pdus.specs.Writes.{longest}
use Rattle.llc_pdus.specs.declared.Pdu.{Pdu}
use Rattle.llc_pdus.specs.declared.Pdu.TheVariants.{BlUdata, BlAck}
use Rattle.llc_pdus.proofs.Framing.{frame-least, frame-most, frame-short}
use Rattle.llc_rule.specs.Limits.{store_places}
use Rattle.llc_rule.specs.Calls.{Service, tl_data, tl_unitdata, Request}
use Rattle.llc_rule.specs.Ranges.{steals, wants_fcs, has_mask, request_in_range}
use Rattle.llc_rule.specs.Step.{on_acknowledged_path}
use Rattle.llc_rule.proofs.Ranges.{request-fields, request-lengths}
use Rattle.llc_state.specs.Ranges.{sent_in_range, entry_in_range, message_in_range, udata_in_range, ack_in_range, row_in_range}
use Rattle.llc_state.specs.View.{place_bit}
use Rattle.llc_state.specs.declared.ScheduledOutAck.{ScheduledOutAck}
use Rattle.llc_state.specs.declared.State.{State}
use Rattle.llc_state.proofs.InRange.{there-holds, new-fits, message-holds, udata-holds}
use Rattle.llc_steps.specs.States.{messages_of, udata_of, acks_of, rows_of, Kept}
use Rattle.llc_steps.specs.Places.{free_place}
use Rattle.llc_steps.specs.Calls.{entry_of, carrier_for, ack_for, seq_of, next_seq, data_pdu, with_acknowledged, with_unacknowledged, with_stolen, receipt_free, row_for, on_data, on_unitdata, on_request}
use Rattle.llc_steps.specs.Sane.{Sane, SaneAfter}
use Rattle.llc_steps.proofs.Places.{free-place}
use Rattle.llc_steps.proofs.SaneSetters.{places-full, pending-full, Used, one_more, others-used, sane-ready, messages-used, udata-used, acks-used, row_written, store-sane, messages-sane, udata-sane, acks-sane, places-sane, rows-sane}

module _ (r : Request) (s : State) (store : List ℕ) (ok : Sane s store) (ssi : r.ssi < 16777216) (h : request_in_range r ≡ true) where
  -- The new entry is in range, and its frame lies within the store.
  new-in-range : (c k place len : ℕ) (ns : Bool) → place < store_places → entry_in_range (entry_of r c k place len ns) ≡ true
  unfolding entry_in_range sent_in_range entry_of
  new-in-range c k place len ns inside =
      let t = request-fields r h in
      rw (lt-ltb r.ssi 16777216 ssi, t.type, there-holds {there = has_mask r} (λ e. t.mask), t.receipt, t.block, lt-ltb place store_places inside)

  sdu-short : length r.sdu ≤ longest
  sdu-short = (request-lengths r h).1

  message-in-range :
      (c place : ℕ) (ns : Bool) (p : Pdu)
      → place < store_places
      → length_of bdata ≤ length (header p)
      → message_in_range (entry_of r c 0 place (length (frame_bits p r.sdu)) ns) ≡ true
  unfolding entry_of
  message-in-range c place ns p inside low =
      message-holds _
      (record {
        entry = new-in-range c 0 place (length (frame_bits p r.sdu)) ns inside;
        low = frame-least bdata p r.sdu low;
        high = frame-short p r.sdu sdu-short;
        progress = new-fits ns;
      })

  udata-in-range :
      (c k place : ℕ) (p : Pdu)
      → place < store_places
      → length_of udata ≤ length (header p)
      → length (header p) ≤ length_of ack
      → udata_in_range (entry_of r c k place (length (frame_bits p r.sdu)) false) ≡ true
  unfolding entry_of
  udata-in-range c k place p inside low high =
      udata-holds _
      (record {
        entry = new-in-range c k place (length (frame_bits p r.sdu)) false inside;
        low = frame-least udata p r.sdu low;
        high = frame-most ack p r.sdu high sdu-short;
      })

  -- BL-DATA and BL-ADATA.
  data-header : (ns : Bool) (x : Found ScheduledOutAck) → length_of bdata ≤ length (header (data_pdu r ns x))
  data-header ns nothing = omega arith
  data-header ns (first a ds) = omega arith

  place_inside : s.n_messages + s.n_udata < store_places → free_place s < store_places
  place_inside few = let n = (sane-ready s store ok).counted in (free-place s (omega (arith, n.messages, n.udata))).0

  store_long : (p : Pdu) → free_place s < store_places → length (splice store (place_bit (free_place s)) (frame_bits p r.sdu)) ≡ length store
  store_long p inside = length-splice store (place_bit (free_place s)) (frame_bits p r.sdu) (omega (arith, ok.long, frame-short p r.sdu sdu-short))

  -- The acknowledgements due less the one that is used up.
  acks-but : Used ack_in_range 64 (others (ack_for r s) (acks_of s))
  unfolding ack_for
  acks-but = others-used ack_in_range 64 _ (acks_of s) (ack_for r s) (find-by _ (acks_of s)) (acks-used s store ok)

  -- A message put last, acknowledged or not.
  acknowledged-sane : row_for r.ssi s ≡ true → ltb s.n_messages 64 ≡ true → SaneAfter (accepted (with_acknowledged r s store))
  unfolding with_acknowledged row_in_range
  acknowledged-sane row room =
      let q = sane-ready s store ok in
      let less : s.n_messages < 64 = ltb-true s.n_messages 64 room in
      let ns : Bool = (seq_of r.ssi (rows_of s)).vs in
      let p : Pdu = data_pdu r ns (ack_for r s) in
      let inside = place_inside (omega (arith, less, q.few_too)) in
      let messages =
      one_more message_in_range 64 (messages_of s) _ (omega (arith, less, q.counted.messages))
      (message-in-range (carrier_for r s) (free_place s) ns p inside (data-header ns (ack_for r s)))
      (messages-used s store ok)
      in
      rows-sane
      (places-sane
      (acks-sane (messages-sane (store-sane ok (store_long p inside ∙ ok.long)) messages) acks-but)
      (pending-full true r.receipt s.receipts (places-full s store ok)))
      (row_written s store ok r.ssi (next_seq r.ssi (seq_of r.ssi (rows_of s))) row (lt-ltb r.ssi 16777216 ssi))

  unacknowledged-sane :
      (k : ℕ) (p : Pdu) (ds : List ScheduledOutAck)
      → length_of udata ≤ length (header p)
      → length (header p) ≤ length_of ack
      → Used ack_in_range 64 ds
      → ltb s.n_udata 32 ≡ true
      → SaneAfter (accepted (with_unacknowledged r k p ds s store))
  unfolding with_unacknowledged
  unacknowledged-sane k p ds low high d room =
      let q = sane-ready s store ok in
      let less : s.n_udata < 32 = ltb-true s.n_udata 32 room in
      let inside = place_inside (omega (arith, less, q.few)) in
      let messages =
      one_more udata_in_range 32 (udata_of s) _ (omega (arith, less, q.counted.udata))
      (udata-in-range (carrier_for r s) k (free_place s) p inside low high)
      (udata-used s store ok)
      in
      places-sane
      (acks-sane (udata-sane (store-sane ok (store_long p inside ∙ ok.long)) messages) d)
      (pending-full false r.receipt s.receipts (places-full s store ok))

  stolen-sane :
      (f : Found ScheduledOutAck)
      → Used ack_in_range 64 (others f (acks_of s))
      → ltb s.n_udata 32 ≡ true
      → SaneAfter (accepted (with_stolen r s store f))
  unfolding with_stolen
  stolen-sane nothing d room = unacknowledged-sane 0 (BlUdata false) (acks_of s) (omega arith) (omega arith) d room
  stolen-sane (first a ds) d room = unacknowledged-sane r.link (BlAck (wants_fcs r) a.nr) ds (omega arith) (omega arith) d room

  -- The two requests.
  data-sane : SaneAfter (on_data r s store)
  unfolding on_data
  data-sane =
      by-question SaneAfter 6 (receipt_free r s) tt
      (λ free.
      either SaneAfter (on_acknowledged_path r)
      (by-question SaneAfter 7 (row_for r.ssi s) tt (λ row. by-question SaneAfter 8 (ltb s.n_messages 64) tt (λ room. acknowledged-sane row room)))
      (by-question SaneAfter 8 (ltb s.n_udata 32) tt
      (λ room.
      either (λ (k : Kept). SaneAfter (accepted k)) (steals r)
      (stolen-sane (ack_for r s) acks-but room)
      (stolen-sane nothing (acks-used s store ok) room))))

  unitdata-sane : SaneAfter (on_unitdata r s store)
  unfolding on_unitdata
  unitdata-sane =
      by-question SaneAfter 6 (receipt_free r s) tt
      (λ free.
      by-question SaneAfter 8 (ltb s.n_udata 32) tt
      (λ room. unacknowledged-sane r.link (BlUdata false) (acks_of s) (omega arith) (omega arith) (acks-used s store ok) room))

  pub request-sane : (v : Service) → SaneAfter (on_request v r s store)
  request-sane tl_data = data-sane
  request-sane tl_unitdata = unitdata-sane
