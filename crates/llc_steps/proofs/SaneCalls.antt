-- What a frame, a report and a release leave of a state that passed question 1 passes it.
use Prim.Native.Nat.{ℕ, ◌≤◌, ◌<◌}
use native.Mathlib.Omega.{arith}
use mathlib.Core.Path.{◌≡◌}
use mathlib.Core.Bool.{Bool, true, not, ◌&&◌}
use mathlib.Core.List.{List}
use mathlib.Core.Option.{Option, none, some}
use borrow.Author.Tests.{ltb-true, lt-ltb, le-leb}
use lib.Dec.{leb}
use lib.IntN.{negsuc}
use lib.ListN.{length}
use Rattle.std.proofs.lemmas.Bool.{and_parts}
use Rattle.lists.specs.Lists.{Found, nothing, first}
use Rattle.lists.proofs.Lists.{FoundBy, find-by}
use Rattle.lists.proofs.Choices.{either}
use Rattle.questions.specs.Outcome.{Outcome, accepted, refused}
use Rattle.questions.proofs.Asked.{by-question}
use Rattle.tdma_time.specs.Slots.{plus}
use Rattle.tdma_time.specs.declared.TdmaTime.{TdmaTime}
use Rattle.tdma_time.proofs.Laws.{plus-valid}
use Rattle.tdma_time.proofs.Range as Time
use Rattle.tx_receipt.specs.States.{is, final}
use Rattle.tx_receipt.specs.Marks as Marks
use Rattle.tx_receipt.specs.declared.TxState.TheVariants.{Pending}
use Rattle.llc_pdus.specs.Headers.{ns_of, nr_of}
use Rattle.llc_pdus.specs.Received.{Received}
use Rattle.llc_rule.specs.Limits.{longest_frame}
use Rattle.llc_rule.specs.Calls.{Action, report, release, Frame}
use Rattle.llc_rule.specs.Messages.{slot_before, mark_of}
use Rattle.llc_rule.specs.Ranges.{is_type, frame_in_range}
use Rattle.llc_state.specs.Ranges.{ack_in_range, message_in_range, row_in_range}
use Rattle.llc_state.specs.Receipts.{receipt_of, place_of}
use Rattle.llc_state.specs.declared.Entry.{Entry}
use Rattle.llc_state.specs.declared.State.{State}
use Rattle.llc_steps.specs.States.{messages_of, acks_of, rows_of}
use Rattle.llc_steps.specs.Calls.{seq_of, heard_seq, row_if_numbered, ack_room, numbered, expected, fits, may_finish, answered_by, answered, on_received, held, waits, on_report, on_release, on_receipt}
use Rattle.llc_steps.specs.Sane.{Sane, SaneAfter}
use Rattle.llc_steps.proofs.SaneSetters.{one_more, found_first, behind-first, sane-ready, places-full, marked-full, freed-full, messages-used, acks-used, row_written, messages-sane, acks-sane, places-sane, rows-sane}

-- Frames ------------------------------------------------------------------------------------------------------------------

-- The slot of a reply is one of the four.
slot-in-range : (time : TdmaTime) → (1 ≤ slot_before time) × (slot_before time ≤ 4)
unfolding slot_before
slot-in-range time =
    let r = Time.in_range (plus time (negsuc 1)) (plus-valid time (negsuc 1)) in (r.t-low, r.t-high)

-- The messages less the one that was acknowledged, or with it moved to the front.
module _ (s : State) (store : List ℕ) (ok : Sane s store) where
  answered-by-sane : (nr : Bool) (p : Entry → Bool) (x : Found Entry) → FoundBy p (messages_of s) x → Sane (answered_by nr x s) store
  unfolding answered_by
  answered-by-sane nr p nothing by = ok
  answered-by-sane nr p (first e es) by =
      let moved = found_first message_in_range 64 p (messages_of s) e es by (messages-used s store ok) in
      either (λ (t : State). Sane t store) (fits nr e)
      (places-sane (messages-sane ok (behind-first message_in_range 64 e es moved))
      (marked-full Marks.acknowledged e.sent.receipt s.receipts (places-full s store ok)))
      (messages-sane ok moved)

  answered-sane : (f : Frame) (x : Option Bool) → Sane (answered f x s) store
  unfolding expected
  answered-sane f none = ok
  answered-sane f (some nr) = answered-by-sane nr _ (expected f s) (find-by _ (messages_of s))

module _ (f : Frame) (s : State) (store : List ℕ) (ok : Sane s store) (ssi : f.ssi < 16777216) (h : frame_in_range f ≡ true) where
  -- The new acknowledgement due and the row are in range, and there is room for them.
  type-in-range : is_type f.type ≡ true
  unfolding frame_in_range
  type-in-range = (and_parts _ (leb (length f.block) 64) (and_parts _ (leb (length f.pdu) longest_frame) h).0).0

  new-in-range :
      (ns : Bool)
      → ack_in_range (record { ssi = f.ssi; ssi_type = f.type; carrier_num = f.carrier; nr = ns; ts = slot_before s.dltime }) ≡ true
  unfolding ack_in_range
  new-in-range ns =
      let t = slot-in-range s.dltime in
      rw (lt-ltb f.ssi 16777216 ssi, type-in-range, le-leb 1 (slot_before s.dltime) t.0, le-leb (slot_before s.dltime) 4 t.1)

  numbered-sane :
      (x : Option Bool)
      → row_if_numbered f.ssi x s ≡ true
      → ack_room x s ≡ true
      → Sane (numbered f.ssi f.type f.carrier x s) store
  unfolding row_in_range
  numbered-sane none row room = ok
  numbered-sane (some ns) row room =
      rows-sane
      (acks-sane ok
      (one_more ack_in_range 64 (acks_of s) _
      (omega (arith, ltb-true s.n_acks 64 room, (sane-ready s store ok).counted.acks)) (new-in-range ns) (acks-used s store ok)))
      (row_written s store ok f.ssi (heard_seq f.ssi ns (seq_of f.ssi (rows_of s))) row (lt-ltb f.ssi 16777216 ssi))

  pub received-sane : (x : Outcome Received) → SaneAfter (on_received f x s store)
  unfolding on_received
  received-sane (refused n) = tt
  received-sane (accepted r) =
      let ns : Option Bool = ns_of r.header in
      by-question SaneAfter 7 (row_if_numbered f.ssi ns s) tt
      (λ row.
      by-question SaneAfter 13 (ack_room ns s) tt
      (λ room.
      by-question SaneAfter 14 (may_finish f (nr_of r.header) s) tt
      (λ may. answered-sane (numbered f.ssi f.type f.carrier ns s) store (numbered-sane ns row room) f (nr_of r.header))))

-- Reports and releases ----------------------------------------------------------------------------------------------------

module _ (s : State) (store : List ℕ) (ok : Sane s store) where
  report-sane : (i how : ℕ) → SaneAfter (on_report i how s store)
  unfolding on_report
  report-sane i how =
      by-question SaneAfter 15 ((place_of s.receipts i).taken && is Pending (receipt_of (place_of s.receipts i)) && not (waits i s)) tt
      (λ t. places-sane ok (marked-full (mark_of how) i s.receipts (places-full s store ok)))

  release-sane : (i : ℕ) → SaneAfter (on_release i s store)
  unfolding on_release
  release-sane i =
      by-question SaneAfter 16 ((place_of s.receipts i).taken && final (receipt_of (place_of s.receipts i)) && not (held i s)) tt
      (λ t. places-sane ok (freed-full i s.receipts (places-full s store ok)))

  pub receipt-sane : (i : ℕ) (a : Action) → SaneAfter (on_receipt i a s store)
  receipt-sane i (report how) = report-sane i how
  receipt-sane i release = release-sane i
