-- The calls on the entries: what `step` does on the link that a state and a store hold, and where it lies afterwards.
use Rattle.std.specs.Prelude.{ℕ, ◌-◌, Bool, true, false, cond, not, ◌&&◌, ◌||◌, List, [], ◌∷◌, ◌++◌, eqb, ltb, length, set, replicate}
use Rattle.std.specs.Bool.{beq}
use Rattle.std.proofs.Math.Option.{Option, none, some}
use Rattle.lists.specs.Lists as Lists
use Rattle.lists.specs.Lists.{any, Found, nothing, find, others, first_or, filed}
use Rattle.questions.specs.Outcome.{Outcome, accepted, refused, ask}
use Rattle.bits.specs.Bits.{splice}
use Rattle.tx_receipt.specs.States.{is, final}
use Rattle.tx_receipt.specs.Marks as Marks
use Rattle.tx_receipt.specs.Marks.{allowed}
use Rattle.tx_receipt.specs.declared.TxState.TheVariants.{Pending}
use Rattle.llc_pdus.specs.Frames.{frame_bits}
use Rattle.llc_pdus.specs.declared.Pdu.{Pdu}
use Rattle.llc_pdus.specs.declared.Pdu.TheVariants.{BlAdata, BlData, BlUdata, BlAck}
use Rattle.llc_pdus.specs.Headers.{ns_of, nr_of}
use Rattle.llc_pdus.specs.Received.{Received}
use Rattle.llc_rule.specs.Calls.{Service, tl_data, tl_unitdata, Action, report, release, Request, Frame}
use Rattle.llc_rule.specs.Ranges.{steals, wants_fcs, has_mask}
use Rattle.llc_rule.specs.Upward.{upward}
use Rattle.llc_rule.specs.Messages.{carrier_of, slot_before, mark_of}
use Rattle.llc_rule.specs.Step.{on_acknowledged_path}
use Rattle.llc_state.specs.States.{no_receipt, new_seq}
use Rattle.llc_state.specs.Progress.{new_progress}
use Rattle.llc_state.specs.Receipts.{with_places, receipt_of, pending_place, place_of, mark}
use Rattle.llc_state.specs.View.{place_bit}
use Rattle.llc_state.specs.declared.TmaUnitdataReq.{TmaUnitdataReq}
use Rattle.llc_state.specs.declared.Entry.{Entry}
use Rattle.llc_state.specs.declared.ScheduledOutAck.{ScheduledOutAck}
use Rattle.llc_state.specs.declared.LinkSendSeq.{LinkSendSeq}
use Rattle.llc_state.specs.declared.State.{State}
use Rattle.llc_steps.specs.States.{messages_of, udata_of, acks_of, rows_of, with_messages, with_udata, with_acks, with_rows, Kept, kept}
use Rattle.llc_steps.specs.Places.{free_place}

-- Requests ----------------------------------------------------------------------------------------------------------------

-- What of a request is handed down, on a carrier and with a link id.
abbrev pub sent_for : Request → ℕ → ℕ → TmaUnitdataReq
sent_for r carrier link =
    record {
      ssi = r.ssi;
      ssi_type = r.type;
      carrier_num = carrier;
      link_id = link;
      endpoint_id = r.endpoint;
      req_handle = r.handle;
      stealing_permission = steals r;
      has_mask = has_mask r;
      mask = r.mask;
      receipt = r.receipt;
      block_len = length r.block;
      block = r.block ++ replicate (64 - length r.block) 0;
    }

-- A new entry: its carrier, link id and place in the store, how many bits its frame has, its N(S).
unfoldable pub entry_of : Request → ℕ → ℕ → ℕ → ℕ → Bool → Entry
entry_of r carrier link place len ns =
    record { sent = sent_for r carrier link; frame = record { place = place; len = len }; progress = new_progress ns }

abbrev pub carrier_for : Request → State → ℕ
carrier_for r s = carrier_of s.main_carrier r

-- get_out_ack_seq_if_any
unfoldable pub ack_for : Request → State → Found ScheduledOutAck
ack_for r s = find (λ (d : ScheduledOutAck). eqb d.ssi r.ssi && eqb d.carrier_num (carrier_for r s)) (acks_of s)

-- The row of an SSI in link_send_seq, and as it is before the SSI has one.
abbrev pub row_of : ℕ → LinkSendSeq → Bool
row_of ssi r = eqb r.ssi ssi

abbrev pub seq_of : ℕ → List LinkSendSeq → LinkSendSeq
seq_of ssi rs = first_or (row_of ssi) (new_seq ssi) rs

-- The rows with another for an SSI, behind the rest if it had none.
abbrev pub with_seq : ℕ → LinkSendSeq → List LinkSendSeq → List LinkSendSeq
with_seq ssi w rs = filed (row_of ssi) w rs

-- get_next_send_seq: the row of an SSI when its bit was taken; and when a frame with an N(S) was accepted.
abbrev pub next_seq : ℕ → LinkSendSeq → LinkSendSeq
next_seq ssi w = record { ssi = ssi; vs = not w.vs; has_last_ns = w.has_last_ns; last_ns = w.last_ns }

abbrev pub heard_seq : ℕ → Bool → LinkSendSeq → LinkSendSeq
heard_seq ssi ns w = record { ssi = ssi; vs = w.vs; has_last_ns = true; last_ns = ns }

abbrev pub data_pdu : Request → Bool → Found ScheduledOutAck → Pdu
data_pdu r ns (Lists.first d ds) = BlAdata (wants_fcs r) d.nr ns
data_pdu r ns nothing = BlData (wants_fcs r) ns

-- A message put last, its frame in the first free place of the store.
unfoldable pub with_acknowledged : Request → State → List ℕ → Kept
with_acknowledged r s b =
    let w = seq_of r.ssi (rows_of s) in
    let ns = w.vs in
    let pdu = frame_bits (data_pdu r ns (ack_for r s)) r.sdu in
    kept
    (with_rows
    (with_places
    (with_acks
    (with_messages s (messages_of s ++ (entry_of r (carrier_for r s) 0 (free_place s) (length pdu) ns ∷ [])))
    (others (ack_for r s) (acks_of s)))
    (set s.receipts r.receipt (pending_place true)))
    (with_seq r.ssi (next_seq r.ssi w) (rows_of s)))
    (splice b (place_bit (free_place s)) pdu)
    []

unfoldable pub with_unacknowledged : Request → ℕ → Pdu → List ScheduledOutAck → State → List ℕ → Kept
with_unacknowledged r link p ds s b =
    let pdu = frame_bits p r.sdu in
    kept
    (with_places
    (with_acks (with_udata s (udata_of s ++ (entry_of r (carrier_for r s) link (free_place s) (length pdu) false ∷ []))) ds)
    (set s.receipts r.receipt (pending_place false)))
    (splice b (place_bit (free_place s)) pdu)
    []

unfoldable pub with_stolen : Request → State → List ℕ → Found ScheduledOutAck → Kept
with_stolen r s b (Lists.first d ds) = with_unacknowledged r r.link (BlAck (wants_fcs r) d.nr) ds s b
with_stolen r s b nothing = with_unacknowledged r 0 (BlUdata false) (acks_of s) s b

-- Questions 6, 7 and 8.
abbrev pub receipt_free : Request → State → Bool
receipt_free r s = not (place_of s.receipts r.receipt).taken

unfoldable pub row_for : ℕ → State → Bool
row_for a s = any (row_of a) (rows_of s) || ltb s.n_rows 256

unfoldable pub on_data : Request → State → List ℕ → Outcome Kept
on_data r s b =
    ask 6 (receipt_free r s)
    (cond (on_acknowledged_path r)
    (ask 7 (row_for r.ssi s) (ask 8 (ltb s.n_messages 64) (accepted (with_acknowledged r s b))))
    (ask 8 (ltb s.n_udata 32)
    (accepted (cond (steals r) (with_stolen r s b (ack_for r s)) (with_stolen r s b nothing)))))

unfoldable pub on_unitdata : Request → State → List ℕ → Outcome Kept
on_unitdata r s b =
    ask 6 (receipt_free r s)
    (ask 8 (ltb s.n_udata 32) (accepted (with_unacknowledged r r.link (BlUdata false) (acks_of s) s b)))

abbrev pub on_request : Service → Request → State → List ℕ → Outcome Kept
on_request tl_data r s b = on_data r s b
on_request tl_unitdata r s b = on_unitdata r s b

-- Frames ------------------------------------------------------------------------------------------------------------------

-- Questions 7 and 13 of a frame with N(S).
abbrev pub row_if_numbered : ℕ → Option Bool → State → Bool
row_if_numbered ssi none s = true
row_if_numbered ssi (some ns) s = row_for ssi s

abbrev pub ack_room : Option Bool → State → Bool
ack_room none s = true
ack_room (some ns) s = ltb s.n_acks 64

-- schedule_outgoing_ack, and the row of its SSI with its N(S) as the last one.
abbrev pub scheduled : ℕ → ℕ → ℕ → Bool → State → List ScheduledOutAck
scheduled ssi type carrier ns s =
    acks_of s
    ++ (record { ssi = ssi; ssi_type = type; carrier_num = carrier; nr = ns; ts = slot_before s.dltime } ∷ [])

abbrev pub heard_rows : ℕ → Bool → State → List LinkSendSeq
heard_rows ssi ns s = with_seq ssi (heard_seq ssi ns (seq_of ssi (rows_of s))) (rows_of s)

-- What N(S) does, of a frame from an SSI of a type on a carrier.
abbrev pub numbered : ℕ → ℕ → ℕ → Option Bool → State → State
numbered ssi type carrier none s = s
numbered ssi type carrier (some ns) s = with_rows (with_acks s (scheduled ssi type carrier ns s)) (heard_rows ssi ns s)

-- Is its N(S) the last one accepted from its SSI?
abbrev pub repeats : Bool → LinkSendSeq → Bool
repeats ns w = w.has_last_ns && beq w.last_ns ns

abbrev pub is_repeat : ℕ → Option Bool → State → Bool
is_repeat ssi none s = false
is_repeat ssi (some ns) s = repeats ns (seq_of ssi (rows_of s))

-- take_expected_ack_for_ssi
unfoldable pub expected : Frame → State → Found Entry
expected f s =
    find
    (λ (e : Entry). eqb e.sent.ssi f.ssi && (eqb e.sent.carrier_num f.carrier && e.progress.submitted_to_umac))
    (messages_of s)

abbrev pub fits : Bool → Entry → Bool
fits nr e = e.progress.has_umac_done && beq e.progress.ns nr

-- Question 14.
abbrev pub finishable : Bool → Found Entry → State → Bool
finishable nr nothing s = true
finishable nr (Lists.first e es) s =
    not (fits nr e) || ((place_of s.receipts e.sent.receipt).taken && allowed Marks.acknowledged (receipt_of (place_of s.receipts e.sent.receipt)))

abbrev pub may_finish : Frame → Option Bool → State → Bool
may_finish f none s = true
may_finish f (some nr) s = finishable nr (expected f s) s

-- process_incoming_ack
unfoldable pub answered_by : Bool → Found Entry → State → State
answered_by nr nothing s = s
answered_by nr (Lists.first e es) s =
    cond (fits nr e)
    (with_places (with_messages s es) (mark Marks.acknowledged e.sent.receipt s.receipts))
    (with_messages s (e ∷ es))

abbrev pub answered : Frame → Option Bool → State → State
answered f none s = s
answered f (some nr) s = answered_by nr (expected f s) s

unfoldable pub on_received : Frame → Outcome Received → State → List ℕ → Outcome Kept
on_received f (refused n) s b = refused n
on_received f (accepted r) s b =
    ask 7 (row_if_numbered f.ssi (ns_of r.header) s)
    (ask 13 (ack_room (ns_of r.header) s)
    (ask 14 (may_finish f (nr_of r.header) s)
    (accepted
    (kept
    (answered f (nr_of r.header) (numbered f.ssi f.type f.carrier (ns_of r.header) s))
    b
    (cond (is_repeat f.ssi (ns_of r.header) s) [] (upward f r.header r.sdu))))))

-- Reports and releases ----------------------------------------------------------------------------------------------------

unfoldable pub held : ℕ → State → Bool
held i s = any (λ (e : Entry). eqb e.sent.receipt i) (messages_of s) || any (λ (e : Entry). eqb e.sent.receipt i) (udata_of s)

unfoldable pub waits : ℕ → State → Bool
waits i s =
    any (λ (e : Entry). eqb e.sent.receipt i && not e.progress.submitted_to_umac) (messages_of s)
    || any (λ (e : Entry). eqb e.sent.receipt i) (udata_of s)

unfoldable pub on_report : ℕ → ℕ → State → List ℕ → Outcome Kept
on_report i how s b =
    ask 15 ((place_of s.receipts i).taken && is Pending (receipt_of (place_of s.receipts i)) && not (waits i s))
    (accepted (kept (with_places s (mark (mark_of how) i s.receipts)) b []))

unfoldable pub on_release : ℕ → State → List ℕ → Outcome Kept
on_release i s b =
    ask 16 ((place_of s.receipts i).taken && final (receipt_of (place_of s.receipts i)) && not (held i s))
    (accepted (kept (with_places s (set s.receipts i no_receipt)) b []))

abbrev pub on_receipt : ℕ → Action → State → List ℕ → Outcome Kept
on_receipt i (report how) s b = on_report i how s b
on_receipt i release s b = on_release i s b
