-- One call on the link: questions 4 to 16 in their order, and what an accepted call does. In the order of the Rust's queue.
use Rattle.std.specs.Prelude.{ℕ, suc, Bool, true, false, cond, not, ◌&&◌, ◌||◌, List, [], ◌∷◌, ◌++◌, map, eqb, ltb, length, set}
use Rattle.std.specs.Bool.{beq}
use Rattle.std.proofs.Math.Option.{Option, none, some}
use Rattle.lists.specs.Lists.{any, among, Found, nothing, first, find, others, Visit, walk}
use Rattle.questions.specs.Outcome.{Outcome, accepted, refused, ask}
use Rattle.tdma_time.specs.declared.TdmaTime.{TdmaTime}
use Rattle.tx_receipt.specs.States.{is, final}
use Rattle.tx_receipt.specs.Marks as Marks
use Rattle.tx_receipt.specs.Marks.{allowed}
use Rattle.tx_receipt.specs.declared.TxState.TheVariants.{Pending}
use Rattle.llc_pdus.specs.declared.Pdu.{Pdu}
use Rattle.llc_pdus.specs.declared.Pdu.TheVariants.{BlAdata, BlData, BlUdata, BlAck}
use Rattle.llc_pdus.specs.Headers.{ns_of, nr_of}
use Rattle.llc_pdus.specs.Received.{Received, received}
use Rattle.llc_rule.specs.Calls.{Call, start, tick_start, tick_end, request, frame, by_receipt, Service, tl_data, tl_unitdata, Action, report, release, Request, Frame, is_start, parsed}
use Rattle.llc_rule.specs.Ranges.{steals, wants_fcs, in_range}
use Rattle.llc_rule.specs.Records.{Record, acknowledged, unacknowledged, Sent}
use Rattle.llc_rule.specs.Upward.{upward}
use Rattle.llc_rule.specs.Messages.{Message, waiting, submitted_after, done_at, has_time, overdue, Due, slot_before, reply_to, Place, free, place_at, is_free, pending, taken?, mark, mark_of, reported, carrier_of, sent_of}
use Rattle.llc_rule.specs.Done.{Done, done}
use Rattle.llc_rule.specs.Keeps.{with_bit, with_last, with_time, acknowledged_now, unacknowledged_now, due_now, with_receipts, with_rows}
use Rattle.llc_rule.specs.Link.{Link, Row, started_with, bit_of, numbers_of, with_numbers, is_row_of}

-- Requests ----------------------------------------------------------------------------------------------------------------

-- The acknowledgement due on the SSI and carrier of a request: the oldest, and the others.
abbrev pub is_due_for : Request → Link → Due → Bool
is_due_for r l d = eqb d.ssi r.ssi && eqb d.carrier (carrier_of l.carrier r)

unfoldable pub due_for : Request → Link → Found Due
due_for r l = find (is_due_for r l) l.due

-- "Acknowledged path": an individual data request that does not steal.
abbrev pub on_acknowledged_path : Request → Bool
on_acknowledged_path r = eqb r.type 1 && not (steals r)

-- "6. Request: is its receipt free?"
abbrev pub receipt_free : Request → Link → Bool
receipt_free r l = is_free (place_at l.receipts r.receipt)

-- "7. .. has its SSI a row, or is a row free?" Of 256.
unfoldable pub row_for : ℕ → Link → Bool
row_for a l = any (is_row_of a) l.rows || ltb (length l.rows) 256

-- "8. Is there a place in its queue?" 64 acknowledged messages, 32 unacknowledged.
abbrev pub acknowledged_place : Link → Bool
acknowledged_place l = ltb (length l.acknowledged) 64

abbrev pub unacknowledged_place : Link → Bool
unacknowledged_place l = ltb (length l.unacknowledged) 32

-- BL-ADATA with the N(R) of a due acknowledgement, or BL-DATA.
abbrev pub data_pdu : Request → Bool → Found Due → Pdu
data_pdu r ns (first d ds) = BlAdata (wants_fcs r) d.nr ns
data_pdu r ns nothing = BlData (wants_fcs r) ns

-- An acknowledged message put last: N(S) is the row's bit, which flips; a due acknowledgement is used up.
unfoldable pub with_acknowledged : Request → Link → Link
with_acknowledged r l =
    let ns = bit_of r.ssi l.rows in
    let m = waiting (sent_of r (carrier_of l.carrier r) 0 (data_pdu r ns (due_for r l))) ns in
    with_rows
    (with_receipts
    (due_now (acknowledged_now l (l.acknowledged ++ (m ∷ []))) (others (due_for r l) l.due))
    (set l.receipts r.receipt (pending true)))
    (with_numbers r.ssi (with_bit (numbers_of r.ssi l.rows) (not ns)) l.rows)

-- An unacknowledged message put last, with a link id and behind a header, and the due acknowledgements that are left.
unfoldable pub with_unacknowledged : Request → ℕ → Pdu → List Due → Link → Link
with_unacknowledged r link p ds l =
    with_receipts
    (due_now (unacknowledged_now l (l.unacknowledged ++ (sent_of r (carrier_of l.carrier r) link p ∷ []))) ds)
    (set l.receipts r.receipt (pending false))

-- A data request that steals and finds an acknowledgement due is a BL-ACK, any other off the acknowledged path a BL-UDATA.
unfoldable pub with_stolen : Request → Link → Found Due → Link
with_stolen r l (first d ds) = with_unacknowledged r r.link (BlAck (wants_fcs r) d.nr) ds l
with_stolen r l nothing = with_unacknowledged r 0 (BlUdata false) l.due l

-- A data request: questions 6, 7 and 8, and its message is put last.
unfoldable pub on_data : Request → Link → Outcome (Done Link)
on_data r l =
    ask 6 (receipt_free r l)
    (cond (on_acknowledged_path r)
    (ask 7 (row_for r.ssi l) (ask 8 (acknowledged_place l) (accepted (done (with_acknowledged r l) []))))
    (ask 8 (unacknowledged_place l)
    (accepted (done (cond (steals r) (with_stolen r l (due_for r l)) (with_stolen r l nothing)) []))))

-- "Unitdata request: BL-UDATA, its FCS flag again not set, its own link id."
unfoldable pub on_unitdata : Request → Link → Outcome (Done Link)
on_unitdata r l =
    ask 6 (receipt_free r l)
    (ask 8 (unacknowledged_place l) (accepted (done (with_unacknowledged r r.link (BlUdata false) l.due l) [])))

-- Frames ------------------------------------------------------------------------------------------------------------------

-- "Question 7 is now also put to every frame with N(S), between 12 and 13."
abbrev pub row_for_frame : Frame → Option Bool → Link → Bool
row_for_frame f none l = true
row_for_frame f (some ns) l = row_for f.ssi l

-- "13. With N(S): under 64 acknowledgements due?"
abbrev pub due_room : Option Bool → Link → Bool
due_room none l = true
due_room (some ns) l = ltb (length l.due) 64

-- "N(S) makes an acknowledgement due, its slot two before now."
abbrev pub with_due : Frame → Bool → Link → List Due
with_due f ns l =
    l.due
    ++ (record { ssi = f.ssi; type = f.type; carrier = f.carrier; nr = ns; slot = slot_before l.time } ∷ [])

-- "A frame with that same N(S)": N(S) alone is looked at.
abbrev pub is_last : Bool → Option Bool → Bool
is_last ns none = false
is_last ns (some last) = beq last ns

abbrev pub is_repeat : Frame → Option Bool → Link → Bool
is_repeat f none l = false
is_repeat f (some ns) l = is_last ns (numbers_of f.ssi l.rows).last

-- "The address row shall also hold the last N(S) accepted from that SSI": a frame's N(S), in a row that is new if it had none.
abbrev pub with_heard : Frame → Bool → Link → List Row
with_heard f ns l = with_numbers f.ssi (with_last (numbers_of f.ssi l.rows) ns) l.rows

-- What N(S) does.
abbrev pub numbered : Frame → Option Bool → Link → Link
numbered f none l = l
numbered f (some ns) l = with_rows (due_now l (with_due f ns l)) (with_heard f ns l)

-- What goes up of a frame: "A frame with that same N(S) is acknowledged and its N(R) obeyed, and nothing goes up."
abbrev pub sent_up : Frame → Received → Link → List Record
sent_up f r l = cond (is_repeat f (ns_of r.header) l) [] (upward f r.header r.sdu)

-- The submitted message of an SSI on a carrier, and the others.
unfoldable pub awaiting : Frame → Link → Found Message
awaiting f l =
    find
    (λ (m : Message). eqb m.sent.ssi f.ssi && (eqb m.sent.carrier f.carrier && m.submitted))
    l.acknowledged

-- "It has a done time and N(S) equals N(R)."
abbrev pub fits : Bool → Message → Bool
fits nr m = has_time m.done && beq m.ns nr

-- "14. If N(R) would finish a message, is its receipt Transmitted?" That is, may it be marked as acknowledged? In a run the
-- receipt of an acknowledged message expects an acknowledgement; of one that does not the Rust panics.
abbrev pub finishable : Bool → Found Message → Link → Bool
finishable nr nothing l = true
finishable nr (first m ms) l =
    not (fits nr m) || taken? (allowed Marks.acknowledged) (place_at l.receipts m.sent.receipt)

abbrev pub may_finish : Frame → Option Bool → Link → Bool
may_finish f none l = true
may_finish f (some nr) l = finishable nr (awaiting f l) l

-- "N(R) finishes the message under way as Acknowledged"; one that does not fit moves it to the front of the shared queue; on
-- another carrier it stays in its place.
unfoldable pub answered_by : Bool → Found Message → Link → Link
answered_by nr nothing l = l
answered_by nr (first m ms) l =
    cond (fits nr m)
    (with_receipts (acknowledged_now l ms) (mark Marks.acknowledged m.sent.receipt l.receipts))
    (acknowledged_now l (m ∷ ms))

abbrev pub answered : Frame → Option Bool → Link → Link
answered f none l = l
answered f (some nr) l = answered_by nr (awaiting f l) l

-- A frame that passed questions 9 to 12: 7, 13, 14, and what it does and sends up.
unfoldable pub on_received : Frame → Outcome Received → Link → Outcome (Done Link)
on_received f (refused n) l = refused n
on_received f (accepted r) l =
    ask 7 (row_for_frame f (ns_of r.header) l)
    (ask 13 (due_room (ns_of r.header) l)
    (ask 14 (may_finish f (nr_of r.header) l)
    (accepted (done (answered f (nr_of r.header) (numbered f (ns_of r.header) l)) (sent_up f r l)))))

unfoldable pub on_frame : Frame → Link → Outcome (Done Link)
on_frame f l = on_received f (received f.pdu) l

-- Reports and releases ----------------------------------------------------------------------------------------------------

-- Does a message that is held have the receipt, and one that waits?
unfoldable pub held : ℕ → Link → Bool
held i l =
    any (λ (m : Message). eqb m.sent.receipt i) l.acknowledged
    || any (λ (s : Sent). eqb s.receipt i) l.unacknowledged

unfoldable pub waits : ℕ → Link → Bool
waits i l =
    any (λ (m : Message). eqb m.sent.receipt i && not m.submitted) l.acknowledged
    || any (λ (s : Sent). eqb s.receipt i) l.unacknowledged

-- "15. Report: is the receipt Pending and its message submitted?"
abbrev pub reportable : ℕ → Link → Bool
reportable i l = taken? (is Pending) (place_at l.receipts i) && not (waits i l)

-- "A report marks its receipt as it says."
unfoldable pub on_report : ℕ → ℕ → Link → Outcome (Done Link)
on_report i how l =
    ask 15 (reportable i l)
    (accepted (done (with_receipts l (mark (mark_of how) i l.receipts)) []))

-- "16. Release: is the receipt taken, its message no longer held, and final?"
abbrev pub releasable : ℕ → Link → Bool
releasable i l = taken? final (place_at l.receipts i) && not (held i l)

-- "A release frees it."
unfoldable pub on_release : ℕ → Link → Outcome (Done Link)
on_release i l = ask 16 (releasable i l) (accepted (done (with_receipts l (set l.receipts i free)) []))

-- Tick end: "four passes as in tick_end: resends, first sendings, replies, unacknowledged messages" ------------------------

-- A message that stays as it is, with no record.
abbrev pub stay : {S : Type 0} → S → Message → Visit S Message Record
stay s m = record { state = s; stays = m ∷ []; out = [] }

-- A message without a done time whose receipt was reported gets done time now.
abbrev pub timed : TdmaTime → List Place → Message → Message
timed time ps m = cond (not (has_time m.done) && taken? reported (place_at ps m.sent.receipt)) (done_at time m) m

-- It is handed down again, or after three resends leaves: Transmitted becomes Lost, Discarded stays.
abbrev pub resend : List Place → Message → Visit (List Place) Message Record
resend ps m =
    record {
      state = mark Marks.reset m.sent.receipt ps;
      stays = submitted_after (suc m.resends) m ∷ [];
      out = acknowledged m.sent ∷ [];
    }

abbrev pub leave : List Place → Message → Visit (List Place) Message Record
leave ps m =
    record {
      state = mark Marks.lost m.sent.receipt ps;
      stays = [];
      out = [];
    }

-- By its done time: "if now less done is T251 or more".
abbrev pub aged_by : TdmaTime → ℕ → List Place → Message → Option TdmaTime → Visit (List Place) Message Record
aged_by time t251 ps m none = stay ps m
aged_by time t251 ps m (some t) =
    cond (overdue time t251 t) (cond (ltb m.resends 3) (resend ps m) (leave ps m)) (stay ps m)

unfoldable pub retransmission : TdmaTime → ℕ → List Place → Message → Visit (List Place) Message Record
retransmission time t251 ps m = aged_by time t251 ps (timed time ps m) (timed time ps m).done

-- First sendings: the receipts, and the SSIs that have a message under way.
pub record Sending : Type 0 where
  pub receipts : List Place
  pub blocked : List ℕ

-- One that waits is handed down if no message of its SSI is under way.
unfoldable pub first_sending : Sending → Message → Visit Sending Message Record
first_sending s m =
    cond m.submitted
    (stay (record { receipts = s.receipts; blocked = m.sent.ssi ∷ s.blocked }) m)
    (cond (among m.sent.ssi s.blocked)
    (stay s m)
    (record {
      state =
          record { receipts = mark Marks.reset m.sent.receipt s.receipts; blocked = m.sent.ssi ∷ s.blocked };
      stays = submitted_after m.resends m ∷ [];
      out = acknowledged m.sent ∷ [];
    }))

-- The first pass, and the second on what the first leaves.
unfoldable pub retransmissions : Link → Visit (List Place) Message Record
retransmissions l = walk (retransmission l.time l.t251) l.receipts l.acknowledged

unfoldable pub first_sendings : Link → Visit Sending Message Record
first_sendings l =
    walk first_sending (record { receipts = (retransmissions l).state; blocked = [] }) (retransmissions l).stays

-- The four passes: "resends, first sendings, replies, unacknowledged messages".
unfoldable pub on_tick_end : Link → Done Link
on_tick_end l =
    done
    (with_receipts
    (due_now (unacknowledged_now (acknowledged_now l (first_sendings l).stays) []) [])
    (first_sendings l).state.receipts)
    ((retransmissions l).out ++ ((first_sendings l).out ++ (map reply_to l.due ++ map unacknowledged l.unacknowledged)))

-- A call --------------------------------------------------------------------------------------------------------------------

-- A request, and a call by receipt.
abbrev pub on_request : Service → Request → Link → Outcome (Done Link)
on_request tl_data r l = on_data r l
on_request tl_unitdata r l = on_unitdata r l

abbrev pub on_receipt : ℕ → Action → Link → Outcome (Done Link)
on_receipt i (report how) l = on_report i how l
on_receipt i release l = on_release i l

-- What a call is asked after questions 4 and 5, and what it does.
unfoldable pub act : Call → Link → Outcome (Done Link)
act (start carrier t251) l = accepted (done (started_with carrier t251) [])
act (tick_start time) l = accepted (done (with_time l time) [])
act tick_end l = accepted (on_tick_end l)
act (request s r) l = on_request s r l
act (frame f) l = on_frame f l
act (by_receipt i a) l = on_receipt i a l

-- "4. Started, or is this a start?", question 5, and then what the call is asked and does.
unfoldable pub called : Link → Outcome Call → Outcome (Done Link)
called l (refused n) = refused n
called l (accepted c) = ask 4 (is_start c || l.started) (ask 5 (in_range c) (act c l))

-- A call of any bytes: a number, or the link after it and its records.
unfoldable pub step : Link → List ℕ → Outcome (Done Link)
step l bytes = called l (parsed bytes)
