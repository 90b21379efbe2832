-- Document 01, "One-address rule": what one address sees, from the calls of its past alone. Sentence by sentence, over the lists
-- of this address only; apart from specs/Step.antt.
use Rattle.std.specs.Prelude.{ℕ, suc, Bool, true, false, cond, not, ◌&&◌, ◌||◌, List, [], ◌∷◌, ◌++◌, map, eqb, ltb, set}
use Rattle.std.specs.Bool.{beq}
use Rattle.std.proofs.Math.Option.{Option, none, some}
use Rattle.lists.specs.Lists.{any, Found, nothing, first, find, others, Visit, walk}
use Rattle.questions.specs.Outcome.{Outcome, accepted, refused, ask}
use Rattle.tdma_time.specs.declared.TdmaTime.{TdmaTime}
use Rattle.tx_receipt.specs.States.{is, final}
use Rattle.tx_receipt.specs.Marks as Marks
use Rattle.tx_receipt.specs.Marks.{allowed}
use Rattle.tx_receipt.specs.declared.TxState.TheVariants.{Pending}
use Rattle.llc_pdus.specs.declared.Pdu.{Pdu}
use Rattle.llc_pdus.specs.declared.Pdu.TheVariants.{BlAdata, BlData, BlUdata, BlAck}
use Rattle.llc_pdus.specs.Headers.{ns_of, nr_of}
use Rattle.llc_pdus.specs.Received.{Received, received}
use Rattle.llc_rule.specs.Calls.{Call, start, tick_start, tick_end, request, frame, by_receipt, Service, tl_data, tl_unitdata, Action, report, release, Request, Frame, is_start, parsed}
use Rattle.llc_rule.specs.Ranges.{steals, wants_fcs, in_range}
use Rattle.llc_rule.specs.Records.{Record, acknowledged, unacknowledged, Sent}
use Rattle.llc_rule.specs.Upward.{upward}
use Rattle.llc_rule.specs.Messages.{Message, waiting, submitted_after, done_at, has_time, overdue, Due, slot_before, reply_to, Place, free, place_at, pending, taken?, mark, mark_of, reported, carrier_of, sent_of}
use Rattle.llc_rule.specs.Done.{Done, done}
use Rattle.llc_rule.specs.Keeps.{Keeps, Numbers, no_numbers, nothing_held, with_time, acknowledged_now, unacknowledged_now, due_now, with_receipts, with_rows}

-- "The rule keeps whether it is started, main carrier, T251, time, the row's bit, acknowledged and unacknowledged messages and
-- due acknowledgements in order, and receipts with marks." And the last N(S).
abbrev pub Own : Type 0
Own = Keeps Numbers

-- "At first it is not started and empty."
unfoldable pub at_outset : Own
at_outset = nothing_held false 0 0 no_numbers

-- "Start empties everything and sets carrier and T251."
unfoldable pub after_start : ℕ → ℕ → Own
after_start carrier t251 = nothing_held true carrier t251 no_numbers

-- "Tick start sets the time."
abbrev pub after_tick : TdmaTime → Own → Own
after_tick t o = with_time o t

-- "An acknowledgement due on that SSI and carrier", the oldest.
unfoldable pub due_on : ℕ → Own → Found Due
due_on carrier o = find (λ (d : Due). eqb d.carrier carrier) o.due

-- What a data request makes of itself: a message of one of the two kinds, and whether it uses up the acknowledgement.
pub data Made : Type 0 where
  unacknowledgedly : ℕ → Pdu → Bool → Made
  acknowledgedly : Pdu → Made

-- "Stealing, and an acknowledgement due on that SSI and carrier: BL-ACK with the oldest such N(R), which it uses up, the
-- request's link id. Else stealing or group: BL-UDATA without FCS flag, link id 0. Else BL-ADATA if one is due there, the
-- oldest, which it uses up, or BL-DATA; link id 0; N(S) is the row's bit."
abbrev pub made_of : Request → Bool → Bool → Bool → Found Due → Made
made_of r ns true group (first d ds) = unacknowledgedly r.link (BlAck (wants_fcs r) d.nr) true
made_of r ns true group nothing = unacknowledgedly 0 (BlUdata false) false
made_of r ns false true found = unacknowledgedly 0 (BlUdata false) false
made_of r ns false false (first d ds) = acknowledgedly (BlAdata (wants_fcs r) d.nr ns)
made_of r ns false false nothing = acknowledgedly (BlData (wants_fcs r) ns)

-- "A request takes its receipt as Pending and puts its message last."
unfoldable pub requested : Request → Own → Found Due → Made → Own
requested r o found (acknowledgedly p) =
    let m = waiting (sent_of r (carrier_of o.carrier r) 0 p) o.rows.bit in
    with_rows
    (with_receipts
    (due_now (acknowledged_now o (o.acknowledged ++ (m ∷ []))) (others found o.due))
    (set o.receipts r.receipt (pending true)))
    (record { bit = not o.rows.bit; last = o.rows.last })
requested r o found (unacknowledgedly link p uses) =
    with_receipts
    (due_now
    (unacknowledged_now o (o.unacknowledged ++ (sent_of r (carrier_of o.carrier r) link p ∷ [])))
    (cond uses (others found o.due) o.due))
    (set o.receipts r.receipt (pending false))

-- A data request, with the acknowledgement due there.
unfoldable pub after_data : Request → Own → Own
after_data r o =
    requested r o (due_on (carrier_of o.carrier r) o)
    (made_of r o.rows.bit (steals r) (not (eqb r.type 1)) (due_on (carrier_of o.carrier r) o))

-- "Unitdata request: BL-UDATA, its FCS flag again not set, its own link id."
unfoldable pub after_unitdata : Request → Own → Own
after_unitdata r o = requested r o nothing (unacknowledgedly r.link (BlUdata false) false)

-- "A message without a done time whose receipt is Discarded or at least Transmitted gets done time now."
abbrev pub noted : TdmaTime → List Place → Message → Message
noted time ps m = cond (not (has_time m.done) && taken? reported (place_at ps m.sent.receipt)) (done_at time m) m

-- "If now less done is T251 or more it is resent, or after three resends leaves: Transmitted becomes Lost, Discarded stays."
-- "A submission sets the receipt Pending, clears the done time and repeats the same bits."
abbrev pub on_time : TdmaTime → ℕ → List Place → Message → Option TdmaTime → Visit (List Place) Message Record
on_time time t251 ps m none = record { state = ps; stays = m ∷ []; out = [] }
on_time time t251 ps m (some t) =
    cond (overdue time t251 t)
    (cond (ltb m.resends 3)
    (record {
      state = mark Marks.reset m.sent.receipt ps;
      stays = submitted_after (suc m.resends) m ∷ [];
      out = acknowledged m.sent ∷ [];
    })
    (record {
      state = mark Marks.lost m.sent.receipt ps;
      stays = [];
      out = [];
    }))
    (record { state = ps; stays = m ∷ []; out = [] })

-- What the tick end does with one message.
unfoldable pub looked : TdmaTime → ℕ → List Place → Message → Visit (List Place) Message Record
looked time t251 ps m = on_time time t251 ps (noted time ps m) (noted time ps m).done

-- "Then, if none is under way, the oldest waiting one is submitted."
abbrev pub under_way : List Message → Bool
under_way ms = any (λ (m : Message). m.submitted) ms

abbrev pub submit_oldest : List Place → List Message → Visit (List Place) Message Record
submit_oldest ps [] = record { state = ps; stays = []; out = [] }
submit_oldest ps (m ∷ ms) =
    record {
      state = mark Marks.reset m.sent.receipt ps;
      stays = submitted_after m.resends m ∷ ms;
      out = acknowledged m.sent ∷ [];
    }

unfoldable pub submitted : List Place → List Message → Visit (List Place) Message Record
submitted ps ms = cond (under_way ms) (record { state = ps; stays = ms; out = [] }) (submit_oldest ps ms)

-- All messages in order, and then the oldest that waits.
unfoldable pub resent : Own → Visit (List Place) Message Record
resent o = walk (looked o.time o.t251) o.receipts o.acknowledged

unfoldable pub sent_first : Own → Visit (List Place) Message Record
sent_first o = submitted (resent o).state (resent o).stays

-- "Then due acknowledgements go out, then unacknowledged messages."
unfoldable pub at_tick_end : Own → Done Own
at_tick_end o =
    done
    (with_receipts
    (due_now (unacknowledged_now (acknowledged_now o (sent_first o).stays) []) [])
    (sent_first o).state)
    ((resent o).out ++ ((sent_first o).out ++ (map reply_to o.due ++ map unacknowledged o.unacknowledged)))

-- "N(S) makes an acknowledgement due, its slot two before now", and is "the last N(S) accepted from that SSI": "the one-address
-- rule gains this number".
abbrev pub noting : Frame → Option Bool → Own → Own
noting f none o = o
noting f (some ns) o =
    with_rows
    (due_now o
    (o.due
    ++ (record { ssi = f.ssi; type = f.type; carrier = f.carrier; nr = ns; slot = slot_before o.time } ∷ [])))
    (record { bit = o.rows.bit; last = some ns })

-- "A frame with that same N(S) .. nothing goes up", by the last one and its own; a frame without N(S) is none.
abbrev pub unless_repeated : Option Bool → Option Bool → List Record → List Record
unless_repeated last none up = up
unless_repeated none (some ns) up = up
unless_repeated (some true) (some true) up = []
unless_repeated (some true) (some false) up = up
unless_repeated (some false) (some true) up = up
unless_repeated (some false) (some false) up = []

-- The message under way, and the others.
unfoldable pub the_one : Own → Found Message
the_one o = find (λ (m : Message). m.submitted) o.acknowledged

-- "N(R) finishes the message under way .. if its carrier agrees, it has a done time and N(S) equals N(R)."
abbrev pub finishes : Frame → Bool → Message → Bool
finishes f nr m = eqb m.sent.carrier f.carrier && (has_time m.done && beq m.ns nr)

-- "14. If N(R) would finish a message, is its receipt Transmitted?" That is, may it be marked as acknowledged? In a run the
-- receipt of an acknowledged message expects an acknowledgement; of one that does not the Rust panics.
abbrev pub one_transmitted : Frame → Bool → Found Message → Own → Bool
one_transmitted f nr nothing o = true
one_transmitted f nr (first m ms) o =
    not (finishes f nr m) || taken? (allowed Marks.acknowledged) (place_at o.receipts m.sent.receipt)

abbrev pub can_finish : Frame → Option Bool → Own → Bool
can_finish f none o = true
can_finish f (some nr) o = one_transmitted f nr (the_one o) o

-- It is finished "as Acknowledged", or "it stays".
abbrev pub finished : Frame → Bool → Found Message → Own → Own
finished f nr nothing o = o
finished f nr (first m ms) o =
    cond (finishes f nr m)
    (with_receipts (acknowledged_now o ms) (mark Marks.acknowledged m.sent.receipt o.receipts))
    o

-- What N(R) does.
abbrev pub heard : Frame → Option Bool → Own → Own
heard f none o = o
heard f (some nr) o = finished f nr (the_one o) o

-- A frame that passed questions 9 to 12: question 14, what it does and what goes up. It is asked neither 7 nor 13.
unfoldable pub after_received : Frame → Outcome Received → Own → Outcome (Done Own)
after_received f (refused n) o = refused n
after_received f (accepted r) o =
    ask 14 (can_finish f (nr_of r.header) o)
    (accepted
    (done
    (heard f (nr_of r.header) (noting f (ns_of r.header) o))
    (unless_repeated o.rows.last (ns_of r.header) (upward f r.header r.sdu))))

unfoldable pub after_frame : Frame → Own → Outcome (Done Own)
after_frame f o = after_received f (received f.pdu) o

-- "15. Report: is the receipt Pending and its message submitted?" One that is no longer held was submitted.
unfoldable pub still_waits : ℕ → Own → Bool
still_waits i o =
    any (λ (m : Message). eqb m.sent.receipt i && not m.submitted) o.acknowledged
    || any (λ (s : Sent). eqb s.receipt i) o.unacknowledged

-- "A report marks its receipt as it says."
unfoldable pub after_report : ℕ → ℕ → Own → Outcome (Done Own)
after_report i how o =
    ask 15 (taken? (is Pending) (place_at o.receipts i) && not (still_waits i o))
    (accepted (done (with_receipts o (mark (mark_of how) i o.receipts)) []))

-- "16. Release: is the receipt taken, its message no longer held, and final?" "A release frees it."
unfoldable pub still_held : ℕ → Own → Bool
still_held i o =
    any (λ (m : Message). eqb m.sent.receipt i) o.acknowledged
    || any (λ (s : Sent). eqb s.receipt i) o.unacknowledged

unfoldable pub after_release : ℕ → Own → Outcome (Done Own)
after_release i o =
    ask 16 (taken? final (place_at o.receipts i) && not (still_held i o))
    (accepted (done (with_receipts o (set o.receipts i free)) []))

-- A request, and a call by receipt.
abbrev pub after_request : Service → Request → Own → Own
after_request tl_data r o = after_data r o
after_request tl_unitdata r o = after_unitdata r o

abbrev pub after_action : ℕ → Action → Own → Outcome (Done Own)
after_action i (report how) o = after_report i how o
after_action i release o = after_release i o

-- What each call does.
unfoldable pub does : Call → Own → Outcome (Done Own)
does (start carrier t251) o = accepted (done (after_start carrier t251) [])
does (tick_start time) o = accepted (done (after_tick time o) [])
does tick_end o = accepted (at_tick_end o)
does (request s r) o = accepted (done (after_request s r o) [])
does (frame f) o = after_frame f o
does (by_receipt i a) o = after_action i a o

-- "The questions below save 1, 6, 7, 8 and 13 are put to what the rule keeps. A no gives the number, no record and no change;
-- else the number is 0." "4. Started, or is this a start?"
unfoldable pub judged : Own → Outcome Call → Outcome (Done Own)
judged o (refused n) = refused n
judged o (accepted c) = ask 4 (is_start c || o.started) (ask 5 (in_range c) (does c o))

-- The rule on one call of any bytes.
unfoldable pub rule : Own → List ℕ → Outcome (Done Own)
rule o bytes = judged o (parsed bytes)
