-- A tick end on the entries: the passes of `step` with entries in place of messages, and where everything lies afterwards.
use Rattle.std.specs.Prelude.{ℕ, ◌+◌, Bool, cond, not, ◌&&◌, List, [], ◌∷◌, ◌++◌, map, ltb}
use Rattle.lists.specs.Lists.{among, Visit, walk}
use Rattle.tdma_time.specs.declared.TdmaTime.{TdmaTime}
use Rattle.tx_receipt.specs.Marks as Marks
use Rattle.llc_rule.specs.Records.{Record, acknowledged, unacknowledged}
use Rattle.llc_rule.specs.Messages.{overdue, reported, reply_to}
use Rattle.llc_state.specs.Progress.{submitted_after, done_at, with_progress}
use Rattle.llc_state.specs.Receipts.{with_places, receipt_of, place_of, mark}
use Rattle.llc_state.specs.View.{sent_in, due_in}
use Rattle.llc_state.specs.declared.Entry.{Entry}
use Rattle.llc_state.specs.declared.ScheduledOutAck.{ScheduledOutAck}
use Rattle.llc_state.specs.declared.ReceiptPlace.{ReceiptPlace}
use Rattle.llc_state.specs.declared.State.{State}
use Rattle.llc_steps.specs.States.{messages_of, udata_of, acks_of, with_messages, with_udata, with_acks}

-- An entry as passed down after so many retransmissions.
abbrev pub submitted_entry : ℕ → Entry → Entry
submitted_entry k e = with_progress e (submitted_after k e.progress)

-- Is it reported and has no done time yet? The message with its done time.
abbrev pub newly_done : ReceiptPlace → Entry → Bool
newly_done p e = not e.progress.has_umac_done && (p.taken && reported (receipt_of p))

abbrev pub timed_by : TdmaTime → ReceiptPlace → Entry → Entry
timed_by time p e = cond (newly_done p e) (with_progress e (done_at time e.progress)) e

-- Has its time run out?
abbrev pub is_due : TdmaTime → ℕ → Entry → Bool
is_due time t251 e = e.progress.has_umac_done && overdue time t251 e.progress.t_umac_done

-- One message of the first pass, submit_retransmissions_to_umac.
abbrev pub timed : TdmaTime → List ReceiptPlace → Entry → Entry
timed time ps e = timed_by time (place_of ps e.sent.receipt) e

abbrev pub stay : {S : Type 0} → S → Entry → Visit S Entry Entry
stay s e = record { state = s; stays = e ∷ []; out = [] }

abbrev pub resend : List ReceiptPlace → Entry → Visit (List ReceiptPlace) Entry Entry
resend ps e =
    record { state = mark Marks.reset e.sent.receipt ps; stays = submitted_entry (e.progress.retransmit_count + 1) e ∷ []; out = e ∷ [] }

abbrev pub leave : List ReceiptPlace → Entry → Visit (List ReceiptPlace) Entry Entry
leave ps e =
    record { state = mark Marks.lost e.sent.receipt ps; stays = []; out = [] }

abbrev pub aged : TdmaTime → ℕ → List ReceiptPlace → Entry → Visit (List ReceiptPlace) Entry Entry
aged time t251 ps e =
    cond (is_due time t251 e)
    (cond (ltb e.progress.retransmit_count 3) (resend ps e) (leave ps e))
    (stay ps e)

unfoldable pub retransmission : TdmaTime → ℕ → List ReceiptPlace → Entry → Visit (List ReceiptPlace) Entry Entry
retransmission time t251 ps e = aged time t251 ps (timed time ps e)

-- One message of the second, submit_free_messages_to_umac: the receipts, and the SSIs that are blocked.
pub record Sending : Type 0 where
  pub receipts : List ReceiptPlace
  pub blocked : List ℕ

unfoldable pub first_sending : Sending → Entry → Visit Sending Entry Entry
first_sending s e =
    cond e.progress.submitted_to_umac
    (stay (record { receipts = s.receipts; blocked = e.sent.ssi ∷ s.blocked }) e)
    (cond (among e.sent.ssi s.blocked)
    (stay s e)
    (record {
      state = record { receipts = mark Marks.reset e.sent.receipt s.receipts; blocked = e.sent.ssi ∷ s.blocked };
      stays = submitted_entry e.progress.retransmit_count e ∷ [];
      out = e ∷ [];
    }))

-- The first pass on a state, and the state after it.
unfoldable pub retransmissions : State → Visit (List ReceiptPlace) Entry Entry
retransmissions s = walk (retransmission s.dltime s.t251) s.receipts (messages_of s)

abbrev pub after_retransmissions : State → State
after_retransmissions s = with_places (with_messages s (retransmissions s).stays) (retransmissions s).state

-- The second.
unfoldable pub first_sendings : State → Visit Sending Entry Entry
first_sendings s = walk first_sending (record { receipts = s.receipts; blocked = [] }) (messages_of s)

abbrev pub after_sendings : State → State
after_sendings s = with_places (with_messages s (first_sendings s).stays) (first_sendings s).state.receipts

-- The state after a tick end: both, and the other two queues empty.
unfoldable pub ticked : State → State
ticked s = with_udata (with_acks (after_sendings (after_retransmissions s)) []) []

-- And its records: each message as the store has it.
unfoldable pub tick_records : State → List ℕ → List Record
tick_records s store =
    map (λ (e : Entry). acknowledged (sent_in store e)) (retransmissions s).out
    ++ (map (λ (e : Entry). acknowledged (sent_in store e)) (first_sendings (after_retransmissions s)).out
    ++ (map (λ (d : ScheduledOutAck). reply_to (due_in d)) (acks_of s)
    ++ map (λ (e : Entry). unacknowledged (sent_in store e)) (udata_of s)))
