-- A tick end on the entries is the tick end of the link that they hold.
use Prim.Native.Nat.{ℕ}
use native.Mathlib.Numerals.{add-one}
use mathlib.Core.Path.{◌≡◌, ◌∙◌, refl, sym, ap, ap₂}
use mathlib.Core.Bool.{Bool, true, false, cond, not, ◌&&◌}
use mathlib.Core.List.{List, [], ◌∷◌, ◌++◌, map, map-append}
use mathlib.Core.Option.{none, some}
use lib.Dec.{ltb}
use Rattle.lists.specs.Lists.{among, Visit, ◌then◌, walk}
use Rattle.lists.proofs.Choices.{ap-cond}
use Rattle.lists.proofs.Arrays.{take-laid}
use Rattle.tdma_time.specs.declared.TdmaTime.{TdmaTime}
use Rattle.tx_receipt.specs.Marks as Marks
use Rattle.llc_rule.specs.Records.{Record, acknowledged, unacknowledged}
use Rattle.llc_rule.specs.Messages as Rule
use Rattle.llc_rule.specs.Messages.{Message, Place, overdue, reported, reply_to}
use Rattle.llc_rule.specs.Keeps as Keeps
use Rattle.llc_rule.specs.Link as Link
use Rattle.llc_rule.specs.Step as Step
use Rattle.llc_state.specs.States.{no_entry}
use Rattle.llc_state.specs.Progress.{done_at, with_progress}
use Rattle.llc_state.specs.View.{frame_at, sent_in, message_in, due_in, place_in, link_in}
use Rattle.llc_state.specs.declared.Entry.{Entry}
use Rattle.llc_state.specs.declared.ReceiptPlace.{ReceiptPlace}
use Rattle.llc_state.specs.declared.State.{State}
use Rattle.llc_state.specs.Receipts.{receipt_of, place_of, mark, with_places}
use Rattle.llc_state.proofs.Places.{mark-in, taken_in}
use Rattle.llc_state.proofs.Maps.{map-map}
use Rattle.llc_steps.specs.States.{messages_of, udata_of, acks_of, with_messages, with_acks}
use Rattle.llc_steps.specs.TickEnd.{submitted_entry, timed, stay, resend, leave, aged, retransmission, Sending, first_sending, retransmissions, first_sendings, ticked, tick_records, after_retransmissions, after_sendings}
use Rattle.llc_steps.proofs.Setters.{messages-in, udata-in, acks-in, places-in}

-- A walk seen through views of its state, its elements and what it puts out.
module _ {S T A B R Q : Type 0} (state : S → T) (element : A → B) (put : R → Q) where
  abbrev pub viewed : Visit S A R → Visit T B Q
  viewed v = record { state = state v.state; stays = map element v.stays; out = map put v.out }

  module _ (f : S → A → Visit S A R) (g : T → B → Visit T B Q) (same : (s : S) (x : A) → g (state s) (element x) ≡ viewed (f s x)) where
    pub walk-viewed : (s : S) (l : List A) → walk g (state s) (map element l) ≡ viewed (walk f s l)
    unfolding walk
    walk-viewed s [] = refl
    walk-viewed s (x ∷ l) =
        let v : Visit S A R = f s x in
        let w : Visit S A R = walk f v.state l in
        ap (λ (u : Visit T B Q). ◌then◌ u (walk g u.state (map element l))) (same s x)
        ∙ ap (◌then◌ (viewed v)) (walk-viewed v.state l)
        ∙ (λ i.
        record {
          state = state w.state;
          stays = sym (map-append element v.stays w.stays) i;
          out = sym (map-append put v.out w.out) i;
        })

pub has-time : (b : Bool) (t : TdmaTime) → Rule.has_time (cond b (some t) none) ≡ b
has-time true t = refl
has-time false t = refl

-- The first pass.
module _ (store : List ℕ) where
  abbrev handed : Entry → Record
  handed e = acknowledged (sent_in store e)

  abbrev viewed₁ : Visit (List ReceiptPlace) Entry Entry → Visit (List Place) Message Record
  viewed₁ v = viewed (map place_in) (message_in store) handed v

  timed-in : (time : TdmaTime) (ps : List ReceiptPlace) (e : Entry) → Step.timed time (map place_in ps) (message_in store e) ≡ message_in store (timed time ps e)
  unfolding message_in sent_in frame_at
  timed-in time ps e =
      let test : Bool =
      not e.progress.has_umac_done && ((place_of ps e.sent.receipt).taken && reported (receipt_of (place_of ps e.sent.receipt)))
      in
      ap₂ (λ (x y : Bool). cond (not x && y) (Rule.done_at time (message_in store e)) (message_in store e))
      (has-time e.progress.has_umac_done e.progress.t_umac_done) (sym (taken_in reported ps e.sent.receipt))
      ∙ sym (ap-cond (message_in store) test (with_progress e (done_at time e.progress)) e)

  stay-in : (ps : List ReceiptPlace) (e : Entry) → Step.stay (map place_in ps) (message_in store e) ≡ viewed₁ (stay ps e)
  stay-in ps e = refl

  resend-in : (ps : List ReceiptPlace) (e : Entry) → Step.resend (map place_in ps) (message_in store e) ≡ viewed₁ (resend ps e)
  unfolding message_in sent_in frame_at
  resend-in ps e =
      λ i.
      record {
        state = sym (mark-in Marks.reset e.sent.receipt ps) i;
        stays = message_in store (submitted_entry (sym (add-one e.progress.retransmit_count) i) e) ∷ [];
        out = handed e ∷ [];
      }

  leave-in : (ps : List ReceiptPlace) (e : Entry) → Step.leave (map place_in ps) (message_in store e) ≡ viewed₁ (leave ps e)
  unfolding message_in sent_in frame_at
  leave-in ps e = λ i. record { state = sym (mark-in Marks.lost e.sent.receipt ps) i; stays = []; out = [] }

  aged-by :
      (time : TdmaTime) (t251 : ℕ) (ps : List Place) (m : Message) (b : Bool) (t : TdmaTime)
      → Step.aged_by time t251 ps m (cond b (some t) none)
      ≡ cond (b && overdue time t251 t) (cond (ltb m.resends 3) (Step.resend ps m) (Step.leave ps m)) (Step.stay ps m)
  aged-by time t251 ps m true t = refl
  aged-by time t251 ps m false t = refl

  aged-in :
      (time : TdmaTime) (t251 : ℕ) (ps : List ReceiptPlace) (e : Entry)
      → Step.aged_by time t251 (map place_in ps) (message_in store e) (message_in store e).done ≡ viewed₁ (aged time t251 ps e)
  unfolding message_in
  aged-in time t251 ps e =
      let due : Bool = e.progress.has_umac_done && overdue time t251 e.progress.t_umac_done in
      let more : Bool = ltb e.progress.retransmit_count 3 in
      aged-by time t251 (map place_in ps) (message_in store e) e.progress.has_umac_done e.progress.t_umac_done
      ∙ ap₂ (cond due)
      (ap₂ (cond more) (resend-in ps e) (leave-in ps e) ∙ sym (ap-cond viewed₁ more (resend ps e) (leave ps e)))
      (stay-in ps e)
      ∙ sym (ap-cond viewed₁ due (cond more (resend ps e) (leave ps e)) (stay ps e))

  retransmission-in :
      (time : TdmaTime) (t251 : ℕ) (ps : List ReceiptPlace) (e : Entry)
      → Step.retransmission time t251 (map place_in ps) (message_in store e) ≡ viewed₁ (retransmission time t251 ps e)
  unfolding Step.retransmission retransmission
  retransmission-in time t251 ps e =
      ap (λ (m : Message). Step.aged_by time t251 (map place_in ps) m m.done) (timed-in time ps e)
      ∙ aged-in time t251 ps (timed time ps e)

  -- The second pass.
  abbrev sending_in : Sending → Step.Sending
  sending_in s = record { receipts = map place_in s.receipts; blocked = s.blocked }

  abbrev viewed₂ : Visit Sending Entry Entry → Visit Step.Sending Message Record
  viewed₂ v = viewed sending_in (message_in store) handed v

  first-in : (s : Sending) (e : Entry) → Step.first_sending (sending_in s) (message_in store e) ≡ viewed₂ (first_sending s e)
  unfolding Step.first_sending first_sending message_in sent_in frame_at
  first-in s e =
      let going : Visit Sending Entry Entry = stay (record { receipts = s.receipts; blocked = e.sent.ssi ∷ s.blocked }) e in
      let sending : Visit Sending Entry Entry =
      record {
        state = record { receipts = mark Marks.reset e.sent.receipt s.receipts; blocked = e.sent.ssi ∷ s.blocked };
        stays = submitted_entry e.progress.retransmit_count e ∷ [];
        out = e ∷ [];
      }
      in
      let test : Bool = among e.sent.ssi s.blocked in
      let sending-in : Visit Step.Sending Message Record =
      record {
        state = record { receipts = Rule.mark Marks.reset e.sent.receipt (map place_in s.receipts); blocked = e.sent.ssi ∷ s.blocked };
        stays = message_in store (submitted_entry e.progress.retransmit_count e) ∷ [];
        out = handed e ∷ [];
      }
      in
      let sent : sending-in ≡ viewed₂ sending =
      λ i.
      record {
        state = record { receipts = sym (mark-in Marks.reset e.sent.receipt s.receipts) i; blocked = e.sent.ssi ∷ s.blocked };
        stays = message_in store (submitted_entry e.progress.retransmit_count e) ∷ [];
        out = handed e ∷ [];
      }
      in
      ap₂ (cond e.progress.submitted_to_umac) refl
      (ap₂ (cond test) refl sent ∙ sym (ap-cond viewed₂ test (stay s e) sending))
      ∙ sym (ap-cond viewed₂ e.progress.submitted_to_umac going (cond test (stay s e) sending))

  -- The two passes of a state.
  retransmissions-in : (s : State) → Step.retransmissions (link_in s store) ≡ viewed₁ (retransmissions s)
  unfolding Step.retransmissions retransmissions link_in
  retransmissions-in s =
      walk-viewed (map place_in) (message_in store) handed (retransmission s.dltime s.t251) (Step.retransmission s.dltime s.t251)
      (retransmission-in s.dltime s.t251) s.receipts (messages_of s)

  -- The second finds what the first one leaves.
  messages-left : (s : State) → messages_of (after_retransmissions s) ≡ (retransmissions s).stays
  messages-left s = take-laid no_entry s.n_messages (retransmissions s).stays s.outbound_messages

  first-sendings-in : (s : State) → Step.first_sendings (link_in s store) ≡ viewed₂ (first_sendings (after_retransmissions s))
  unfolding Step.first_sendings first_sendings
  first-sendings-in s =
      ap
      (λ (v : Visit (List Place) Message Record). walk Step.first_sending (record { receipts = v.state; blocked = [] }) v.stays)
      (retransmissions-in s)
      ∙ walk-viewed sending_in (message_in store) handed first_sending Step.first_sending first-in
      (record { receipts = (retransmissions s).state; blocked = [] }) (retransmissions s).stays
      ∙ ap (λ (l : List Entry). viewed₂ (walk first_sending (record { receipts = (retransmissions s).state; blocked = [] }) l)) (sym (messages-left s))

  -- A state with other messages and receipts, and the whole tick end.
  passed-in :
      (s : State) (ms : List Entry) (ps : List ReceiptPlace)
      → link_in (with_places (with_messages s ms) ps) store
      ≡ Keeps.with_receipts (Keeps.acknowledged_now (link_in s store) (map (message_in store) ms)) (map place_in ps)
  passed-in s ms ps =
      places-in (with_messages s ms) store ps
      ∙ ap (λ (l : Link.Link). Keeps.with_receipts l (map place_in ps)) (messages-in s store ms)

  pub ticked-in : (s : State) → link_in (ticked s) store ≡ (Step.on_tick_end (link_in s store)).state
  unfolding ticked Step.on_tick_end
  ticked-in s =
      let v = first-sendings-in s in
      let s₁ : State = after_retransmissions s in
      let s₂ : State = after_sendings s₁ in
      let f = first_sendings s₁ in
      udata-in (with_acks s₂ []) store []
      ∙ ap (λ (l : Link.Link). Keeps.unacknowledged_now l [])
      (acks-in s₂ store []
      ∙ ap (λ (l : Link.Link). Keeps.due_now l [])
      (passed-in s₁ f.stays f.state.receipts
      ∙ ap (λ (l : Link.Link). Keeps.with_receipts (Keeps.acknowledged_now l (map (message_in store) f.stays)) (map place_in f.state.receipts))
      (passed-in s (retransmissions s).stays (retransmissions s).state)))
      ∙ ap
      (λ (x : Visit Step.Sending Message Record).
      Keeps.with_receipts (Keeps.due_now (Keeps.unacknowledged_now (Keeps.acknowledged_now (link_in s store) x.stays) []) []) x.state.receipts)
      (sym v)

  pub records-in : (s : State) → tick_records s store ≡ (Step.on_tick_end (link_in s store)).records
  unfolding tick_records Step.on_tick_end link_in
  records-in s =
      ap₂ ◌++◌ (sym (ap (λ (x : Visit (List Place) Message Record). x.out) (retransmissions-in s)))
      (ap₂ ◌++◌ (sym (ap (λ (x : Visit Step.Sending Message Record). x.out) (first-sendings-in s)))
      (ap₂ ◌++◌
      (sym (map-map due_in reply_to (acks_of s)))
      (sym (map-map (sent_in store) unacknowledged (udata_of s)))))
