-- A request on the entries is the request on the link that they hold.
use Prim.Native.Nat.{ℕ, ◌+◌, ◌-◌, ◌≤◌, ◌<◌}
use native.Mathlib.Omega.{arith}
use mathlib.Core.Path.{◌≡◌, ◌∙◌, refl, sym, ap, ap₂}
use mathlib.Core.Bool.{Bool, true, false, cond, not, ◌&&◌}
use mathlib.Core.List.{List, [], ◌∷◌, ◌++◌, map, map-append}
use borrow.Author.Tests.{ltb-true}
use lib.Dec.{eqb, ltb}
use lib.ListN.{length, set, replicate, length-map}
use lib.Seq.{take-append_seam}
use Rattle.lists.specs.Lists.{Found, nothing, first, others, All}
use Rattle.lists.proofs.Lists.{all_map}
use Rattle.lists.proofs.Choices.{by-test}
use Rattle.questions.specs.Outcome.{accepted}
use Rattle.bits.specs.Bits.{splice}
use Rattle.llc_pdus.specs.Frames.{frame_bits}
use Rattle.llc_pdus.specs.Writes.{longest}
use Rattle.llc_pdus.specs.declared.Pdu.{Pdu}
use Rattle.llc_pdus.specs.declared.Pdu.TheVariants.{BlUdata, BlAck}
use Rattle.llc_pdus.proofs.Framing.{frame-short}
use Rattle.llc_rule.specs.Limits.{place_bits, store_places}
use Rattle.llc_rule.specs.Calls.{Service, tl_data, tl_unitdata, Request}
use Rattle.llc_rule.specs.Ranges.{steals, wants_fcs}
use Rattle.llc_rule.specs.Records.{Sent}
use Rattle.llc_rule.specs.Messages as Rule
use Rattle.llc_rule.specs.Messages.{Message, Due, sent_of}
use Rattle.llc_rule.specs.Done.{done}
use Rattle.llc_rule.specs.Keeps as Keeps
use Rattle.llc_rule.specs.Keeps.{Numbers}
use Rattle.llc_rule.specs.Link as Link
use Rattle.llc_rule.specs.Step as Step
use Rattle.llc_rule.specs.Step.{on_acknowledged_path}
use Rattle.llc_state.specs.Progress.{new_progress}
use Rattle.llc_state.specs.View.{place_bit, frame_at, sent_with, sent_in, message_with, message_in, due_in, place_in, row_in, link_in}
use Rattle.llc_state.specs.declared.Entry.{Entry}
use Rattle.llc_state.specs.declared.ScheduledOutAck.{ScheduledOutAck}
use Rattle.llc_state.specs.declared.ReceiptPlace.{ReceiptPlace}
use Rattle.llc_state.specs.declared.LinkSendSeq.{LinkSendSeq}
use Rattle.llc_state.specs.declared.State.{State}
use Rattle.llc_state.specs.Receipts.{take_receipt, place_of}
use Rattle.llc_state.proofs.Maps.{map_found, find-map, others-map}
use Rattle.llc_state.proofs.Places.{place-in, take-receipt-in}
use Rattle.llc_steps.specs.States.{messages_of, udata_of, acks_of, rows_of, with_messages, with_udata, with_acks}
use Rattle.llc_steps.specs.Places.{free_place}
use Rattle.llc_steps.specs.Calls.{entry_of, carrier_for, ack_for, seq_of, with_seq, next_seq, data_pdu, with_acknowledged, with_unacknowledged, with_stolen, receipt_free, on_data, on_unitdata, on_request}
use Rattle.llc_steps.specs.Holds.{kept_in, Stored, Ready}
use Rattle.llc_steps.proofs.Setters.{messages-in, udata-in, acks-in, rows_in}
use Rattle.llc_steps.proofs.Places.{free-place, part-there, frame-elsewhere}
use Rattle.llc_steps.proofs.Rows.{seq_in, with-seq-in, row-in}
use Rattle.llc_steps.proofs.Calls.{kept-ask}

-- Receipts.
free-by : (p : ReceiptPlace) → not p.taken ≡ Rule.is_free (place_in p)
unfolding place_in
free-by p = by-test p.taken (λ t. rw t) (λ f. rw f)

-- What stays as it was.
map_same : {A B : Type 0} (g k : A → B) (l : List A) → All (λ (x : A). g x ≡ k x) l → map g l ≡ map k l
map_same g k [] a = refl
map_same g k (x ∷ l) a = ap₂ (λ (y : _) (t : List _). y ∷ t) a.0 (map_same g k l a.1)

-- A new message, with its frame where it takes its place.
record Placed (s : State) (store : List ℕ) (pdu : List ℕ) (after : List ℕ) : Type 0 where
  there : (len : ℕ) → len ≡ length pdu → Rattle.bits.specs.Bits.part after (place_bit (free_place s)) len ≡ pdu
  messages : All (λ (e : Entry). frame_at after e ≡ frame_at store e) (messages_of s)
  udata : All (λ (e : Entry). frame_at after e ≡ frame_at store e) (udata_of s)

module _ (r : Request) (s : State) (store : List ℕ) (short : length r.block ≤ 64) where
  new-sent :
      (c k : ℕ) (p : Pdu) (ns : Bool) (after : List ℕ)
      → Placed s store (frame_bits p r.sdu) after
      → sent_in after (entry_of r c k (free_place s) (length (frame_bits p r.sdu)) ns) ≡ sent_of r c k p
  unfolding sent_in entry_of sent_of frame_at
  new-sent c k p ns after ok =
      rw (take-append_seam r.block (replicate (64 - length r.block) 0), ok.there (length (frame_bits p r.sdu)) refl)

  ack-for-in : Step.due_for r (link_in s store) ≡ map_found due_in (ack_for r s)
  unfolding Step.due_for ack_for link_in due_in
  ack-for-in = find-map due_in (λ (d : Due). eqb d.ssi r.ssi && eqb d.carrier (carrier_for r s)) (acks_of s)

  data-pdu-in : (ns : Bool) (x : Found ScheduledOutAck) → Step.data_pdu r ns (map_found due_in x) ≡ data_pdu r ns x
  unfolding due_in
  data-pdu-in ns nothing = refl
  data-pdu-in ns (first d ds) = refl

  sent-same : (after : List ℕ) (e : Entry) → frame_at after e ≡ frame_at store e → sent_in after e ≡ sent_in store e
  unfolding sent_in
  sent-same after e f = ap (λ (pdu : List ℕ). sent_with pdu e.sent) f

  message-same : (after : List ℕ) (e : Entry) → frame_at after e ≡ frame_at store e → message_in after e ≡ message_in store e
  unfolding message_in
  message-same after e f = ap (λ (x : Sent). message_with x e.progress) (sent-same after e f)

  messages-same : (pdu after : List ℕ) → Placed s store pdu after → map (message_in after) (messages_of s) ≡ map (message_in store) (messages_of s)
  messages-same pdu after ok =
      map_same (message_in after) (message_in store) (messages_of s)
      (all_map (λ (e : Entry). frame_at after e ≡ frame_at store e) (λ (e : Entry). message_in after e ≡ message_in store e) (messages_of s)
      (message-same after) ok.messages)

  udata-same : (pdu after : List ℕ) → Placed s store pdu after → map (sent_in after) (udata_of s) ≡ map (sent_in store) (udata_of s)
  udata-same pdu after ok =
      map_same (sent_in after) (sent_in store) (udata_of s)
      (all_map (λ (e : Entry). frame_at after e ≡ frame_at store e) (λ (e : Entry). sent_in after e ≡ sent_in store e) (udata_of s)
      (sent-same after) ok.udata)

  -- The link is the same in the store with the new frame.
  link-same : (pdu after : List ℕ) → Placed s store pdu after → link_in s after ≡ link_in s store
  unfolding link_in
  link-same pdu after ok =
      ap₂ (λ (ms : List Message) (us : List Sent). Keeps.unacknowledged_now (Keeps.acknowledged_now (link_in s store) ms) us)
      (messages-same pdu after ok)
      (udata-same pdu after ok)

  new-message :
      (c k : ℕ) (p : Pdu) (ns : Bool) (after : List ℕ)
      → Placed s store (frame_bits p r.sdu) after
      → message_in after (entry_of r c k (free_place s) (length (frame_bits p r.sdu)) ns) ≡ Rule.waiting (sent_of r c k p) ns
  unfolding message_in entry_of
  new-message c k p ns after ok = ap (λ (x : Sent). message_with x (new_progress ns)) (new-sent c k p ns after ok)

  with-acknowledged-in :
      Placed s store (frame_bits (data_pdu r (seq_of r.ssi (rows_of s)).vs (ack_for r s)) r.sdu) (with_acknowledged r s store).store
      → link_in (with_acknowledged r s store).state (with_acknowledged r s store).store ≡ Step.with_acknowledged r (link_in s store)
  unfolding with_acknowledged Step.with_acknowledged link_in
  with-acknowledged-in ok =
      let ns : Bool = (seq_of r.ssi (rows_of s)).vs in
      let w : LinkSendSeq = next_seq r.ssi (seq_of r.ssi (rows_of s)) in
      let c : ℕ = carrier_for r s in
      let p : Pdu = data_pdu r ns (ack_for r s) in
      let pdu : List ℕ = frame_bits p r.sdu in
      let after : List ℕ = splice store (place_bit (free_place s)) pdu in
      let e : Entry = entry_of r c 0 (free_place s) (length pdu) ns in
      let numbers = sym (seq_in r.ssi (rows_of s)) in
      let bit : ns ≡ Link.bit_of r.ssi (map row_in (rows_of s)) = ap (λ (n : Numbers). n.bit) numbers in
      let pdus : p ≡ Step.data_pdu r (Link.bit_of r.ssi (map row_in (rows_of s))) (Step.due_for r (link_in s store)) =
      sym (data-pdu-in ns (ack_for r s)) ∙ ap₂ (Step.data_pdu r) bit (sym ack-for-in)
      in
      let messages =
      map-append (message_in after) (messages_of s) (e ∷ [])
      ∙ ap₂ (λ (x : List Message) (m : Message). x ++ (m ∷ [])) (messages-same pdu after ok)
      (new-message c 0 p ns after ok ∙ ap₂ (λ (q : Pdu) (b : Bool). Rule.waiting (sent_of r c 0 q) b) pdus bit)
      in
      let dues =
      sym (others-map due_in (ack_for r s) (acks_of s)) ∙ ap (λ (x : Found Due). others x (map due_in (acks_of s))) (sym ack-for-in)
      in
      let rows =
      with-seq-in r.ssi w (rows_of s) refl
      ∙ ap (λ (n : Numbers). Link.with_numbers r.ssi (Keeps.with_bit n (not n.bit)) (map row_in (rows_of s))) numbers
      in
      let s₁ : State = with_messages s (messages_of s ++ (e ∷ [])) in
      let s₂ : State = with_acks s₁ (others (ack_for r s) (acks_of s)) in
      let s₃ : State = take_receipt s₂ r.receipt true in
      rows_in s₃ after (with_seq r.ssi w (rows_of s))
      ∙ ap₂ Keeps.with_rows
      (take-receipt-in s₂ after r.receipt true
      ∙ ap (λ (l : Link.Link). Keeps.with_receipts l (set l.receipts r.receipt (Rule.pending true)))
      (acks-in s₁ after (others (ack_for r s) (acks_of s))
      ∙ ap₂ Keeps.due_now (messages-in s after (messages_of s ++ (e ∷ [])) ∙ ap₂ Keeps.acknowledged_now (link-same pdu after ok) messages) dues))
      rows

  with-unacknowledged-in :
      (k : ℕ) (p : Pdu) (ds : List ScheduledOutAck)
      → Placed s store (frame_bits p r.sdu) (with_unacknowledged r k p ds s store).store
      → link_in (with_unacknowledged r k p ds s store).state (with_unacknowledged r k p ds s store).store
      ≡ Step.with_unacknowledged r k p (map due_in ds) (link_in s store)
  unfolding with_unacknowledged Step.with_unacknowledged link_in
  with-unacknowledged-in k p ds ok =
      let c : ℕ = carrier_for r s in
      let pdu : List ℕ = frame_bits p r.sdu in
      let after : List ℕ = splice store (place_bit (free_place s)) pdu in
      let e : Entry = entry_of r c k (free_place s) (length pdu) false in
      let sents =
      map-append (sent_in after) (udata_of s) (e ∷ [])
      ∙ ap₂ (λ (x : List Sent) (m : Sent). x ++ (m ∷ [])) (udata-same pdu after ok) (new-sent c k p false after ok)
      in
      let s₁ : State = with_udata s (udata_of s ++ (e ∷ [])) in
      let s₂ : State = with_acks s₁ ds in
      take-receipt-in s₂ after r.receipt false
      ∙ ap (λ (l : Link.Link). Keeps.with_receipts l (set l.receipts r.receipt (Rule.pending false)))
      (acks-in s₁ after ds
      ∙ ap (λ (l : Link.Link). Keeps.due_now l (map due_in ds))
      (udata-in s after (udata_of s ++ (e ∷ [])) ∙ ap₂ Keeps.unacknowledged_now (link-same pdu after ok) sents))

all_both : {A : Type 0} (P Q R : A → Type 0) (l : List A) → ((x : A) → P x → Q x → R x) → All P l → All Q l → All R l
all_both P Q R [] f p q = tt
all_both P Q R (x ∷ l) f p q = (f x p.0 q.0, all_both P Q R l f p.1 q.1)

placed :
    (s : State) (store pdu : List ℕ)
    → Ready s store
    → s.n_messages + s.n_udata < store_places
    → length pdu ≤ place_bits
    → Placed s store pdu (splice store (place_bit (free_place s)) pdu)
placed s store pdu ok few short =
    let p : ℕ = free_place s in
    let free = free-place s (omega (arith, ok.counted.messages, ok.counted.udata)) in
    let Q : Entry → Type 0 = λ e. eqb e.frame.place p ≡ false in
    let same : (e : Entry) → Stored e → Q e → frame_at (splice store (place_bit p) pdu) e ≡ frame_at store e =
    λ e in-range other. frame-elsewhere store p pdu e ok.long free.0 in-range.0 other short (omega (arith, in-range.1))
    in
    record {
      there = λ n e. ap (Rattle.bits.specs.Bits.part (splice store (place_bit p) pdu) (place_bit p)) e ∙ part-there store p pdu ok.long free.0 short;
      messages = all_both Stored Q (λ (e : Entry). frame_at (splice store (place_bit p) pdu) e ≡ frame_at store e) (messages_of s) same ok.messages free.1;
      udata = all_both Stored Q (λ (e : Entry). frame_at (splice store (place_bit p) pdu) e ≡ frame_at store e) (udata_of s) same ok.udata free.2;
    }

module _ (r : Request) (s : State) (store : List ℕ) (ok : Ready s store) (block : length r.block ≤ 64) (sdu : length r.sdu ≤ longest) where
  pdu-short : (p : Pdu) → length (frame_bits p r.sdu) ≤ place_bits
  pdu-short p = omega (arith, frame-short p r.sdu sdu)

  receipt-in : receipt_free r s ≡ Step.receipt_free r (link_in s store)
  unfolding link_in
  receipt-in =
      let p : ReceiptPlace = place_of s.receipts r.receipt in
      free-by p ∙ ap Rule.is_free (sym (place-in s.receipts r.receipt))

  messages-room : ltb s.n_messages 64 ≡ Step.acknowledged_place (link_in s store)
  unfolding link_in
  messages-room = ap (λ (n : ℕ). ltb n 64) (sym (length-map (messages_of s) (message_in store) ∙ ok.counted.messages))

  udata-room : ltb s.n_udata 32 ≡ Step.unacknowledged_place (link_in s store)
  unfolding link_in
  udata-room = ap (λ (n : ℕ). ltb n 32) (sym (length-map (udata_of s) (sent_in store) ∙ ok.counted.udata))

  unacknowledged-kept :
      (k : ℕ) (p : Pdu) (ds : List ScheduledOutAck)
      → ltb s.n_udata 32 ≡ true
      → kept_in (accepted (with_unacknowledged r k p ds s store))
      ≡ accepted (done (Step.with_unacknowledged r k p (map due_in ds) (link_in s store)) [])
  unfolding kept_in with_unacknowledged
  unacknowledged-kept k p ds room =
      ap (λ (l : Link.Link). accepted (done l []))
      (with-unacknowledged-in r s store block k p ds
      (placed s store (frame_bits p r.sdu) ok (omega (arith, ltb-true s.n_udata 32 room, ok.few)) (pdu-short p)))

  acknowledged-kept :
      ltb s.n_messages 64 ≡ true
      → kept_in (accepted (with_acknowledged r s store)) ≡ accepted (done (Step.with_acknowledged r (link_in s store)) [])
  unfolding kept_in with_acknowledged
  acknowledged-kept room =
      let p : Pdu = data_pdu r (seq_of r.ssi (rows_of s)).vs (ack_for r s) in
      ap (λ (l : Link.Link). accepted (done l []))
      (with-acknowledged-in r s store block
      (placed s store (frame_bits p r.sdu) ok (omega (arith, ltb-true s.n_messages 64 room, ok.few_too)) (pdu-short p)))

  stolen-kept :
      (x : Found ScheduledOutAck)
      → ltb s.n_udata 32 ≡ true
      → kept_in (accepted (with_stolen r s store x)) ≡ accepted (done (Step.with_stolen r (link_in s store) (map_found due_in x)) [])
  unfolding with_stolen Step.with_stolen due_in link_in
  stolen-kept nothing room = unacknowledged-kept 0 (BlUdata false) (acks_of s) room
  stolen-kept (first d ds) room = unacknowledged-kept r.link (BlAck (wants_fcs r) d.nr) ds room

  unitdata-in : kept_in (on_unitdata r s store) ≡ Step.on_unitdata r (link_in s store)
  unfolding on_unitdata Step.on_unitdata link_in
  unitdata-in =
      kept-ask 6 _ receipt-in (λ t. kept-ask 8 _ udata-room (λ u. unacknowledged-kept r.link (BlUdata false) (acks_of s) u))

  off-path :
      ltb s.n_udata 32 ≡ true
      → kept_in (accepted (cond (steals r) (with_stolen r s store (ack_for r s)) (with_stolen r s store nothing)))
      ≡ accepted
      (done (cond (steals r) (Step.with_stolen r (link_in s store) (Step.due_for r (link_in s store))) (Step.with_stolen r (link_in s store) nothing)) [])
  off-path u =
      by-test (steals r)
      (λ t.
      rw t
      (stolen-kept (ack_for r s) u
      ∙ ap (λ (x : Found Due). accepted (done (Step.with_stolen r (link_in s store) x) [])) (sym (ack-for-in r s store block))))
      (λ t. rw t (stolen-kept nothing u))

  data-in : kept_in (on_data r s store) ≡ Step.on_data r (link_in s store)
  unfolding on_data Step.on_data
  data-in =
      kept-ask 6 _ receipt-in
      (λ t.
      by-test (on_acknowledged_path r)
      (λ p. rw p (kept-ask 7 _ (row-in r.ssi s store ok.counted) (λ q. kept-ask 8 _ messages-room (λ u. acknowledged-kept u))))
      (λ p. rw p (kept-ask 8 _ udata-room (λ u. off-path u))))

  pub request-in : (v : Service) → kept_in (on_request v r s store) ≡ Step.on_request v r (link_in s store)
  request-in tl_data = data-in
  request-in tl_unitdata = unitdata-in
