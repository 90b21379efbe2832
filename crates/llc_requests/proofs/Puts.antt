-- What a request leaves: the state and the store that the code makes are those of the definitions.
use Prim.Native.Nat.{ℕ, ◌≤◌, ◌<◌, ◌+◌, ◌/◌, ◌%◌}
use native.Mathlib.Omega.{arith}
use mathlib.Core.Path.{◌≡◌, ◌∙◌, refl, sym, ap, ap₂}
use mathlib.Core.Bool.{Bool, true, false, ◌&&◌, ◌||◌}
use mathlib.Core.List.{List, [], ◌∷◌, ◌++◌}
use borrow.Author.Tests.{leb-true, ltb-true}
use Rattle.std.specs.Prelude.{Option, Some, None, MatchOption}
use lib.Dec.{eqb, leb, ltb}
use lib.ListN.{length, get_or, set, length-take}
use Rattle.std.proofs.lemmas.Bool.{and_parts}
use Rattle.lists.specs.Lists.{Found, nothing, first, others}
use Rattle.lists.specs.Arrays.{position, placed}
use Rattle.lists.proofs.Arrays.{position-within}
use Rattle.questions.specs.Outcome.{accepted}
use Rattle.bits.specs.Bits.{splice}
use Rattle.llc_pdus.specs.declared.Pdu.{Pdu}
use Rattle.llc_pdus.specs.declared.Pdu.TheVariants.{BlAdata, BlData}
use Rattle.llc_pdus.specs.Frames.{frame_bits}
use Rattle.llc_pdus.specs.Writes.{longest}
use Rattle.llc_rule.specs.Limits.{store_places}
use Rattle.llc_rule.specs.Calls.{Request}
use Rattle.llc_rule.specs.Ranges.{is_type, is_receipt, wants_fcs}
use Rattle.llc_rule.specs.Records.{all_bytes}
use Rattle.llc_calls.specs.Ranges.{request_range}
use Rattle.llc_calls.specs.declared.RequestCall.{RequestCall}
use Rattle.llc_state.specs.States.{new_seq}
use Rattle.llc_state.specs.Receipts.{with_places, pending_place, take_receipt}
use Rattle.llc_state.specs.View.{place_bit}
use Rattle.llc_state.specs.declared.Entry.{Entry}
use Rattle.llc_state.specs.declared.ScheduledOutAck.{ScheduledOutAck}
use Rattle.llc_state.specs.declared.ReceiptPlace.{ReceiptPlace}
use Rattle.llc_state.specs.declared.LinkSendSeq.{LinkSendSeq}
use Rattle.llc_state.specs.declared.State.{State}
use Rattle.llc_steps.specs.Answers.{effect, answer, laid_out, WithAnyOut}
use Rattle.llc_steps.specs.Calls.{entry_of, carrier_for, ack_for, seq_of, with_seq, next_seq, data_pdu, with_acknowledged, with_unacknowledged, row_of}
use Rattle.llc_steps.specs.Places.{used_places, free_place}
use Rattle.llc_steps.specs.States.{messages_of, udata_of, acks_of, rows_of, with_messages, with_udata, with_acks, with_rows, Kept}
use Rattle.llc_steps.proofs.Places.{free-place}
use Rattle.llc_steps.proofs.Rows.{seq-at, placed-seq}

-- What question 5 tells of a request.
pub record Allowed (q : RequestCall) : Type 0 where
  pub receipt : q.receipt < 128
  pub block : length q.block.now ≤ 64
  pub sdu : q.sdu.len ≤ longest

pub allowed : (q : RequestCall) → request_range q ≡ true → Allowed q
unfolding request_range
allowed q h =
    let others : Bool =
    is_type q.ssi_type
    && leb q.given 1
    && (eqb q.given 1 || eqb q.carrier 0)
    && ltb q.flags 8
    && ltb q.mask 16
    && (eqb (q.flags / 4 % 2) 1 || eqb q.mask 0)
    in
    let sdu = and_parts _ (leb q.sdu.len longest) h in
    let block = and_parts _ (leb (length q.block.now) 64) sdu.0 in
    let receipt = and_parts others (is_receipt q.receipt) block.0 in
    record {
      receipt = ltb-true q.receipt 128 receipt.1;
      block = leb-true (length q.block.now) 64 block.1;
      sdu = leb-true q.sdu.len longest sdu.1;
    }

pub receipt_below : (q : RequestCall) → request_range q ≡ true → q.receipt < 128
receipt_below q h = (allowed q h).receipt

pub block_at_most : (q : RequestCall) → request_range q ≡ true → length q.block.now ≤ 64
block_at_most q h = (allowed q h).block

pub sdu_at_most : (q : RequestCall) → request_range q ≡ true → q.sdu.len ≤ longest
sdu_at_most q h = (allowed q h).sdu

-- A message has a place in the store where a queue has room.
pub place-below : (s : State) → s.n_messages + s.n_udata < store_places → free_place s < store_places
place-below s h =
    let ms = length-take s.n_messages s.outbound_messages in
    let us = length-take s.n_udata s.outbound_udata_messages in
    (free-place s (omega arith)).0

-- What the two requests ask of the functions that they call.
pub ruleset asking = (receipt_below, block_at_most, sdu_at_most, place-below, position-within)

-- Which acknowledgements are due says nothing of the place.
free-place-then : (s : State) (ds : List ScheduledOutAck) → free_place (with_acks s ds) ≡ free_place s
unfolding free_place used_places
free-place-then s ds = refl

-- The header by the acknowledgement that is due.
pdu-by :
    (r : Request) (ns : Bool) (f : Found ScheduledOutAck) (left : List ScheduledOutAck) (due : Option ScheduledOutAck) {pdu : Pdu}
    → MatchOption due (f ≡ nothing) (λ d. f ≡ first d left)
    → MatchOption due (pdu ≡ BlData (wants_fcs r) ns) (λ d. pdu ≡ BlAdata (wants_fcs r) d.nr ns)
    → pdu ≡ data_pdu r ns f
pdu-by r ns f left None e h = h ∙ sym (ap (data_pdu r ns) e)
pdu-by r ns f left (Some d) e h = h ∙ sym (ap (data_pdu r ns) e)

-- A call that writes no record.
no-records :
    {s t : State} {before after : List ℕ} (k : Kept)
    → t ≡ k.state
    → after ≡ k.store
    → k.records ≡ []
    → WithAnyOut (answer 0 t 0) after s before (accepted k)
unfolding laid_out all_bytes
no-records k e f g =
    record { each = λ out. rw g (ap₂ (λ (t : State) (l : List ℕ). effect (answer 0 t 0) l out) e f) }

-- A message that is to be acknowledged, from what each step of the code gives.
pub put-acknowledged :
    (r : Request) (s : State) (before after : List ℕ) (row : ℕ)
    (due : Option ScheduledOutAck) (pdu : Pdu)
    {carrier : ℕ} {seq : LinkSendSeq} {place len : ℕ} {e : Entry} {s₁ s₂ s₃ s₄ : State}
    → row ≡ position (row_of r.ssi) (rows_of s)
    → carrier ≡ carrier_for r s
    → seq ≡ get_or (rows_of s) row (new_seq r.ssi)
    → MatchOption due (ack_for r s ≡ nothing) (λ d. ack_for r s ≡ first d (acks_of s₁))
    → s₁ ≡ with_acks s (others (ack_for r s) (acks_of s))
    → MatchOption due (pdu ≡ BlData (wants_fcs r) seq.vs) (λ d. pdu ≡ BlAdata (wants_fcs r) d.nr seq.vs)
    → place ≡ free_place s₁
    → after ≡ splice before (place_bit place) (frame_bits pdu r.sdu)
    → len ≡ length (frame_bits pdu r.sdu)
    → e ≡ entry_of r carrier 0 place len seq.vs
    → s₂ ≡ with_messages s₁ (messages_of s₁ ++ (e ∷ []))
    → s₃ ≡ take_receipt s₂ r.receipt true
    → s₄ ≡ with_rows s₃ (placed (next_seq r.ssi seq) row (rows_of s₃))
    → WithAnyOut (answer 0 s₄ 0) after s before (accepted (with_acknowledged r s before))
unfolding with_acknowledged
put-acknowledged r s before after row due pdu {carrier} {seq} {place} {len} {e} {s₁} {s₂} {s₃} {s₄}
    row_is carrier-is seq-is due-is s₁_is pdu-is place_is after_is len_is e-is s₂_is s₃_is s₄-is =
    let w : LinkSendSeq = seq_of r.ssi (rows_of s) in
    let f : Found ScheduledOutAck = ack_for r s in
    let ds : List ScheduledOutAck = others f (acks_of s) in
    let frame : Pdu → List ℕ = λ (t : Pdu). frame_bits t r.sdu in
    let places : List ReceiptPlace = set s.receipts r.receipt (pending_place true) in
    let seqs : seq ≡ w = seq-is ∙ seq-at r.ssi (rows_of s) row_is in
    let bit : seq.vs ≡ w.vs = ap (λ (x : LinkSendSeq). x.vs) seqs in
    let pdus : pdu ≡ data_pdu r w.vs f = pdu-by r seq.vs f (acks_of s₁) due due-is pdu-is ∙ ap (λ (b : Bool). data_pdu r b f) bit in
    let at : place ≡ free_place s = place_is ∙ ap free_place s₁_is ∙ free-place-then s ds in
    let entry : e ≡ entry_of r (carrier_for r s) 0 (free_place s) (length (frame (data_pdu r w.vs f))) w.vs =
    e-is ∙ (λ i. entry_of r (carrier-is i) 0 (at i) ((len_is ∙ ap (λ (t : Pdu). length (frame t)) pdus) i) (bit i))
    in
    let rows : placed (next_seq r.ssi seq) row (rows_of s) ≡ with_seq r.ssi (next_seq r.ssi w) (rows_of s) =
    placed-seq r.ssi (rows_of s) row_is (ap (next_seq r.ssi) seqs)
    in
    let state : s₄ ≡ (with_acknowledged r s before).state =
    s₄-is
    ∙ ap (λ (t : State). with_rows t (placed (next_seq r.ssi seq) row (rows_of t)))
    (s₃_is
    ∙ ap (λ (t : State). take_receipt t r.receipt true)
    (s₂_is ∙ ap (λ (t : State). with_messages t (messages_of t ++ (e ∷ []))) s₁_is))
    ∙ (λ i. with_rows (with_places (with_acks (with_messages s (messages_of s ++ (entry i ∷ []))) ds) places) (rows i))
    in
    no-records (with_acknowledged r s before) state (after_is ∙ (λ i. splice before (place_bit (at i)) (frame (pdus i)))) refl

-- A message that is not acknowledged, in a state where others are due than in the one before.
pub put-unacknowledged :
    (r : Request) (s : State) (ds : List ScheduledOutAck) (before after : List ℕ) (link : ℕ) (pdu : Pdu)
    {carrier place len : ℕ} {e : Entry} {s₁ s₂ s₃ : State}
    → s₁ ≡ with_acks s ds
    → carrier ≡ carrier_for r s₁
    → place ≡ free_place s₁
    → after ≡ splice before (place_bit place) (frame_bits pdu r.sdu)
    → len ≡ length (frame_bits pdu r.sdu)
    → e ≡ entry_of r carrier link place len false
    → s₂ ≡ with_udata s₁ (udata_of s₁ ++ (e ∷ []))
    → s₃ ≡ take_receipt s₂ r.receipt false
    → WithAnyOut (answer 0 s₃ 0) after s before (accepted (with_unacknowledged r link pdu ds s before))
unfolding with_unacknowledged
put-unacknowledged r s ds before after link pdu {carrier} {place} {len} {e} {s₁} {s₂} {s₃}
    s₁_is carrier-is place_is after_is len_is e-is s₂_is s₃_is =
    let pdus : List ℕ = frame_bits pdu r.sdu in
    let places : List ReceiptPlace = set s.receipts r.receipt (pending_place false) in
    let on : carrier ≡ carrier_for r s = carrier-is ∙ ap (carrier_for r) s₁_is in
    let at : place ≡ free_place s = place_is ∙ ap free_place s₁_is ∙ free-place-then s ds in
    let entry : e ≡ entry_of r (carrier_for r s) link (free_place s) (length pdus) false =
    e-is ∙ (λ i. entry_of r (on i) link (at i) (len_is i) false)
    in
    let state : s₃ ≡ (with_unacknowledged r link pdu ds s before).state =
    s₃_is
    ∙ ap (λ (t : State). take_receipt t r.receipt false)
    (s₂_is ∙ ap (λ (t : State). with_udata t (udata_of t ++ (e ∷ []))) s₁_is)
    ∙ ap (λ (t : Entry). with_places (with_acks (with_udata s (udata_of s ++ (t ∷ []))) ds) places) entry
    in
    no-records (with_unacknowledged r link pdu ds s before) state
    (after_is ∙ ap (λ (k : ℕ). splice before (place_bit k) pdus) at)
    refl
