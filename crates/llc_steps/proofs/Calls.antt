-- The calls on the entries are the calls on the link that they hold.
use Prim.Native.Nat.{ℕ}
use mathlib.Core.Path.{◌≡◌, ◌∙◌, refl, sym, ap, ap₂}
use mathlib.Core.Bool.{Bool, true, false, cond, not, ◌&&◌, ◌||◌, beq}
use mathlib.Core.List.{List, [], ◌∷◌, map, map-append}
use mathlib.Core.Option.{Option, none, some}
use lib.Dec.{eqb, ltb}
use lib.ListN.{length-map}
use Rattle.lists.specs.Lists.{Found, nothing, first}
use Rattle.lists.proofs.Choices.{by-test, ap-cond}
use Rattle.questions.specs.Outcome.{Outcome, accepted, refused, ask}
use Rattle.tx_receipt.specs.States.{is, final}
use Rattle.tx_receipt.specs.Marks as Marks
use Rattle.tx_receipt.specs.Marks.{allowed}
use Rattle.tx_receipt.specs.declared.TxState.TheVariants.{Pending}
use Rattle.llc_pdus.specs.Headers.{ns_of, nr_of}
use Rattle.llc_pdus.specs.Received.{Received}
use Rattle.llc_rule.specs.Calls.{Action, report, release, Frame}
use Rattle.llc_rule.specs.Records.{Sent}
use Rattle.llc_rule.specs.Upward.{upward}
use Rattle.llc_rule.specs.Messages as Rule
use Rattle.llc_rule.specs.Messages.{Message, mark_of}
use Rattle.llc_rule.specs.Done.{Done, done}
use Rattle.llc_rule.specs.Keeps as Keeps
use Rattle.llc_rule.specs.Keeps.{Numbers}
use Rattle.llc_rule.specs.Link as Link
use Rattle.llc_rule.specs.Step as Step
use Rattle.llc_state.specs.View.{sent_in, message_in, due_in, numbers_in, row_in, link_in}
use Rattle.llc_state.specs.declared.Entry.{Entry}
use Rattle.llc_state.specs.declared.ScheduledOutAck.{ScheduledOutAck}
use Rattle.llc_state.specs.declared.LinkSendSeq.{LinkSendSeq}
use Rattle.llc_state.specs.declared.State.{State}
use Rattle.llc_state.specs.Receipts.{mark_receipt}
use Rattle.llc_state.proofs.Places.{taken_in, mark-receipt-in, free-receipt-in}
use Rattle.llc_state.proofs.Maps.{map_found, find-map, any-map}
use Rattle.llc_steps.specs.States.{messages_of, udata_of, acks_of, rows_of, with_messages, with_acks, Kept}
use Rattle.llc_steps.specs.Calls.{seq_of, heard_seq, row_if_numbered, ack_room, scheduled, heard_rows, numbered, repeats, is_repeat, expected, fits, finishable, may_finish, answered_by, answered, on_received, held, waits, on_report, on_release, on_receipt}
use Rattle.llc_steps.specs.Holds.{kept_in, Counted}
use Rattle.llc_steps.proofs.Setters.{messages-in, acks-in, rows_in}
use Rattle.llc_steps.proofs.Rows.{seq_in, with-seq-in, row-in}
use Rattle.llc_steps.proofs.TickEnd.{has-time}

-- A question that is asked alike of a state and of the link that it holds, and then what they leave.
pub kept-ask :
    (n : ℕ) {b c : Bool} (o : Outcome Kept) {p : Outcome (Done Link.Link)} → b ≡ c → (b ≡ true → kept_in o ≡ p) → kept_in (ask n b o) ≡ ask n c p
unfolding kept_in
kept-ask n {b = true} o {p = p} e f = f refl ∙ ap (λ (t : Bool). ask n t p) e
kept-ask n {b = false} o {p = p} e f = ap (λ (t : Bool). ask n t p) e

-- Reports and releases.
module _ (s : State) (store : List ℕ) where
  held_in : (i : ℕ) → Step.held i (link_in s store) ≡ held i s
  unfolding Step.held held link_in message_in sent_in
  held_in i =
      ap₂ ◌||◌
      (any-map (message_in store) (λ (m : Message). eqb m.sent.receipt i) (messages_of s))
      (any-map (sent_in store) (λ (u : Sent). eqb u.receipt i) (udata_of s))

  waits_in : (i : ℕ) → Step.waits i (link_in s store) ≡ waits i s
  unfolding Step.waits waits link_in message_in sent_in
  waits_in i =
      ap₂ ◌||◌
      (any-map (message_in store) (λ (m : Message). eqb m.sent.receipt i && not m.submitted) (messages_of s))
      (any-map (sent_in store) (λ (u : Sent). eqb u.receipt i) (udata_of s))

  report-in : (i how : ℕ) → kept_in (on_report i how s store) ≡ Step.on_report i how (link_in s store)
  unfolding on_report Step.on_report kept_in link_in
  report-in i how =
      kept-ask 15 _ (ap₂ (λ (x y : Bool). x && not y) (taken_in (is Pending) s.receipts i) (sym (waits_in i)))
      (λ t. ap (λ (l : Link.Link). accepted (done l [])) (mark-receipt-in s store i (mark_of how)))

  release-in : (i : ℕ) → kept_in (on_release i s store) ≡ Step.on_release i (link_in s store)
  unfolding on_release Step.on_release kept_in link_in
  release-in i =
      kept-ask 16 _ (ap₂ (λ (x y : Bool). x && not y) (taken_in final s.receipts i) (sym (held_in i)))
      (λ t. ap (λ (l : Link.Link). accepted (done l [])) (free-receipt-in s store i))

  pub by-receipt-in : (i : ℕ) (a : Action) → kept_in (on_receipt i a s store) ≡ Step.on_receipt i a (link_in s store)
  by-receipt-in i (report how) = report-in i how
  by-receipt-in i release = release-in i

-- Frames.
last-by : (ns : Bool) (w : LinkSendSeq) → repeats ns w ≡ Step.is_last ns (numbers_in w).last
last-by ns w = by-test w.has_last_ns (λ t. rw t) (λ t. rw t)

module _ (f : Frame) (s : State) (store : List ℕ) where
  row-in-frame : Counted s → (x : Option Bool) → row_if_numbered f.ssi x s ≡ Step.row_for_frame f x (link_in s store)
  row-in-frame ok none = refl
  row-in-frame ok (some ns) = row-in f.ssi s store ok

  room_in : Counted s → (x : Option Bool) → ack_room x s ≡ Step.due_room x (link_in s store)
  unfolding link_in
  room_in ok none = refl
  room_in ok (some ns) = ap (λ (n : ℕ). ltb n 64) (sym (length-map (acks_of s) due_in ∙ ok.acks))

  expected-in : Step.awaiting f (link_in s store) ≡ map_found (message_in store) (expected f s)
  unfolding Step.awaiting expected link_in message_in sent_in
  expected-in =
      find-map (message_in store)
      (λ (m : Message). eqb m.sent.ssi f.ssi && (eqb m.sent.carrier f.carrier && m.submitted)) (messages_of s)

  fits_in : (nr : Bool) (e : Entry) → fits nr e ≡ Step.fits nr (message_in store e)
  unfolding message_in
  fits_in nr e = ap (λ (b : Bool). b && beq e.progress.ns nr) (sym (has-time e.progress.has_umac_done e.progress.t_umac_done))

  finishable-in : (nr : Bool) (x : Found Entry) → finishable nr x s ≡ Step.finishable nr (map_found (message_in store) x) (link_in s store)
  unfolding link_in message_in sent_in
  finishable-in nr nothing = refl
  finishable-in nr (first e es) =
      ap₂ (λ (x y : Bool). not x || y) (fits_in nr e) (taken_in (allowed Marks.acknowledged) s.receipts e.sent.receipt)

  may-finish-in : (x : Option Bool) → may_finish f x s ≡ Step.may_finish f x (link_in s store)
  may-finish-in none = refl
  may-finish-in (some nr) =
      finishable-in nr (expected f s) ∙ ap (λ (x : Found Message). Step.finishable nr x (link_in s store)) (sym expected-in)

  scheduled-in : (ns : Bool) → map due_in (scheduled f.ssi f.type f.carrier ns s) ≡ Step.with_due f ns (link_in s store)
  unfolding link_in due_in
  scheduled-in ns = map-append due_in (acks_of s) _

  heard-rows-in : (ns : Bool) → map row_in (heard_rows f.ssi ns s) ≡ Step.with_heard f ns (link_in s store)
  unfolding link_in
  heard-rows-in ns =
      with-seq-in f.ssi (heard_seq f.ssi ns (seq_of f.ssi (rows_of s))) (rows_of s) refl
      ∙ ap (λ (n : Numbers). Link.with_numbers f.ssi (Keeps.with_last n ns) (map row_in (rows_of s))) (sym (seq_in f.ssi (rows_of s)))

  numbered-in : (x : Option Bool) → link_in (numbered f.ssi f.type f.carrier x s) store ≡ Step.numbered f x (link_in s store)
  numbered-in none = refl
  numbered-in (some ns) =
      let ds : List ScheduledOutAck = scheduled f.ssi f.type f.carrier ns s in
      rows_in (with_acks s ds) store (heard_rows f.ssi ns s)
      ∙ ap₂ Keeps.with_rows
      (acks-in s store ds ∙ ap (Keeps.due_now (link_in s store)) (scheduled-in ns))
      (heard-rows-in ns)

  repeat-in : (x : Option Bool) → is_repeat f.ssi x s ≡ Step.is_repeat f x (link_in s store)
  unfolding link_in
  repeat-in none = refl
  repeat-in (some ns) =
      last-by ns (seq_of f.ssi (rows_of s)) ∙ ap (λ (n : Numbers). Step.is_last ns n.last) (sym (seq_in f.ssi (rows_of s)))

  answered-by-in :
      (nr : Bool) (x : Found Entry)
      → link_in (answered_by nr x s) store ≡ Step.answered_by nr (map_found (message_in store) x) (link_in s store)
  unfolding answered_by Step.answered_by message_in sent_in
  answered-by-in nr nothing = refl
  answered-by-in nr (first e es) =
      let gone : State = mark_receipt (with_messages s es) e.sent.receipt Marks.acknowledged in
      ap-cond (λ (t : State). link_in t store) (fits nr e) gone (with_messages s (e ∷ es))
      ∙ (λ i.
      cond (fits_in nr e i)
      ((mark-receipt-in (with_messages s es) store e.sent.receipt Marks.acknowledged
      ∙ ap (λ (l : Link.Link). Keeps.with_receipts l (Rule.mark Marks.acknowledged e.sent.receipt l.receipts)) (messages-in s store es)) i)
      (messages-in s store (e ∷ es) i))

  answered-in : (x : Option Bool) → link_in (answered f x s) store ≡ Step.answered f x (link_in s store)
  answered-in none = refl
  answered-in (some nr) =
      answered-by-in nr (expected f s) ∙ ap (λ (x : Found Message). Step.answered_by nr x (link_in s store)) (sym expected-in)

pub received-in :
    (f : Frame) (s : State) (store : List ℕ)
    → Counted s
    → (x : Outcome Received) → kept_in (on_received f x s store) ≡ Step.on_received f x (link_in s store)
unfolding on_received Step.on_received kept_in
received-in f s store ok (refused n) = refl
received-in f s store ok (accepted r) =
    let ns : Option Bool = ns_of r.header in
    let nr : Option Bool = nr_of r.header in
    kept-ask 7 _ (row-in-frame f s store ok ns)
    (λ row.
    kept-ask 13 _ (room_in f s store ok ns)
    (λ room.
    kept-ask 14 _ (may-finish-in f s store nr)
    (λ may.
    ap₂ (λ (l : Link.Link) (b : Bool). accepted (done l (cond b [] (upward f r.header r.sdu))))
    (answered-in f (numbered f.ssi f.type f.carrier ns s) store nr ∙ ap (Step.answered f nr) (numbered-in f s store ns))
    (repeat-in f s store ns))))
