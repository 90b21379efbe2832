-- The message that an acknowledgement is for, by its place in the queue.
use Prim.Native.Nat.{ℕ, suc, ◌≤◌, ◌<◌}
use native.Mathlib.Omega.{arith}
use mathlib.Core.Path.{◌≡◌, ◌∙◌, refl, sym, ap, ap₂}
use mathlib.Core.Bool.{Bool, true, false, not, ◌&&◌, ◌||◌}
use mathlib.Core.List.{List, [], ◌∷◌, ◌++◌}
use mathlib.Core.Option.{Option, none, some}
use borrow.Author.Tests.{lt-ltb, le-ltb, ltb-false}
use lib.Dec.{ltb}
use lib.ListN.{length, get_or, take, drop, drop_of_length-le, length-take}
use lib.Seq.{drop-cons, get_or-take, length-take-le}
use Rattle.std.specs.Prelude.{Option as Given, Some, None}
use Rattle.std.proofs.lemmas.List.{get_or_default}
use Rattle.std.proofs.lemmas.Bool.{cond-true, cond-false}
use Rattle.lists.specs.Lists.{all, Found, nothing, first, behind, find}
use Rattle.lists.specs.Arrays.{position, without, fronted}
use Rattle.lists.proofs.Choices.{by-test}
use Rattle.lists.proofs.Tests.{all-at}
use Rattle.questions.specs.Outcome.{Outcome, accepted, refused, ask}
use Rattle.tx_receipt.specs.Marks.{acknowledged, allowed}
use Rattle.llc_calls.specs.Decoded.{frame_of}
use Rattle.llc_calls.specs.declared.FrameCall.{FrameCall}
use Rattle.llc_state.specs.Ranges.{message_in_range}
use Rattle.llc_state.specs.Receipts.{receipt_of, place_of, mark_receipt}
use Rattle.llc_state.specs.declared.Entry.{Entry}
use Rattle.llc_state.specs.declared.ReceiptPlace.{ReceiptPlace}
use Rattle.llc_state.specs.declared.State.{State}
use Rattle.llc_state.proofs.InRange.{entry-tells, message-tells}
use Rattle.llc_steps.specs.Calls.{fits, expected, finishable, may_finish, answered_by, answered}
use Rattle.llc_steps.specs.States.{messages_of, with_messages}
use Rattle.llc_queues.specs.Queues.{expected_on}
use Rattle.llc_frames.specs.Answered.{found_in, found_at, acked_at}
use Rattle.llc_frames.specs.Numbers.{below, ack_place}
use Rattle.llc_frames.specs.declared.acked.AckPlace.{AckPlace}

module _ {A : Type 0} where
  -- What `find` gives is what stands in the place at which the search ends.
  behind-found : (x : A) (l others : List A) → behind x (found_in l others) ≡ found_in l (x ∷ others)
  behind-found x [] others = refl
  behind-found x (y ∷ l) others = refl

  pub found-is : (p : A → Bool) (l : List A) → find p l ≡ found_at (position p l) l
  unfolding position find
  found-is p [] = refl
  found-is p (x ∷ l) =
      by-test (p x)
      (λ e. rw e)
      (λ e. rw e (ap (behind x) (found-is p l) ∙ behind-found x (drop (position p l) l) (without (position p l) l)))

  -- Of the first n of an array, nothing stands in a place from n on, and in another the array's element.
  pub found_nothing : (n i : ℕ) (l : List A) → n ≤ i → found_at i (take n l) ≡ nothing
  found_nothing n i l h =
      ap (λ (t : List A). found_in t (without i (take n l))) (drop_of_length-le (take n l) {i = i} (omega (arith, length-take n l)))

  array-next :
      (n i : ℕ) (l : List A) (d : A)
      → n ≤ length l
      → i < n
      → drop i (take n l) ≡ get_or l i d ∷ drop (suc i) (take n l)
  array-next n i l d h k =
      drop-cons (take n l) i d (omega (arith, length-take-le n l h))
      ∙ ap (λ (x : A). x ∷ drop (suc i) (take n l)) (get_or-take n l i d k)

  found_first :
      (n i : ℕ) (l : List A) (d : A)
      → n ≤ length l
      → i < n
      → found_at i (take n l) ≡ first (get_or l i d) (without i (take n l))
  found_first n i l d h k = ap (λ (t : List A). found_in t (without i (take n l))) (array-next n i l d h k)

-- A message in use: it is the element of the array, and has a receipt that there is.
module _ (s : State) (i : ℕ) (long : s.n_messages ≤ length s.outbound_messages) (h : i < s.n_messages) (d : Entry) {e : Entry} where
  pub message-is : (b : Entry) → e ≡ get_or (messages_of s) i d → e ≡ get_or s.outbound_messages i b
  message-is b e-is =
      e-is ∙ get_or-take s.n_messages s.outbound_messages i d h ∙ get_or_default s.outbound_messages i d b (omega arith)

  pub receipt-in : e ≡ get_or (messages_of s) i d → all message_in_range (messages_of s) ≡ true → e.sent.receipt < 128
  receipt-in e-is a =
      let at = all-at message_in_range (messages_of s) i d a (omega (arith, length-take-le s.n_messages s.outbound_messages long)) in
      let m = message-tells e (ap message_in_range e-is ∙ at) in
      (entry-tells e m.entry).receipt

-- Question 14 of a frame with an N(R), and the place of its message.
module _ (s : State) (f : FrameCall) (nr : Bool) where
  abbrev place : ℕ
  place = position (expected_on f.ssi f.carrier) (messages_of s)

  abbrev asked : Outcome (Given AckPlace)
  asked = ask 14 (may_finish (frame_of f) (some nr) s) (accepted (ack_place f.ssi f.carrier (some nr) s))

  abbrev asked_at : ℕ → Outcome (Given AckPlace)
  asked_at i = ask 14 (finishable nr (found_at i (messages_of s)) s) (accepted (below s.n_messages i nr))

  asked-is : {i : ℕ} → i ≡ place → asked_at i ≡ asked
  unfolding frame_of expected
  asked-is e =
      ap asked_at e
      ∙ sym (ap (λ (g : Found Entry). ask 14 (finishable nr g s) (accepted (below s.n_messages place nr))) (found-is (expected_on f.ssi f.carrier) (messages_of s)))

  -- There is none.
  pub none-asked : s.n_messages ≡ place → accepted None ≡ asked
  none-asked e =
      let free : found_at s.n_messages (messages_of s) ≡ nothing = found_nothing s.n_messages s.n_messages s.outbound_messages (omega arith) in
      rw (free, le-ltb s.n_messages s.n_messages (omega arith)) at (asked-is e)

  -- One stands in a place: by whether the acknowledgement fits it and its receipt is awaiting.
  module _ {i : ℕ} (d : Entry) (long : s.n_messages ≤ length s.outbound_messages) (e : i ≡ place) (h : i < s.n_messages) where
    abbrev entry : Entry
    entry = get_or s.outbound_messages i d

    abbrev receipt : ReceiptPlace
    receipt = place_of s.receipts entry.sent.receipt

    at-is : ask 14 (not (fits nr entry) || (receipt.taken && allowed acknowledged (receipt_of receipt))) (accepted (Some (record { place = i; nr = nr }))) ≡ asked
    at-is =
        rw (found_first s.n_messages i s.outbound_messages d long h, lt-ltb i s.n_messages h) at (asked-is e)

    pub refused-asked : fits nr entry ≡ true → receipt.taken && allowed acknowledged (receipt_of receipt) ≡ false → refused 14 ≡ asked
    refused-asked fit not-awaiting = rw (fit, not-awaiting) at at-is

    pub unfit-asked : fits nr entry ≡ false → accepted (Some (record { place = i; nr = nr })) ≡ asked
    unfit-asked unfit = rw unfit at at-is

    pub fit-asked : fits nr entry ≡ true → receipt.taken && allowed acknowledged (receipt_of receipt) ≡ true → accepted (Some (record { place = i; nr = nr })) ≡ asked
    fit-asked fit awaiting = rw (fit, awaiting) at at-is

-- What an N(R) does to the message of a place.
module _ (s : State) (i : ℕ) (nr : Bool) (d : Entry) (long : s.n_messages ≤ length s.outbound_messages) (h : i < s.n_messages) where
  pub fit-answered :
      {t r : State} {k : ℕ}
      → fits nr (get_or s.outbound_messages i d) ≡ true
      → t ≡ with_messages s (without i (messages_of s))
      → k ≡ (get_or s.outbound_messages i d).sent.receipt
      → r ≡ mark_receipt t k acknowledged
      → r ≡ answered_by nr (found_at i (messages_of s)) s
  unfolding answered_by
  fit-answered e f k-is g =
      g
      ∙ ap₂ (λ (u : State) (k : ℕ). mark_receipt u k acknowledged) f k-is
      ∙ sym (ap (λ (u : Found Entry). answered_by nr u s) (found_first s.n_messages i s.outbound_messages d long h) ∙ cond-true _ _ _ e)

  pub unfit-answered :
      {r : State}
      → fits nr (get_or s.outbound_messages i d) ≡ false
      → r ≡ with_messages s (fronted i (messages_of s))
      → r ≡ answered_by nr (found_at i (messages_of s)) s
  unfolding answered_by
  unfit-answered e g =
      let m : List Entry = messages_of s in
      g
      ∙ ap (λ (t : List Entry). with_messages s (take 1 t ++ without i m)) (array-next s.n_messages i s.outbound_messages d long h)
      ∙ sym (ap (λ (u : Found Entry). answered_by nr u s) (found_first s.n_messages i s.outbound_messages d long h) ∙ cond-false _ _ _ e)

-- That is what a frame's N(R) does, at the place of the message that it is for.
pub acked-is :
    (f : FrameCall) (x : Option Bool) (s : State)
    → acked_at (ack_place f.ssi f.carrier x s) s ≡ answered (frame_of f) x s
unfolding frame_of expected answered_by
acked-is f none s = refl
acked-is f (some nr) s =
    let i : ℕ = position (expected_on f.ssi f.carrier) (messages_of s) in
    let is = found-is (expected_on f.ssi f.carrier) (messages_of s) in
    by-test (ltb i s.n_messages)
    (λ e. rw e (sym (ap (λ (g : Found Entry). answered_by nr g s) is)))
    (λ e.
    let free = found_nothing s.n_messages i s.outbound_messages (ltb-false i s.n_messages e) in
    rw e (sym (ap (λ (g : Found Entry). answered_by nr g s) (is ∙ free))))
