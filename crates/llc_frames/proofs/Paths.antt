-- A frame that came in: what is answered on each path.
use Prim.Native.Nat.{ℕ, ◌+◌, ◌*◌, ◌≤◌, ◌<◌}
use native.Mathlib.Omega.{arith}
use native.Mathlib.Nat.{zero-add}
use mathlib.Core.Path.{◌≡◌, ◌∙◌, refl, sym, ap, ap₂}
use mathlib.Core.Bool.{Bool, true, false, cond}
use mathlib.Core.List.{List, []}
use mathlib.Core.Option.{Option, none, some}
use lib.ListN.{length, take, drop}
use Rattle.std.specs.Prelude.{Option as Given, Result, Ok, Err}
use Rattle.lists.specs.Writes.{Wrote}
use Rattle.lists.proofs.Writes.{write-is}
use Rattle.lists.proofs.Choices.{either}
use Rattle.questions.specs.Outcome.{Outcome, accepted, refused, ask, number}
use Rattle.questions.specs.Refusals.{number_of}
use Rattle.questions.specs.declared.Refusal.{Refusal}
use Rattle.questions.proofs.Asked.{accepted-passed, ask-yes}
use Rattle.bits.specs.Bits.{bits, part}
use Rattle.bits.proofs.Laws.{length-bits, part-take}
use Rattle.llc_pdus.specs.Answers.{answered as answered_read, read_from}
use Rattle.llc_pdus.specs.Headers.{ns_of, nr_of}
use Rattle.llc_pdus.specs.Received.{Received, received}
use Rattle.llc_pdus.specs.Sdus.{sdu_at, holding, handed}
use Rattle.llc_pdus.specs.declared.Pdu.{Pdu}
use Rattle.llc_pdus.specs.declared.Sdu.{Sdu}
use Rattle.llc_pdus.proofs.Holding.{held-is, handed-in}
use Rattle.llc_pdus.proofs.Received.{ReadAs, read_as}
use Rattle.llc_rule.specs.Limits.{longest_frame, output_bytes}
use Rattle.llc_rule.specs.Upward.{upward}
use Rattle.llc_rule.specs.Records.{Record, all_bytes}
use Rattle.llc_rule.proofs.Records.{most_up}
use Rattle.llc_calls.specs.Decoded.{frame_of}
use Rattle.llc_calls.specs.Ranges.{frame_range}
use Rattle.llc_calls.specs.declared.FrameCall.{FrameCall}
use Rattle.llc_received.proofs.SentUp.{frame_small, up-size}
use Rattle.llc_state.specs.declared.State.{State}
use Rattle.llc_steps.specs.Answers.{effect, answer, answered as answer_of, laid_out, delivered, WithAnyStore}
use Rattle.llc_steps.specs.Calls as Calls
use Rattle.llc_steps.specs.Calls.{row_if_numbered, ack_room, numbered, is_repeat, may_finish, on_received}
use Rattle.llc_steps.specs.States.{Kept, kept}
use Rattle.llc_frames.specs.Answered.{acked_at}
use Rattle.llc_frames.specs.Numbers.{row_place, ns_in, ack_place}
use Rattle.llc_frames.specs.declared.acked.AckPlace.{AckPlace}
use Rattle.llc_frames.specs.declared.numbered.SeqRow.{SeqRow}
use Rattle.llc_frames.proofs.Found.{acked-is}

-- A call that is refused, and one that writes records and leaves another state.
pub refused-store :
    (s : State) (out : List ℕ) (r : Refusal) (o : List ℕ → Outcome Kept)
    → ((store : List ℕ) → o store ≡ refused (number_of r))
    → WithAnyStore (answer_of s (Err r)) out s out o
refused-store s out r o f = record { each = λ store. sym (ap (delivered s store out) (f store)) }

laid-out :
    (rs : List Record) {out m : List ℕ} {n : ℕ}
    → Wrote out 0 (all_bytes rs) m n
    → length (all_bytes rs) ≤ length out
    → m ≡ laid_out rs out
unfolding laid_out
laid-out rs {out} {m} {n} w h =
    w.holds ∙ write-is out 0 (all_bytes rs) (omega arith) ∙ rw (zero-add (length (all_bytes rs)))

accepted-store :
    {s t : State} {out m : List ℕ} {n : ℕ} (rs : List Record) (o : List ℕ → Outcome Kept)
    → Wrote out 0 (all_bytes rs) m n
    → length (all_bytes rs) ≤ length out
    → ((store : List ℕ) → o store ≡ accepted (kept t store rs))
    → WithAnyStore (answer_of t (Ok n)) m s out o
accepted-store {s} {t} {out} {m} {n} rs o w h f =
    let long : n ≡ length (all_bytes rs) = omega (arith, w.next) in
    record {
      each =
          λ store.
          ap₂ (λ (k : ℕ) (y : List ℕ). effect (answer 0 t k) store y) long (laid-out rs w h)
          ∙ sym (ap (delivered s store out) (f store));
    }

-- What a refusal by the first questions says of those with others behind them.
refused-on :
    {A B : Type 0} {m : ℕ} (n : ℕ) (b : Bool) {o : Outcome A} {q : Outcome B}
    → refused m ≡ ask n b o
    → (refused m ≡ o → q ≡ refused m)
    → ask n b q ≡ refused m
refused-on n true e f = f e
refused-on {A} {B} n false e f = sym (ap again e)
  where
    again : Outcome A → Outcome B
    again o = refused (number o)

never : {A B : Type 0} {m : ℕ} {x : A} {q : Outcome B} → refused m ≡ accepted x → q ≡ refused m
never e = absurd (cc)

-- N(S) leaves the messages.
same_place :
    (f : FrameCall) (x y : Option Bool) (s : State)
    → ack_place f.ssi f.carrier x s ≡ ack_place f.ssi f.carrier x (numbered f.ssi f.ssi_type f.carrier y s)
same_place f x none s = refl
same_place f none (some ns) s = refl
same_place f (some nr) (some ns) s = refl

-- The N(S) that stands with a row is the one that the row was looked up for.
ns-placed : (ssi : ℕ) (x : Option Bool) (s : State) → ns_in (row_place ssi x s) ≡ x
ns-placed ssi none s = refl
ns-placed ssi (some ns) s = refl

-- The frame f with the PDU p and its SDU.
module _ (s : State) (f : FrameCall) (p : Pdu) (sdu : List ℕ) where
  abbrev outcome_of : List ℕ → Outcome Kept
  outcome_of store = on_received (frame_of f) (accepted (record { header = p; sdu = sdu })) s store

  abbrev row_asked : Outcome (Given SeqRow)
  row_asked =
      ask 7 (row_if_numbered f.ssi (ns_of p) s) (ask 13 (ack_room (ns_of p) s) (accepted (row_place f.ssi (ns_of p) s)))

  abbrev place_asked : Outcome (Given AckPlace)
  place_asked = ask 14 (may_finish (frame_of f) (nr_of p) s) (accepted (ack_place f.ssi f.carrier (nr_of p) s))

  -- Question 7 or 13 refuses it.
  pub row-refused : (r : Refusal) (out : List ℕ) → refused (number_of r) ≡ row_asked → WithAnyStore (answer_of s (Err r)) out s out outcome_of
  unfolding on_received frame_of
  row-refused r out e =
      refused-store s out r outcome_of
      (λ store. refused-on 7 (row_if_numbered f.ssi (ns_of p) s) e (λ e₁. refused-on 13 (ack_room (ns_of p) s) e₁ never))

  -- Both passed.
  pub record Numbered (row : Given SeqRow) : Type 0 where
    pub row_free : row_if_numbered f.ssi (ns_of p) s ≡ true
    pub ack_free : ack_room (ns_of p) s ≡ true
    pub number : ns_in row ≡ ns_of p
    pub row_is : row ≡ row_place f.ssi (ns_in row) s

  pub numbers : {row : Given SeqRow} → accepted row ≡ row_asked → Numbered row
  numbers {row} e =
      let a = accepted-passed 7 (row_if_numbered f.ssi (ns_of p) s) e in
      let b = accepted-passed 13 (ack_room (ns_of p) s) a.1 in
      let is : row ≡ row_place f.ssi (ns_of p) s = let h = b.1 in cc in
      let number = ap ns_in is ∙ ns-placed f.ssi (ns_of p) s in
      record { row_free = a.0; ack_free = b.0; number = number; row_is = rw number is }

  -- Question 14 refuses it.
  pub place-refused :
      (r : Refusal) {row : Given SeqRow} (out : List ℕ)
      → Numbered row
      → refused (number_of r) ≡ place_asked
      → WithAnyStore (answer_of s (Err r)) out s out outcome_of
  unfolding on_received frame_of
  place-refused r out n e =
      refused-store s out r outcome_of
      (λ store.
      ask-yes 7 _ n.row_free ∙ ask-yes 13 _ n.ack_free ∙ refused-on 14 (may_finish (frame_of f) (nr_of p) s) e never)

  -- It passed.
  pub record Answers (place : Given AckPlace) : Type 0 where
    pub finishes : may_finish (frame_of f) (nr_of p) s ≡ true
    pub place_is : place ≡ ack_place f.ssi f.carrier (nr_of p) s

  pub answers : {place : Given AckPlace} → accepted place ≡ place_asked → Answers place
  answers e =
      let a = accepted-passed 14 (may_finish (frame_of f) (nr_of p) s) e in
      record { finishes = a.0; place_is = let h = a.1 in cc }

  -- After N(S) the place is still that of the message.
  module _ {place : Given AckPlace} (a : Answers place) {next : State} (next-is : next ≡ numbered f.ssi f.ssi_type f.carrier (ns_of p) s) where
    place-next : place ≡ ack_place f.ssi f.carrier (nr_of p) next
    place-next =
        a.place_is ∙ same_place f (nr_of p) (ns_of p) s ∙ sym (ap (ack_place f.ssi f.carrier (nr_of p)) next-is)

    -- What the code leaves, and what it sends up.
    pub frame-heard :
        {t : State} {row : Given SeqRow} {out m : List ℕ} {k : ℕ} {repeat : Bool}
        → Numbered row
        → repeat ≡ is_repeat f.ssi (ns_of p) s
        → t ≡ acked_at place next
        → frame_range f ≡ true
        → length sdu ≤ longest_frame
        → output_bytes ≤ length out
        → Wrote out 0 (all_bytes (cond repeat [] (upward (frame_of f) p sdu))) m k
        → WithAnyStore (answer_of t (Ok k)) m s out outcome_of
    unfolding on_received frame_of all_bytes
    frame-heard {t} {row} {out} {repeat = repeat} n again u range short room w =
        let most : length (all_bytes (cond repeat [] (upward (frame_of f) p sdu))) ≤ most_up =
        either (λ (rs : List Record). length (all_bytes rs) ≤ most_up) repeat (omega arith) (up-size (frame_of f) p sdu (frame_small f range).0 short)
        in
        let left =
        sym
        (u
        ∙ ap (λ (g : Given AckPlace). acked_at g next) place-next
        ∙ acked-is f (nr_of p) next
        ∙ ap (λ (x : State). Calls.answered (frame_of f) (nr_of p) x) next-is)
        in
        accepted-store (cond repeat [] (upward (frame_of f) p sdu)) outcome_of w (omega (arith, most))
        (λ store.
        ask-yes 7 _ n.row_free
        ∙ ask-yes 13 _ n.ack_free
        ∙ ask-yes 14 _ a.finishes
        ∙ ap₂ (λ (x : State) (again : Bool). accepted (kept x store (cond again [] (upward (frame_of f) p sdu)))) left (sym again))

-- The frame of a call that lies at a byte's first bit, read where it lies.
module _ (f : FrameCall) (place : f.pdu.place ≡ 0) where
  abbrev from : List ℕ
  from = bits f.pdu.bytes.now

  pdu-is : take f.pdu.len from ≡ (frame_of f).pdu
  unfolding frame_of
  pdu-is = ap (λ (k : ℕ). take f.pdu.len (drop k from)) (sym place)

  pdu-fits : f.pdu.len ≤ length from
  pdu-fits = omega (arith, length-bits f.pdu.bytes.now, f.pdu.inside)

  read_here : (x : Result (Pdu × Sdu) Refusal) → answered_read x ≡ read_from from f.pdu.len → ReadAs x from f.pdu.len
  read_here x e = read_as x from f.pdu.len pdu-fits e

  -- The reader refuses it.
  pub read-refused :
      (s : State) (r : Refusal) (out : List ℕ)
      → refused (number_of r) ≡ read_from from f.pdu.len
      → WithAnyStore (answer_of s (Err r)) out s out (λ (store : List ℕ). on_received (frame_of f) (received (frame_of f).pdu) s store)
  unfolding on_received
  read-refused s r out e =
      let h = read_here (Err r) e in
      refused-store s out r (λ (store : List ℕ). on_received (frame_of f) (received (frame_of f).pdu) s store)
      (λ store.
      sym (ap (λ (o : Outcome Received). on_received (frame_of f) o s store) (h.same ∙ ap received pdu-is)))

  -- The reader takes it apart, and hands back bytes that hold its SDU.
  pub record Handed (p : Pdu) (t : Sdu) (l : List ℕ) : Type 0 where
    pub early : t.place < 8
    pub inside : t.place + t.len ≤ 8 * length l
    pub short : t.len ≤ f.pdu.len
    pub same : received (frame_of f).pdu ≡ accepted (record { header = p; sdu = part (bits l) t.place t.len })

  module _ (p : Pdu) (t : Sdu) (e : accepted (record { pdu = p; sdu = t }) ≡ read_from from f.pdu.len) where
    read : ReadAs (Ok (p, t)) from f.pdu.len
    read = read_here (Ok (p, t)) e

    fits : t.first + t.len ≤ 8 * length f.pdu.bytes.now
    fits = omega (arith, read.inside.inside, pdu-fits, length-bits f.pdu.bytes.now)

    pub never-refused : {G : Type 0} {n : ℕ} → refused n ≡ handed f.pdu.bytes.now t → G
    never-refused {n = n} h =
        let is : refused n ≡ accepted (holding f.pdu.bytes.now t.first t.len) = handed-in f.pdu.bytes.now t fits h in
        absurd (cc)

    pub handed-back : {l : List ℕ} → accepted l ≡ handed f.pdu.bytes.now t → Handed p t l
    handed-back {l} h =
        let is = handed-in f.pdu.bytes.now t fits h in
        let bytes : l ≡ holding f.pdu.bytes.now t.first t.len = cc in
        let place : t.place ≡ (sdu_at t.first t.len).place = ap (λ (y : Sdu). y.place) read.inside.placed in
        let held = held-is f.pdu.bytes.now t.first t.len fits in
        let cut = part-take from f.pdu.len t.first t.len read.inside.inside (omega (arith, pdu-fits, read.inside.inside)) in
        record {
          early = omega (arith, held.early);
          inside = omega (arith, held.fits, ap length bytes);
          short = omega (arith, read.inside.inside);
          same =
              ap received (sym pdu-is)
              ∙ sym read.same
              ∙ ap (λ (y : List ℕ). accepted (record { header = p; sdu = y }))
              (cut ∙ sym held.same ∙ sym (ap₂ (λ (y : List ℕ) (m : ℕ). part (bits y) m t.len) bytes place));
        }
