-- What a tick end leaves of a state that passed question 1 passes it.
use Prim.Native.Nat.{ℕ, ◌+◌, ◌≤◌}
use native.Mathlib.Omega.{arith}
use mathlib.Core.Path.{◌≡◌}
use mathlib.Core.Bool.{Bool, true}
use mathlib.Core.List.{List, [], ◌∷◌}
use borrow.Author.Tests.{ltb-true}
use lib.Dec.{ltb}
use lib.ListN.{length, length-append}
use Rattle.std.proofs.lemmas.Bool.{cond_both}
use Rattle.lists.specs.Lists.{among, Visit, walk, All}
use Rattle.lists.proofs.Lists.{all_append}
use Rattle.lists.proofs.Choices.{either}
use Rattle.tdma_time.specs.Slots.{valid}
use Rattle.tdma_time.specs.declared.TdmaTime.{TdmaTime}
use Rattle.tx_receipt.specs.Marks as Marks
use Rattle.llc_state.specs.Progress.{submitted_after, done_at, with_progress}
use Rattle.llc_state.specs.Ranges.{message_in_range}
use Rattle.llc_state.specs.Receipts.{place_of, with_places}
use Rattle.llc_state.specs.declared.Entry.{Entry}
use Rattle.llc_state.specs.declared.ReceiptPlace.{ReceiptPlace}
use Rattle.llc_state.specs.declared.State.{State}
use Rattle.llc_state.proofs.InRange.{progress-tells, submitted-fits, done-fits, message-tells, come-fits, range-tells}
use Rattle.llc_steps.specs.States.{messages_of, with_messages}
use Rattle.llc_steps.specs.Sane.{Sane}
use Rattle.llc_steps.specs.TickEnd.{submitted_entry, timed, aged, retransmission, Sending, first_sending, retransmissions, first_sendings, ticked, newly_done, is_due, after_retransmissions, after_sendings}
use Rattle.llc_steps.proofs.SaneSetters.{Full, places-full, Used, none-used, marked-full, messages-used, messages-sane, udata-sane, acks-sane, places-sane}

-- A visit after which at most k stay, each of which passes a test, and the state is as it has to be.
record Visited {S A R : Type 0} (p : A → Bool) (Q : S → Type 0) (k : ℕ) (v : Visit S A R) : Type 0 where
  stays : Used p k v.stays
  state : Q v.state

-- At most as many as before stay after a walk, if it is so of each visit.
visited-walk :
    {S A R : Type 0} (p : A → Bool) (Q : S → Type 0) (f : S → A → Visit S A R)
    → ((s : S) (x : A) → Q s → p x ≡ true → Visited p Q 1 (f s x))
    → (s : S) (l : List A)
    → Q s
    → All (λ (x : A). p x ≡ true) l
    → Visited p Q (length l) (walk f s l)
unfolding walk
visited-walk p Q f h s [] q a = record { stays = none-used p 0; state = q }
visited-walk p Q f h s (x ∷ l) q a =
    let one = h s x q a.0 in
    let rest = visited-walk p Q f h (f s x).state l one.state a.1 in
    record {
      stays =
          record {
            few = omega (arith, length-append (f s x).stays (walk f (f s x).state l).stays, one.stays.few, rest.stays.few);
            each = all_append (λ (y : _). p y ≡ true) (f s x).stays (walk f (f s x).state l).stays one.stays.each rest.stays.each;
          };
      state = rest.state;
    }

one-stays : {A : Type 0} (p : A → Bool) (x : A) → p x ≡ true → Used p 1 (x ∷ [])
one-stays p x e = record { few = omega arith; each = (e, tt) }

-- An entry stays in range where it is passed down, and where it gets its done time.
pub submitted-in-range : (k : ℕ) (e : Entry) → k ≤ 3 → message_in_range e ≡ true → message_in_range (submitted_entry k e) ≡ true
submitted-in-range k e few h = come-fits e (submitted_after k e.progress) h (submitted-fits k e.progress few)

pub done-in-range : (time : TdmaTime) (e : Entry) → valid time ≡ true → message_in_range e ≡ true → message_in_range (with_progress e (done_at time e.progress)) ≡ true
done-in-range time e v h =
    come-fits e (done_at time e.progress) h (done-fits time e.progress v (message-tells e h).progress)

pub timed-in-range :
    (time : TdmaTime) (ps : List ReceiptPlace) (e : Entry)
    → valid time ≡ true
    → message_in_range e ≡ true
    → message_in_range (timed time ps e) ≡ true
timed-in-range time ps e v h =
    either (λ (x : Entry). message_in_range x ≡ true)
    (newly_done (place_of ps e.sent.receipt) e)
    (done-in-range time e v h)
    h

-- Resends.
aged-visited :
    (time : TdmaTime) (t251 : ℕ) (ps : List ReceiptPlace) (e : Entry)
    → Full ps
    → message_in_range e ≡ true
    → Visited message_in_range Full 1 (aged time t251 ps e)
aged-visited time t251 ps e n h =
    either (Visited message_in_range Full 1) (is_due time t251 e)
    (cond_both (ltb e.progress.retransmit_count 3) _ _ (Visited message_in_range Full 1)
    (λ t.
    record {
      stays =
          one-stays message_in_range (submitted_entry (e.progress.retransmit_count + 1) e)
          (submitted-in-range (e.progress.retransmit_count + 1) e (omega (arith, ltb-true e.progress.retransmit_count 3 t)) h);
      state = marked-full Marks.reset e.sent.receipt ps n;
    })
    (λ f. record { stays = none-used message_in_range 1; state = marked-full Marks.lost e.sent.receipt ps n }))
    (record { stays = one-stays message_in_range e h; state = n })

retransmission-visited :
    (time : TdmaTime) (t251 : ℕ)
    → valid time ≡ true
    → (ps : List ReceiptPlace) (e : Entry)
    → Full ps
    → message_in_range e ≡ true
    → Visited message_in_range Full 1 (retransmission time t251 ps e)
unfolding retransmission
retransmission-visited time t251 v ps e n h = aged-visited time t251 ps (timed time ps e) n (timed-in-range time ps e v h)

-- First sendings.
abbrev FullIn : Sending → Type 0
FullIn s = Full s.receipts

first-visited : (s : Sending) (e : Entry) → FullIn s → message_in_range e ≡ true → Visited message_in_range FullIn 1 (first_sending s e)
unfolding first_sending
first-visited s e n h =
    either (Visited message_in_range FullIn 1) e.progress.submitted_to_umac
    (record { stays = one-stays message_in_range e h; state = n })
    (either (Visited message_in_range FullIn 1) (among e.sent.ssi s.blocked)
    (record { stays = one-stays message_in_range e h; state = n })
    (record {
      stays =
          one-stays message_in_range (submitted_entry e.progress.retransmit_count e)
          (submitted-in-range e.progress.retransmit_count e (progress-tells e.progress (message-tells e h).progress).count h);
      state = marked-full Marks.reset e.sent.receipt s.receipts n;
    }))

-- Each pass leaves a state that passes question 1, and so does a tick end.
module _ (s : State) (store : List ℕ) (ok : Sane s store) where
  passed-sane :
      {S R : Type 0} (Q : S → Type 0) (v : Visit S Entry R) (receipts : S → List ReceiptPlace)
      → Visited message_in_range Q (length (messages_of s)) v
      → (Q v.state → Full (receipts v.state))
      → Sane (with_places (with_messages s v.stays) (receipts v.state)) store
  passed-sane Q v receipts seen full =
      places-sane
      (messages-sane ok
      (record { few = omega (arith, (messages-used s store ok).few, seen.stays.few); each = seen.stays.each }))
      (full seen.state)

  pub retransmissions-sane : s.started ≡ true → Sane (after_retransmissions s) store
  unfolding retransmissions
  retransmissions-sane started =
      passed-sane Full (retransmissions s) (λ ps. ps)
      (visited-walk message_in_range Full (retransmission s.dltime s.t251)
      (retransmission-visited s.dltime s.t251 ((range-tells s ok.range).head.time started))
      s.receipts
      (messages_of s)
      (places-full s store ok)
      (messages-used s store ok).each)
      (λ f. f)

  pub sendings-sane : Sane (after_sendings s) store
  unfolding first_sendings
  sendings-sane =
      passed-sane FullIn (first_sendings s) (λ r. r.receipts)
      (visited-walk message_in_range FullIn first_sending first-visited
      (record { receipts = s.receipts; blocked = [] })
      (messages_of s)
      (places-full s store ok)
      (messages-used s store ok).each)
      (λ f. f)

pub ticked-sane : (s : State) (store : List ℕ) → Sane s store → s.started ≡ true → Sane (ticked s) store
unfolding ticked
ticked-sane s store ok started =
    udata-sane
    (acks-sane (sendings-sane (after_retransmissions s) store (retransmissions-sane s store ok started)) (none-used _ 64))
    (none-used _ 32)
