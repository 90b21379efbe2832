-- The loop of the first pass.
use Prim.Native.Nat.{ℕ, ◌+◌, ◌-◌, ◌≤◌, ◌<◌}
use native.Mathlib.Omega.{arith}
use mathlib.Core.Path.{◌≡◌, ◌∙◌, refl, sym, subst, ap, ap₂}
use mathlib.Core.Bool.{true, false, cond}
use mathlib.Core.List.{List, [], ◌∷◌, ◌++◌, append-nil}
use borrow.Author.Tests.{lt-ltb, le-ltb}
use lib.Dec.{ltb}
use lib.ListN.{length, get_or, set, take, drop, replicate}
use lib.Seq.{length-take-le, get_or-take}
use Rattle.std.proofs.lemmas.Bool.{cond-true, cond-false}
use Rattle.lists.specs.Lists.{Visit, ◌then◌}
use Rattle.lists.specs.Writes.{Wrote}
use Rattle.lists.proofs.Writes.{same_bytes}
use Rattle.lists.proofs.Choices.{either}
use Rattle.lists.proofs.Tests.{all-at}
use Rattle.bits.specs.Bits.{bits}
use Rattle.tdma_time.specs.Slots.{valid}
use Rattle.tdma_time.specs.declared.TdmaTime.{TdmaTime}
use Rattle.tx_receipt.specs.Marks.{Mark, lost, reset}
use Rattle.llc_rule.specs.Records.{Record, acknowledged, sent_bytes, bytes}
use Rattle.llc_state.specs.Progress.{done_at, with_progress}
use Rattle.llc_state.specs.Ranges.{state_in_range, if_there, message_in_range}
use Rattle.llc_state.specs.Receipts.{with_places, place_of, mark}
use Rattle.llc_state.specs.States.{no_entry}
use Rattle.llc_state.specs.View.{sent_in}
use Rattle.llc_state.specs.declared.Entry.{Entry}
use Rattle.llc_state.specs.declared.ReceiptPlace.{ReceiptPlace}
use Rattle.llc_state.specs.declared.State.{State}
use Rattle.llc_state.proofs.InRange.{there-holds, progress-tells, message-tells, range-tells}
use Rattle.llc_steps.specs.States.{messages_of, with_messages, put_messages}
use Rattle.llc_steps.specs.TickEnd.{submitted_entry, stay, resend, leave, aged, retransmission, retransmissions, after_retransmissions, newly_done, timed_by, is_due}
use Rattle.llc_steps.proofs.SaneTickEnd.{done-in-range}
use Rattle.llc_tick_end.specs.Passes.{sent_bytes_of}
use Rattle.llc_tick_end.proofs.Clearing.{some-left}
use Rattle.llc_tick_end.proofs.Compacting.{Compacting, compacts, as-was, goes, keeps}
use Rattle.llc_tick_end.proofs.Entries.{Measures, message-measures}
use Rattle.llc_tick_end.proofs.Records.{bytes_of, none-written, one-more, room-left}
use Rattle.llc_tick_end.proofs.Walking.{Walking, walks, walks-on, walked, put-out}

-- A state with other messages and receipts.
abbrev pub with_arrays : State → List Entry → List ReceiptPlace → State
with_arrays s es ps = with_places (put_messages s s.n_messages es) ps

-- The record of a message that is handed down.
abbrev pub handed : List ℕ → Entry → Record
handed store e = acknowledged (sent_in (bits store) e)

-- A message with its done time is in range, and has the same receipt.
timed-fits :
    (time : TdmaTime) (p : ReceiptPlace) (x : Entry)
    → valid time ≡ true
    → message_in_range x ≡ true
    → message_in_range (timed_by time p x) ≡ true
timed-fits time p x v h = either (λ (e : Entry). message_in_range e ≡ true) (newly_done p x) {x = with_progress x (done_at time x.progress)} (done-in-range time x v h) h

timed-receipt : (time : TdmaTime) (p : ReceiptPlace) (x : Entry) → (timed_by time p x).sent.receipt ≡ x.sent.receipt
timed-receipt time p x = either (λ (e : Entry). e.sent.receipt ≡ x.sent.receipt) (newly_done p x) {x = with_progress x (done_at time x.progress)} refl refl

-- A message that stays, one that is handed down again, and one that leaves.
module _ (time : TdmaTime) (t251 : ℕ) (ps : List ReceiptPlace) (e : Entry) where
  not-due : is_due time t251 e ≡ false → aged time t251 ps e ≡ stay ps e
  not-due h = cond-false _ (cond (ltb e.progress.retransmit_count 3) (resend ps e) (leave ps e)) (stay ps e) h

  due : is_due time t251 e ≡ true → aged time t251 ps e ≡ cond (ltb e.progress.retransmit_count 3) (resend ps e) (leave ps e)
  due h = cond-true _ (cond (ltb e.progress.retransmit_count 3) (resend ps e) (leave ps e)) (stay ps e) h

  again : is_due time t251 e ≡ true → e.progress.retransmit_count < 3 → aged time t251 ps e ≡ resend ps e
  again h few = due h ∙ cond-true _ (resend ps e) (leave ps e) (lt-ltb e.progress.retransmit_count 3 few)

  no_more : is_due time t251 e ≡ true → 3 ≤ e.progress.retransmit_count → aged time t251 ps e ≡ leave ps e
  no_more h many = due h ∙ cond-false _ (resend ps e) (leave ps e) (le-ltb e.progress.retransmit_count 3 many)

-- After visits to the first i messages of s, of which j stay: next is the state, and at the place behind what was written.
pub record Passing (s : State) (store out₀ : List ℕ) (at₀ : ℕ) (next : State) (i j : ℕ) (out : List ℕ) (at : ℕ) : Type 0 where
  pub visit : Visit (List ReceiptPlace) Entry Entry
  pub walking : Walking (retransmission s.dltime s.t251) s.receipts (messages_of s) i visit
  pub compacting : Compacting s.outbound_messages visit.stays i j next.outbound_messages
  pub same : next ≡ with_arrays s next.outbound_messages visit.state
  pub wrote : Wrote out₀ at₀ (bytes_of (handed store) visit.out) out at
  pub range : state_in_range s ≡ true
  pub time : valid s.dltime ≡ true
  pub count : s.n_messages ≤ 64
  pub long : length s.outbound_messages ≡ 64

-- The same of what equals the state, the message, the output and the place.
pub at-join :
    {s : State} {store out₀ : List ℕ} {at₀ i k : ℕ} (j : ℕ) {next next₁ : State} {e f : Entry} {out out₁ : List ℕ} {at at₁ : ℕ}
    → next₁ ≡ next
    → f ≡ e
    → out₁ ≡ out
    → at₁ ≡ at
    → Passing s store out₀ at₀ (with_arrays next (set next.outbound_messages j e) next.receipts) i k out at
    → Passing s store out₀ at₀ (with_arrays next₁ (set next₁.outbound_messages j f) next₁.receipts) i k out₁ at₁
at-join j p q r t h = rw (p, q, r, t) h

-- The message that a visit finds.
abbrev held : State → ℕ → Entry → Entry
held next i d = get_or next.outbound_messages i d

-- How many messages there are.
pub messages-count : (s : State) → s.n_messages ≤ 64 → length s.outbound_messages ≡ 64 → length (messages_of s) ≡ s.n_messages
messages-count s few long = length-take-le s.n_messages s.outbound_messages (omega arith)

pub passes : (s : State) (store out : List ℕ) (at : ℕ) → state_in_range s ≡ true → s.started ≡ true → length s.outbound_messages ≡ 64 → Passing s store out at s 0 0 out at
passes s store out at r on l =
    record {
      visit = record { state = s.receipts; stays = []; out = [] };
      walking = walks (retransmission s.dltime s.t251) s.receipts (messages_of s);
      compacting = compacts s.outbound_messages;
      same = refl;
      wrote = none-written (handed store) out at;
      range = r;
      time = (range-tells s r).head.time on;
      count = (range-tells s r).head.messages;
      long = l;
    }

module _ {s : State} {store out₀ : List ℕ} {at₀ : ℕ} {next : State} {i j : ℕ} {out : List ℕ} {at : ℕ} (h : Passing s store out₀ at₀ next i j out at) where
  receipts-are : h.visit.state ≡ next.receipts
  receipts-are = sym (ap (λ (t : State). t.receipts) h.same)

  module _ (less : i < s.n_messages) (d : Entry) where
    element : get_or (messages_of s) i d ≡ held next i d
    element = get_or-take s.n_messages s.outbound_messages i d less ∙ sym (as-was h.compacting d)

    -- The message of a visit is in range.
    held_fits : message_in_range (held next i d) ≡ true
    held_fits =
        let all = all-at message_in_range (messages_of s) i d (range-tells s h.range).messages (omega (arith, less, messages-count s h.count h.long)) in
        ap message_in_range (sym element) ∙ all

    pub held-measures : Measures (held next i d)
    held-measures = message-measures (held next i d) held_fits

    -- A visit, after which the message is e.
    module _ {e : Entry}
        (is-timed : e ≡ timed_by s.dltime (place_of next.receipts (held next i d).sent.receipt) (held next i d)) where
      visited-fits : message_in_range e ≡ true
      visited-fits =
          let x : Entry = held next i d in
          ap message_in_range is-timed ∙ timed-fits s.dltime (place_of next.receipts x.sent.receipt) x h.time held_fits

      pub visited-measures : Measures e
      visited-measures = message-measures e visited-fits

      pub visited-done : if_there e.progress.has_umac_done (valid e.progress.t_umac_done) ≡ true
      visited-done = there-holds (progress-tells e.progress (message-tells e visited-fits).progress).done

      same-receipt : e.sent.receipt ≡ (held next i d).sent.receipt
      same-receipt =
          let x : Entry = held next i d in
          ap (λ (t : Entry). t.sent.receipt) is-timed ∙ timed-receipt s.dltime (place_of next.receipts x.sent.receipt) x

      visits :
          {w : Visit (List ReceiptPlace) Entry Entry}
          → aged s.dltime s.t251 next.receipts e ≡ w
          → Walking (retransmission s.dltime s.t251) s.receipts (messages_of s) (i + 1) (◌then◌ h.visit w)
      unfolding retransmission
      visits {w} a =
          let one : retransmission s.dltime s.t251 h.visit.state (get_or (messages_of s) i d) ≡ w =
          ap₂ (retransmission s.dltime s.t251) receipts-are element
          ∙ ap (aged s.dltime s.t251 next.receipts) (sym is-timed)
          ∙ a in
          subst
          (λ (t : Visit (List ReceiptPlace) Entry Entry). Walking (retransmission s.dltime s.t251) s.receipts (messages_of s) (i + 1) (◌then◌ h.visit t))
          one
          (walks-on h.walking d (omega (arith, less, messages-count s h.count h.long)))

      none-more : Wrote out₀ at₀ (bytes_of (handed store) (h.visit.out ++ [])) out at
      none-more = same_bytes (ap (bytes_of (handed store)) (sym (append-nil h.visit.out))) h.wrote

      -- It stays.
      pub stays :
          is_due s.dltime s.t251 e ≡ false
          → Passing s store out₀ at₀ (with_arrays next (set next.outbound_messages j e) next.receipts) (i + 1) (j + 1) out at
      stays h-due =
          record {
            visit = ◌then◌ h.visit (stay next.receipts e);
            walking = visits (not-due s.dltime s.t251 next.receipts e h-due);
            compacting = keeps h.compacting e (omega (arith, less, h.count, h.long));
            same = ap (λ (t : State). with_arrays t (set next.outbound_messages j e) next.receipts) h.same;
            wrote = none-more;
            range = h.range;
            time = h.time;
            count = h.count;
            long = h.long;
          }

      -- The places with its receipt marked.
      abbrev with-mark : Mark → List ReceiptPlace
      with-mark k = mark k (held next i d).sent.receipt next.receipts

      marks-its-own : (k : Mark) → with-mark k ≡ mark k e.sent.receipt next.receipts
      marks-its-own k = ap (λ (r : ℕ). mark k r next.receipts) (sym same-receipt)

      module _ (h-due : is_due s.dltime s.t251 e ≡ true) where
        -- There is room for its record where it is handed down again.
        pub room :
            e.progress.retransmit_count < 3
            → at₀ + length (sent_bytes_of (bits store) (retransmissions s).out) ≤ length out₀
            → at + length (sent_bytes 1 (sent_in (bits store) e)) ≤ length out
        unfolding retransmissions sent_bytes_of bytes
        room few fits =
            room-left (handed store) h.visit.out h.wrote e _ (put-out (visits (again s.dltime s.t251 next.receipts e h-due few))) fits

        pub sends-again :
            {f : Entry} {out₁ : List ℕ} {at₁ : ℕ}
            → e.progress.retransmit_count < 3
            → Wrote out at (sent_bytes 1 (sent_in (bits store) e)) out₁ at₁
            → f ≡ submitted_entry (e.progress.retransmit_count + 1) e
            → Passing s store out₀ at₀ (with_arrays next (set next.outbound_messages j f) (with-mark reset)) (i + 1) (j + 1) out₁ at₁
        unfolding bytes
        sends-again {f} few w is-submitted =
            let ms : List Entry = set next.outbound_messages j f in
            record {
              visit = ◌then◌ h.visit (resend next.receipts e);
              walking = visits (again s.dltime s.t251 next.receipts e h-due few);
              compacting =
                  subst
                  (λ (t : Entry). Compacting s.outbound_messages (h.visit.stays ++ (t ∷ [])) (i + 1) (j + 1) ms)
                  is-submitted
                  (keeps h.compacting f (omega (arith, less, h.count, h.long)));
              same =
                  ap (λ (t : State). with_arrays t ms (with-mark reset)) h.same
                  ∙ ap (with_arrays s ms) (marks-its-own reset);
              wrote = one-more (handed store) h.visit.out h.wrote e w;
              range = h.range;
              time = h.time;
              count = h.count;
              long = h.long;
            }

        -- It leaves.
        pub leaves :
            3 ≤ e.progress.retransmit_count
            → Passing s store out₀ at₀ (with_arrays next next.outbound_messages (with-mark lost)) (i + 1) j out at
        leaves many =
            record {
              visit = ◌then◌ h.visit (leave next.receipts e);
              walking = visits (no_more s.dltime s.t251 next.receipts e h-due many);
              compacting = goes h.compacting;
              same =
                  ap (λ (t : State). with_arrays t next.outbound_messages (with-mark lost)) h.same
                  ∙ ap (with_arrays s next.outbound_messages) (marks-its-own lost);
              wrote = none-more;
              range = h.range;
              time = h.time;
              count = h.count;
              long = h.long;
            }

  -- All are visited: what the pass wrote, and the state that it leaves once the places from j on are filled with empty ones.
  module _ (last : s.n_messages ≤ i) where
    all-visited : h.visit ≡ retransmissions s
    unfolding retransmissions
    all-visited = walked h.walking (omega (arith, last, messages-count s h.count h.long))

    pub all-wrote : Wrote out₀ at₀ (sent_bytes_of (bits store) (retransmissions s).out) out at
    unfolding sent_bytes_of
    all-wrote = same_bytes (ap (λ (v : Visit (List ReceiptPlace) Entry Entry). bytes_of (handed store) v.out) all-visited) h.wrote

    pub all-cleared :
        {x : Entry} {filled : List Entry}
        → length (take (s.n_messages - j) (drop j next.outbound_messages)) ≡ s.n_messages - j
        → x ≡ no_entry
        → filled ≡ replicate (length (take (s.n_messages - j) (drop j next.outbound_messages))) x
        → put_messages next j (take j next.outbound_messages ++ (filled ++ drop (s.n_messages - j) (drop j next.outbound_messages)))
        ≡ after_retransmissions s
    all-cleared {filled = filled} size is-empty are =
        let n : ℕ = s.n_messages in
        let all : i ≡ n = omega (arith, last, h.walking.low, messages-count s h.count h.long) in
        let c : Compacting s.outbound_messages h.visit.stays n j next.outbound_messages = rw all at h.compacting in
        let es : List Entry = take j next.outbound_messages ++ (filled ++ drop (n - j) (drop j next.outbound_messages)) in
        ap (λ (t : State). put_messages t j es) h.same
        ∙ ap₂ (λ (k : ℕ) (l : List Entry). with_places (put_messages s k l) h.visit.state) h.compacting.count
        (some-left no_entry n j c size is-empty are)
        ∙ ap (λ (v : Visit (List ReceiptPlace) Entry Entry). with_places (with_messages s v.stays) v.state) all-visited
