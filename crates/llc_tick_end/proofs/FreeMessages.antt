-- The loop of the second pass.
use Prim.Native.Nat.{ℕ, ◌+◌, ◌≤◌, ◌<◌}
use native.Mathlib.Omega.{arith}
use mathlib.Core.Path.{◌≡◌, ◌∙◌, refl, sym, ap, ap₂, subst}
use mathlib.Core.Bool.{Bool, true, false, cond}
use mathlib.Core.List.{List, [], ◌∷◌, ◌++◌, append-nil}
use lib.ListN.{length, get_or, set, take, drop, replicate, length-append}
use lib.Seq.{get_or-take}
use Rattle.std.specs.Prelude.{reverse}
use Rattle.std.proofs.lemmas.Bool.{cond-true, cond-false}
use Rattle.lists.specs.Lists.{all, among, Visit, ◌then◌}
use Rattle.lists.specs.Arrays.{laid}
use Rattle.lists.specs.Writes.{Wrote}
use Rattle.lists.proofs.Writes.{same_bytes}
use Rattle.lists.proofs.Tests.{used-at}
use Rattle.bits.specs.Bits.{bits}
use Rattle.tx_receipt.specs.Marks.{reset}
use Rattle.llc_rule.specs.Records.{sent_bytes, bytes}
use Rattle.llc_state.specs.Ranges.{message_in_range}
use Rattle.llc_state.specs.Receipts.{with_places, mark}
use Rattle.llc_state.specs.States.{no_entry}
use Rattle.llc_state.specs.View.{sent_in}
use Rattle.llc_state.specs.declared.Entry.{Entry}
use Rattle.llc_state.specs.declared.State.{State}
use Rattle.llc_steps.specs.States.{messages_of, with_messages, put_messages}
use Rattle.llc_steps.specs.TickEnd.{submitted_entry, stay, Sending, first_sending, first_sendings, after_sendings}
use Rattle.llc_tick_end.specs.Passes.{sent_bytes_of}
use Rattle.llc_tick_end.proofs.Blocked.{Filled, none_yet, as_before, one_more}
use Rattle.llc_tick_end.proofs.Entries.{Measures, message-measures}
use Rattle.llc_tick_end.proofs.InPlace.{next-is, next-left, next-set, laid-over}
use Rattle.llc_tick_end.proofs.Records.{bytes_of, none-written, one-more, room-left}
use Rattle.llc_tick_end.proofs.Retransmitting.{with_arrays, handed, messages-count}
use Rattle.llc_tick_end.proofs.Walking.{Walking, walks, walks-on, walked, put-out}

-- The state of the walk before it, and the visits that block an SSI: to a message under way, and to one that is handed down.
abbrev none-blocked : State → Sending
none-blocked s = record { receipts = s.receipts; blocked = [] }

abbrev blocks : Sending → Entry → Visit Sending Entry Entry
blocks s e = stay (record { receipts = s.receipts; blocked = e.sent.ssi ∷ s.blocked }) e

abbrev sends : Sending → Entry → Visit Sending Entry Entry
sends s e =
    record {
      state = record { receipts = mark reset e.sent.receipt s.receipts; blocked = e.sent.ssi ∷ s.blocked };
      stays = submitted_entry e.progress.retransmit_count e ∷ [];
      out = e ∷ [];
    }

-- Which visit it is, by the two tests.
module _ (s : Sending) (e : Entry) where
  under-way : e.progress.submitted_to_umac ≡ true → first_sending s e ≡ blocks s e
  unfolding first_sending
  under-way t = cond-true _ (blocks s e) (cond (among e.sent.ssi s.blocked) (stay s e) (sends s e)) t

  waiting : e.progress.submitted_to_umac ≡ false → among e.sent.ssi s.blocked ≡ true → first_sending s e ≡ stay s e
  unfolding first_sending
  waiting f t =
      cond-false _ (blocks s e) (cond (among e.sent.ssi s.blocked) (stay s e) (sends s e)) f
      ∙ cond-true _ (stay s e) (sends s e) t

  free : e.progress.submitted_to_umac ≡ false → among e.sent.ssi s.blocked ≡ false → first_sending s e ≡ sends s e
  unfolding first_sending
  free f g =
      cond-false _ (blocks s e) (cond (among e.sent.ssi s.blocked) (stay s e) (sends s e)) f
      ∙ cond-false _ (stay s e) (sends s e) g

-- Before turn i: the visits so far, what they left in the state, what was written, and the SSIs that are blocked, the first k.
pub record Passing (s : State) (store l : List ℕ) (at₀ : ℕ) (out : List ℕ) (next : State) (at : ℕ) (ssis : List ℕ) (k i : ℕ) : Type 0 where
  pub few : s.n_messages ≤ 64
  pub array : length s.outbound_messages ≡ 64
  pub visits : Visit Sending Entry Entry
  pub walking : Walking first_sending (none-blocked s) (messages_of s) i visits
  pub many : length visits.stays ≡ i
  pub holds : next ≡ with_arrays s (visits.stays ++ drop i s.outbound_messages) visits.state.receipts
  pub wrote : Wrote l at₀ (bytes_of (handed store) visits.out) out at
  pub blocked : Filled ssis k i visits.state.blocked

pub begins :
    {s : State} {store l : List ℕ} {at : ℕ}
    → s.n_messages ≤ 64
    → length s.outbound_messages ≡ 64
    → Passing s store l at l s at (replicate 64 0) 0 0
begins {s} {store} {l} {at} h a =
    record {
      few = h;
      array = a;
      visits = record { state = none-blocked s; stays = []; out = [] };
      walking = walks first_sending (none-blocked s) (messages_of s);
      many = refl;
      holds = refl;
      wrote = none-written (handed store) l at;
      blocked = none_yet;
    }

module _ {s : State} {store l : List ℕ} {at₀ : ℕ} {out : List ℕ} {next : State} {at : ℕ} {ssis : List ℕ} {k i : ℕ} (h : Passing s store l at₀ out next at ssis k i) where
  module _ (d : Entry) (less : i < s.n_messages) where
    within : i < length s.outbound_messages
    within = omega (arith, less, h.few, h.array)

    -- The next message, and its visit.
    abbrev e : Entry
    e = get_or next.outbound_messages i d

    as_it_was : e ≡ get_or s.outbound_messages i d
    as_it_was =
        ap (λ (t : State). get_or t.outbound_messages i d) h.holds
        ∙ next-is h.visits.stays s.outbound_messages i d h.many within

    visited : (w : Visit Sending Entry Entry)
        → first_sending h.visits.state e ≡ w
        → Walking first_sending (none-blocked s) (messages_of s) (i + 1) (◌then◌ h.visits w)
    visited w q =
        let one : first_sending h.visits.state (get_or (messages_of s) i d) ≡ w =
        ap (first_sending h.visits.state) (get_or-take s.n_messages s.outbound_messages i d less ∙ sym as_it_was) ∙ q
        in
        subst (λ (u : Visit Sending Entry Entry).
        Walking first_sending (none-blocked s) (messages_of s) (i + 1) (◌then◌ h.visits u))
        one
        (walks-on h.walking d (omega (arith, less, messages-count s h.few h.array)))

    pub in-range : all message_in_range (messages_of s) ≡ true → Measures e
    in-range r =
        message-measures e
        (ap message_in_range as_it_was
        ∙ used-at message_in_range s.n_messages s.outbound_messages i d r less (omega (arith, h.few, h.array)))

    -- The test of the blocked SSIs.
    abbrev here : Bool
    here = among e.sent.ssi (reverse (take k ssis))

    is_blocked : among e.sent.ssi h.visits.state.blocked ≡ here
    is_blocked = ap (among e.sent.ssi) (sym h.blocked.holds)

    few_turns : i < 64
    few_turns = omega (arith, less, h.few)

    -- The state after a visit at which one element stays, and a turn that leaves it.
    abbrev turned : Visit Sending Entry Entry → State
    turned w =
        with_arrays s ((h.visits.stays ++ w.stays) ++ drop (i + 1) s.outbound_messages) w.state.receipts

    goes_on :
        (w : Visit Sending Entry Entry) {out' : List ℕ} {next' : State} {at' : ℕ} {ssis' : List ℕ} {k' : ℕ}
        → first_sending h.visits.state e ≡ w
        → length w.stays ≡ 1
        → next' ≡ turned w
        → Wrote l at₀ (bytes_of (handed store) (h.visits.out ++ w.out)) out' at'
        → Filled ssis' k' (i + 1) w.state.blocked
        → Passing s store l at₀ out' next' at' ssis' k' (i + 1)
    goes_on w is one kept wr b =
        record {
          few = h.few;
          array = h.array;
          visits = ◌then◌ h.visits w;
          walking = visited w is;
          many = omega (arith, length-append h.visits.stays w.stays, h.many);
          holds = kept;
          wrote = wr;
          blocked = b;
        }

    -- The message is left as it is, and nothing is written.
    as_is : next ≡ turned (stay h.visits.state e)
    as_is =
        h.holds
        ∙ ap (λ (es : List Entry). with_arrays s es h.visits.state.receipts)
        (next-left h.visits.stays s.outbound_messages i d h.many within
        ∙ ap (λ (x : Entry). (h.visits.stays ++ (x ∷ [])) ++ drop (i + 1) s.outbound_messages) (sym as_it_was))

    none-sent : Wrote l at₀ (bytes_of (handed store) (h.visits.out ++ [])) out at
    none-sent = same_bytes (ap (bytes_of (handed store)) (sym (append-nil h.visits.out))) h.wrote

    -- A message that is under way, one that waits behind such a one, and one that is handed down.
    pub is-under-way : e.progress.submitted_to_umac ≡ true → Passing s store l at₀ out next at (set ssis k e.sent.ssi) (k + 1) (i + 1)
    is-under-way t =
        goes_on (blocks h.visits.state e) (under-way h.visits.state e t) refl as_is none-sent (one_more h.blocked e.sent.ssi few_turns)

    pub waits : e.progress.submitted_to_umac ≡ false → here ≡ true → Passing s store l at₀ out next at ssis k (i + 1)
    waits f t =
        goes_on (stay h.visits.state e) (waiting h.visits.state e f (is_blocked ∙ t)) refl as_is none-sent (as_before h.blocked)

    module _ (f : e.progress.submitted_to_umac ≡ false) (g : here ≡ false) where
      is_free : first_sending h.visits.state e ≡ sends h.visits.state e
      is_free = free h.visits.state e f (is_blocked ∙ g)

      pub room :
          at₀ + length (sent_bytes_of (bits store) (first_sendings s).out) ≤ length l
          → at + length (sent_bytes 1 (sent_in (bits store) e)) ≤ length out
      unfolding first_sendings sent_bytes_of bytes
      room r = room-left (handed store) h.visits.out h.wrote e _ (put-out (visited (sends h.visits.state e) is_free)) r

      pub is-sent :
          {m : List ℕ} {j : ℕ}
          → Wrote out at (sent_bytes 1 (sent_in (bits store) e)) m j
          → Passing s store l at₀ m
          (with_arrays next
          (set next.outbound_messages i (submitted_entry e.progress.retransmit_count e))
          (mark reset e.sent.receipt next.receipts))
          j (set ssis k e.sent.ssi) (k + 1) (i + 1)
      unfolding bytes
      is-sent w =
          let x : Entry = submitted_entry e.progress.retransmit_count e in
          goes_on (sends h.visits.state e) is_free refl
          (ap
          (λ (t : State). with_arrays t (set t.outbound_messages i x) (mark reset e.sent.receipt t.receipts))
          h.holds
          ∙ ap (λ (es : List Entry). with_arrays s es (mark reset e.sent.receipt h.visits.state.receipts))
          (next-set h.visits.stays s.outbound_messages i d h.many within x))
          (one-more (handed store) h.visits.out h.wrote e w)
          (one_more h.blocked e.sent.ssi few_turns)

  -- No message is left.
  module _ (none : s.n_messages ≤ i) where
    whole : h.visits ≡ first_sendings s
    unfolding first_sendings
    whole = walked h.walking (omega (arith, none, messages-count s h.few h.array))

    pub left-state : next ≡ after_sendings s
    left-state =
        let v : Visit Sending Entry Entry = h.visits in
        let all : i ≡ s.n_messages = omega (arith, none, messages-count s h.few h.array, h.walking.low) in
        let laid_so : v.stays ++ drop i s.outbound_messages ≡ laid no_entry s.n_messages v.stays s.outbound_messages =
        ap (λ (j : ℕ). v.stays ++ drop j s.outbound_messages) all
        ∙ sym (laid-over no_entry s.n_messages v.stays s.outbound_messages (h.many ∙ all))
        in
        h.holds
        ∙ ap₂ (λ (n : ℕ) (es : List Entry). with_places (put_messages s n es) v.state.receipts) (sym (h.many ∙ all)) laid_so
        ∙ ap (λ (w : Visit Sending Entry Entry). with_places (with_messages s w.stays) w.state.receipts) whole

    pub all-written : Wrote l at₀ (sent_bytes_of (bits store) (first_sendings s).out) out at
    unfolding sent_bytes_of
    all-written = same_bytes (ap (λ (v : Visit Sending Entry Entry). bytes_of (handed store) v.out) whole) h.wrote
