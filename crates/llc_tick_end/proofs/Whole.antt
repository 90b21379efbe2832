-- The four passes, one behind the other, are a tick end.
use Prim.Native.Nat.{ℕ, ◌+◌, ◌*◌, ◌≤◌}
use native.Mathlib.Nat.{zero-add}
use native.Mathlib.Omega.{arith}
use mathlib.Core.Path.{◌≡◌, ◌∙◌, sym, ap}
use mathlib.Core.Bool.{true}
use mathlib.Core.List.{List, [], ◌++◌}
use lib.ListN.{length, drop, length-append}
use Rattle.lists.specs.Lists.{all}
use Rattle.lists.specs.Writes.{Wrote}
use Rattle.lists.proofs.Writes.{◌⨾◌, as_long, same_bytes, write-is}
use Rattle.bits.specs.Bits.{bits}
use Rattle.bits.proofs.Laws.{length-bits}
use Rattle.llc_rule.specs.Limits.{output_bytes, store_bytes}
use Rattle.llc_rule.specs.Calls.{tick_end}
use Rattle.llc_rule.specs.Records.{all_bytes}
use Rattle.llc_rule.proofs.Room.{all_bytes-append}
use Rattle.llc_state.specs.Ranges.{message_in_range, udata_in_range, state_in_range}
use Rattle.llc_state.specs.declared.State.{State}
use Rattle.llc_state.proofs.InRange.{range-tells}
use Rattle.llc_state.specs.Lengths.{Lengths}
use Rattle.llc_steps.specs.Sane.{Sane}
use Rattle.llc_steps.specs.Answers.{effect, answer, laid_out, delivered}
use Rattle.llc_steps.specs.States.{messages_of, udata_of, acks_of, with_udata, with_acks}
use Rattle.llc_steps.specs.Steps.{acts}
use Rattle.llc_steps.specs.TickEnd.{retransmissions, first_sendings, ticked, tick_records, after_retransmissions, after_sendings}
use Rattle.llc_steps.proofs.SaneTickEnd.{retransmissions-sane}
use Rattle.llc_tick_end.specs.Passes.{sent_bytes_of, reply_bytes_of, udata_bytes_of}
use Rattle.llc_tick_end.proofs.Room.{tick-room}

-- What tick_end asks of a state, the bytes of a store and an output.
abbrev pub Asked : State → List ℕ → List ℕ → Type 0
Asked s bytes out = record {
  state_value : state_in_range s ≡ true;
  store_len : length bytes ≡ store_bytes;
  output_bytes_in_bounds : output_bytes ≤ length out;
  started_value : s.started ≡ true;
}

-- A pass that left a state and wrote bytes.
abbrev pub Passed : State → List ℕ → List ℕ → ℕ → State → List ℕ → ℕ → Type 0
Passed next vs out at s m j = record {
  after : s ≡ next;
  wrote : Wrote out at vs m j;
}

-- The bytes that they write.
tick-bytes :
    (s : State) (store : List ℕ)
    → all_bytes (tick_records s store)
    ≡ sent_bytes_of store (retransmissions s).out
    ++ (sent_bytes_of store (first_sendings (after_retransmissions s)).out ++ (reply_bytes_of (acks_of s) ++ udata_bytes_of store (udata_of s)))
unfolding tick_records sent_bytes_of reply_bytes_of udata_bytes_of
tick-bytes s store = simp all_bytes-append

module _ (s : State) (bytes out : List ℕ) (long : Lengths s) (asked : Asked s bytes out) where
  abbrev store : List ℕ
  store = bits bytes

  sane : Sane s store
  sane =
      record {
        messages = long.messages;
        udata = long.udata;
        acks = long.acks;
        places = long.places;
        rows = long.rows;
        range = asked.state_value;
        long = length-bits bytes ∙ ap (λ (n : ℕ). 8 * n) asked.store_len;
      }

  -- Room for all of them.
  sizes :
      length (sent_bytes_of store (retransmissions s).out)
      + (length (sent_bytes_of store (first_sendings (after_retransmissions s)).out) + (length (reply_bytes_of (acks_of s)) + length (udata_bytes_of store (udata_of s))))
      ≤ length out
  sizes = omega (arith, simp length-append at (ap length (tick-bytes s store)), tick-room s store long asked.state_value, asked.output_bytes_in_bounds)

  -- What each pass asks: the first, and one behind others.
  pub first-room : 0 + length (sent_bytes_of store (retransmissions s).out) ≤ length out
  first-room = omega (arith, sizes)

  module _
      {s₁ : State} {out₁ : List ℕ} {at₁ : ℕ}
      (resent : Passed (after_retransmissions s) (sent_bytes_of store (retransmissions s).out) out 0 s₁ out₁ at₁) where
    sent-bytes : sent_bytes_of store (first_sendings s₁).out ≡ sent_bytes_of store (first_sendings (after_retransmissions s)).out
    sent-bytes = ap (λ (x : State). sent_bytes_of store (first_sendings x).out) resent.after

    pub second : record {
      messages_len : length s₁.outbound_messages ≡ 64;
      n_messages_bound : s₁.n_messages ≤ 64;
      in_range : all message_in_range (messages_of s₁) ≡ true;
      store_len : length bytes ≡ store_bytes;
      room : at₁ + length (sent_bytes_of store (first_sendings s₁).out) ≤ length out₁;
    }
    second =
        let again = retransmissions-sane s store sane asked.started_value in
        let r = range-tells (after_retransmissions s) again.range in
        let count : s₁.n_messages ≡ (after_retransmissions s).n_messages = ap (λ (x : State). x.n_messages) resent.after in
        record {
          messages_len = ap (λ (x : State). length x.outbound_messages) resent.after ∙ again.messages;
          n_messages_bound = omega (arith, count, r.head.messages);
          in_range = ap (λ (x : State). all message_in_range (messages_of x)) resent.after ∙ r.messages;
          store_len = asked.store_len;
          room = omega (arith, sizes, resent.wrote.next, as_long resent.wrote, ap length sent-bytes);
        }

    module _
        {s₂ : State} {out₂ : List ℕ} {at₂ : ℕ}
        (sent : Passed (after_sendings s₁) (sent_bytes_of store (first_sendings s₁).out) out₁ at₁ s₂ out₂ at₂) where
      both-are : s₂ ≡ after_sendings (after_retransmissions s)
      both-are = sent.after ∙ ap (λ (x : State). after_sendings x) resent.after

      acks-are : reply_bytes_of (acks_of s₂) ≡ reply_bytes_of (acks_of s)
      acks-are = ap (λ (x : State). reply_bytes_of (acks_of x)) both-are

      pub third : record {
        n_acks_bound : s₂.n_acks ≤ 64;
        room : at₂ + length (reply_bytes_of (acks_of s₂)) ≤ length out₂;
      }
      third =
          let count : s₂.n_acks ≡ s.n_acks = ap (λ (x : State). x.n_acks) both-are in
          record {
            n_acks_bound = omega (arith, count, (range-tells s asked.state_value).head.acks);
            room =
                omega (arith, sizes, resent.wrote.next, sent.wrote.next, as_long resent.wrote, as_long sent.wrote, ap length sent-bytes, ap length acks-are);
          }

      module _
          {s₃ : State} {out₃ : List ℕ} {at₃ : ℕ}
          (replied : Passed (with_acks s₂ []) (reply_bytes_of (acks_of s₂)) out₂ at₂ s₃ out₃ at₃) where
        three-are : s₃ ≡ with_acks (after_sendings (after_retransmissions s)) []
        three-are = replied.after ∙ ap (λ (x : State). with_acks x []) both-are

        udata-are : udata_bytes_of store (udata_of s₃) ≡ udata_bytes_of store (udata_of s)
        udata-are = ap (λ (x : State). udata_bytes_of store (udata_of x)) three-are

        pub fourth : record {
          n_udata_bound : s₃.n_udata ≤ 32;
          in_range : all udata_in_range (udata_of s₃) ≡ true;
          store_len : length bytes ≡ store_bytes;
          room : at₃ + length (udata_bytes_of store (udata_of s₃)) ≤ length out₃;
        }
        fourth =
            let r = range-tells s asked.state_value in
            let count : s₃.n_udata ≡ s.n_udata = ap (λ (x : State). x.n_udata) three-are in
            record {
              n_udata_bound = omega (arith, count, r.head.udata);
              in_range = ap (λ (x : State). all udata_in_range (udata_of x)) three-are ∙ r.udata;
              store_len = asked.store_len;
              room =
                  omega (
                    arith,
                    sizes,
                    resent.wrote.next,
                    sent.wrote.next,
                    replied.wrote.next,
                    as_long resent.wrote,
                    as_long sent.wrote,
                    as_long replied.wrote,
                    ap length sent-bytes,
                    ap length acks-are,
                    ap length udata-are,
                  );
            }

        -- The state, the bytes of the output and the place behind them are those of a tick end.
        pub tick-end-is :
            {s₄ : State} {out₄ : List ℕ} {at₄ : ℕ}
            → Passed (with_udata s₃ []) (udata_bytes_of store (udata_of s₃)) out₃ at₃ s₄ out₄ at₄
            → effect (answer 0 s₄ at₄) store out₄ ≡ delivered s store out (acts tick_end s store)
        unfolding acts laid_out ticked
        tick-end-is {s₄} {out₄} {at₄} last =
            let vs : List ℕ = all_bytes (tick_records s store) in
            let w : Wrote out 0 vs out₄ at₄ =
            same_bytes (sym (tick-bytes s store))
            (resent.wrote ⨾ (same_bytes sent-bytes sent.wrote ⨾ (same_bytes acks-are replied.wrote ⨾ same_bytes udata-are last.wrote))) in
            let state : s₄ ≡ ticked s = last.after ∙ ap (λ (x : State). with_udata x []) three-are in
            let behind : 0 + length vs ≡ length vs = zero-add (length vs) in
            let left : out₄ ≡ vs ++ drop (length vs) out =
            w.holds
            ∙ write-is out 0 vs (omega (arith, tick-room s store long asked.state_value, asked.output_bytes_in_bounds))
            ∙ ap (λ (k : ℕ). vs ++ drop k out) behind in
            λ i.
            record { answer = record { number = 0; state = state i; len = (w.next ∙ behind) i }; store = store; out = left i }
