use Prim.Native.Nat.{ℕ, ◌-◌, ◌*◌, ◌%◌, ◌^◌, ◌≤◌}
use native.Mathlib.Nat.{one-mul}
use native.Mathlib.Omega.{arith}
use mathlib.Core.Path.{◌≡◌, ◌∙◌, refl, sym, ap}
use mathlib.Core.Bool.{Bool, true, false, ◌&&◌}
use mathlib.Core.Option.{none, some}
use borrow.Author.Tests.{le-leb, lt-leb}
use lib.Dec.{leb}
use lib.Pow.{shl_exact}
use Rattle.std.specs.Prelude as Code
use Rattle.std.proofs.lemmas.Bool.{cond-true, cond-false, and_from}
use Rattle.llc_pdus.specs.Headers.{header, option_of}
use Rattle.llc_pdus.specs.declared.Pdu.TheVariants.{BlAck}
use Rattle.llc_rule.specs.Messages.{steals_slot, reply_to}
use Rattle.llc_rule.specs.Records.{reply as reply_record}
use Rattle.llc_records.specs.Records.{reply}
use Rattle.llc_state.specs.View.{due_in}
use Rattle.llc_state.specs.declared.ScheduledOutAck.{ScheduledOutAck}
use Rattle.llc_tick_end.proofs.replies.ack_reply.Goals as goal
use Rattle.llc_tick_end.proofs.replies.ack_reply.Goals.{in-2-to-4, in_default, in_default-2}

-- A reply that steals its slot, and one that does not, by its link id and its mask.
module _ (a : ScheduledOutAck) {l : ℕ × Code.Option ℕ} {b : Bool} (q : b ≡ Code.is_some l.1) where
  steals :
      2 ≤ a.ts
      → a.ts ≤ 4
      → l ≡ (a.ts, Code.Some (1 * 2 ^ (a.ts - 1) % 2 ^ 8))
      → reply_record (reply (record { ssi = a.ssi; ssi_type = a.ssi_type; carrier = a.carrier_num; link = l.0; steal = b; mask = l.1; nr = a.nr }))
      ≡ reply_to (due_in a)
  unfolding reply_to due_in
  steals low high p =
      let h : steals_slot a.ts ≡ true = and_from _ _ (le-leb 2 a.ts low) (le-leb a.ts 4 high) in
      let bit : 1 * 2 ^ (a.ts - 1) % 2 ^ 8 ≡ 2 ^ (a.ts - 1) =
      shl_exact 1 (a.ts - 1) 8 (omega arith) (omega arith) ∙ one-mul (2 ^ (a.ts - 1)) in
      λ i.
      reply_record
      (record {
        ssi = a.ssi;
        type = a.ssi_type;
        carrier = a.carrier_num;
        link = (ap (λ (x : ℕ × Code.Option ℕ). x.0) p ∙ sym (cond-true _ a.ts 0 h)) i;
        steal = (q ∙ ap (λ (x : ℕ × Code.Option ℕ). Code.is_some x.1) p ∙ sym h) i;
        mask = (ap (λ (x : ℕ × Code.Option ℕ). option_of x.1) p ∙ ap some bit ∙ sym (cond-true _ (some (2 ^ (a.ts - 1))) none h)) i;
        pdu = header (BlAck false a.nr);
      })

  plain :
      steals_slot a.ts ≡ false
      → l ≡ (0, Code.None)
      → reply_record (reply (record { ssi = a.ssi; ssi_type = a.ssi_type; carrier = a.carrier_num; link = l.0; steal = b; mask = l.1; nr = a.nr }))
      ≡ reply_to (due_in a)
  unfolding reply_to due_in
  plain h p =
      λ i.
      reply_record
      (record {
        ssi = a.ssi;
        type = a.ssi_type;
        carrier = a.carrier_num;
        link = (ap (λ (x : ℕ × Code.Option ℕ). x.0) p ∙ sym (cond-false _ a.ts 0 h)) i;
        steal = (q ∙ ap (λ (x : ℕ × Code.Option ℕ). Code.is_some x.1) p ∙ sym h) i;
        mask = (ap (λ (x : ℕ × Code.Option ℕ). option_of x.1) p ∙ sym (cond-false _ (some (2 ^ (a.ts - 1))) none h)) i;
        pdu = header (BlAck false a.nr);
      })

neither : (b : Bool) → b && false ≡ false
neither true = refl
neither false = refl

pub returns : goal.returns
returns c =
    let a = c.args.ack in
    elim c.if-ack-lt2.branch [
      | in-2-to-4 w ↦ steals a c.is_some.ensures (omega arith) (omega arith) w.link-is
      | in_default w ↦ plain a c.is_some.ensures (ap (λ (b : Bool). b && leb a.ts 4) (lt-leb 2 a.ts (omega arith))) w.link-is
      | in_default-2 w ↦ plain a c.is_some.ensures (ap (λ (b : Bool). leb 2 a.ts && b) (lt-leb a.ts 4 (omega arith)) ∙ neither (leb 2 a.ts)) w.link-is
    ]
