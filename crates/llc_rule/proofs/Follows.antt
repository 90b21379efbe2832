-- What the link has of the message of a receipt follows what is read off the run of its request (proofs/Watches.antt): whether it
-- is held, how often it was resent, its done time and its mark.
use Prim.Native.Nat.{ℕ, suc, ◌≤◌}
use native.Mathlib.Omega.{arith}
use mathlib.Core.Path.{◌≡◌, ◌∙◌, refl, sym, ap, subst}
use mathlib.Core.Bool.{Bool, true, false, cond, ◌||◌, true≢false, false≢true}
use mathlib.Core.List.{List, [], ◌∷◌}
use mathlib.Core.Option.{Option, none, some}
use lib.Dec.{eqb}
use lib.ListN.{length}
use Rattle.std.proofs.lemmas.Bool.{or_parts}
use Rattle.lists.specs.Lists.{keep, any, All}
use Rattle.lists.proofs.Lists.{all_map, none-counted}
use Rattle.lists.proofs.Choices.{by-test}
use Rattle.tx_receipt.specs.declared.TxState.{TxState}
use Rattle.tx_receipt.specs.declared.TxState.TheVariants.{Pending, Discarded, Transmitted, Lost, Acknowledged}
use Rattle.llc_pdus.specs.declared.Pdu.{Pdu}
use Rattle.llc_rule.specs.Records.{Sent}
use Rattle.llc_rule.specs.Messages.{Message, Place, taken, place_at, is_free, sent_of}
use Rattle.llc_rule.specs.Link.{Link}
use Rattle.llc_rule.specs.Past.{Holders}
use Rattle.llc_rule.specs.Sound.{Owned}
use Rattle.llc_rule.specs.Sendings.{AtMostFour}
use Rattle.llc_rule.specs.Lost.{Clock, reads, is_held}
use Rattle.llc_rule.proofs.SoundLists.{other_place}
use Rattle.llc_rule.proofs.Watches.{Watch, Fine, Gone, Ended, End}

-- The messages of receipt i: none or one, if no two share it.
abbrev pub is_of : ℕ → Message → Bool
is_of i m = eqb m.sent.receipt i

abbrev pub mine : ℕ → List Message → List Message
mine i ms = keep (is_of i) ms

-- The state of a receipt after a report: "1 transmitted or 2 discarded".
abbrev pub report_state : Option ℕ → TxState
report_state none = Pending
report_state (some how) = cond (eqb how 1) Transmitted Discarded

abbrev pub is_value : ℕ → Bool
is_value how = eqb how 1 || eqb how 2

-- Of one that waits.
pub record Unsent (w : Watch) (m : Message) : Type 0 where
  pub sent : w.sent ≡ []
  pub report : w.report ≡ none
  pub resends : m.resends ≡ 0

-- A message that is held.
pub record Held (w : Watch) (m : Message) (p : Place) : Type 0 where
  pub carrier : ℕ
  pub link : ℕ
  pub header : Pdu
  pub what : m.sent ≡ sent_of w.request carrier link header
  pub same : All (λ (s : Sent). s ≡ m.sent) w.sent
  pub place : p ≡ taken (record { expects_ack = true; state = report_state w.report })
  pub done : m.done ≡ w.noted
  pub over : w.over ≡ false
  pub few : m.resends ≤ 3
  pub waits : m.submitted ≡ false → Unsent w m
  pub count : m.submitted ≡ true → length w.sent ≡ suc m.resends
  pub unnoted : w.report ≡ none → w.noted ≡ none
  pub value : (how : ℕ) → w.report ≡ some how → is_value how ≡ true

-- An order: its message is held, or gone. Another request has none.
abbrev pub OrderFollows : Watch → List Message → Place → Type 0
OrderFollows w [] p = Gone w p
OrderFollows w (m ∷ ms) p = Held w m p × (ms ≡ [])

abbrev pub FollowsAs : Bool → Watch → List Message → Place → Type 0
FollowsAs true w ms p = OrderFollows w ms p
FollowsAs false w ms p = (ms ≡ []) × (w.sent ≡ [])

abbrev pub FollowsBy : Option Watch → List Message → Place → Type 0
FollowsBy none ms p = ms ≡ []
FollowsBy (some w) ms p = FollowsAs w.order w ms p

-- The clock of the link.
abbrev pub clock_of : Link → Clock
clock_of l = record { time = l.time; t251 = l.t251 }

-- What the link has of receipt i.
pub record At (i : ℕ) (k : Clock) (w : Option Watch) (l : Link) : Type 0 where
  pub clock : k ≡ clock_of l
  pub started : l.started ≡ true → 1 ≤ l.t251
  pub follows : FollowsBy w (mine i l.acknowledged) (place_at l.receipts i)
  pub fine : Fine w

-- What follows from it ------------------------------------------------------------------------------------------------------

-- Sendings of a message that is held are few, and the same.
pub held-fine : (w : Watch) (m : Message) (p : Place) → Held w m p → AtMostFour w.request w.sent
held-fine w m p h =
    record {
      few =
          by-test m.submitted
          (λ s. omega (arith, h.count s, h.few))
          (λ s. subst (λ (ss : List Sent). length ss ≤ 4) (sym (h.waits s).sent) (omega arith));
      carrier = h.carrier;
      link = h.link;
      header = h.header;
      same = all_map _ _ w.sent (λ s e. e ∙ h.what) h.same;
    }

-- No message that is held has the receipt.
pub none-mine : (i : ℕ) (ms : List Message) → any (is_of i) ms ≡ false → mine i ms ≡ []
unfolding any keep
none-mine i [] e = refl
none-mine i (m ∷ ms) e =
    let n = or_parts (is_of i m) (any (is_of i) ms) e in rw n.0 (none-mine i ms n.1)

pub free-mine : (h : Holders) (ps : List Place) (i : ℕ) (ms : List Message) → All (λ (m : Message). Owned h ps m.sent) ms → is_free (place_at ps i) ≡ true → mine i ms ≡ []
unfolding keep
free-mine h ps i [] a f = refl
free-mine h ps i (m ∷ ms) a f = rw (other_place ps i m.sent.receipt f a.0.taken) (free-mine h ps i ms a.1 f)

-- At the end of a run.
held_reads : (o : Option ℕ) → reads Acknowledged (taken (record { expects_ack = true; state = report_state o })) || reads Lost (taken (record { expects_ack = true; state = report_state o })) ≡ false
held_reads none = refl
held_reads (some how) = by-test (eqb how 1) (λ e. rw e) (λ e. rw e)

no-mine : (i : ℕ) (ms : List Message) → mine i ms ≡ [] → is_held i ms ≡ true → ⊥
no-mine i ms e h = true≢false (sym h ∙ none-counted (is_of i) ms (ap length e))

order-ends : (i : ℕ) (w : Watch) (ms : List Message) (p : Place) (ns : List Message) → mine i ms ≡ ns → OrderFollows w ns p → Ended w p (is_held i ms)
order-ends i w ms p [] e g = record { gone = λ t. g; still = λ t. absurd (no-mine i ms e t) }
order-ends i w ms p (n ∷ ns) e g =
    record {
      gone = λ t. absurd (some-mine (sym e ∙ none-mine i ms t));
      still = λ t. ap (λ (q : Place). reads Acknowledged q || reads Lost q) g.0.place ∙ held_reads w.report;
    }
  where
    some-mine : {x : Message} {xs : List Message} → x ∷ xs ≡ [] → ⊥
    some-mine q = let z : true ≡ false = cc in true≢false z

end-as : (i : ℕ) (b : Bool) (w : Watch) (ms : List Message) (p : Place) → FollowsAs b w (mine i ms) p → b ≡ true → Ended w p (is_held i ms)
end-as i true w ms p f e = order-ends i w ms p (mine i ms) refl f
end-as i false w ms p f e = absurd (false≢true e)

pub end_of : (i : ℕ) (k : Clock) (w : Option Watch) (l : Link) → At i k w l → End w (place_at l.receipts i) (is_held i l.acknowledged)
end_of i k none l a = tt
end_of i k (some w) l a = λ order. end-as i w.order w l.acknowledged (place_at l.receipts i) a.follows order
