-- A tick end, as one address has it.
use Prim.Native.Nat.{ℕ, suc}
use mathlib.Core.Path.{◌≡◌, ◌∙◌, refl, sym, ap, ap₂}
use mathlib.Core.Bool.{Bool, true, false, cond, not, ◌&&◌, ◌||◌}
use mathlib.Core.List.{List, [], ◌∷◌, ◌++◌, map}
use mathlib.Core.Option.{Option, none, some}
use borrow.Author.Tests.{eqb-true, not-true}
use lib.Dec.{eqb, ltb}
use Rattle.std.proofs.lemmas.Bool.{cond-true, cond-false, or_from, or_parts}
use Rattle.lists.specs.Lists.{keep, any, among, Visit, ◌then◌, walk, All}
use Rattle.lists.proofs.Lists.{keep-yes, keep-no, keep_append, all_map}
use Rattle.lists.proofs.Choices.{by-test, either, ap-cond}
use Rattle.tdma_time.specs.declared.TdmaTime.{TdmaTime}
use Rattle.tx_receipt.specs.Marks as Marks
use Rattle.llc_rule.specs.Records.{Record, acknowledged, unacknowledged, Sent}
use Rattle.llc_rule.specs.Messages.{Message, submitted_after, done_at, has_time, overdue, reply_to, Place, place_at, taken?, mark, reported}
use Rattle.llc_rule.specs.Done.{done}
use Rattle.llc_rule.specs.Link.{Link}
use Rattle.llc_rule.specs.Step.{stay, timed, resend, leave, aged_by, retransmission, Sending, first_sending, retransmissions, first_sendings, on_tick_end}
use Rattle.llc_rule.specs.Rule.{noted, on_time, looked, under_way, submit_oldest, submitted, resent, sent_first, at_tick_end}
use Rattle.llc_rule.specs.Past.{Holders, is_holder}
use Rattle.llc_rule.specs.Sound.{Owned, of_address, one_ahead, Sound}
use Rattle.llc_rule.proofs.SoundTickEnd.{owned-between, ahead-between}
use Rattle.llc_rule.proofs.Own.{sent_to, due_to, of_ssi, blank, own, keep-map, place-own, own-parts, blank-mark, blank-mark-other}

-- What an address has of a walk follows from what it has of each visit: the same of its own, nothing of the others.
module _
    {S T A R : Type 0} (f : S → A → Visit S A R) (g : T → A → Visit T A R) (view : S → T) (mine : A → Bool) (said : R → Bool)
    (Q : A → Type 0)
  where
    abbrev pub shown : Visit S A R → Visit T A R
    shown v = record { state = view v.state; stays = keep mine v.stays; out = keep said v.out }

    pub record Unseen (s : S) (v : Visit S A R) : Type 0 where
      pub state : view v.state ≡ view s
      pub stays : keep mine v.stays ≡ []
      pub out : keep said v.out ≡ []

    module _
        (of-own : (s : S) (x : A) → Q x → mine x ≡ true → g (view s) x ≡ shown (f s x))
        (of_other : (s : S) (x : A) → Q x → mine x ≡ false → Unseen s (f s x))
      where
        pub walk-seen : (l : List A) (s : S) → All Q l → walk g (view s) (keep mine l) ≡ shown (walk f s l)
        unfolding walk keep
        walk-seen [] s q = refl
        walk-seen (x ∷ l) s q =
            let v : Visit S A R = f s x in
            let w : Visit S A R = walk f v.state l in
            let ih : walk g (view v.state) (keep mine l) ≡ shown w = walk-seen l v.state q.1 in
            by-test (mine x)
            (λ e.
            ap (walk g (view s)) (cond-true _ (x ∷ keep mine l) (keep mine l) e)
            ∙ ap (λ (u : Visit T A R). ◌then◌ u (walk g u.state (keep mine l))) (of-own s x q.0 e)
            ∙ ap (◌then◌ (shown v)) ih
            ∙ (λ i.
            record {
              state = view w.state;
              stays = sym (keep_append mine v.stays w.stays) i;
              out = sym (keep_append said v.out w.out) i;
            }))
            (λ e.
            let u = of_other s x q.0 e in
            let stays : keep mine w.stays ≡ keep mine (v.stays ++ w.stays) =
            sym (keep_append mine v.stays w.stays ∙ ap (λ (t : List A). t ++ keep mine w.stays) u.stays)
            in
            let out : keep said w.out ≡ keep said (v.out ++ w.out) =
            sym (keep_append said v.out w.out ∙ ap (λ (t : List R). t ++ keep said w.out) u.out)
            in
            ap (walk g (view s)) (cond-false _ (x ∷ keep mine l) (keep mine l) e)
            ∙ ap (λ (t : T). walk g t (keep mine l)) (sym u.state)
            ∙ ih
            ∙ (λ i. record { state = view w.state; stays = stays i; out = out i }))

-- The message of a visit, and whose it is.
abbrev to_me : ℕ → Message → Bool
to_me a m = eqb m.sent.ssi a

abbrev HeldBySsi : Holders → Message → Type 0
HeldBySsi h m = h m.sent.receipt ≡ some m.sent.ssi

timed-sent : (time : TdmaTime) (ps : List Place) (m : Message) → (timed time ps m).sent ≡ m.sent
timed-sent time ps m =
    by-test (not (has_time m.done) && taken? reported (place_at ps m.sent.receipt))
    (λ e. ap (λ (x : Message). x.sent) (cond-true _ (done_at time m) m e))
    (λ e. ap (λ (x : Message). x.sent) (cond-false _ (done_at time m) m e))

-- The first pass: resends.
module _ (a : ℕ) (h : Holders) (time : TdmaTime) (t251 : ℕ) where
  abbrev shown₁ : Visit (List Place) Message Record → Visit (List Place) Message Record
  shown₁ v = record { state = blank a h v.state; stays = keep (to_me a) v.stays; out = keep (of_ssi a) v.out }

  stay-own : (ps : List Place) (m : Message) → to_me a m ≡ true → record { state = blank a h ps; stays = m ∷ []; out = [] } ≡ shown₁ (stay ps m)
  unfolding keep
  stay-own ps m e = λ i. record { state = blank a h ps; stays = sym (keep-yes (to_me a) m [] e) i; out = [] }

  resend-own :
      (ps : List Place) (m : Message)
      → is_holder a (h m.sent.receipt) ≡ true
      → to_me a m ≡ true
      → resend (blank a h ps) m ≡ shown₁ (resend ps m)
  unfolding keep
  resend-own ps m k e =
      λ i.
      record {
        state = sym (blank-mark a h Marks.reset m.sent.receipt ps k) i;
        stays = sym (keep-yes (to_me a) (submitted_after (suc m.resends) m) [] e) i;
        out = sym (keep-yes (of_ssi a) (acknowledged m.sent) [] e) i;
      }

  leave_own :
      (ps : List Place) (m : Message)
      → is_holder a (h m.sent.receipt) ≡ true
      → leave (blank a h ps) m ≡ shown₁ (leave ps m)
  unfolding keep
  leave_own ps m k =
      λ i. record { state = sym (blank-mark a h Marks.lost m.sent.receipt ps k) i; stays = []; out = [] }

  aged-own :
      (ps : List Place) (m : Message) (x : Option TdmaTime)
      → is_holder a (h m.sent.receipt) ≡ true
      → to_me a m ≡ true
      → on_time time t251 (blank a h ps) m x ≡ shown₁ (aged_by time t251 ps m x)
  aged-own ps m none k e = stay-own ps m e
  aged-own ps m (some t) k e =
      ap₂ (cond (overdue time t251 t))
      (ap₂ (cond (ltb m.resends 3)) (resend-own ps m k e) (leave_own ps m k)
      ∙ sym (ap-cond shown₁ (ltb m.resends 3) (resend ps m) (leave ps m)))
      (stay-own ps m e)
      ∙ sym (ap-cond shown₁ (overdue time t251 t) (cond (ltb m.resends 3) (resend ps m) (leave ps m)) (stay ps m))

  timed-own :
      (ps : List Place) (m : Message)
      → is_holder a (h m.sent.receipt) ≡ true
      → noted time (blank a h ps) m ≡ timed time ps m
  timed-own ps m k =
      ap (λ (p : Place). cond (not (has_time m.done) && taken? reported p) (done_at time m) m) (place-own a h ps m.sent.receipt k)

  resends-own :
      (ps : List Place) (m : Message)
      → HeldBySsi h m
      → to_me a m ≡ true
      → looked time t251 (blank a h ps) m ≡ shown₁ (retransmission time t251 ps m)
  unfolding looked retransmission
  resends-own ps m who e =
      let k : is_holder a (h m.sent.receipt) ≡ true = rw who e in
      let n : Message = timed time ps m in
      ap (λ (x : Message). on_time time t251 (blank a h ps) x x.done) (timed-own ps m k)
      ∙ aged-own ps n n.done
      (ap (λ (s : Sent). is_holder a (h s.receipt)) (timed-sent time ps m) ∙ k)
      (ap (λ (s : Sent). eqb s.ssi a) (timed-sent time ps m) ∙ e)

  abbrev Unseen₁ : List Place → Visit (List Place) Message Record → Type 0
  Unseen₁ ps v = Unseen (retransmission time t251) (looked time t251) (blank a h) (to_me a) (of_ssi a) (HeldBySsi h) ps v

  aged-other :
      (ps : List Place) (m : Message) (x : Option TdmaTime)
      → is_holder a (h m.sent.receipt) ≡ false
      → to_me a m ≡ false
      → Unseen₁ ps (aged_by time t251 ps m x)
  unfolding keep
  aged-other ps m none k e = record { state = refl; stays = keep-no (to_me a) m [] e; out = refl }
  aged-other ps m (some t) k e =
      either (Unseen₁ ps) (overdue time t251 t)
      (either (Unseen₁ ps) (ltb m.resends 3)
      (record {
        state = blank-mark-other a h Marks.reset m.sent.receipt ps k;
        stays = keep-no (to_me a) (submitted_after (suc m.resends) m) [] e;
        out = keep-no (of_ssi a) (acknowledged m.sent) [] e;
      })
      (record {
        state = blank-mark-other a h Marks.lost m.sent.receipt ps k;
        stays = refl;
        out = refl;
      }))
      (record { state = refl; stays = keep-no (to_me a) m [] e; out = refl })

  resends-other :
      (ps : List Place) (m : Message)
      → HeldBySsi h m
      → to_me a m ≡ false
      → Unseen₁ ps (retransmission time t251 ps m)
  unfolding retransmission
  resends-other ps m who e =
      let k : is_holder a (h m.sent.receipt) ≡ false = rw who e in
      let n : Message = timed time ps m in
      aged-other ps n n.done
      (ap (λ (s : Sent). is_holder a (h s.receipt)) (timed-sent time ps m) ∙ k)
      (ap (λ (s : Sent). eqb s.ssi a) (timed-sent time ps m) ∙ e)

  pub first-pass :
      (ps : List Place) (ms : List Message)
      → All (HeldBySsi h) ms
      → walk (looked time t251) (blank a h ps) (of_address a ms) ≡ shown₁ (walk (retransmission time t251) ps ms)
  first-pass ps ms q =
      walk-seen (retransmission time t251) (looked time t251) (blank a h) (to_me a) (of_ssi a) (HeldBySsi h) resends-own resends-other
      ms ps q

-- The second pass: first sendings. An address has the receipts that it holds, and whether one of its messages is under way.
record OwnSending : Type 0 where
  receipts : List Place
  blocked : Bool

own_sending : OwnSending → Message → Visit OwnSending Message Record
own_sending s m =
    cond m.submitted
    (stay (record { receipts = s.receipts; blocked = true }) m)
    (cond s.blocked
    (stay s m)
    (record {
      state = record { receipts = mark Marks.reset m.sent.receipt s.receipts; blocked = true };
      stays = submitted_after m.resends m ∷ [];
      out = acknowledged m.sent ∷ [];
    }))

module _ (a : ℕ) (h : Holders) where
  abbrev viewed : Sending → OwnSending
  viewed s = record { receipts = blank a h s.receipts; blocked = among a s.blocked }

  abbrev shown₂ : Visit Sending Message Record → Visit OwnSending Message Record
  shown₂ v = record { state = viewed v.state; stays = keep (to_me a) v.stays; out = keep (of_ssi a) v.out }

  abbrev Unseen₂ : Sending → Visit Sending Message Record → Type 0
  Unseen₂ s v = Unseen first_sending own_sending viewed (to_me a) (of_ssi a) (HeldBySsi h) s v

  among-own : (m : Message) (bs : List ℕ) → to_me a m ≡ true → true ≡ among a (m.sent.ssi ∷ bs)
  unfolding any
  among-own m bs e = rw e

  sends-own : (s : Sending) (m : Message) → HeldBySsi h m → to_me a m ≡ true → own_sending (viewed s) m ≡ shown₂ (first_sending s m)
  unfolding own_sending first_sending keep
  sends-own s m who e =
      let k : is_holder a (h m.sent.receipt) ≡ true = rw who e in
      let bs : List ℕ = m.sent.ssi ∷ s.blocked in
      let going : Visit Sending Message Record = stay (record { receipts = s.receipts; blocked = bs }) m in
      let sending : Visit Sending Message Record =
      record {
        state = record { receipts = mark Marks.reset m.sent.receipt s.receipts; blocked = bs };
        stays = submitted_after m.resends m ∷ [];
        out = acknowledged m.sent ∷ [];
      }
      in
      let going-own : stay (record { receipts = blank a h s.receipts; blocked = true }) m ≡ shown₂ going =
      λ i.
      record {
        state = record { receipts = blank a h s.receipts; blocked = among-own m s.blocked e i };
        stays = sym (keep-yes (to_me a) m [] e) i;
        out = [];
      }
      in
      let staying-own : stay (viewed s) m ≡ shown₂ (stay s m) =
      λ i. record { state = viewed s; stays = sym (keep-yes (to_me a) m [] e) i; out = [] }
      in
      let sent-own : Visit OwnSending Message Record =
      record {
        state = record { receipts = mark Marks.reset m.sent.receipt (blank a h s.receipts); blocked = true };
        stays = submitted_after m.resends m ∷ [];
        out = acknowledged m.sent ∷ [];
      }
      in
      let sending-own : sent-own ≡ shown₂ sending =
      λ i.
      record {
        state =
            record {
              receipts = sym (blank-mark a h Marks.reset m.sent.receipt s.receipts k) i;
              blocked = among-own m s.blocked e i;
            };
        stays = sym (keep-yes (to_me a) (submitted_after m.resends m) [] e) i;
        out = sym (keep-yes (of_ssi a) (acknowledged m.sent) [] e) i;
      }
      in
      let under : Bool = among a s.blocked in
      let same : a ≡ m.sent.ssi = sym (eqb-true m.sent.ssi a e) in
      ap₂ (cond m.submitted) going-own
      (ap₂ (cond under) staying-own sending-own ∙ sym (ap-cond shown₂ under (stay s m) sending))
      ∙ sym (ap-cond shown₂ m.submitted going (cond under (stay s m) sending))
      ∙ ap (λ (n : ℕ). shown₂ (cond m.submitted going (cond (among n s.blocked) (stay s m) sending))) same

  among-other : (m : Message) (bs : List ℕ) → to_me a m ≡ false → among a (m.sent.ssi ∷ bs) ≡ among a bs
  unfolding any
  among-other m bs e = rw e

  sends-other : (s : Sending) (m : Message) → HeldBySsi h m → to_me a m ≡ false → Unseen₂ s (first_sending s m)
  unfolding first_sending keep
  sends-other s m who e =
      let k : is_holder a (h m.sent.receipt) ≡ false = rw who e in
      let staying = keep-no (to_me a) m [] e in
      either (Unseen₂ s) m.submitted
      (record {
        state = λ i. record { receipts = blank a h s.receipts; blocked = among-other m s.blocked e i };
        stays = staying;
        out = refl;
      })
      (either (Unseen₂ s) (among m.sent.ssi s.blocked)
      (record { state = refl; stays = staying; out = refl })
      (record {
        state =
            λ i.
            record {
              receipts = blank-mark-other a h Marks.reset m.sent.receipt s.receipts k i;
              blocked = among-other m s.blocked e i;
            };
        stays = keep-no (to_me a) (submitted_after m.resends m) [] e;
        out = keep-no (of_ssi a) (acknowledged m.sent) [] e;
      }))

  second-pass :
      (s : Sending) (ms : List Message)
      → All (HeldBySsi h) ms
      → walk own_sending (viewed s) (of_address a ms) ≡ shown₂ (walk first_sending s ms)
  second-pass s ms q =
      walk-seen first_sending own_sending viewed (to_me a) (of_ssi a) (HeldBySsi h) sends-own sends-other ms s q

-- While one is under way, those that wait go on waiting.
all-wait :
    (ps : List Place) (ms : List Message)
    → under_way ms ≡ false
    → walk own_sending (record { receipts = ps; blocked = true }) ms
    ≡ record { state = record { receipts = ps; blocked = true }; stays = ms; out = [] }
unfolding walk any own_sending
all-wait ps [] e = refl
all-wait ps (m ∷ ms) e =
    let n = or_parts m.submitted (under_way ms) e in
    let s : OwnSending = record { receipts = ps; blocked = true } in
    ap (λ (v : Visit OwnSending Message Record). ◌then◌ v (walk own_sending v.state ms)) (cond-false _ (stay s m) (stay s m) n.0)
    ∙ ap (◌then◌ (stay s m)) (all-wait ps ms n.1)

-- With at most one under way, and that ahead, the walk submits the oldest that waits if none is under way.
record Submits (v : Visit OwnSending Message Record) (w : Visit (List Place) Message Record) : Type 0 where
  receipts : v.state.receipts ≡ w.state
  stays : v.stays ≡ w.stays
  out : v.out ≡ w.out

submits-by :
    {v v' : Visit OwnSending Message Record} {w w' : Visit (List Place) Message Record}
    → v ≡ v'
    → w ≡ w'
    → Submits v' w'
    → Submits v w
submits-by {v} {v'} {w} {w'} e g s =
    record {
      receipts = ap (λ (x : Visit OwnSending Message Record). x.state.receipts) e ∙ s.receipts ∙ sym (ap (λ (x : Visit (List Place) Message Record). x.state) g);
      stays = ap (λ (x : Visit OwnSending Message Record). x.stays) e ∙ s.stays ∙ sym (ap (λ (x : Visit (List Place) Message Record). x.stays) g);
      out = ap (λ (x : Visit OwnSending Message Record). x.out) e ∙ s.out ∙ sym (ap (λ (x : Visit (List Place) Message Record). x.out) g);
    }

submits : (ps : List Place) (ms : List Message) → one_ahead ms ≡ true → Submits (walk own_sending (record { receipts = ps; blocked = false }) ms) (submitted ps ms)
unfolding walk submitted one_ahead own_sending any
submits ps [] e = record { receipts = refl; stays = refl; out = refl }
submits ps (m ∷ ms) e =
    let rest : under_way ms ≡ false = not-true (under_way ms) e in
    let s : OwnSending = record { receipts = ps; blocked = false } in
    let kept : Visit (List Place) Message Record = record { state = ps; stays = m ∷ ms; out = [] } in
    let going : Visit OwnSending Message Record = stay (record { receipts = ps; blocked = true }) m in
    let sending : Visit OwnSending Message Record =
    record {
      state = record { receipts = mark Marks.reset m.sent.receipt ps; blocked = true };
      stays = submitted_after m.resends m ∷ [];
      out = acknowledged m.sent ∷ [];
    }
    in
    let onward : Visit OwnSending Message Record → Visit OwnSending Message Record = λ v. ◌then◌ v (walk own_sending v.state ms) in
    by-test m.submitted
    (λ u.
    submits-by
    (ap onward (cond-true _ going sending u) ∙ ap (◌then◌ going) (all-wait ps ms rest))
    (cond-true (m.submitted || under_way ms) kept (submit_oldest ps (m ∷ ms)) (ap (λ (b : Bool). b || under_way ms) u))
    (record { receipts = refl; stays = refl; out = refl }))
    (λ u.
    submits-by
    (ap onward (cond-false _ going sending u) ∙ ap (◌then◌ sending) (all-wait (mark Marks.reset m.sent.receipt ps) ms rest))
    (cond-false _ kept (submit_oldest ps (m ∷ ms)) (or_from _ _ u rest))
    (record { receipts = refl; stays = refl; out = refl }))

-- The whole tick end.
module _ (a : ℕ) (h : Holders) (l : Link) (ok : Sound h l) where
  held-by-ssi : (ms : List Message) → All (λ (m : Message). Owned h l.receipts m.sent) ms → All (HeldBySsi h) ms
  held-by-ssi ms o = all_map (λ (m : Message). Owned h l.receipts m.sent) (HeldBySsi h) ms (λ m x. x.holder) o

  resent-own : resent (own a h l) ≡ shown₁ a h l.time l.t251 (retransmissions l)
  unfolding resent own retransmissions
  resent-own = first-pass a h l.time l.t251 l.receipts l.acknowledged (held-by-ssi l.acknowledged ok.owned)

  sent-first-own : Submits (shown₂ a h (first_sendings l)) (sent_first (own a h l))
  unfolding sent_first first_sendings any
  sent-first-own =
      submits-by
      (sym
      (second-pass a h (record { receipts = (retransmissions l).state; blocked = [] }) (retransmissions l).stays
      (held-by-ssi (retransmissions l).stays (owned-between h l ok))))
      (ap (λ (v : Visit (List Place) Message Record). submitted v.state v.stays) resent-own)
      (submits (blank a h (retransmissions l).state) (of_address a (retransmissions l).stays) (ahead-between h l ok a))

  records-own :
      keep (of_ssi a) ((retransmissions l).out ++ ((first_sendings l).out ++ (map reply_to l.due ++ map unacknowledged l.unacknowledged)))
      ≡ (resent (own a h l)).out
      ++ ((sent_first (own a h l)).out
      ++ (map reply_to (keep (due_to a) l.due) ++ map unacknowledged (keep (sent_to a) l.unacknowledged)))
  unfolding reply_to
  records-own =
      let R = (retransmissions l).out in
      let F = (first_sendings l).out in
      let D = map reply_to l.due in
      let U = map unacknowledged l.unacknowledged in
      keep_append (of_ssi a) R (F ++ (D ++ U))
      ∙ ap₂ (λ (x y : List Record). x ++ y) (ap (λ (v : Visit (List Place) Message Record). v.out) (sym resent-own))
      (keep_append (of_ssi a) F (D ++ U)
      ∙ ap₂ (λ (x y : List Record). x ++ y) sent-first-own.out
      (keep_append (of_ssi a) D U
      ∙ ap₂ (λ (x y : List Record). x ++ y)
      (keep-map (of_ssi a) (due_to a) reply_to l.due (λ d. refl))
      (keep-map (of_ssi a) (sent_to a) unacknowledged l.unacknowledged (λ s. refl))))

  pub tick-end-own : done (own a h (on_tick_end l).state) (keep (of_ssi a) (on_tick_end l).records) ≡ at_tick_end (own a h l)
  unfolding at_tick_end on_tick_end own keep
  tick-end-own =
      λ i.
      done
      (own-parts a h h l (on_tick_end l).state refl refl sent-first-own.stays refl refl sent-first-own.receipts i)
      (records-own i)
