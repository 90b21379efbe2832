-- The invariant is kept by every call, and so holds after every run from the new link.
use Prim.Native.Nat.{ℕ, zero, suc, ◌<◌}
use native.Mathlib.Omega.{arith}
use mathlib.Core.Path.{◌≡◌, ◌∙◌, refl, sym, ap, subst}
use mathlib.Core.Bool.{Bool, false, not, ◌&&◌, and-true}
use mathlib.Core.List.{List, [], ◌∷◌}
use mathlib.Core.Option.{none}
use borrow.Author.Tests.{ne_eqb, not-true}
use lib.Dec.{eqb}
use lib.ListN.{set, replicate, length-set, length-replicate}
use Rattle.std.proofs.lemmas.Bool.{and_parts, or_parts}
use Rattle.lists.specs.Lists.{keep, any}
use Rattle.lists.proofs.Lists.{all_map, all_but}
use Rattle.questions.specs.Outcome.{accepted}
use Rattle.tdma_time.specs.declared.TdmaTime.{TdmaTime}
use Rattle.tx_receipt.specs.States.{is, final}
use Rattle.tx_receipt.specs.Marks.{Mark}
use Rattle.tx_receipt.specs.declared.TxState.TheVariants.{Pending}
use Rattle.llc_rule.specs.Calls.{Call, parsed}
use Rattle.llc_rule.specs.Records.{Record}
use Rattle.llc_rule.specs.Messages.{Message, free, place_at, taken?, mark, mark_of, no_receipts}
use Rattle.llc_rule.specs.Keeps.{with_time, with_receipts}
use Rattle.llc_rule.specs.Link.{Link, new, started_with}
use Rattle.llc_rule.specs.Step.{held, waits, step}
use Rattle.llc_rule.specs.Runs.{left, exchange, run, after}
use Rattle.llc_rule.specs.Past.{Holding, stays, about_call, about, Holders, nobody, holding, held_after, done_to, holders, History, nothing_yet, and_then, history, holders_after}
use Rattle.llc_rule.specs.Sound.{one_ahead, Sound}
use Rattle.llc_rule.proofs.SoundTickEnd.{sound-tick-end}
use Rattle.llc_rule.proofs.Paths.{Number, Paths, step-law}
use Rattle.llc_rule.proofs.SoundRequests.{sound-with-acknowledged, sound-with-unacknowledged}
use Rattle.llc_rule.proofs.SoundFrames.{sound-heard}
use Rattle.llc_rule.proofs.Places.{mark-free}
use Rattle.llc_rule.proofs.SoundLists.{owned-marked, owned-other, free-written, pending-other, waiting-other, waiting-marked}

-- Empty links -------------------------------------------------------------------------------------------------------------

place-free : (n i : ℕ) → place_at (replicate n free) i ≡ free
place-free zero i = refl
place-free (suc n) zero = refl
place-free (suc n) (suc i) = place-free n i

abbrev empty : Bool → ℕ → ℕ → TdmaTime → Link
empty started carrier t251 time =
    record {
      started = started;
      carrier = carrier;
      t251 = t251;
      time = time;
      acknowledged = [];
      unacknowledged = [];
      due = [];
      receipts = no_receipts;
      rows = [];
    }

sound_empty : (started : Bool) (carrier t251 : ℕ) (time : TdmaTime) → Sound nobody (empty started carrier t251 time)
unfolding no_receipts keep one_ahead
sound_empty started carrier t251 time =
    record {
      limits =
          record {
            acknowledged = omega arith;
            unacknowledged = omega arith;
            due = omega arith;
            receipts = length-replicate 128 free;
            rows = omega arith;
          };
      owned = tt;
      owned_too = tt;
      apart = λ i. omega arith;
      free = λ i. rw (place-free 128 i);
      waiting = tt;
      waiting_too = tt;
      ahead = λ a. refl;
    }

pub sound-new : Sound nobody new
unfolding new
sound-new = sound_empty _ _ _ _

pub sound-start : (carrier t251 : ℕ) → Sound nobody (started_with carrier t251)
unfolding started_with
sound-start carrier t251 = sound_empty _ _ _ _

pub sound-tick-start : (h : Holders) (l : Link) (time : TdmaTime) → Sound h l → Sound h (with_time l time)
sound-tick-start h l time s = search

-- Reports and releases ------------------------------------------------------------------------------------------------------

-- A mark on a receipt that no waiting message has.
sound-marked :
    (h : Holders) (l : Link) (t : Mark) (i : ℕ)
    → waits i l ≡ false
    → Sound h l
    → Sound h (with_receipts l (mark t i l.receipts))
unfolding waits
sound-marked h l t i e s =
    let n = or_parts (any (λ (m : Message). eqb m.sent.receipt i && not m.submitted) l.acknowledged) _ e in
    record {
      limits = search length-set;
      owned = all_map _ _ l.acknowledged (λ m. owned-marked h l.receipts t i m.sent) s.owned;
      owned_too = all_map _ _ l.unacknowledged (owned-marked h l.receipts t i) s.owned_too;
      apart = s.apart;
      free = λ j. mark-free t i l.receipts j ∙ s.free j;
      waiting =
          all_but _ _ _ l.acknowledged
          (λ m w f. waiting-marked l.receipts t i m (λ q. rw (q, and-true) at f) w)
          n.0
          s.waiting;
      waiting_too =
          all_but _ _ _ l.unacknowledged (λ u w f. pending-other l.receipts i u.receipt _ f w) n.1 s.waiting_too;
      ahead = s.ahead;
    }

-- A place freed that no message needs.
sound-freed :
    (h : Holders) (l : Link) (i : ℕ)
    → i < 128
    → held i l ≡ false
    → Sound h l
    → Sound (holding i none h) (with_receipts l (set l.receipts i free))
unfolding held
sound-freed h l i b e s =
    let n = or_parts (any (λ (m : Message). eqb m.sent.receipt i) l.acknowledged) _ e in
    record {
      limits = search length-set;
      owned = all_but _ _ _ l.acknowledged (λ m. owned-other h l.receipts i none free m.sent) n.0 s.owned;
      owned_too = all_but _ _ _ l.unacknowledged (owned-other h l.receipts i none free) n.1 s.owned_too;
      apart = s.apart;
      free = λ j. free-written h l.receipts i none free (omega (arith, s.limits.receipts)) refl s.free j;
      waiting =
          all_but _ _ _ l.acknowledged
          (λ m w f. waiting-other l.receipts i _ m f w)
          n.0
          s.waiting;
      waiting_too =
          all_but _ _ _ l.unacknowledged (λ u w f. pending-other l.receipts i u.receipt _ f w) n.1 s.waiting_too;
      ahead = s.ahead;
    }

-- A call ------------------------------------------------------------------------------------------------------------------

sound-paths : (h : Holders) (l : Link) → Sound h l → Paths l (λ c k rs. Sound (held_after (about_call c).to_holding h) k)
sound-paths h l s =
    record {
      start = sound-start;
      tick_start = λ time. sound-tick-start h l time s;
      tick_end = sound-tick-end h l s;
      acknowledged = λ r a. sound-with-acknowledged h l r a s;
      unacknowledged = λ v r link p used a. sound-with-unacknowledged h l r link p used a s;
      heard = λ f r a. sound-heard h l f r a s;
      reported =
          λ i how a.
          sound-marked h l (mark_of how) i
          (not-true (waits i l) (and_parts (taken? (is Pending) (place_at l.receipts i)) _ a.may).1)
          s;
      released =
          λ i a.
          sound-freed h l i a.receipt
          (not-true (held i l) (and_parts (taken? final (place_at l.receipts i)) _ a.may).1)
          s;
    }

-- A refused call has another number than 0.
pub numbered : (n : ℕ) → Number n → eqb n 0 ≡ false
numbered n k = ne_eqb n 0 (λ e. omega (arith, e, k.low))

-- An accepted call changes the holders as it says, and a refused one does not.
pub done-accepted : (bytes : List ℕ) (c : Call) (rs : List Record) → parsed bytes ≡ accepted c → done_to (record { call = bytes; number = 0; records = rs }) ≡ (about_call c).to_holding
unfolding done_to about
done-accepted bytes c rs e = rw e

pub done_refused : (bytes : List ℕ) (n : ℕ) (rs : List Record) → Number n → done_to (record { call = bytes; number = n; records = rs }) ≡ stays
unfolding done_to
done_refused bytes n rs k = rw (numbered n k)

pub holders-refused : (h : Holders) (bytes : List ℕ) (n : ℕ) (rs : List Record) → Number n → holders (record { call = bytes; number = n; records = rs }) h ≡ h
unfolding holders
holders-refused h bytes n rs k = ap (λ (x : Holding). held_after x h) (done_refused bytes n rs k)

pub holders-accepted : (h : Holders) (bytes : List ℕ) (c : Call) (rs : List Record) → parsed bytes ≡ accepted c → holders (record { call = bytes; number = 0; records = rs }) h ≡ held_after (about_call c).to_holding h
unfolding holders
holders-accepted h bytes c rs e = ap (λ (x : Holding). held_after x h) (done-accepted bytes c rs e)

-- A call of any bytes keeps the invariant.
pub sound-step :
    (h : Holders) (l : Link) (bytes : List ℕ)
    → Sound h l
    → Sound (holders (exchange bytes (step l bytes)) h) (left l (step l bytes))
sound-step h l bytes s =
    step-law l _ (sound-paths h l s) bytes (λ o. Sound (holders (exchange bytes o) h) (left l o))
    (λ n k. subst (λ (x : Holders). Sound x l) (sym (holders-refused h bytes n [] k)) s)
    (λ c d e p. subst (λ (x : Holders). Sound x d.state) (sym (holders-accepted h bytes c d.records e)) p)

-- And so does a history.
pub sound-next : (k : History) (l : Link) (c : List ℕ) → Sound k.holders l → Sound (and_then (exchange c (step l c)) k).holders (left l (step l c))
unfolding and_then
sound-next k l c s = sound-step k.holders l c s

-- Runs --------------------------------------------------------------------------------------------------------------------

sound-after :
    (k : History) (l : Link) (cs : List (List ℕ))
    → Sound k.holders l
    → Sound (history k (run l cs)).holders (after l cs)
unfolding history run after
sound-after k l [] s = s
sound-after k l (c ∷ cs) s =
    sound-after (and_then (exchange c (step l c)) k) (left l (step l c)) cs (sound-next k l c s)

-- The invariant holds after every run.
pub sound-run : (cs : List (List ℕ)) → Sound (holders_after (run new cs)) (after new cs)
unfolding nothing_yet
sound-run cs = sound-after nothing_yet new cs sound-new
