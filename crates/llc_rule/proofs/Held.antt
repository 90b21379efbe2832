-- What holds of all that calls bring to a link holds of all that the link holds: its main carrier, its messages and its due
-- acknowledgements.
use Prim.Native.Nat.{ℕ, ◌≤◌}
use native.Mathlib.Omega.{arith}
use mathlib.Core.Path.{◌≡◌}
use mathlib.Core.Bool.{Bool, true, not, ◌&&◌}
use mathlib.Core.List.{List, [], ◌∷◌, ◌++◌}
use mathlib.Core.Option.{Option, none, some}
use lib.Dec.{ltb}
use Rattle.lists.specs.Lists.{Found, nothing, first, others, Visit, walk, among, All}
use Rattle.lists.proofs.Lists.{all_append, Split, FoundBy, find-by, TakenOut, found-out, all_middle}
use Rattle.lists.proofs.Choices.{either}
use Rattle.questions.specs.Outcome.{accepted}
use Rattle.tdma_time.specs.declared.TdmaTime.{TdmaTime}
use Rattle.llc_pdus.specs.declared.Pdu.{Pdu}
use Rattle.llc_pdus.specs.Headers.{ns_of, nr_of}
use Rattle.llc_rule.specs.Calls.{Call, start, tick_start, tick_end, request, frame, by_receipt, Frame, parsed}
use Rattle.llc_rule.specs.Ranges.{request_in_range, frame_in_range}
use Rattle.llc_rule.specs.Records.{Record, acknowledged, Sent}
use Rattle.llc_rule.specs.Messages.{Message, Due, Place, place_at, taken?, reported, has_time, overdue, slot_before, carrier_of, sent_of}
use Rattle.llc_rule.specs.Keeps.{with_receipts}
use Rattle.llc_rule.specs.Link.{Link, started_with}
use Rattle.llc_rule.specs.Step.{due_for, with_acknowledged, with_unacknowledged, numbered, awaiting, fits, answered_by, answered, stay, timed, aged_by, retransmission, Sending, first_sending, retransmissions, first_sendings, on_tick_end, step}
use Rattle.llc_rule.specs.Runs.{left}
use Rattle.llc_rule.proofs.Paths.{Paths, step-law}

-- What holds of all holds of one that was found, and of the others.
pub all_found :
    {A : Type 0} (P : A → Type 0) (p : A → Bool) (l : List A) (x : A) (xs : List A)
    → Split p l x xs
    → All P l
    → All P (x ∷ xs)
all_found P p l x xs s a =
    let whole : All P (s.front ++ (x ∷ s.back)) = rw s.whole at a in rw s.rest (all_middle P s.front x s.back whole)

all_others :
    {A : Type 0} (P : A → Type 0) (p : A → Bool) (l : List A) (f : Found A) → TakenOut p l f → All P l → All P (others f l)
all_others P p l nothing s a = a
all_others P p l (first x xs) s a = (all_found P p l x xs s a).1

-- The two passes over acknowledged messages: what is put out and what stays, for a P of messages and a Q of records where each
-- message with P makes a record with Q.
module _ (P : Sent → Type 0) (Q : Record → Type 0) (make : (s : Sent) → P s → Q (acknowledged s)) where
  -- It is so of a visit, or of a walk.
  pub record Passed {S : Type 0} (v : Visit S Message Record) : Type 0 where
    pub out : All Q v.out
    pub stays : All (λ (m : Message). P m.sent) v.stays

  passed-walk :
      {S : Type 0} (f : S → Message → Visit S Message Record)
      → ((s : S) (m : Message) → P m.sent → Passed (f s m))
      → (s : S) (ms : List Message)
      → All (λ (m : Message). P m.sent) ms
      → Passed (walk f s ms)
  unfolding walk
  passed-walk f h s [] a = record { out = tt; stays = tt }
  passed-walk f h s (m ∷ ms) a =
      let one = h s m a.0 in
      let rest = passed-walk f h (f s m).state ms a.1 in
      record {
        out = all_append Q (f s m).out (walk f (f s m).state ms).out one.out rest.out;
        stays =
            all_append (λ (m : Message). P m.sent) (f s m).stays (walk f (f s m).state ms).stays one.stays rest.stays;
      }

  passed-stay : {S : Type 0} (s : S) (m : Message) → P m.sent → Passed (stay s m)
  passed-stay s m h = record { out = tt; stays = (h, tt) }

  passed-aged :
      (time : TdmaTime) (t251 : ℕ) (ps : List Place) (m : Message) (d : Option TdmaTime)
      → P m.sent
      → Passed (aged_by time t251 ps m d)
  passed-aged time t251 ps m none h = passed-stay ps m h
  passed-aged time t251 ps m (some t) h =
      either Passed (overdue time t251 t)
      (either Passed (ltb m.resends 3)
      (record { out = (make m.sent h, tt); stays = (h, tt) })
      (record { out = tt; stays = tt }))
      (passed-stay ps m h)

  passed-retransmission :
      (time : TdmaTime) (t251 : ℕ) (ps : List Place) (m : Message)
      → P m.sent
      → Passed (retransmission time t251 ps m)
  unfolding retransmission
  passed-retransmission time t251 ps m h =
      passed-aged time t251 ps (timed time ps m) (timed time ps m).done
      (either (λ (n : Message). P n.sent) (not (has_time m.done) && taken? reported (place_at ps m.sent.receipt)) h h)

  passed_first : (s : Sending) (m : Message) → P m.sent → Passed (first_sending s m)
  unfolding first_sending
  passed_first s m h =
      either Passed m.submitted
      (passed-stay _ m h)
      (either Passed (among m.sent.ssi s.blocked)
      (passed-stay s m h)
      (record { out = (make m.sent h, tt); stays = (h, tt) }))

  -- The first pass, and the second.
  pub passed-retransmissions : (l : Link) → All (λ (m : Message). P m.sent) l.acknowledged → Passed (retransmissions l)
  unfolding retransmissions
  passed-retransmissions l a =
      passed-walk (retransmission l.time l.t251) (passed-retransmission l.time l.t251) l.receipts l.acknowledged a

  pub passed-firsts : (l : Link) → All (λ (m : Message). P m.sent) l.acknowledged → Passed (first_sendings l)
  unfolding first_sendings
  passed-firsts l a = passed-walk first_sending passed_first _ (retransmissions l).stays (passed-retransmissions l a).stays

-- What a link holds, for a C of main carriers, a P of messages and a D of due acknowledgements.
module _ (C : ℕ → Type 0) (P : Sent → Type 0) (D : Due → Type 0) where
  -- It is so of all.
  pub record AllHeld (l : Link) : Type 0 where
    pub carrier : C l.carrier
    pub acknowledged : All (λ (m : Message). P m.sent) l.acknowledged
    pub unacknowledged : All P l.unacknowledged
    pub due : All D l.due

  -- What a call in range brings to a link with any main carrier: a request with a link id that is 0 or its own.
  abbrev pub Brings : Call → Type 0
  Brings (start carrier t251) = C carrier
  Brings (tick_start time) = Unit {0}
  Brings tick_end = Unit {0}
  Brings (request s r) =
      request_in_range r ≡ true
      → (main link : ℕ) (p : Pdu)
      → C main
      → link ≤ r.link
      → P (sent_of r (carrier_of main r) link p)
  Brings (frame f) =
      frame_in_range f ≡ true
      → (ns : Bool) (slot : ℕ)
      → D (record { ssi = f.ssi; type = f.type; carrier = f.carrier; nr = ns; slot = slot })
  Brings (by_receipt i a) = Unit {0}

  module _ (l : Link) (h : AllHeld l) where
    -- A frame.
    answered-by-held :
        (nr : Bool) (p : Message → Bool) (f : Found Message)
        → FoundBy p l.acknowledged f
        → AllHeld (answered_by nr f l)
    unfolding answered_by
    answered-by-held nr p nothing s = h
    answered-by-held nr p (first m ms) s =
        let all = all_found (λ (m : Message). P m.sent) p l.acknowledged m ms s h.acknowledged in
        either AllHeld (fits nr m)
        (record { carrier = h.carrier; acknowledged = all.1; unacknowledged = h.unacknowledged; due = h.due })
        (record { carrier = h.carrier; acknowledged = all; unacknowledged = h.unacknowledged; due = h.due })

    pub answered-held : (f : Frame) (nr : Option Bool) → AllHeld (answered f nr l)
    unfolding awaiting
    answered-held f none = h
    answered-held f (some nr) = answered-by-held nr _ (awaiting f l) (find-by _ l.acknowledged)

  module _ (l : Link) (h : AllHeld l) where
    pub numbered-held :
        (f : Frame) (ns : Option Bool)
        → ((ns : Bool) (slot : ℕ) → D (record { ssi = f.ssi; type = f.type; carrier = f.carrier; nr = ns; slot = slot }))
        → AllHeld (numbered f ns l)
    numbered-held f none b = h
    numbered-held f (some ns) b =
        record {
          carrier = h.carrier;
          acknowledged = h.acknowledged;
          unacknowledged = h.unacknowledged;
          due = all_append D l.due _ h.due (b ns (slot_before l.time), tt);
        }

    -- Receipts alone.
    receipts-held : (ps : List Place) → AllHeld (with_receipts l ps)
    receipts-held ps =
        record { carrier = h.carrier; acknowledged = h.acknowledged; unacknowledged = h.unacknowledged; due = h.due }

    held-paths : Paths l (λ c k rs. Brings c → AllHeld k)
    unfolding started_with with_acknowledged with_unacknowledged due_for on_tick_end
    held-paths =
        record {
          start = λ carrier t251 b. record { carrier = b; acknowledged = tt; unacknowledged = tt; due = tt };
          tick_start =
              λ time b.
              record { carrier = h.carrier; acknowledged = h.acknowledged; unacknowledged = h.unacknowledged; due = h.due };
          tick_end =
              λ b.
              record {
                carrier = h.carrier;
                acknowledged = (passed-firsts P (λ (r : Record). Unit {0}) (λ s p. tt) l h.acknowledged).stays;
                unacknowledged = tt;
                due = tt;
              };
          acknowledged =
              λ r a b.
              record {
                carrier = h.carrier;
                acknowledged =
                    all_append (λ (m : Message). P m.sent) l.acknowledged _ h.acknowledged
                    (b a.range l.carrier 0 _ h.carrier (omega arith), tt);
                unacknowledged = h.unacknowledged;
                due = all_others D _ l.due (due_for r l) (found-out _ l.due (due_for r l) (find-by _ l.due)) h.due;
              };
          unacknowledged =
              λ s r link p used a b.
              record {
                carrier = h.carrier;
                acknowledged = h.acknowledged;
                unacknowledged =
                    all_append P l.unacknowledged _ h.unacknowledged
                    (b a.range l.carrier link p h.carrier a.link, tt);
                due = all_others D _ l.due used a.used h.due;
              };
          heard =
              λ f r a b.
              answered-held _ (numbered-held f (ns_of r.header) (b a.range)) f (nr_of r.header);
          reported = λ i how a b. receipts-held _;
          released = λ i a b. receipts-held _;
        }

    -- Any call leaves all that a link holds so.
    pub held-step : (bytes : List ℕ) → ((c : Call) → parsed bytes ≡ accepted c → Brings c) → AllHeld (left l (step l bytes))
    held-step bytes b = step-law l _ held-paths bytes (λ o. AllHeld (left l o)) (λ n k. h) (λ c d e p. p (b c e))
