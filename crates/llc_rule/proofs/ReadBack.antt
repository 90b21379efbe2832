-- Every frame that is handed down is one that questions 9 to 12 pass, with the SDU of the request that holds its receipt.
use Prim.Native.Nat.{ℕ}
use native.Mathlib.Omega.{arith}
use mathlib.Core.Path.{◌≡◌, ◌∙◌, refl, sym, subst}
use mathlib.Core.Bool.{Bool, true, false}
use mathlib.Core.List.{List, [], ◌∷◌, ◌++◌, map}
use mathlib.Core.Option.{Option, none, some}
use borrow.Author.Tests.{eq-eqb, not-true}
use lib.Dec.{eqb}
use Rattle.std.proofs.lemmas.Bool.{and_parts, or_parts, cond-true, cond-false}
use Rattle.lists.specs.Lists.{any, Found, nothing, first, All}
use Rattle.lists.proofs.Lists.{all_append, all-unit, all_both, all_but}
use Rattle.tx_receipt.specs.States.{final}
use Rattle.llc_pdus.specs.Headers.{has_fcs, ns_of, nr_of}
use Rattle.llc_pdus.specs.Frames.{frame_bits}
use Rattle.llc_pdus.specs.Received.{Received}
use Rattle.llc_pdus.specs.declared.Pdu.{Pdu}
use Rattle.llc_pdus.specs.declared.Pdu.TheVariants.{BlAdata, BlData, BlUdata, BlAck}
use Rattle.llc_pdus.proofs.CheckBits.{frame-received, reply-received}
use Rattle.llc_pdus.proofs.Framing.{frame-short}
use Rattle.llc_rule.specs.Calls.{Service, Request, Frame}
use Rattle.llc_rule.specs.Records.{Record, unacknowledged, Sent}
use Rattle.llc_rule.specs.Ranges.{request_in_range}
use Rattle.llc_rule.specs.Upward.{upward}
use Rattle.llc_rule.specs.Messages.{Message, Due, Place, is_free, place_at, taken?, reply_to, carrier_of, sent_of}
use Rattle.llc_rule.specs.Keeps.{with_receipts}
use Rattle.llc_rule.specs.Link.{Link, bit_of, new, started_with}
use Rattle.llc_rule.specs.Step.{due_for, data_pdu, with_acknowledged, with_unacknowledged, numbered, sent_up, held, retransmissions, first_sendings, on_tick_end, step}
use Rattle.llc_rule.specs.Runs.{left, given, Exchange, exchange, run}
use Rattle.llc_rule.specs.Past.{nobody, holding, holders, Holding, about_call, done_to, Holders}
use Rattle.llc_rule.specs.ReadBack.{Requests, requests_then, requests_from, flag_in, ReadAs, Carries, ReadBack, AllReadBack}
use Rattle.llc_rule.specs.Sound.{Owned, Sound}
use Rattle.llc_rule.proofs.Paths.{Acknowledged, Unacknowledged, Heard, after_heard, Paths, sent-up, step-law}
use Rattle.llc_rule.proofs.Ranges.{request-lengths}
use Rattle.llc_rule.proofs.Held.{passed-retransmissions, passed-firsts, AllHeld, answered-held, numbered-held}
use Rattle.llc_rule.proofs.SoundLists.{other_place}
use Rattle.llc_rule.proofs.SoundCalls.{done-accepted, done_refused, sound-new, sound-step}

-- Frames ------------------------------------------------------------------------------------------------------------------

-- A frame of a request in range, behind a header with its flag.
reads : (r : Request) (p : Pdu) → request_in_range r ≡ true → has_fcs p ≡ flag_in r p → ReadAs r (frame_bits p r.sdu)
reads r p range flag =
    record {
      pdu = p;
      flag = flag;
      short = omega (arith, frame-short p r.sdu (request-lengths r range).1);
      read = frame-received p r.sdu;
    }

-- BL-ADATA and BL-DATA have the request's flag.
data-flag : (r : Request) (ns : Bool) (f : Found Due) → has_fcs (data_pdu r ns f) ≡ flag_in r (data_pdu r ns f)
data-flag r ns nothing = refl
data-flag r ns (first d ds) = refl

module _ (h : Requests) where
  -- A request that takes a receipt holds it.
  carries_own :
      (r : Request) (carrier link : ℕ) (p : Pdu)
      → request_in_range r ≡ true
      → has_fcs p ≡ flag_in r p
      → Carries (holding r.receipt (some r) h) (sent_of r carrier link p)
  unfolding sent_of
  carries_own r carrier link p range flag =
      record {
        request = r;
        holds = cond-true _ (some r) (h r.receipt) (eq-eqb r.receipt r.receipt refl);
        reads = reads r p range flag;
      }

  -- What is done to another receipt leaves it.
  carries-other : (i : ℕ) (who : Option Request) (s : Sent) → eqb s.receipt i ≡ false → Carries h s → Carries (holding i who h) s
  carries-other i who s e c =
      record { request = c.request; holds = cond-false _ who (h s.receipt) e ∙ c.holds; reads = c.reads }

  -- Replies, and what goes up.
  replies-read : (ds : List Due) → All (ReadBack h) (map reply_to ds)
  unfolding reply_to
  replies-read [] = tt
  replies-read (d ∷ ds) = (record { nr = d.nr; read = reply-received d.nr }, replies-read ds)

  unacknowledged-read : (us : List Sent) → All (Carries h) us → All (ReadBack h) (map unacknowledged us)
  unacknowledged-read [] a = tt
  unacknowledged-read (u ∷ us) a = (a.0, unacknowledged-read us a.1)

  upward-read : (f : Frame) (p : Pdu) (sdu : List ℕ) → All (ReadBack h) (upward f p sdu)
  unfolding upward
  upward-read f (BlAdata c nr ns) sdu = (tt, tt)
  upward-read f (BlData c ns) sdu = (tt, tt)
  upward-read f (BlUdata c) sdu = (tt, tt)
  upward-read f (BlAck c nr) [] = tt
  upward-read f (BlAck c nr) (b ∷ sdu) = (tt, tt)

-- A call ------------------------------------------------------------------------------------------------------------------

-- All messages that a link holds are frames of the requests that hold their receipts.
record AllCarry (h : Requests) (l : Link) : Type 0 where
  acknowledged : All (λ (m : Message). Carries h m.sent) l.acknowledged
  unacknowledged : All (Carries h) l.unacknowledged

-- So they are after a call, and what it handed down was read back.
record Next (h then : Requests) (l : Link) (rs : List Record) : Type 0 where
  carry : AllCarry then l
  records : All (ReadBack h) rs

module _ (hs : Holders) (h : Requests) (l : Link) (sound : Sound hs l) (a : AllCarry h l) where
  -- A free receipt that a request takes is none of theirs.
  others-carry : (r : Request) → is_free (place_at l.receipts r.receipt) ≡ true → AllCarry (holding r.receipt (some r) h) l
  others-carry r f =
      let apart : (s : Sent) → Owned hs l.receipts s → Carries h s → Carries (holding r.receipt (some r) h) s =
      λ s o c. carries-other h r.receipt (some r) s (other_place l.receipts r.receipt s.receipt f o.taken) c in
      record {
        acknowledged = all_both _ _ _ l.acknowledged (λ m. apart m.sent) sound.owned a.acknowledged;
        unacknowledged = all_both _ _ _ l.unacknowledged apart sound.owned_too a.unacknowledged;
      }

  acknowledged-next : (r : Request) → Acknowledged r l → Next h (holding r.receipt (some r) h) (with_acknowledged r l) []
  unfolding with_acknowledged
  acknowledged-next r q =
      let o = others-carry r q.free in
      let ns = bit_of r.ssi l.rows in
      record {
        carry =
            record {
              acknowledged =
                  all_append (λ (m : Message). Carries (holding r.receipt (some r) h) m.sent) l.acknowledged _ o.acknowledged
                  (carries_own h r (carrier_of l.carrier r) 0 _ q.range (data-flag r ns (due_for r l)), tt);
              unacknowledged = o.unacknowledged;
            };
        records = tt;
      }

  unacknowledged-next :
      {v : Service} (r : Request) (link : ℕ) (p : Pdu) (used : Found Due) (ds : List Due)
      → Unacknowledged v r link p used l
      → Next h (holding r.receipt (some r) h) (with_unacknowledged r link p ds l) []
  unfolding with_unacknowledged
  unacknowledged-next r link p used ds q =
      let o = others-carry r q.free in
      record {
        carry =
            record {
              acknowledged = o.acknowledged;
              unacknowledged =
                  all_append (Carries (holding r.receipt (some r) h)) l.unacknowledged _ o.unacknowledged
                  (carries_own h r (carrier_of l.carrier r) link p q.range q.flag, tt);
            };
        records = tt;
      }

  tick-end-next : Next h h (on_tick_end l).state (on_tick_end l).records
  unfolding on_tick_end
  tick-end-next =
      let again = passed-retransmissions (Carries h) (ReadBack h) (λ s c. c) l a.acknowledged in
      let firsts = passed-firsts (Carries h) (ReadBack h) (λ s c. c) l a.acknowledged in
      record {
        carry = record { acknowledged = firsts.stays; unacknowledged = tt };
        records =
            all_append (ReadBack h) (retransmissions l).out _ again.out
            (all_append (ReadBack h) (first_sendings l).out _ firsts.out
            (all_append (ReadBack h) (map reply_to l.due) _ (replies-read h l.due)
            (unacknowledged-read h l.unacknowledged a.unacknowledged)));
      }

  heard-next : (f : Frame) (r : Received) → Heard f r l → Next h h (after_heard f r l) (sent_up f r l)
  heard-next f r q =
      let before : AllHeld (λ (n : ℕ). Unit {0}) (Carries h) (λ (d : Due). Unit {0}) l =
      record { carrier = tt; acknowledged = a.acknowledged; unacknowledged = a.unacknowledged; due = all-unit l.due } in
      let after =
      answered-held _ _ _ (numbered f (ns_of r.header) l)
      (numbered-held _ _ _ l before f (ns_of r.header) (λ ns slot. tt)) f (nr_of r.header) in
      record {
        carry = record { acknowledged = after.acknowledged; unacknowledged = after.unacknowledged };
        records = sent-up (All (ReadBack h)) f r l tt (upward-read h f r.header r.sdu);
      }

  -- A receipt that is freed is none of theirs.
  released-next : (i : ℕ) (ps : List Place) → held i l ≡ false → Next h (holding i none h) (with_receipts l ps) []
  unfolding held
  released-next i ps e =
      let n = or_parts (any (λ (m : Message). eqb m.sent.receipt i) l.acknowledged) _ e in
      record {
        carry =
            record {
              acknowledged =
                  all_but _ _ _ l.acknowledged (λ m c o. carries-other h i none m.sent o c) n.0 a.acknowledged;
              unacknowledged =
                  all_but _ _ _ l.unacknowledged (λ s c o. carries-other h i none s o c) n.1 a.unacknowledged;
            };
        records = tt;
      }

  next-paths : Paths l (λ c k rs. Next h (requests_then (about_call c).to_holding h) k rs)
  unfolding started_with
  next-paths =
      record {
        start = λ carrier t251. record { carry = record { acknowledged = tt; unacknowledged = tt }; records = tt };
        tick_start =
            λ time.
            record { carry = record { acknowledged = a.acknowledged; unacknowledged = a.unacknowledged }; records = tt };
        tick_end = tick-end-next;
        acknowledged = acknowledged-next;
        unacknowledged = λ v r link p used q. unacknowledged-next r link p used _ q;
        heard = heard-next;
        reported =
            λ i how q.
            record { carry = record { acknowledged = a.acknowledged; unacknowledged = a.unacknowledged }; records = tt };
        released =
            λ i q.
            released-next i _ (not-true (held i l) (and_parts (taken? final (place_at l.receipts i)) _ q.may).1);
      }

  next-step :
      (c : List ℕ)
      → Next h (requests_then (done_to (exchange c (step l c))) h) (left l (step l c)) (given (step l c))
  next-step c =
      step-law l _ next-paths c (λ o. Next h (requests_then (done_to (exchange c o)) h) (left l o) (given o))
      (λ n k. subst (λ (x : Holding). Next h (requests_then x h) l []) (sym (done_refused c n [] k)) (record { carry = a; records = tt }))
      (λ d o e p.
      subst (λ (x : Holding). Next h (requests_then x h) o.state o.records) (sym (done-accepted c d o.records e)) p)

-- Runs --------------------------------------------------------------------------------------------------------------------

-- Of some exchanges each, by the requests that hold receipts before it.
abbrev ReadEach : Requests → List Exchange → Type 0
ReadEach h [] = Unit {0}
ReadEach h (e ∷ es) = All (ReadBack h) e.records × ReadEach (requests_then (done_to e) h) es

read_behind : (h : Requests) (before es : List Exchange) → ReadEach h (before ++ es) → ReadEach (requests_from h before) es
unfolding requests_from
read_behind h [] es r = r
read_behind h (b ∷ before) es r = read_behind (requests_then (done_to b) h) before es r.1

read-from : (hs : Holders) (h : Requests) (l : Link) (cs : List (List ℕ)) → Sound hs l → AllCarry h l → ReadEach h (run l cs)
unfolding run
read-from hs h l [] sound a = tt
read-from hs h l (c ∷ cs) sound a =
    let n = next-step hs h l sound a c in
    (n.records, read-from (holders (exchange c (step l c)) hs) (requests_then (done_to (exchange c (step l c))) h) (left l (step l c)) cs (sound-step hs l c sound) n.carry)

new-carries : AllCarry nobody new
unfolding new
new-carries = record { acknowledged = tt; unacknowledged = tt }

pub read-back-run : (cs : List (List ℕ)) → AllReadBack (run new cs)
read-back-run cs =
    record {
      each =
          λ before e later split.
          (read_behind nobody before (e ∷ later) (subst (ReadEach nobody) split (read-from nobody nobody new cs sound-new new-carries))).0;
    }
