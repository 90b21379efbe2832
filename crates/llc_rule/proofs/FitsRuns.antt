-- Every record of every call of every run fits its fields, so that bytes determine records without a condition.
use Prim.Native.Nat.{ℕ, ◌-◌, ◌^◌, ◌≤◌, ◌<◌}
use native.Mathlib.Nat.{pow-le-pow_right}
use native.Mathlib.Omega.{arith}
use mathlib.Core.Path.{◌≡◌, subst}
use mathlib.Core.Bool.{Bool, true, false, cond}
use mathlib.Core.List.{List, [], ◌∷◌, map}
use mathlib.Core.Option.{none, some}
use borrow.Author.Tests.{leb-true, ltb-true}
use lib.Dec.{eqb, leb}
use Rattle.std.proofs.lemmas.Bool.{and_parts, cond_both}
use Rattle.lists.specs.Lists.{All}
use Rattle.lists.proofs.Lists.{all_append}
use Rattle.lists.proofs.Choices.{either}
use Rattle.questions.specs.Outcome.{accepted}
use Rattle.llc_pdus.specs.declared.Pdu.{Pdu}
use Rattle.llc_pdus.specs.declared.Pdu.TheVariants.{BlAdata, BlData, BlUdata, BlAck}
use Rattle.llc_pdus.proofs.Laws.{header-short}
use Rattle.llc_pdus.proofs.Framing.{all-header, frame-short, all-frame}
use Rattle.llc_pdus.specs.Received.{Received}
use Rattle.llc_pdus.proofs.Received.{sdu-short, sdu-bits}
use Rattle.llc_rule.specs.Calls.{Call, start, tick_start, tick_end, request, frame, by_receipt, Request, Frame, parsed}
use Rattle.llc_rule.specs.Ranges.{has_mask, request_in_range, frame_in_range}
use Rattle.llc_rule.specs.Records.{Record, unacknowledged}
use Rattle.llc_rule.specs.Upward.{indication, upward}
use Rattle.llc_rule.specs.Messages.{Due, steals_slot, reply_to, carrier_of, sent_of}
use Rattle.llc_rule.specs.Link.{Link, new}
use Rattle.llc_rule.specs.Step.{retransmissions, first_sendings, on_tick_end, step}
use Rattle.llc_rule.specs.Runs.{left, given, Exchange, run}
use Rattle.llc_rule.specs.Sizes.{FitsMask, FitsBits, FitsSent, FitsIndication, Fits}
use Rattle.llc_rule.proofs.Paths.{Heard, Paths, sent-up, step-law}
use Rattle.llc_rule.proofs.Ranges.{request-fields, frame-fields, type-at-most, frame-lengths, request-lengths}
use Rattle.llc_rule.proofs.Held.{AllHeld, Brings, held-step, passed-retransmissions, passed-firsts}
use Rattle.llc_rule.proofs.Values.{IsByte, RequestFits, FrameFits, CallFits, CallFitsIn, parsed-fits}

-- The invariant -----------------------------------------------------------------------------------------------------------

-- An acknowledgement due whose values fit the fields of its reply.
pub record FitsDue (d : Due) : Type 0 where
  pub ssi : d.ssi < 2 ^ 24
  pub type : d.type < 2 ^ 8
  pub carrier : d.carrier < 2 ^ 16

-- A link whose values fit the fields of the records that it will give.
abbrev pub FitsLink : Link → Type 0
FitsLink l = AllHeld (λ (n : ℕ). n < 2 ^ 16) FitsSent FitsDue l

-- The new link holds nothing.
pub new-fits : FitsLink new
unfolding new
new-fits = record { carrier = omega arith; acknowledged = tt; unacknowledged = tt; due = tt }

-- What a request in range hands down.
mask_fits : (b : Bool) (m : ℕ) → m < 16 → FitsMask (cond b (some m) none)
mask_fits true m h = omega arith
mask_fits false m h = tt

sent-fits :
    (r : Request) (carrier link : ℕ) (p : Pdu)
    → RequestFits r
    → request_in_range r ≡ true
    → carrier < 2 ^ 16
    → link < 2 ^ 32
    → FitsSent (sent_of r carrier link p)
unfolding sent_of
sent-fits r carrier link p b e hc hl =
    let t = request-fields r e in
    let n = request-lengths r e in
    record {
      ssi = b.ssi;
      type = let k = type-at-most r.type t.type in omega arith;
      carrier = hc;
      link = hl;
      endpoint = b.endpoint;
      handle = b.handle;
      mask = mask_fits (has_mask r) r.mask (ltb-true r.mask 16 t.mask);
      receipt = let k = ltb-true r.receipt 128 t.receipt in omega arith;
      block = omega (arith, n.0);
      pdu =
          record {
            bits = all-frame p r.sdu b.sdu;
            count = omega (arith, frame-short p r.sdu n.1);
          };
    }

carrier-fits : (main : ℕ) (r : Request) → RequestFits r → main < 2 ^ 16 → carrier_of main r < 2 ^ 16
carrier-fits main r b h = either (λ (n : ℕ). n < 2 ^ 16) (eqb r.given 1) b.carrier h

call-brings : (c : Call) → CallFits c → Brings (λ (n : ℕ). n < 2 ^ 16) FitsSent FitsDue c
call-brings (start carrier t251) b = b
call-brings (tick_start time) b = tt
call-brings tick_end b = tt
call-brings (request s r) b =
    λ e main link p h k. sent-fits r (carrier_of main r) link p b e (carrier-fits main r b h) (omega (arith, k, b.link))
call-brings (frame f) b =
    λ e ns slot.
    record {
      ssi = b.ssi;
      type = let k = type-at-most f.type (frame-fields f e).type in omega arith;
      carrier = b.carrier;
    }
call-brings (by_receipt i a) b = tt

-- What the bytes of a call give of it.
call_fits : (bytes : List ℕ) → All IsByte bytes → (c : Call) → parsed bytes ≡ accepted c → CallFits c
call_fits bytes a c e = subst CallFitsIn e (parsed-fits bytes a)

-- Any call of bytes leaves the invariant.
pub fits-step : (l : Link) → FitsLink l → (c : List ℕ) → All IsByte c → FitsLink (left l (step l c))
fits-step l h c a = held-step _ _ _ l h c (λ d e. call-brings d (call_fits c a d e))

-- The records -------------------------------------------------------------------------------------------------------------

-- A slot that steals.
slot-at-most : (t : ℕ) → steals_slot t ≡ true → t ≤ 4
slot-at-most t h = leb-true t 4 (and_parts (leb 2 t) _ h).1

-- A reply: its mask has bit t - 1 of a slot t up to 4.
reply-fits : (d : Due) → FitsDue d → Fits (reply_to d)
unfolding reply_to
reply-fits d h =
    record {
      ssi = h.ssi;
      type = h.type;
      carrier = h.carrier;
      link =
          cond_both (steals_slot d.slot) _ _ (λ (n : ℕ). n < 2 ^ 32)
          (λ t. omega (arith, slot-at-most d.slot t))
          (λ f. omega arith);
      mask =
          cond_both (steals_slot d.slot) _ _ FitsMask
          (λ t.
          let k = slot-at-most d.slot t in
          omega (arith, pow-le-pow_right {n = 2} (omega arith) {i = d.slot - 1} {j = 3} (omega arith)))
          (λ f. tt);
      pdu = record { bits = all-header (BlAck false d.nr); count = omega (arith, header-short (BlAck false d.nr)) };
    }

map-fits :
    {A : Type 0} (P : A → Type 0) (f : A → Record)
    → ((a : A) → P a → Fits (f a))
    → (l : List A)
    → All P l
    → All Fits (map f l)
map-fits P f h [] p = tt
map-fits P f h (a ∷ l) p = (h a p.0, map-fits P f h l p.1)

tick-end-fits : (l : Link) → FitsLink l → All Fits (on_tick_end l).records
unfolding on_tick_end
tick-end-fits l h =
    all_append Fits (retransmissions l).out _ (passed-retransmissions FitsSent Fits (λ s f. f) l h.acknowledged).out
    (all_append Fits (first_sendings l).out _ (passed-firsts FitsSent Fits (λ s f. f) l h.acknowledged).out
    (all_append Fits (map reply_to l.due) _ (map-fits FitsDue reply_to reply-fits l.due h.due)
    (map-fits FitsSent unacknowledged (λ s f. f) l.unacknowledged h.unacknowledged)))

-- What goes up of a frame: a part of it.
one_up :
    (f : Frame) (p : Pdu) (link : ℕ) (sdu : List ℕ)
    → FrameFits f
    → frame_in_range f ≡ true
    → link < 2 ^ 32
    → FitsBits sdu
    → FitsIndication (indication f p link sdu)
one_up f p link sdu b e hl hs =
    record {
      ssi = b.ssi;
      type = let k = type-at-most f.type (frame-fields f e).type in omega arith;
      link = hl;
      endpoint = b.endpoint;
      block = omega (arith, (frame-lengths f e).0);
      sdu = hs;
    }

up_fits : (f : Frame) (p : Pdu) (sdu : List ℕ) → FrameFits f → frame_in_range f ≡ true → FitsBits sdu → All Fits (upward f p sdu)
unfolding upward
up_fits f (BlAdata c nr ns) sdu b e h = (one_up f (BlAdata c nr ns) f.link sdu b e b.link h, tt)
up_fits f (BlData c ns) sdu b e h = (one_up f (BlData c ns) f.link sdu b e b.link h, tt)
up_fits f (BlUdata c) sdu b e h = (one_up f (BlUdata c) 0 sdu b e (omega arith) h, tt)
up_fits f (BlAck c nr) [] b e h = tt
up_fits f (BlAck c nr) (x ∷ sdu) b e h = (one_up f (BlAck c nr) 0 (x ∷ sdu) b e (omega arith) h, tt)

heard-fits : (f : Frame) (r : Received) (l : Link) → Heard f r l → FrameFits f → All Fits (upward f r.header r.sdu)
heard-fits f r l a b =
    up_fits f r.header r.sdu b a.range
    (record {
      bits = sdu-bits f.pdu r a.apart b.pdu;
      count = omega (arith, sdu-short f.pdu r a.apart, (frame-lengths f a.range).1);
    })

-- The records of each path.
fits-paths : (l : Link) → FitsLink l → Paths l (λ c k rs. CallFits c → All Fits rs)
fits-paths l h =
    record {
      start = λ carrier t251 b. tt;
      tick_start = λ time b. tt;
      tick_end = λ b. tick-end-fits l h;
      acknowledged = λ r a b. tt;
      unacknowledged = λ s r link p used a b. tt;
      heard = λ f r a b. sent-up (All Fits) f r l tt (heard-fits f r l a b);
      reported = λ i how a b. tt;
      released = λ i a b. tt;
    }

-- The records of any call of bytes.
pub fits-given : (l : Link) → FitsLink l → (c : List ℕ) → All IsByte c → All Fits (given (step l c))
fits-given l h c a =
    step-law l _ (fits-paths l h) c (λ o. All Fits (given o)) (λ n k. tt) (λ d o e p. p (call_fits c a d e))

-- Runs --------------------------------------------------------------------------------------------------------------------

-- The records of each call of a run.
pub fits-run :
    (l : Link)
    → FitsLink l
    → (cs : List (List ℕ))
    → All (All IsByte) cs
    → All (λ (e : Exchange). All Fits e.records) (run l cs)
unfolding run
fits-run l h [] a = tt
fits-run l h (c ∷ cs) a = (fits-given l h c a.0, fits-run (left l (step l c)) (fits-step l h c a.0) cs a.1)
