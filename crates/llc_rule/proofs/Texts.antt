-- What goes up of a text that came in, in every run.
use Prim.Native.Nat.{ℕ}
use native.Mathlib.Omega.{arith}
use mathlib.Core.Path.{◌≡◌, ◌∙◌, refl, sym, ap, subst}
use mathlib.Core.Bool.{Bool, false, cond, beq}
use mathlib.Core.List.{List, [], ◌∷◌}
use mathlib.Core.Option.{Option, none, some}
use Rattle.lists.specs.Lists.{any, among, first_or}
use Rattle.lists.proofs.Choices.{ap-cond}
use Rattle.bits.specs.Bits.{AllBits}
use Rattle.questions.specs.Outcome.{Outcome, accepted, number}
use Rattle.questions.proofs.Asked.{content, by-question}
use Rattle.llc_pdus.specs.Headers.{ns_of, nr_of}
use Rattle.llc_pdus.specs.Frames.{frame_bits}
use Rattle.llc_pdus.specs.Received.{Received, received}
use Rattle.llc_pdus.specs.declared.Pdu.{Pdu}
use Rattle.llc_pdus.specs.declared.Pdu.TheVariants.{BlAdata, BlData, BlUdata, BlAck}
use Rattle.llc_pdus.proofs.CheckBits.{frame-received, received-frame}
use Rattle.llc_rule.specs.Calls.{Call, start, tick_start, tick_end, request, frame, by_receipt, Frame, parsed}
use Rattle.llc_rule.specs.Done.{Done}
use Rattle.llc_rule.specs.Link.{Link, new}
use Rattle.llc_rule.specs.Ranges.{in_range}
use Rattle.llc_rule.specs.Records.{Record}
use Rattle.llc_rule.specs.Runs.{given, Exchange, exchange, run}
use Rattle.llc_rule.specs.Step.{row_for_frame, due_room, is_last, is_repeat, sent_up, may_finish, on_received, on_frame, act, called, step}
use Rattle.llc_rule.specs.Repeats.{last_heard}
use Rattle.llc_rule.specs.Texts.{texts_in, shown, unless_last, Framed, TextGoesUp, TextsGoUp}
use Rattle.llc_rule.specs.Upward.{upward}
use Rattle.llc_rule.proofs.Paths.{Paths, Heard, step-law}
use Rattle.llc_rule.proofs.Values.{frame-bits}
use Rattle.llc_rule.proofs.Repeats.{last_in, reached}

-- What a frame sends up shows its SDU.
texts-up : (f : Frame) (p : Pdu) (sdu : List ℕ) → texts_in (upward f p sdu) ≡ shown p sdu
unfolding texts_in upward
texts-up f (BlAdata c nr ns) sdu = refl
texts-up f (BlData c ns) sdu = refl
texts-up f (BlUdata c) sdu = refl
texts-up f (BlAck c nr) [] = refl
texts-up f (BlAck c nr) (b ∷ sdu) = refl

-- Of a repeat nothing.
unless-last :
    (last : Option Bool) (ns : Bool) (up : List Record)
    → texts_in (cond (is_last ns last) [] up) ≡ unless_last last (some ns) (texts_in up)
unfolding texts_in
unless-last none ns up = refl
unless-last (some last) ns up = ap-cond texts_in (beq last ns) [] up

unless-repeat :
    (f : Frame) (ns : Option Bool) (l : Link) (up : List Record)
    → texts_in (cond (is_repeat f ns l) [] up) ≡ unless_last (last_in f.ssi l) ns (texts_in up)
unless-repeat f none l up = refl
unless-repeat f (some ns) l up = unless-last (last_in f.ssi l) ns up

-- What holds of the records of an accepted frame.
record FrameUp (l : Link) (f : Frame) (rs : List Record) : Type 0 where
  texts :
      (p : Pdu) (text : List ℕ)
      → f.pdu ≡ frame_bits p text
      → texts_in rs ≡ unless_last (last_in f.ssi l) (ns_of p) (shown p text)
  framed : AllBits f.pdu → Framed f.pdu

abbrev Up : Link → Call → List Record → Type 0
Up l (start carrier t251) rs = Unit {0}
Up l (tick_start time) rs = Unit {0}
Up l tick_end rs = Unit {0}
Up l (request s r) rs = Unit {0}
Up l (frame f) rs = FrameUp l f rs
Up l (by_receipt i a) rs = Unit {0}

heard-up : (f : Frame) (r : Received) (l : Link) → Heard f r l → FrameUp l f (sent_up f r l)
heard-up f r l a =
    record {
      texts =
          λ p text e.
          let is : r ≡ record { header = p; sdu = text } =
          ap (content r) (sym a.apart ∙ ap received e ∙ frame-received p text) in
          unless-repeat f (ns_of r.header) l (upward f r.header r.sdu)
          ∙ ap (unless_last (last_in f.ssi l) (ns_of r.header)) (texts-up f r.header r.sdu)
          ∙ ap (λ (x : Received). unless_last (last_in f.ssi l) (ns_of x.header) (shown x.header x.sdu)) is;
      framed = λ h. record { pdu = r.header; text = r.sdu; is = received-frame f.pdu r h a.apart };
    }

up-paths : (l : Link) → Paths l (λ c k rs. Up l c rs)
up-paths l =
    record {
      start = λ carrier t251. tt;
      tick_start = λ time. tt;
      tick_end = tt;
      acknowledged = λ r a. tt;
      unacknowledged = λ s r link p used a. tt;
      heard = λ f r a. heard-up f r l a;
      reported = λ i how a. tt;
      released = λ i a. tt;
    }

-- One call that spells a frame, and any call.
module _ (l : Link) (c : List ℕ) (f : Frame) (e : parsed c ≡ accepted (frame f)) where
  -- Where its bits are those of a PDU with a text, questions 9 to 12 are passed.
  read_right : (r : Received) → received f.pdu ≡ accepted r → among (number (step l c)) (9 ∷ 10 ∷ 11 ∷ 12 ∷ []) ≡ false
  unfolding step called act on_frame on_received any
  read_right r is =
      let Q : Outcome (Done Link) → Type 0 = λ o. among (number o) (9 ∷ 10 ∷ 11 ∷ 12 ∷ []) ≡ false in
      subst (λ (o : Outcome Call). Q (called l o)) (sym e)
      (by-question Q 4 l.started refl λ started.
      by-question Q 5 (in_range (frame f)) refl λ range.
      subst (λ (o : Outcome Received). Q (on_received f o l)) (sym is)
      (by-question Q 7 (row_for_frame f (ns_of r.header) l) refl λ row.
      by-question Q 13 (due_room (ns_of r.header) l) refl λ room.
      by-question Q 14 (may_finish f (nr_of r.header) l) refl λ may. refl))

  -- An accepted one.
  up_of : number (step l c) ≡ 0 → FrameUp l f (given (step l c))
  up_of =
      step-law l _ (up-paths l) c (λ o. number o ≡ 0 → FrameUp l f (given o))
      (λ n is z. absurd (omega (arith, is.low)))
      (λ d o p u z. subst (λ (x : Call). Up l x o.records) (ap (content d) (sym p ∙ e)) u)

-- And after exchanges that left an address's last N(S) as the rows have it.
text-up :
    (l : Link) (c : List ℕ) (before : List Exchange)
    → ((a : ℕ) → last_in a l ≡ last_heard a before)
    → TextGoesUp before (exchange c (step l c))
text-up l c before last =
    record {
      read = λ f p text e is. read_right l c f e (record { header = p; sdu = text }) (ap received is ∙ frame-received p text);
      up =
          λ f p text e is z.
          (up_of l c f e z).texts p text is ∙ ap (λ (o : Option Bool). unless_last o (ns_of p) (shown p text)) (last f.ssi);
      only = λ f e z. (up_of l c f e z).framed (frame-bits c f e);
    }

pub texts-run : (cs : List (List ℕ)) → TextsGoUp (run new cs)
unfolding new first_or
texts-run cs =
    record {
      each =
          λ before e later split.
          let r = reached new cs before e later split in
          subst (TextGoesUp before) (sym r.is) (text-up r.link r.call before r.last);
    }
