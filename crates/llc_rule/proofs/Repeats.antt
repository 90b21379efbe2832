-- The last N(S) of an address in the link's rows is the last that was accepted from it; so repeats stop, in every run.
use Prim.Native.Nat.{ℕ}
use native.Mathlib.Omega.{arith}
use mathlib.Core.Path.{◌≡◌, ◌∙◌, refl, sym, ap, subst}
use mathlib.Core.Bool.{Bool, true, false, cond, not, false≢true}
use mathlib.Core.List.{List, [], ◌∷◌, ◌++◌, append_assoc}
use mathlib.Core.Option.{Option, none, some}
use borrow.Author.Clash.{clash}
use borrow.Author.Tests.{eqb-true, eq-eqb, ne_eqb}
use lib.Dec.{eqb}
use Rattle.std.proofs.lemmas.Bool.{and_parts}
use Rattle.lists.specs.Lists.{all, Found, nothing, first, first_or}
use Rattle.lists.proofs.Choices.{by-test, either}
use Rattle.questions.specs.Outcome.{Outcome, accepted}
use Rattle.llc_pdus.specs.Headers.{ns_of, nr_of}
use Rattle.llc_pdus.specs.Frames.{frame_bits}
use Rattle.llc_pdus.specs.Received.{Received, received}
use Rattle.llc_pdus.specs.declared.Pdu.{Pdu}
use Rattle.llc_pdus.specs.declared.Pdu.TheVariants.{BlAdata, BlData, BlUdata, BlAck}
use Rattle.llc_pdus.proofs.CheckBits.{frame-received}
use Rattle.llc_rule.specs.Calls.{Call, frame, Frame, parsed}
use Rattle.llc_rule.specs.Records.{Record, data_up}
use Rattle.llc_rule.specs.Upward.{indication, upward}
use Rattle.llc_rule.specs.Messages.{Message}
use Rattle.llc_rule.specs.Keeps.{Numbers, with_bit, with_last}
use Rattle.llc_rule.specs.Link.{Link, Row, numbers_of, with_numbers, new, started_with}
use Rattle.llc_rule.specs.Step.{with_acknowledged, with_unacknowledged, numbered, is_last, sent_up, awaiting, fits, answered_by, answered, on_tick_end, step}
use Rattle.llc_rule.specs.Runs.{left, given, Exchange, exchange, run}
use Rattle.llc_rule.specs.Repeats.{Hearing, begins, hears, neither, hears_from, hears_of, hearing, heard_in, last_next, last_from, last_heard, is_neither, none_from, WentUp, RepeatsStop}
use Rattle.llc_rule.proofs.Own.{numbers-own, numbers-other}
use Rattle.llc_rule.proofs.Paths.{Paths, Heard, after_heard, step-law}

-- The last N(S) accepted from an address, as the rows have it.
abbrev pub last_in : ℕ → Link → Option Bool
last_in a l = (numbers_of a l.rows).last

-- The numbers of any address after those of one were written.
numbers-at : (a c : ℕ) (n : Numbers) (rs : List Row) → numbers_of a (with_numbers c n rs) ≡ cond (eqb c a) n (numbers_of a rs)
numbers-at a c n rs =
    by-test (eqb c a)
    (λ e. rw e (subst (λ (b : ℕ). numbers_of b (with_numbers c n rs) ≡ n) (eqb-true c a e) (numbers-own c n rs)))
    (λ e. rw e (numbers-other a c n rs e))

-- A request flips the bit and leaves the last N(S); a frame leaves the bit.
last-flipped :
    (a c : ℕ) (b : Bool) (rs : List Row) → (numbers_of a (with_numbers c (with_bit (numbers_of c rs) b) rs)).last ≡ (numbers_of a rs).last
last-flipped a c b rs =
    ap (λ (n : Numbers). n.last) (numbers-at a c (with_bit (numbers_of c rs) b) rs)
    ∙ by-test (eqb c a) (λ e. rw (e, eqb-true c a e)) (λ e. rw e)

last-heard :
    (a c : ℕ) (ns : Bool) (rs : List Row)
    → (numbers_of a (with_numbers c (with_last (numbers_of c rs) ns) rs)).last ≡ cond (eqb c a) (some ns) (numbers_of a rs).last
last-heard a c ns rs =
    ap (λ (n : Numbers). n.last) (numbers-at a c (with_last (numbers_of c rs) ns) rs) ∙ by-test (eqb c a) (λ e. rw e) (λ e. rw e)

-- N(R) leaves the rows.
answered-by-rows : (nr : Bool) (x : Found Message) (l : Link) → (answered_by nr x l).rows ≡ l.rows
unfolding answered_by
answered-by-rows nr nothing l = refl
answered-by-rows nr (first m ms) l = either (λ (k : Link). k.rows ≡ l.rows) (fits nr m) refl refl

answered-rows : (f : Frame) (x : Option Bool) (l : Link) → (answered f x l).rows ≡ l.rows
answered-rows f none l = refl
answered-rows f (some nr) l = answered-by-rows nr (awaiting f l) l

-- One call -------------------------------------------------------------------------------------------------------------------

numbered-last : (a : ℕ) (f : Frame) (x : Option Bool) (sdu : List ℕ) (l : Link) → last_in a (numbered f x l) ≡ last_next a (last_in a l) (hears_from f.ssi x sdu)
numbered-last a f none sdu l = refl
numbered-last a f (some ns) sdu l = last-heard a f.ssi ns l.rows

heard-last :
    (a : ℕ) (l : Link) (f : Frame) (r : Received)
    → Heard f r l
    → last_in a (after_heard f r l) ≡ last_next a (last_in a l) (hearing (accepted (frame f)))
heard-last a l f r k =
    ap (λ (rs : List Row). (numbers_of a rs).last) (answered-rows f (nr_of r.header) (numbered f (ns_of r.header) l))
    ∙ numbered-last a f (ns_of r.header) r.sdu l
    ∙ ap (λ (o : Outcome Received). last_next a (last_in a l) (hears_of f.ssi o)) (sym k.apart)

last-paths : (a : ℕ) (l : Link) → Paths l (λ c k rs. last_in a k ≡ last_next a (last_in a l) (hearing (accepted c)))
unfolding started_with first_or with_acknowledged with_unacknowledged on_tick_end
last-paths a l =
    record {
      start = λ carrier t251. refl;
      tick_start = λ time. refl;
      tick_end = refl;
      acknowledged = λ r k. last-flipped a r.ssi _ l.rows;
      unacknowledged = λ s r link p used k. refl;
      heard = λ f r k. heard-last a l f r k;
      reported = λ i how k. refl;
      released = λ i k. refl;
    }

pub last_step : (a : ℕ) (l : Link) (c : List ℕ) → last_in a (left l (step l c)) ≡ last_next a (last_in a l) (heard_in (exchange c (step l c)))
unfolding heard_in
last_step a l c =
    step-law l _ (last-paths a l) c (λ o. last_in a (left l o) ≡ last_next a (last_in a l) (heard_in (exchange c o)))
    (λ n k. rw (ne_eqb n 0 (λ e. omega (arith, e, k.low))))
    (λ d o p u. u ∙ ap (λ (x : Outcome Call). last_next a (last_in a l) (hearing x)) (sym p))

-- What a frame with N(S) sends up, by the last one of its address.
pub record Stops (a : ℕ) (last : Option Bool) (ns : Bool) (sdu : List ℕ) (rs : List Record) : Type 0 where
  pub repeated : last ≡ some ns → rs ≡ []
  pub fresh : is_last ns last ≡ false → WentUp a sdu rs

abbrev Stopped : Link → Hearing → List Record → Type 0
Stopped l begins rs = Unit {0}
Stopped l (hears a ns sdu) rs = Stops a (last_in a l) ns sdu rs
Stopped l neither rs = Unit {0}

-- A repeat sends nothing up, a frame with another N(S) its SDU.
is-last : (ns : Bool) → is_last ns (some ns) ≡ true
is-last true = refl
is-last false = refl

stops-by :
    (a : ℕ) (last : Option Bool) (ns : Bool) (sdu : List ℕ) (up : List Record)
    → WentUp a sdu up
    → Stops a last ns sdu (cond (is_last ns last) [] up)
stops-by a last ns sdu up w = record { repeated = λ is. rw (is, is-last ns); fresh = λ no. rw no w }

data-up : (f : Frame) (p : Pdu) (link : ℕ) (sdu : List ℕ) → WentUp f.ssi sdu (data_up (indication f p link sdu) ∷ [])
data-up f p link sdu = record { indication = indication f p link sdu; alone = refl; from = refl; brings = refl }

-- By the header of the frame.
header-stops :
    (l : Link) (f : Frame) (p : Pdu) (sdu : List ℕ)
    → Stopped l (hears_from f.ssi (ns_of p) sdu) (sent_up f (record { header = p; sdu = sdu }) l)
unfolding upward
header-stops l f (BlAdata c nr ns) sdu = stops-by f.ssi (last_in f.ssi l) ns sdu _ (data-up f (BlAdata c nr ns) f.link sdu)
header-stops l f (BlData c ns) sdu = stops-by f.ssi (last_in f.ssi l) ns sdu _ (data-up f (BlData c ns) f.link sdu)
header-stops l f (BlUdata c) sdu = tt
header-stops l f (BlAck c nr) sdu = tt

heard-stops : (l : Link) (f : Frame) (r : Received) → Heard f r l → Stopped l (hearing (accepted (frame f))) (sent_up f r l)
heard-stops l f r k =
    subst (λ (o : Outcome Received). Stopped l (hears_of f.ssi o) (sent_up f r l)) (sym k.apart) (header-stops l f r.header r.sdu)

stops-paths : (l : Link) → Paths l (λ c k rs. Stopped l (hearing (accepted c)) rs)
stops-paths l =
    record {
      start = λ carrier t251. tt;
      tick_start = λ time. tt;
      tick_end = tt;
      acknowledged = λ r k. tt;
      unacknowledged = λ s r link p used k. tt;
      heard = λ f r k. heard-stops l f r k;
      reported = λ i how k. tt;
      released = λ i k. tt;
    }

stops-step : (l : Link) (c : List ℕ) → Stopped l (heard_in (exchange c (step l c))) (given (step l c))
unfolding heard_in
stops-step l c =
    step-law l _ (stops-paths l) c (λ o. Stopped l (heard_in (exchange c o)) (given o))
    (λ n k. rw (ne_eqb n 0 (λ e. omega (arith, e, k.low))) tt)
    (λ d o p u. subst (λ (x : Outcome Call). Stopped l (hearing x) o.records) (sym p) u)

-- Runs -----------------------------------------------------------------------------------------------------------------------

-- An exchange of a run is a step from a link whose rows have what was accepted before it.
pub record Reached (l : Link) (before : List Exchange) (e : Exchange) : Type 0 where
  pub link : Link
  pub call : List ℕ
  pub is : e ≡ exchange call (step link call)
  pub last : (a : ℕ) → last_in a link ≡ last_from a (last_in a l) before

no-exchange : {P : Type 0} {e : Exchange} {es : List Exchange} → [] ≡ e ∷ es → P
no-exchange is = let no : false ≡ true = cc in absurd (false≢true no)

pub reached :
    (l : Link) (cs : List (List ℕ)) (before : List Exchange) (e : Exchange) (later : List Exchange)
    → run l cs ≡ before ++ (e ∷ later)
    → Reached l before e
unfolding run last_from
reached l [] [] e later is = no-exchange is
reached l [] (b ∷ before) e later is = no-exchange is
reached l (c ∷ cs) [] e later is =
    let first-is : exchange c (step l c) ≡ e = cc in
    record { link = l; call = c; is = sym first-is; last = λ a. refl }
reached l (c ∷ cs) (b ∷ before) e later is =
    let first-is : exchange c (step l c) ≡ b = cc in
    let rest-is : run (left l (step l c)) cs ≡ before ++ (e ∷ later) = cc in
    let r = reached (left l (step l c)) cs before e later rest-is in
    record {
      link = r.link;
      call = r.call;
      is = r.is;
      last =
          λ a.
          r.last a
          ∙ ap (λ (x : Option Bool). last_from a x before)
          (last_step a l c ∙ ap (λ (x : Exchange). last_next a (last_in a l) (heard_in x)) first-is);
    }

not_last : (ns : Bool) → is_last (not ns) (some ns) ≡ false
not_last true = refl
not_last false = refl

-- What is accepted between changes nothing, if it is neither a start nor a frame with N(S) from the address.
last-neither : (a : ℕ) (last : Option Bool) (h : Hearing) → is_neither a h ≡ true → last_next a last h ≡ last
last-neither a last begins e = clash _ e refl
last-neither a last (hears b ns sdu) e = by-test (eqb b a) (λ t. clash _ (rw t at e) refl) (λ t. rw t)
last-neither a last neither e = refl

last_none : (a : ℕ) (last : Option Bool) (es : List Exchange) → none_from a es ≡ true → last_from a last es ≡ last
unfolding last_from all
last_none a last [] e = refl
last_none a last (x ∷ es) e =
    let t = and_parts (is_neither a (heard_in x)) (none_from a es) e in
    ap (λ (o : Option Bool). last_from a o es) (last-neither a last (heard_in x) t.0) ∙ last_none a last es t.1

last-append : (a : ℕ) (last : Option Bool) (es fs : List Exchange) → last_from a last (es ++ fs) ≡ last_from a (last_from a last es) fs
unfolding last_from
last-append a last [] fs = refl
last-append a last (e ∷ es) fs = last-append a (last_next a last (heard_in e)) es fs

-- What a frame with N(S) sends up, by what was accepted before it.
abbrev pub StopsAfter : List Exchange → Exchange → Type 0
StopsAfter before e =
    (a : ℕ) (ns : Bool) (sdu : List ℕ) → heard_in e ≡ hears a ns sdu → Stops a (last_heard a before) ns sdu e.records

pub stops-run :
    (cs : List (List ℕ)) (before : List Exchange) (e : Exchange) (later : List Exchange)
    → run new cs ≡ before ++ (e ∷ later)
    → StopsAfter before e
unfolding new first_or
stops-run cs before e later split a ns sdu h =
    let r = reached new cs before e later split in
    let records : given (step r.link r.call) ≡ e.records = sym (ap (λ (x : Exchange). x.records) r.is) in
    subst (λ (rs : List Record). Stops a (last_heard a before) ns sdu rs) records
    (subst (λ (o : Option Bool). Stops a o ns sdu (given (step r.link r.call))) (r.last a)
    (subst (λ (x : Hearing). Stopped r.link x (given (step r.link r.call))) (ap heard_in (sym r.is) ∙ h)
    (stops-step r.link r.call)))

-- So of some exchanges repeats stop, if each frame goes up by what was accepted before it.
module _
    (es : List Exchange)
    (each : (before : List Exchange) (e : Exchange) (later : List Exchange) → es ≡ before ++ (e ∷ later) → StopsAfter before e)
  where
    -- A frame that follows something, with nothing of its address between.
    follows :
        (before : List Exchange) (c : Exchange) (between : List Exchange) (d : Exchange) (later : List Exchange)
        (a : ℕ) (ns : Bool) (sdu : List ℕ)
        → es ≡ before ++ (c ∷ (between ++ (d ∷ later)))
        → none_from a between ≡ true
        → heard_in d ≡ hears a ns sdu
        → Stops a (last_next a (last_heard a before) (heard_in c)) ns sdu d.records
    unfolding last_from
    follows before c between d later a ns sdu split quiet e =
        let was : Option Bool = last_next a (last_heard a before) (heard_in c) in
        subst (λ (o : Option Bool). Stops a o ns sdu d.records)
        (last-append a none before (c ∷ between) ∙ last_none a was between quiet)
        (each (before ++ (c ∷ between)) d later (split ∙ sym (append_assoc before (c ∷ between) (d ∷ later))) a ns sdu e)

    pub repeats-stop : RepeatsStop es
    repeats-stop =
        record {
          same =
              λ before c between d later a ns sdu again split first-is quiet e.
              (follows before c between d later a ns again split quiet e).repeated
              (ap (last_next a (last_heard a before)) first-is ∙ rw (eq-eqb a a refl));
          other =
              λ before c between d later a ns sdu next split first-is quiet e.
              (follows before c between d later a (not ns) next split quiet e).fresh
              (ap (λ (h : Hearing). is_last (not ns) (last_next a (last_heard a before) h)) first-is ∙ rw (eq-eqb a a refl) (not_last ns));
          first =
              λ before c between d later a ns sdu split first-is quiet e.
              (follows before c between d later a ns sdu split quiet e).fresh
              (ap (λ (h : Hearing). is_last ns (last_next a (last_heard a before) h)) first-is);
        }

pub repeats-run : (cs : List (List ℕ)) → RepeatsStop (run new cs)
repeats-run cs = repeats-stop (run new cs) (stops-run cs)

-- An accepted frame of a PDU with an N(S) and a text is heard with them.
pub hears-framed :
    (e : Exchange) (f : Frame) (p : Pdu) (text : List ℕ) (ns : Bool)
    → parsed e.call ≡ accepted (frame f)
    → f.pdu ≡ frame_bits p text
    → ns_of p ≡ some ns
    → e.number ≡ 0
    → heard_in e ≡ hears f.ssi ns text
unfolding heard_in
hears-framed e f p text ns spelled framed number_is zeroth =
    ap (λ (k : ℕ). cond (eqb k 0) (hearing (parsed e.call)) neither) zeroth
    ∙ ap hearing spelled
    ∙ ap (hears_of f.ssi) (ap received framed ∙ frame-received p text)
    ∙ ap (λ (x : Option Bool). hears_from f.ssi x text) number_is
