-- A run of the entry point, less the calls that got number 1, is a run of `step` on the link that state and store hold.
use Prim.Native.Nat.{ℕ, ◌*◌}
use native.Mathlib.Omega.{arith}
use mathlib.Core.Path.{◌≡◌, ◌∙◌, refl, sym, ap, ap₂, subst}
use mathlib.Core.Bool.{Bool, true, false, not, ◌&&◌}
use mathlib.Core.List.{List, [], ◌∷◌, ◌++◌, map, map-append}
use borrow.Author.Tests.{eqb-true, eqb-false, eq-eqb, ne_eqb}
use lib.Dec.{eqb}
use lib.ListN.{length}
use Rattle.lists.specs.Lists.{keep, All}
use Rattle.lists.proofs.Lists.{keep-yes, keep-no, keep_append}
use Rattle.lists.proofs.Choices.{by-test}
use Rattle.questions.specs.Outcome.{Outcome, accepted, refused}
use Rattle.bits.specs.Bits.{bits}
use Rattle.bits.proofs.Laws.{length-bits}
use Rattle.llc_rule.specs.Limits.{store_bytes}
use Rattle.llc_rule.specs.Link.{Link, new}
use Rattle.llc_rule.specs.Step.{step}
use Rattle.llc_rule.specs.Runs as Rule
use Rattle.llc_rule.specs.Runs.{Exchange}
use Rattle.llc_rule.proofs.Paths.{not-one}
use Rattle.llc_state.specs.Ranges.{state_in_range}
use Rattle.llc_state.specs.Lengths.{Lengths}
use Rattle.llc_state.proofs.View.{new_in}
use Rattle.llc_steps.specs.States.{Kept}
use Rattle.llc_steps.specs.Steps.{steps}
use Rattle.llc_steps.specs.Holds.{kept_in}
use Rattle.llc_steps.specs.Answers.{delivered}
use Rattle.llc_steps.specs.Sane.{Sane, SaneAfter}
use Rattle.llc_steps.proofs.Steps.{steps-in}
use Rattle.llc_steps.proofs.Ready.{ready}
use Rattle.llc_steps.proofs.Sane.{new-sane, steps-sane}
use Rattle.llc.specs.Entry.{lent_right, outcome_of, call_of}
use Rattle.llc_runs.specs.Runs.{Lent, Station, station, begin, left, records_of, given, exchange, run, after}
use Rattle.llc_runs.specs.Heard.{was_heard, heard_of, lent_enough, fitting}
use Rattle.llc_runs.specs.Claim.{link_at, AsStep}
use Rattle.llc_runs.proofs.Ones.{Silent}

-- What comes of a call, as its questions are answered.
abbrev outcome : Station → Lent → Outcome Kept
outcome s c = outcome_of s.state s.store c.out c.call

abbrev number_by : Station → Lent → Outcome Kept → ℕ
number_by s c o = (delivered s.state s.store c.out o).answer.number

abbrev station_by : Station → Lent → Outcome Kept → Station
station_by s c o =
    let e = delivered s.state s.store c.out o in
    station e.answer.state e.store

-- A call that got number 1 gave no record.
silent-by : (s : Station) (c : Lent) (o : Outcome Kept) → number_by s c o ≡ 1 → records_of o ≡ []
silent-by s c (accepted k) e = absurd (omega arith)
silent-by s c (refused n) e = refl

pub silent : (s : Station) (cs : List Lent) → All Silent (run s cs)
unfolding run exchange given call_of
silent s [] = tt
silent s (c ∷ cs) = (silent-by s c (outcome s c), silent (left s c) cs)

-- A run taken apart at a call.
pub run-split :
    (s : Station) (before : List Lent) (c : Lent) (later : List Lent)
    → run s (before ++ (c ∷ later)) ≡ run s before ++ (exchange (after s before) c ∷ run (left (after s before) c) later)
unfolding run after
run-split s [] c later = refl
run-split s (b ∷ before) c later = ap (λ (es : List Exchange). exchange s b ∷ es) (run-split (left s b) before c later)

-- What a call that is lent what is right gets and leaves.
pub record Asked (s : Station) (c : Lent) : Type 0 where
  pub asked : exchange s c ≡ Rule.exchange c.call (step (link_at s) c.call)
  pub leaves : link_at (left s c) ≡ Rule.left (link_at s) (step (link_at s) c.call)
  pub sane : Sane (left s c).state (left s c).store

asked_by :
    (s : Station) (c : Lent) (o : Outcome Kept)
    → outcome s c ≡ o
    → kept_in o ≡ step (link_at s) c.call
    → Sane s.state s.store
    → SaneAfter o
    → Asked s c
unfolding exchange given left call_of kept_in
asked_by s c (accepted k) e g ok next = record { asked = rw (e, sym g); leaves = rw (e, sym g); sane = rw e next }
asked_by s c (refused n) e g ok next = record { asked = rw (e, sym g); leaves = rw (e, sym g); sane = rw e ok }

answered-right :
    (s : Station) (c : Lent)
    → lent_right s.store c.out ≡ true
    → state_in_range s.state ≡ true
    → outcome s c ≡ steps s.state s.store c.call
unfolding outcome_of
answered-right s c e r = rw (e, r)

pub asks : (s : Station) (c : Lent) → Sane s.state s.store → lent_right s.store c.out ≡ true → Asked s c
asks s c ok e =
    let long : Lengths s.state =
    record { messages = ok.messages; udata = ok.udata; acks = ok.acks; places = ok.places; rows = ok.rows } in
    asked_by s c (steps s.state s.store c.call) (answered-right s c e ok.range)
    (steps-in s.state s.store (ready s.state s.store long ok.range ok.long) c.call)
    ok
    (steps-sane s.state s.store c.call c.bytes ok)

-- What one that is lent what is wrong gets and leaves.
pub record Unasked (s : Station) (c : Lent) : Type 0 where
  pub one : (exchange s c).number ≡ 1
  pub same : left s c ≡ s

pub asks-not : (s : Station) (c : Lent) → lent_right s.store c.out ≡ false → Unasked s c
unfolding exchange left call_of outcome_of
asks-not s c e =
    let no : outcome s c ≡ refused 1 = rw e in
    record { one = ap (number_by s c) no; same = ap (station_by s c) no }

-- The first calls of a run.
heard-first :
    (s : Station) (c : Lent) (cs : List Lent)
    → Asked s c
    → heard_of (run s (c ∷ cs)) ≡ exchange s c ∷ heard_of (run (left s c) cs)
unfolding run
heard-first s c cs a =
    keep-yes was_heard (exchange s c) (run (left s c) cs)
    (ap (λ (e : Exchange). was_heard e) a.asked ∙ ap not (not-one (link_at s) c.call))

unheard-first : (s : Station) (c : Lent) (cs : List Lent) → Unasked s c → heard_of (run s (c ∷ cs)) ≡ heard_of (run s cs)
unfolding run
unheard-first s c cs u =
    keep-no was_heard (exchange s c) (run (left s c) cs) (ap (λ (k : ℕ). not (eqb k 1)) u.one)
    ∙ ap (λ (t : Station). heard_of (run t cs)) u.same

-- A run on a store of its length.
pub fitting-append : (cs ds : List Lent) → fitting (cs ++ ds) ≡ fitting cs ++ fitting ds
fitting-append cs ds =
    ap (map (λ (c : Lent). c.call)) (keep_append lent_enough cs ds) ∙ map-append (λ (c : Lent). c.call) (keep lent_enough cs) (keep lent_enough ds)

pub fitting-yes : (c : Lent) (cs : List Lent) → lent_enough c ≡ true → fitting (c ∷ cs) ≡ c.call ∷ fitting cs
fitting-yes c cs f = ap (map (λ (x : Lent). x.call)) (keep-yes lent_enough c cs f)

pub fitting-no : (c : Lent) (cs : List Lent) → lent_enough c ≡ false → fitting (c ∷ cs) ≡ fitting cs
fitting-no c cs f = ap (map (λ (x : Lent). x.call)) (keep-no lent_enough c cs f)

pub right_is : (s : Station) (c : Lent) → Sane s.state s.store → lent_right s.store c.out ≡ lent_enough c
unfolding lent_right
right_is s c ok = ap (λ (b : Bool). b && lent_enough c) (eq-eqb (length s.store) (8 * store_bytes) ok.long)

pub record Followed (s : Station) (cs : List Lent) : Type 0 where
  pub heard : heard_of (run s cs) ≡ Rule.run (link_at s) (fitting cs)
  pub link : link_at (after s cs) ≡ Rule.after (link_at s) (fitting cs)
  pub sane : Sane (after s cs).state (after s cs).store

pub follows : (s : Station) (cs : List Lent) → Sane s.state s.store → Followed s cs
unfolding run after Rule.run Rule.after keep
follows s [] ok = record { heard = refl; link = refl; sane = ok }
follows s (c ∷ cs) ok =
    by-test (lent_enough c)
    (λ f.
    let a = asks s c ok (right_is s c ok ∙ f) in
    let rest = follows (left s c) cs a.sane in
    record {
      heard =
          heard-first s c cs a
          ∙ ap₂ (λ (e : Exchange) (es : List Exchange). e ∷ es) a.asked
          (rest.heard ∙ ap (λ (l : Link). Rule.run l (fitting cs)) a.leaves)
          ∙ ap (Rule.run (link_at s)) (sym (fitting-yes c cs f));
      link =
          rest.link
          ∙ ap (λ (l : Link). Rule.after l (fitting cs)) a.leaves
          ∙ ap (Rule.after (link_at s)) (sym (fitting-yes c cs f));
      sane = rest.sane;
    })
    (λ f.
    let u = asks-not s c (right_is s c ok ∙ f) in
    let rest = follows s cs ok in
    record {
      heard = unheard-first s c cs u ∙ rest.heard ∙ ap (Rule.run (link_at s)) (sym (fitting-no c cs f));
      link =
          ap (λ (t : Station). link_at (after t cs)) u.same
          ∙ rest.link
          ∙ ap (Rule.after (link_at s)) (sym (fitting-no c cs f));
      sane = subst (λ (t : Station). Sane (after t cs).state (after t cs).store) (sym u.same) rest.sane;
    })

-- A run on a store of another length: every call gets number 1, and nothing changes.
abbrev pub Wrong : Station → Type 0
Wrong s = eqb (length s.store) (8 * store_bytes) ≡ false

pub wrong-is : (s : Station) (c : Lent) → Wrong s → lent_right s.store c.out ≡ false
unfolding lent_right
wrong-is s c w = ap (λ (b : Bool). b && lent_enough c) w

pub record Stuck (s : Station) (cs : List Lent) : Type 0 where
  pub heard : heard_of (run s cs) ≡ []
  pub same : after s cs ≡ s

pub stuck : (s : Station) (cs : List Lent) → Wrong s → Stuck s cs
unfolding run after keep
stuck s [] w = record { heard = refl; same = refl }
stuck s (c ∷ cs) w =
    let u = asks-not s c (wrong-is s c w) in
    let rest = stuck s cs w in
    record {
      heard = unheard-first s c cs u ∙ rest.heard;
      same = ap (λ (t : Station). after t cs) u.same ∙ rest.same;
    }

-- The beginning of a run.
begin-in : (store : List ℕ) → link_at (begin store) ≡ new
unfolding begin
begin-in store = new_in (bits store)

pub begin-right : (store : List ℕ) → eqb (length store) store_bytes ≡ true → Sane (begin store).state (begin store).store
unfolding begin
begin-right store e = new-sane (bits store) (length-bits store ∙ ap (λ (k : ℕ). 8 * k) (eqb-true (length store) store_bytes e))

pub begin-wrong : (store : List ℕ) → eqb (length store) store_bytes ≡ false → Wrong (begin store)
unfolding begin
begin-wrong store e =
    ne_eqb (length (bits store)) (8 * store_bytes)
    (λ q. eqb-false (length store) store_bytes e (omega (arith, length-bits store, q)))

-- Both.
pub as_step : (store : List ℕ) (cs : List Lent) → AsStep store cs
unfolding Rule.run Rule.after
as_step store cs =
    by-test (eqb (length store) store_bytes)
    (λ right.
    let f = follows (begin store) cs (begin-right store right) in
    record {
      heard = rw right (f.heard ∙ ap (λ (l : Link). Rule.run l (fitting cs)) (begin-in store));
      link = rw right (f.link ∙ ap (λ (l : Link). Rule.after l (fitting cs)) (begin-in store));
    })
    (λ wrong.
    let n = stuck (begin store) cs (begin-wrong store wrong) in
    record {
      heard = rw wrong n.heard;
      link = rw wrong (ap link_at n.same ∙ begin-in store);
    })
