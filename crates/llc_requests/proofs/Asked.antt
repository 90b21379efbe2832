-- The questions of a request in the code's order: what is answered on each way.
use Prim.Native.Nat.{ℕ, ◌≤◌, ◌<◌}
use native.Mathlib.Omega.{arith}
use mathlib.Core.Path.{◌≡◌, ◌∙◌, refl, sym, ap, subst}
use mathlib.Core.Bool.{Bool, true, false, cond}
use mathlib.Core.List.{List}
use borrow.Author.Tests.{lt-ltb, le-ltb}
use Rattle.std.specs.Prelude.{Option, None, MatchOption}
use lib.ListN.{length}
use Rattle.std.proofs.lemmas.Bool.{cond-true, cond-false}
use Rattle.lists.specs.Lists.{Found, nothing, first, others}
use Rattle.lists.specs.Arrays.{position}
use Rattle.questions.specs.Outcome.{Outcome, accepted, refused, ask}
use Rattle.questions.specs.Refusals.{number_of}
use Rattle.questions.specs.declared.Refusal.{Refusal}
use Rattle.questions.proofs.Asked.{accepted-passed}
use Rattle.llc_pdus.specs.declared.Pdu.TheVariants.{BlUdata, BlAck}
use Rattle.llc_rule.specs.Calls.{Request}
use Rattle.llc_rule.specs.Ranges.{steals, wants_fcs}
use Rattle.llc_rule.specs.Step.{on_acknowledged_path}
use Rattle.llc_state.specs.Receipts.{place_of}
use Rattle.llc_state.specs.declared.ScheduledOutAck.{ScheduledOutAck}
use Rattle.llc_state.specs.declared.State.{State}
use Rattle.llc_steps.specs.Answers.{answer, delivered, WithAnyOut}
use Rattle.llc_steps.specs.Calls.{ack_for, with_acknowledged, with_unacknowledged, with_stolen, row_for, on_data, on_unitdata, row_of}
use Rattle.llc_steps.specs.States.{acks_of, rows_of, with_acks, Kept}
use Rattle.llc_steps.specs.declared.Answer.{Answer}
use Rattle.llc_steps.proofs.Updates.{same-acks}

-- An effect by the outcome's own name, and the effect of a no.
pub as-asked :
    {x : Answer} {after before : List ℕ} {s t : State} {o : Outcome Kept} {k : Kept}
    → o ≡ accepted k
    → WithAnyOut x after t before (accepted k)
    → WithAnyOut x after s before o
as-asked {before = before} {s = s} e w = record { each = λ out. w.each out ∙ ap (delivered s before out) (sym e) }

pub refuses : {n : ℕ} {s : State} {b : List ℕ} {o : Outcome Kept} → o ≡ refused n → WithAnyOut (answer n s 0) b s b o
refuses {s = s} {b = b} e = record { each = λ out. ap (delivered s b out) (sym e) }

-- A row is found, or there is none free.
row-refused : (b : Bool) (p : ℕ) (r : Refusal) → refused (number_of r) ≡ ask 7 b (accepted p) → (b ≡ false) × (number_of r ≡ 7)
row-refused true p r e = let z : ◌≡◌ {A = ℕ} 0 1 = cc in absurd (omega arith)
row-refused false p r e = (refl, cc)

-- The acknowledgement that a request that steals goes with, taken out of a state.
abbrev pub stolen : Request → State → Found ScheduledOutAck
stolen r s = cond (steals r) (ack_for r s) nothing

pub record Stolen (r : Request) (s : State) (due : Option ScheduledOutAck) (u : State) : Type 0 where
  pub value : MatchOption due (stolen r s ≡ nothing) (λ d. stolen r s ≡ first d (acks_of u))
  pub left : u ≡ with_acks s (others (stolen r s) (acks_of s))

pub stolen-due :
    (r : Request) (s : State) {x : Bool} (due : Option ScheduledOutAck) {u : State}
    → x ≡ steals r
    → x ≡ true
    → MatchOption due (ack_for r s ≡ nothing) (λ d. ack_for r s ≡ first d (acks_of u))
    → u ≡ with_acks s (others (ack_for r s) (acks_of s))
    → Stolen r s due u
stolen-due r s due {u} e t value left =
    let f : ack_for r s ≡ stolen r s = sym (cond-true _ (ack_for r s) nothing (sym e ∙ t)) in
    record {
      value = subst (λ (g : Found ScheduledOutAck). MatchOption due (g ≡ nothing) (λ d. g ≡ first d (acks_of u))) f value;
      left = subst (λ (g : Found ScheduledOutAck). u ≡ with_acks s (others g (acks_of s))) f left;
    }

pub none-stolen : (r : Request) (s : State) {x : Bool} → x ≡ steals r → x ≡ false → s.n_acks ≤ length s.scheduled_out_acks → Stolen r s None s
none-stolen r s e t few =
    let f : stolen r s ≡ nothing = cond-false _ (ack_for r s) nothing (sym e ∙ t) in
    record {
      value = f;
      left = sym (same-acks s few) ∙ ap (λ (g : Found ScheduledOutAck). with_acks s (others g (acks_of s))) (sym f);
    }

module _ (r : Request) (s : State) (b : List ℕ) where
  abbrev taken : Bool
  taken = (place_of s.receipts r.receipt).taken

  -- The ways of a unitdata request.
  pub unitdata-6 : taken ≡ true → on_unitdata r s b ≡ refused 6
  unfolding on_unitdata
  unitdata-6 t = rw t

  pub unitdata-8 : taken ≡ false → 32 ≤ s.n_udata → on_unitdata r s b ≡ refused 8
  unfolding on_unitdata
  unitdata-8 t h = rw (t, le-ltb s.n_udata 32 h)

  pub unitdata-put : taken ≡ false → s.n_udata < 32 → on_unitdata r s b ≡ accepted (with_unacknowledged r r.link (BlUdata false) (acks_of s) s b)
  unfolding on_unitdata
  unitdata-put t h = rw (t, lt-ltb s.n_udata 32 h)

  -- Those of a data request: the receipt first.
  pub data-6 : taken ≡ true → on_data r s b ≡ refused 6
  unfolding on_data
  data-6 t = rw t

  -- On the acknowledged path.
  module _ (t : taken ≡ false) (path : on_acknowledged_path r ≡ true) where
    pub data-7 : (e : Refusal) → refused (number_of e) ≡ ask 7 (row_for r.ssi s) (accepted (position (row_of r.ssi) (rows_of s))) → on_data r s b ≡ refused (number_of e)
    unfolding on_data
    data-7 e h = let no = row-refused (row_for r.ssi s) _ e h in rw (t, path, no.0, no.1)

    module _ {row : ℕ} (h : accepted row ≡ ask 7 (row_for r.ssi s) (accepted (position (row_of r.ssi) (rows_of s)))) where
      pub data-8 : 64 ≤ s.n_messages → on_data r s b ≡ refused 8
      unfolding on_data
      data-8 full = rw (t, path, (accepted-passed 7 (row_for r.ssi s) h).0, le-ltb s.n_messages 64 full)

      pub data-acknowledged : s.n_messages < 64 → on_data r s b ≡ accepted (with_acknowledged r s b)
      unfolding on_data
      data-acknowledged room = rw (t, path, (accepted-passed 7 (row_for r.ssi s) h).0, lt-ltb s.n_messages 64 room)

  -- Off it.
  module _ (t : taken ≡ false) (path : on_acknowledged_path r ≡ false) where
    pub data-full : 32 ≤ s.n_udata → on_data r s b ≡ refused 8
    unfolding on_data
    data-full h = rw (t, path, le-ltb s.n_udata 32 h)

    by-steals : (x : Bool) → cond x (with_stolen r s b (ack_for r s)) (with_stolen r s b nothing) ≡ with_stolen r s b (cond x (ack_for r s) nothing)
    by-steals true = refl
    by-steals false = refl

    data-stolen : s.n_udata < 32 → on_data r s b ≡ accepted (with_stolen r s b (stolen r s))
    unfolding on_data
    data-stolen room = rw (t, path, lt-ltb s.n_udata 32 room) (ap accepted (by-steals (steals r)))

    -- With the acknowledgement, or with none.
    with-due :
        (f : Found ScheduledOutAck) {d : ScheduledOutAck} {left : List ScheduledOutAck}
        → f ≡ first d left
        → with_stolen r s b f ≡ with_unacknowledged r r.link (BlAck (wants_fcs r) d.nr) (others f (acks_of s)) s b
    unfolding with_stolen
    with-due f e = rw e refl

    without-due : (f : Found ScheduledOutAck) → f ≡ nothing → with_stolen r s b f ≡ with_unacknowledged r 0 (BlUdata false) (others f (acks_of s)) s b
    unfolding with_stolen
    without-due f e = rw e refl

    module _ (room : s.n_udata < 32) where
      pub data-with :
          {d : ScheduledOutAck} {left : List ScheduledOutAck}
          → stolen r s ≡ first d left
          → on_data r s b ≡ accepted (with_unacknowledged r r.link (BlAck (wants_fcs r) d.nr) (others (stolen r s) (acks_of s)) s b)
      data-with e = data-stolen room ∙ ap accepted (with-due (stolen r s) e)

      pub data-without : stolen r s ≡ nothing → on_data r s b ≡ accepted (with_unacknowledged r 0 (BlUdata false) (others (stolen r s) (acks_of s)) s b)
      data-without e = data-stolen room ∙ ap accepted (without-due (stolen r s) e)
