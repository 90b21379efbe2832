-- The contract of `call` leaves exactly one answer, and a refusal changes nothing.
use Prim.Native.Nat.{ℕ}
use mathlib.Core.Path.{◌≡◌, ◌∙◌, sym, ap}
use mathlib.Core.List.{List}
use Rattle.bits.specs.Bits.{bits, AllBytes}
use Rattle.bits.proofs.ByBits.{bytes-by-bits}
use Rattle.questions.specs.Outcome.{Outcome, accepted, refused}
use Rattle.llc_state.specs.declared.State.{State}
use Rattle.llc_steps.specs.Answers.{Effect, effect, answer, delivered}
use Rattle.llc_steps.specs.States.{Kept}
use Rattle.llc.specs.Determined.{Left, OneAnswer, NoLeavesAll}
use Rattle.llc.specs.Entry.{outcome_of, call_of}

-- Two that have the same answer, the same bits in the store and the same bytes in the output are one.
same_bits :
    (l m : Left)
    → AllBytes l.store
    → AllBytes m.store
    → effect l.answer (bits l.store) l.out ≡ effect m.answer (bits m.store) m.out
    → l ≡ m
same_bits l m a c e =
    let bytes : l.store ≡ m.store = bytes-by-bits l.store m.store a c (ap (λ (x : Effect). x.store) e) in
    λ i. record { answer = (e i).answer; store = bytes i; out = (e i).out }

pub one_answer : OneAnswer
one_answer s store out bytes l m a c h k = same_bits l m a c (h ∙ sym k)

-- What a no delivers.
no-delivers :
    (s : State) (store out : List ℕ) (o : Outcome Kept) (x : Effect)
    → x ≡ delivered s store out o
    → (x.answer.number ≡ 0 → ⊥)
    → x ≡ effect (answer x.answer.number s 0) store out
no-delivers s store out (accepted k) x e h = absurd (h (ap (λ (y : Effect). y.answer.number) e))
no-delivers s store out (refused n) x e h =
    e ∙ ap (λ (k : ℕ). effect (answer k s 0) store out) (sym (ap (λ (y : Effect). y.answer.number) e))

pub no-leaves-all : NoLeavesAll
unfolding call_of
no-leaves-all s store out bytes l b a h n =
    same_bits l _ a b (no-delivers s (bits store) out (outcome_of s (bits store) out bytes) (effect l.answer (bits l.store) l.out) h n)
