-- What the contract of `call` leaves open: nothing. What a call leaves is given here by its bytes, in the store too.
use Rattle.std.specs.Prelude.{ℕ, ◌≡◌, List}
use Rattle.bits.specs.Bits.{bits, AllBytes}
use Rattle.llc_state.specs.declared.State.{State}
use Rattle.llc_steps.specs.Answers.{effect, answer}
use Rattle.llc_steps.specs.declared.Answer.{Answer}
use Rattle.llc.specs.Entry.{call_of}

-- The answer, the bytes of the store and the bytes of the output.
pub record Left : Type 0 where
  pub answer : Answer
  pub store : List ℕ
  pub out : List ℕ

-- It meets the contract of `call`, on these bytes of the store, the output and the call.
abbrev pub Meets : State → List ℕ → List ℕ → List ℕ → Left → Type 0
Meets s store out bytes l = effect l.answer (bits l.store) l.out ≡ call_of s (bits store) out bytes

-- "Each entry point's contract determines number, next state, store and every output byte": of two that meet it, with stores
-- that are bytes, each is the other.
abbrev pub OneAnswer : Type 0
OneAnswer =
    (s : State) (store out bytes : List ℕ) (l m : Left)
    → AllBytes l.store
    → AllBytes m.store
    → Meets s store out bytes l
    → Meets s store out bytes m
    → l ≡ m

-- "A no gives the number; state, store and output then hold the bytes they held before."
abbrev pub NoLeavesAll : Type 0
NoLeavesAll =
    (s : State) (store out bytes : List ℕ) (l : Left)
    → AllBytes store
    → AllBytes l.store
    → Meets s store out bytes l
    → (l.answer.number ≡ 0 → ⊥)
    → l ≡ record { answer = answer l.answer.number s 0; store = store; out = out }
