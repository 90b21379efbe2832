-- "A run is any list of calls, refused ones too, each with an output of any length. It begins with the library's new state,
-- which is empty and not started, and whatever store; each call gets the state and store that the last one left."
use Rattle.std.specs.Prelude.{ℕ, ◌<◌, List, [], ◌∷◌}
use Rattle.lists.specs.Lists.{All}
use Rattle.questions.specs.Outcome.{Outcome, accepted, refused}
use Rattle.bits.specs.Bits.{bits}
use Rattle.llc_rule.specs.Records.{Record}
use Rattle.llc_rule.specs.Runs.{Exchange}
use Rattle.llc_state.specs.States.{new_state}
use Rattle.llc_state.specs.declared.State.{State}
use Rattle.llc_steps.specs.States.{Kept}
use Rattle.llc.specs.Entry.{outcome_of, call_of}

-- A call of a run: its bytes, and the output that is lent to it.
pub record Lent : Type 0 where
  pub call : List ℕ
  pub bytes : All (λ (b : ℕ). b < 256) call
  pub out : List ℕ

-- The link between two calls: its state, and its store by its bits.
pub record Station : Type 0 where
  pub state : State
  pub store : List ℕ

abbrev pub station : State → List ℕ → Station
station s b = record { state = s; store = b }

-- The beginning of every run, with any bytes in the store.
unfoldable pub begin : List ℕ → Station
begin store = station new_state (bits store)

-- What the entry point leaves after a call.
unfoldable pub left : Station → Lent → Station
left s c =
    let e = call_of s.state s.store c.out c.call in
    station e.answer.state e.store

-- The records of a call: those whose bytes `call_of` lays into the output.
abbrev pub records_of : Outcome Kept → List Record
records_of (accepted k) = k.records
records_of (refused n) = []

unfoldable pub given : Station → Lent → List Record
given s c = records_of (outcome_of s.state s.store c.out c.call)

-- A call with the number that the entry point answers, and its records.
unfoldable pub exchange : Station → Lent → Exchange
exchange s c =
    record { call = c.call; number = (call_of s.state s.store c.out c.call).answer.number; records = given s c }

-- The exchanges of a run, and what it leaves.
unfoldable pub run : Station → List Lent → List Exchange
run s [] = []
run s (c ∷ cs) = exchange s c ∷ run (left s c) cs

unfoldable pub after : Station → List Lent → Station
after s [] = s
after s (c ∷ cs) = after (left s c) cs
