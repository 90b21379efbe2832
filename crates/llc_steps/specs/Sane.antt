-- A state and a store of which question 1 was passed, with arrays as long as their types say.
use Rattle.std.specs.Prelude.{ℕ, ◌*◌, ◌≡◌, true, List, length}
use Rattle.questions.specs.Outcome.{Outcome, accepted, refused}
use Rattle.llc_rule.specs.Limits.{store_bytes}
use Rattle.llc_state.specs.Ranges.{state_in_range}
use Rattle.llc_state.specs.declared.State.{State}
use Rattle.llc_steps.specs.States.{Kept}

pub record Sane (s : State) (store : List ℕ) : Type 0 where
  pub messages : length s.outbound_messages ≡ 64
  pub udata : length s.outbound_udata_messages ≡ 32
  pub acks : length s.scheduled_out_acks ≡ 64
  pub places : length s.receipts ≡ 128
  pub rows : length s.link_send_seq ≡ 256
  pub range : state_in_range s ≡ true
  pub long : length store ≡ 8 * store_bytes

-- What an accepted call leaves is so.
abbrev pub SaneAfter : Outcome Kept → Type 0
SaneAfter (accepted k) = Sane k.state k.store
SaneAfter (refused n) = Unit {0}
