-- What a state and a store hold after a call, as a link, and what of question 1 that needs.
use Rattle.std.specs.Prelude.{ℕ, ◌*◌, ◌≤◌, ◌<◌, ◌≡◌, List, length}
use Rattle.lists.specs.Lists.{All}
use Rattle.questions.specs.Outcome.{Outcome, accepted, refused}
use Rattle.llc_pdus.specs.Writes.{longest_sent}
use Rattle.llc_rule.specs.Limits.{store_bytes, store_places}
use Rattle.llc_rule.specs.Done.{Done, done}
use Rattle.llc_rule.specs.Link.{Link}
use Rattle.llc_state.specs.View.{link_in}
use Rattle.llc_state.specs.declared.Entry.{Entry}
use Rattle.llc_state.specs.declared.State.{State}
use Rattle.llc_steps.specs.States.{messages_of, udata_of, acks_of, rows_of, Kept}

-- What a call leaves and gives, as a link and records.
unfoldable pub kept_in : Outcome Kept → Outcome (Done Link)
kept_in (accepted k) = accepted (done (link_in k.state k.store) k.records)
kept_in (refused n) = refused n

-- The counts are those of the elements in use.
pub record Counted (s : State) : Type 0 where
  pub messages : length (messages_of s) ≡ s.n_messages
  pub udata : length (udata_of s) ≡ s.n_udata
  pub acks : length (acks_of s) ≡ s.n_acks
  pub rows : length (rows_of s) ≡ s.n_rows

-- A frame lies in one of the places, with at most so many bits as the longest frame has.
abbrev pub Stored : Entry → Type 0
Stored e = (e.frame.place < store_places) × (e.frame.len ≤ longest_sent)

-- A state and the bits of a store of which question 1 was passed, as far as a call needs it.
pub record Ready (s : State) (store : List ℕ) : Type 0 where
  pub counted : Counted s
  pub long : length store ≡ 8 * store_bytes
  pub messages : All Stored (messages_of s)
  pub udata : All Stored (udata_of s)
  pub few : s.n_messages ≤ 64
  pub few_too : s.n_udata ≤ 32
