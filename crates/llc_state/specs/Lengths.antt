-- How long the arrays of a state are.
use Rattle.std.specs.Prelude.{◌≡◌, length}
use Rattle.llc_state.specs.declared.State.{State}

pub record Lengths (s : State) : Type 0 where
  pub messages : length s.outbound_messages ≡ 64
  pub udata : length s.outbound_udata_messages ≡ 32
  pub acks : length s.scheduled_out_acks ≡ 64
  pub places : length s.receipts ≡ 128
  pub rows : length s.link_send_seq ≡ 256
