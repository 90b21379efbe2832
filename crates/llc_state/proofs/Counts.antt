-- The counts of a state in range, each alone.
use Prim.Native.Nat.{◌≤◌}
use mathlib.Core.Path.{◌≡◌}
use mathlib.Core.Bool.{true}
use Rattle.llc_state.specs.Ranges.{state_in_range}
use Rattle.llc_state.specs.declared.State.{State}
use Rattle.llc_state.proofs.InRange.{range-tells}

pub few_messages : (s : State) → state_in_range s ≡ true → s.n_messages ≤ 64
few_messages s h = (range-tells s h).head.messages

pub few_udata : (s : State) → state_in_range s ≡ true → s.n_udata ≤ 32
few_udata s h = (range-tells s h).head.udata

pub few_acks : (s : State) → state_in_range s ≡ true → s.n_acks ≤ 64
few_acks s h = (range-tells s h).head.acks

pub few_rows : (s : State) → state_in_range s ≡ true → s.n_rows ≤ 256
few_rows s h = (range-tells s h).head.rows

pub ruleset counts = (few_messages, few_udata, few_acks, few_rows)
