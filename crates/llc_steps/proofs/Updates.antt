-- A state with the elements in use that it had.
use Prim.Native.Nat.{◌≤◌}
use mathlib.Core.Path.{◌≡◌, ap₂}
use lib.ListN.{length}
use lib.Seq.{length-take-le}
use Rattle.lists.proofs.Arrays.{laid_same}
use Rattle.llc_state.specs.declared.State.{State}
use Rattle.llc_state.specs.States.{no_ack}
use Rattle.llc_steps.specs.States.{acks_of, put_acks, with_acks}

-- A state whose acknowledgements due are as they were is as it was.
pub same-acks : (s : State) → s.n_acks ≤ length s.scheduled_out_acks → with_acks s (acks_of s) ≡ s
same-acks s h =
    ap₂ (put_acks s)
    (length-take-le s.n_acks s.scheduled_out_acks h)
    (laid_same no_ack s.n_acks s.scheduled_out_acks h)
