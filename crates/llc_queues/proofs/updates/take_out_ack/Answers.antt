use Prim.Native.Nat.{◌≤◌}
use native.Mathlib.Omega.{arith}
use mathlib.Core.Path.{◌≡◌, sym, ◌∙◌, ap}
use lib.ListN.{length, take, length-take}
use Rattle.llc_steps.specs.States.{with_acks}
use Rattle.llc_steps.proofs.Updates.{same-acks}
use Rattle.llc_queues.proofs.Shifting.{none-out}
use Rattle.llc_queues.proofs.updates.take_out_ack.Goals as goal

pub returns-in_err-get-clause-after : goal.returns-in_err-get-clause-after
returns-in_err-get-clause-after c =
    let s = c.args.state.now in
    let acks = s.scheduled_out_acks in
    let long : length (take s.n_acks acks) ≡ s.n_acks = rw c.acks.ensures.part at c.acks.ensures.count in
    let none : length (take s.n_acks acks) ≤ c.args.i = omega (arith, long, c.acks.ensures.count, c.in_err-get.ensures.lookup) in
    sym (ap (with_acks s) (none-out s.n_acks c.args.i acks none) ∙ same-acks s (omega (arith, long, length-take s.n_acks acks)))
