use Rattle.std.proofs.Common.{arith}
use Rattle.llc.proofs.Ways.{told-fits}
use Rattle.runner.proofs.run.Run.call.Goals as goal

pub returns-in-Ok : goal.returns-in-Ok
returns-in-Ok c = omega (arith, told-fits _ _ _ _ c.call-answer.ensures)
