use native.Mathlib.Omega.{arith}
use Rattle.fcs.proofs.Ends.{start_none, start-long, start-short}
use Rattle.fcs.proofs.started.Goals as goal
use Rattle.fcs.proofs.started.Goals.{then-len-eq0-via-then-len-eq0, then-len-eq0-via-else-len-eq0+then-len-ge32}

pub returns-then-len-eq0 : goal.returns-then-len-eq0
returns-then-len-eq0 c =
    elim c.then-len-eq0.branch [
      | then-len-eq0-via-then-len-eq0 w ↦ rw w.if-len-eq0.true start_none
      | then-len-eq0-via-else-len-eq0+then-len-ge32 w ↦ start-long c.args.len w.if-len-ge32.true
    ]

pub returns : goal.returns
returns c =
    start-short c.args.len (omega arith) (omega arith)
