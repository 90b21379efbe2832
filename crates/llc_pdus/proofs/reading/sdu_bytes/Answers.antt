use native.Mathlib.Omega.{arith}
use Rattle.llc_pdus.proofs.Holding.{none, held}
use Rattle.llc_pdus.proofs.reading.sdu_bytes.Goals as goal

pub returns-then-sdu-eq0 : goal.returns-then-sdu-eq0
returns-then-sdu-eq0 c =
    none c.args.frame.now c.args.sdu c.if-frame-e.false c.if-sdu-eq0.true

pub returns : goal.returns
returns c =
    held c.args.frame.now c.args.sdu c.if-frame-e.false (omega (arith, c.if-sdu-eq0.false))
