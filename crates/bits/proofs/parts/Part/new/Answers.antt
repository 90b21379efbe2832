use Prim.Native.Nat.{◌+◌}
use native.Mathlib.Omega.{arith}
use mathlib.Core.Path.{ap}
use borrow.Author.Tests.{le-leb, lt-leb}
use lib.ListN.{length}
use Rattle.questions.specs.Outcome.{accepted}
use Rattle.bits.specs.Bits.{bits}
use Rattle.bits.proofs.Laws.{length-bits}
use Rattle.bits.proofs.PartLaws.{part_from}
use Rattle.bits.proofs.parts.Part.new.Goals as goal

pub returns-then-bytes-at-clause-value : goal.returns-then-bytes-at-clause-value
returns-then-bytes-at-clause-value c =
    let a = c.args in
    let h = length-bits a.bytes.now in
    rw (lt-leb (a.at + a.len) (length (bits a.bytes.now)) (omega (arith, h, c.if-bytes-at.true)))

pub returns-clause-value : goal.returns-clause-value
returns-clause-value c =
    let a = c.args in
    let h = length-bits a.bytes.now in
    rw (le-leb (a.at + a.len) (length (bits a.bytes.now)) (omega (arith, h, c.if-bytes-at.false)))
    (ap accepted (part_from a.bytes.now a.at a.len))
