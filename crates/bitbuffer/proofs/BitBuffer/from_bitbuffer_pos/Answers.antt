use Prim.Native.Nat.{◌+◌, ◌-◌, ◌*◌, ◌/◌}
use native.Mathlib.Omega.{arith}
use mathlib.Core.Path.{◌≡◌}
use borrow.Author.Tests.{le-leb, lt-leb}
use lib.ListN.{length}
use Rattle.bits.proofs.Laws.{length-bits}
use Rattle.bitbuffer.specs.Writes.{byte_count}
use Rattle.bitbuffer.proofs.Bytes.{at-front}
use Rattle.bitbuffer.proofs.BitBuffer.from_bitbuffer_pos.Goals as goal

pub returns-then-out-count : goal.returns-then-out-count
returns-then-out-count c =
    let d = c.args.out.now in
    rw (c.in_ok-checked.ensures.ok.0, length-bits d, lt-leb (8 * byte_count c.args.self) (8 * length d) (omega arith))

pub returns : goal.returns
returns c =
    let w = c.args.self in
    let d = c.args.out.now in
    let count : c.div_ceil.result - w.pos / 8 ≡ byte_count w = omega arith in
    let read : w.pos / 8 + byte_count w - w.pos / 8 ≡ byte_count w = omega arith in
    rw (
      c.in_ok-checked.ensures.ok.0,
      length-bits d,
      le-leb (8 * byte_count w) (8 * length d) (omega arith),
      c.copy_whole.ensures,
      count,
      read,
      at-front c.args.bytes.now d (w.pos / 8) (byte_count w) (omega (arith, c.in_ok-checked.ensures.ok)),
    )
