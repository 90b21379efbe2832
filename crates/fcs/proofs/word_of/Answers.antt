use native.Mathlib.Omega.{arith}
use mathlib.Core.Path.{ap}
use Rattle.bits.specs.Bits.{value}
use Rattle.bits.specs.Parts.{bits_of}
use Rattle.bits.proofs.Bytes.{value-nil, value-more}
use Rattle.bits.proofs.PartLaws.{whole-front}
use Rattle.fcs.proofs.word_of.Goals as goal

pub returns : goal.returns
returns c =
    let p = c.args.part in
    let m = bits_of p in
    omega (
      arith,
      c.from_be_bytes.ensures,
      value-nil,
      value-more m 0 0 c.byte.result (omega arith) c.byte.ensures,
      value-more m 0 8 c.byte-2.result (omega arith) c.byte-2.ensures,
      value-more m 0 16 c.byte-3.result (omega arith) c.byte-3.ensures,
      value-more m 0 24 c.byte-4.result (omega arith) c.byte-4.ensures,
      ap value (whole-front p 32 (omega (arith, c.requires))),
    )
