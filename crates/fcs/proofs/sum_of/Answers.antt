use Prim.Native.Nat.{ℕ, ◌%◌}
use mathlib.Core.Path.{◌∙◌, refl, sym, ap, ap₂}
use Rattle.bits.specs.Bits.{to_bits, value}
use Rattle.bits.specs.Parts.{bits_of}
use Rattle.fcs.specs.Fcs.{start}
use Rattle.fcs.specs.Polynomials.{plus, divisor, rest}
use Rattle.fcs.specs.Register.{fed, entry}
use Rattle.fcs.proofs.Register.{fed-cut}
use Rattle.bits.proofs.PartLaws.{length-bits_of, all-bits_of}
use Rattle.fcs.proofs.Computed.{sum-fed}
use Rattle.fcs.proofs.Table.{ruled}
use Rattle.fcs.proofs.sum_of.Goals as goal

-- The rule of the table is computed here, from the table of the source. The first bits and the bytes after them are the whole.

pub fed_bytes-requires-clause-ruled : goal.fed_bytes-requires-clause-ruled
unfolding entry rest plus divisor value to_bits
fed_bytes-requires-clause-ruled c =
    ruled _ refl refl

pub returns : goal.returns
returns c =
    let p = c.args.part in
    let s : ℕ = c.started.result in
    sum-fed (bits_of p) s c.fed_bytes.result (all-bits_of p) (c.started.ensures ∙ ap start (sym (length-bits_of p)))
    (c.fed_bytes.ensures
    ∙ ap₂ fed (c.fed_bits-crc.ensures ∙ ap (fed s) c.before-2.ensures.value) c.behind.ensures.value
    ∙ sym (fed-cut s (bits_of p) (p.len % 8) (all-bits_of p)))
