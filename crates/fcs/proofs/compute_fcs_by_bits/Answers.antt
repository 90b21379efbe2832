use mathlib.Core.Path.{◌∙◌, sym, ap}
use Rattle.bits.specs.Bits.{bits}
use Rattle.bits.specs.Parts.{bits_of}
use Rattle.fcs.specs.Fcs.{start}
use Rattle.bits.proofs.PartLaws.{length-bits_of, all-bits_of}
use Rattle.fcs.proofs.Computed.{sum-fed, computed-by}
use Rattle.fcs.proofs.compute_fcs_by_bits.Goals as goal

pub returns : goal.returns
returns c =
    let a = c.args in
    let p = c.in_ok-new.field-0 in
    let asked = c.in_ok-new.ensures in
    let m = bits_of p in
    computed-by m (bits a.part.now) a.at a.len asked.value _
    (sum-fed m c.started.result c.fed_bits.result (all-bits_of p)
    (c.started.ensures ∙ ap start (sym (length-bits_of p ∙ asked.count)))
    c.fed_bits.ensures)
