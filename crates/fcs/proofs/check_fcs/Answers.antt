use mathlib.Core.Path.{◌∙◌, sym, ap}
use borrow.Author.Tests.{eq-eqb, ne_eqb}
use Rattle.bits.specs.Bits.{value, bits}
use Rattle.bits.specs.Parts.{bits_of}
use Rattle.fcs.specs.Fcs.{fcs}
use Rattle.fcs.proofs.Computed.{compared}
use Rattle.fcs.proofs.check_fcs.Goals as goal

pub returns-then-sum_of-word_of : goal.returns-then-sum_of-word_of
returns-then-sum_of-word_of c =
    let a = c.args in
    let s = c.sum_of in
    let w = c.word_of in
    sym
    (compared (bits_of c.in_ok-part.part) (bits a.part.now) a.at a.len c.in_ok-part.ensures.value s.result w.result c.if-len-lt-FCS_BITS.false
    (s.ensures ∙ ap (λ m. value (fcs m)) c.before-2.ensures.value)
    (w.ensures ∙ ap value c.behind.ensures.value)
    ∙ rw (ne_eqb s.result w.result c.if-sum_of-word_of.true))

pub returns : goal.returns
returns c =
    let a = c.args in
    let s = c.sum_of in
    let w = c.word_of in
    sym
    (compared (bits_of c.in_ok-part.part) (bits a.part.now) a.at a.len c.in_ok-part.ensures.value s.result w.result c.if-len-lt-FCS_BITS.false
    (s.ensures ∙ ap (λ m. value (fcs m)) c.before-2.ensures.value)
    (w.ensures ∙ ap value c.behind.ensures.value)
    ∙ rw (eq-eqb s.result w.result c.if-sum_of-word_of.false))
