use Prim.Native.Nat.{ℕ, ◌+◌}
use mathlib.Core.Path.{◌∙◌, sym, ap}
use lib.ListN.{length}
use Rattle.bits.specs.Bits.{to_bits, bits, splice}
use Rattle.bits.specs.Parts.{bits_of}
use Rattle.fcs.specs.Fcs.{fcs_bits}
use Rattle.llc_pdus.specs.Headers.{header}
use Rattle.llc_pdus.proofs.Summing.{none-put, sum-put}
use Rattle.llc_pdus.proofs.Pdu.put_check.Goals as goal

pub returns-then-has_fcs : goal.returns-then-has_fcs
returns-then-has_fcs c =
    let p = c.args.self in
    let s = c.args.sdu in
    let l = bits c.args.out.now in
    let sum : ℕ = c.sum_of.result in
    c.put_sum.ensures
    ∙ ap (λ (k : ℕ). splice l (k + s.len) (to_bits fcs_bits sum)) c.header_len.ensures
    ∙ sum-put p l (length (header p) + s.len) sum (bits_of s) (sym c.if-has_fcs.ensures) c.sum_of.ensures

pub returns-else-has_fcs : goal.returns-else-has_fcs
returns-else-has_fcs c =
    let p = c.args.self in
    let s = c.args.sdu in
    none-put p (bits c.args.out.now) (length (header p) + s.len) (bits_of s) (sym c.if-has_fcs.ensures)
