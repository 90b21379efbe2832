use native.Mathlib.Omega.{arith}
use Rattle.std.proofs.lemmas.Bool.Decides.{nat_tests}
use Rattle.std.proofs.lemmas.Result.{err_from_is_err_and}
use Rattle.llc_calls.proofs.Filled.{no-bits, by-spare}
use Rattle.llc_calls.proofs.decoding.parts.Goals as goal

pub returns-in_err-filled-clause-filled : goal.returns-in_err-filled-clause-filled
returns-in_err-filled-clause-filled c =
    let b = c.args.bytes.now in
    let p = err_from_is_err_and c.from_residual-in_err-filled.result c.from_residual-in_err-filled.ensures.1 in
    let e = c.in_err-filled.ensures in
    rw (p.1, p.2) (e.0, grind (arith, nat_tests, no-bits b))

pub returns-in_err-filled-2-clause-filled : goal.returns-in_err-filled-2-clause-filled
returns-in_err-filled-2-clause-filled c =
    let b = c.args.bytes.now in
    let p = err_from_is_err_and c.from_residual-in_err-filled-2.result c.from_residual-in_err-filled-2.ensures.1 in
    let e = c.in_err-filled-2.ensures in
    rw (p.1, p.2) (e.0, grind (arith, nat_tests, by-spare b))
