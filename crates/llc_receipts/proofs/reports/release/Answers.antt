use Rattle.std.proofs.lemmas.Result.{err_from_is_err_and}
use native.Mathlib.Omega.{arith}
use Rattle.llc_receipts.proofs.Reported.{release-free, release-refused, released}
use Rattle.llc_receipts.proofs.reports.release.Goals as goal

pub returns-in_err-tx : goal.returns-in_err-tx
returns-in_err-tx c =
    let p = err_from_is_err_and c.from_residual.result c.from_residual.ensures.1 in
    rw (p.1, p.2) (release-free c.args.state.now c.args.receipt (rw c.receipt_place.ensures at c.receipt_if_taken.ensures) c.in_err-tx.ensures.value)

pub returns-then-not-is_in_final_state : goal.returns-then-not-is_in_final_state
returns-then-not-is_in_final_state c =
    release-refused c.args.state.now c.args.receipt (rw c.receipt_place.ensures at c.receipt_if_taken.ensures) _ c.in_ok-tx.ensures.value
    (grind arith)

pub returns : goal.returns
returns c =
    released c.args.state.now c.args.receipt (rw c.receipt_place.ensures at c.receipt_if_taken.ensures) _ c.in_ok-tx.ensures.value (cc) (grind arith)
