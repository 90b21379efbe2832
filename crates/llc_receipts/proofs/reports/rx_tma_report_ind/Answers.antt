use native.Mathlib.Omega.{arith}
use Rattle.std.proofs.lemmas.Bool.Decides.{nat_tests}
use Rattle.std.proofs.lemmas.Result.{err_from_is_err_and}
use Rattle.llc_receipts.proofs.Reported.{report-free, report-refused, reported}
use Rattle.llc_receipts.proofs.reports.rx_tma_report_ind.Goals as goal

pub returns-in_err-tx : goal.returns-in_err-tx
returns-in_err-tx c =
    let p = err_from_is_err_and c.from_residual.result c.from_residual.ensures.1 in
    rw (p.1, p.2) (report-free c.args.state.now c.args.receipt (rw c.receipt_place.ensures at c.receipt_if_taken.ensures) c.args.how c.in_err-tx.ensures.value)

pub returns-then-ne : goal.returns-then-ne
returns-then-ne c =
    report-refused c.args.state.now c.args.receipt (rw c.receipt_place.ensures at c.receipt_if_taken.ensures) _ c.in_ok-tx.ensures.value c.args.how
    (grind arith)

pub returns : goal.returns
returns c =
    reported c.args.state.now c.args.receipt (rw c.receipt_place.ensures at c.receipt_if_taken.ensures) _ c.in_ok-tx.ensures.value c.args.how c.mark_receipt.ensures (grind (arith, nat_tests)) (grind arith)
