use Rattle.llc_queues.proofs.Found.{row-within, row-below, row-beyond}
use Rattle.llc_queues.proofs.searches.send_seq_row_or_free.Goals as goal

pub returns-then-row-ge256-clause-place : goal.returns-then-row-ge256-clause-place
returns-then-row-ge256-clause-place c =
    let row = c.send_seq_row-row.ensures in
    row-beyond c.args.ssi c.args.state.now c.requires row.count row.place c.if-row-ge256.true

pub returns-clause-place : goal.returns-clause-place
returns-clause-place c =
    let row = c.send_seq_row-row.ensures in
    row-below c.args.ssi c.args.state.now c.requires row.count row.place c.if-row-ge256.false

pub returns-clause-bound : goal.returns-clause-bound
returns-clause-bound c =
    let row = c.send_seq_row-row.ensures in
    (row-within c.args.ssi c.args.state.now c.requires row.count row.place, c.if-row-ge256.false)
