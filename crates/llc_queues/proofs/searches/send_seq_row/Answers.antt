use Rattle.std.proofs.Common.{rules, tests, ◌≡◌}
use Rattle.std.proofs.Common.{position as found_at}
use Rattle.std.proofs.lemmas.Iterator.{YieldsList-from_slice}
use Rattle.std.proofs.lemmas.Iterator.Search.{position_from_yields_List}
use Rattle.lists.proofs.Std.{position-list}
use Rattle.llc_steps.specs.Calls.{row_of}
use Rattle.llc_queues.proofs.Found.{or-count}
use Rattle.llc_queues.proofs.searches.send_seq_row.Goals as goal

pub returns-clause-place : goal.returns-clause-place
returns-clause-place c =
    let p = row_of c.args.ssi in
    let n = c.args.state.now.n_rows in
    let rows = c.rows.result.now in
    let found : c.position.result ≡ found_at p rows =
    position_from_yields_List p _ _ c.position.result c.position.ensures.ran (YieldsList-from_slice rows (cc)) (λ x b q k. search (rules, tests))
    in
    rw (c.unwrap_or.ensures, found, or-count n (found_at p rows), position-list p n rows c.rows.ensures.count, c.rows.ensures.part)
