use Rattle.std.proofs.Common.{rules, tests, ◌≡◌}
use Rattle.std.proofs.Common.{position as found_at}
use Rattle.std.proofs.lemmas.Iterator.{YieldsList-from_slice}
use Rattle.std.proofs.lemmas.Iterator.Search.{position_from_yields_List}
use Rattle.lists.proofs.Std.{position-list}
use Rattle.llc_queues.specs.Queues.{ack_on}
use Rattle.llc_queues.proofs.searches.out_ack_if_any.Goals as goal

pub returns-clause-place : goal.returns-clause-place
returns-clause-place c =
    let p = ack_on c.args.ssi c.args.carrier_num in
    let found : c.position.result ≡ found_at p c.acks.result.now =
    position_from_yields_List p _ _ c.position.result c.position.ensures.ran (YieldsList-from_slice c.acks.result.now (cc)) (λ x b q k. search (rules, tests))
    in
    rw (found, position-list p c.args.state.now.n_acks c.acks.result.now c.acks.ensures.count, c.acks.ensures.part)
