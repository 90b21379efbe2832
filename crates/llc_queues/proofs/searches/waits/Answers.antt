use Rattle.std.proofs.Common.{rules, tests, ◌≡◌}
use Rattle.std.specs.List.{list_any}
use Rattle.std.proofs.lemmas.Iterator.{YieldsList-from_slice}
use Rattle.std.proofs.lemmas.Iterator.Search.{any_from_yields_List}
use Rattle.llc_queues.specs.Queues.{waits_with, with_receipt}
use Rattle.llc_queues.proofs.Found.{waits-by, or-then, or-else}
use Rattle.llc_queues.proofs.searches.waits.Goals as goal

pub returns-then-any : goal.returns-then-any
returns-then-any c =
    let p = waits_with c.args.receipt in
    let any : c.any.result ≡ list_any p c.messages.result.now =
    any_from_yields_List p _ _ c.any.result c.any.ensures.ran (YieldsList-from_slice c.messages.result.now (cc)) (λ x b q k. search (rules, tests))
    in
    or-then _ _ (waits-by c.args.receipt c.args.state.now) (rw c.messages.ensures.part at any) c.if-any.true

pub returns-else-any : goal.returns-else-any
returns-else-any c =
    let p = waits_with c.args.receipt in
    let q = with_receipt c.args.receipt in
    let any : c.any.result ≡ list_any p c.messages.result.now =
    any_from_yields_List p _ _ c.any.result c.any.ensures.ran (YieldsList-from_slice c.messages.result.now (cc)) (λ x b r k. search (rules, tests))
    in
    let other : c.any-else-any.result ≡ list_any q c.udata.result.now =
    any_from_yields_List q _ _ c.any-else-any.result c.any-else-any.ensures.ran (YieldsList-from_slice c.udata.result.now (cc)) (λ x b r k. search (rules, tests))
    in
    or-else _ _ (waits-by c.args.receipt c.args.state.now) (rw c.messages.ensures.part at any) c.if-any.false (rw c.udata.ensures at other)
