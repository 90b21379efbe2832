use mathlib.Core.Path.{◌∙◌, ap₂}
use Rattle.std.proofs.Common.{rules, tests, ◌++◌}
use Rattle.std.specs.List.{list_any}
use Rattle.std.proofs.lemmas.Iterator.{YieldsList-from_slice}
use Rattle.std.proofs.lemmas.Iterator.Consumers.{YieldsList-from_chain}
use Rattle.std.proofs.lemmas.Iterator.Search.{any_from_yields_List}
use Rattle.llc_queues.specs.Queues.{with_receipt}
use Rattle.llc_queues.proofs.Found.{held-by}
use Rattle.llc_queues.proofs.searches.holds.Goals as goal

pub returns : goal.returns
returns c =
    let p = with_receipt c.args.receipt in
    any_from_yields_List p _ _ c.any.result c.any.ensures.ran
    (YieldsList-from_chain (YieldsList-from_slice c.messages.result.now (cc)) (YieldsList-from_slice c.udata.result.now (cc)) (cc) (cc))
    (λ x b q k. search (rules, tests))
    ∙ ap₂ (λ l m. list_any p (l ++ m)) c.messages.ensures.part c.udata.ensures
    ∙ held-by c.args.receipt c.args.state.now
