use Prim.Native.Nat.{ℕ}
use mathlib.Core.Path.{◌∙◌}
use lib.Dec.{eqb}
use Rattle.std.proofs.Common.{rules, tests}
use Rattle.std.specs.Prelude.{reverse}
use Rattle.std.proofs.lemmas.Iterator.Adapters.{YieldsList-from_rev_slice}
use Rattle.std.proofs.lemmas.Iterator.Search.{any_from_yields_List}
use Rattle.lists.proofs.Std.{any-list}
use Rattle.llc_tick_end.proofs.free_messages.has_ssi.Goals as goal

pub returns : goal.returns
returns c =
    let p = λ (x : ℕ). eqb x c.args.ssi in
    any_from_yields_List p _ _ c.any.result c.any.ensures.ran (YieldsList-from_rev_slice c.args.ssis.now (cc)) (λ x b q k. search (rules, tests))
    ∙ any-list p (reverse c.args.ssis.now)
