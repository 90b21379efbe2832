use Rattle.std.proofs.Common.{of_calls}
use mathlib.Core.Path.{refl}
use denote.Param.Members.{Called, step_stays_lem}
use Rattle.std.proofs.lemmas.Iterator.{YieldsList-from_slice}
use Rattle.std.proofs.lemmas.Iterator.Search.{all_from_yields_List}
use Rattle.llc_state.proofs.ranges.all_of.Goals as goal

pub returns : goal.returns
returns g c =
    all_from_yields_List g.test _ _ c.all.result c.all.ensures.ran (YieldsList-from_slice c.args.elements.now cc)
    (λ x b q k.
    let h : Called g.F.Fn c.args.passes (x, tt) b q = record { met = k.met } in
    (search (of_calls, step_stays_lem), c.requires.1.1.1 x.now b (record { shown = x; shows = refl; says = record { met = search of_calls } })))
