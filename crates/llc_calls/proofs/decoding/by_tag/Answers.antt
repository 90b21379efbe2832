use native.Mathlib.Omega.{arith}
use Rattle.llc_rule.specs.Calls.{inner, tag_of}
use Rattle.llc_calls.proofs.Spelled.{two}
use Rattle.llc_calls.proofs.decoding.by_tag.Goals as goal

pub returns-in-33-len4 : goal.returns-in-33-len4
unfolding inner tag_of
returns-in-33-len4 c =
    let v = c.args.value.now in
    grind (arith, two v 0, two v 2)

pub returns-in-34-len5 : goal.returns-in-34-len5
unfolding inner tag_of
returns-in-34-len5 c = grind (arith, two c.args.value.now 0)
