use native.Mathlib.Omega.{arith}
use Rattle.llc_rule.specs.Calls.{request_in}
use Rattle.llc_calls.specs.Decoded.{request_of}
use Rattle.llc_calls.proofs.Filled.{filled-behind, block-behind, bits-behind}
use Rattle.llc_calls.proofs.decoding.request.Goals as goal

pub returns : goal.returns
unfolding request_of request_in
returns c =
    let v = c.args.value.now in
    grind (arith, filled-behind v 22, block-behind v 22, bits-behind v 22)
