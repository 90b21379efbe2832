use native.Mathlib.Omega.{arith}
use Rattle.llc_rule.specs.Calls.{frame_in}
use Rattle.llc_calls.specs.Decoded.{frame_of}
use Rattle.llc_calls.proofs.Filled.{filled-behind, block-behind, bits-behind}
use Rattle.llc_calls.proofs.decoding.frame.Goals as goal

pub returns : goal.returns
unfolding frame_of frame_in
returns c =
    let v = c.args.value.now in
    grind (arith, filled-behind v 14, block-behind v 14, bits-behind v 14)
