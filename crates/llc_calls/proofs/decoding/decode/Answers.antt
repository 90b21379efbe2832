use mathlib.Core.Path.{sym}
use Rattle.std.proofs.lemmas.List.{take_rest}
use Rattle.llc_rule.specs.Calls.{parsed}
use Rattle.llc_calls.proofs.Filled.{by-outer}
use Rattle.llc_calls.proofs.decoding.decode.Goals as goal

pub returns : goal.returns
unfolding parsed
returns c =
    let b = c.args.bytes.now in
    rw (by-outer b c.in-len3-up.len_at_least, sym c.from_be_bytes.ensures, sym (take_rest b 3), c.in_ok-filled.ensures)
    c.by_tag.ensures
