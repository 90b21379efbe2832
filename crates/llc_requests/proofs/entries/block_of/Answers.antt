use mathlib.Core.Path.{ap₂}
use mathlib.Core.List.{◌++◌}
use lib.ListN.{length}
use Rattle.std.proofs.lemmas.List.{drop-replicate}
use Rattle.llc_calls.specs.Decoded.{request_of}
use Rattle.llc_requests.proofs.entries.block_of.Goals as goal

pub returns : goal.returns
unfolding request_of
returns c =
    ap₂ ◌++◌ c.copy_from_slice.ensures.after (drop-replicate (length c.args.q.now.block.now) 64 0)
