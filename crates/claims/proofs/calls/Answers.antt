use Rattle.llc_calls.proofs.Laws as Laws
use Rattle.claims.proofs.calls.Goals as goal

pub returns : goal.returns
returns c =
    record {
      in-range = Laws.in-range;
    }
