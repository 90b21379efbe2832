use Rattle.fcs.proofs.Remainder as Remainder
use Rattle.fcs.proofs.Laws as Laws
use Rattle.fcs.proofs.Table as Table
use Rattle.claims.proofs.check_sequence.Goals as goal

pub returns : goal.returns
returns c =
    record {
      remainder = Remainder.remainder;
      only-remainder = Remainder.only-remainder;
      fcs-divided = Remainder.fcs-divided;
      length-fcs = Laws.length-fcs;
      ruled = Table.ruled;
    }
