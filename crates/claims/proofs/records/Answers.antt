use Rattle.lists.proofs.Writes as Writes
use Rattle.claims.proofs.records.Goals as goal

pub returns : goal.returns
returns c =
    record {
      write-is = Writes.write-is;
    }
