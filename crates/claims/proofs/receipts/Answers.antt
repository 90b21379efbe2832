use Rattle.tx_receipt.proofs.Laws as Laws
use Rattle.claims.proofs.receipts.Goals as goal

pub returns : goal.returns
returns c =
    record {
      numbered-number = Laws.numbered-number;
      made = Laws.made;
      refused = Laws.refused;
      made-by-number = Laws.made-by-number;
      final-is-last = Laws.final-is-last;
    }
