use Rattle.bits.proofs.Laws as Laws
use Rattle.bits.proofs.ByBits as ByBits
use Rattle.claims.proofs.bits.Goals as goal

pub returns : goal.returns
returns c =
    record {
      value-to_bits = Laws.value-to_bits;
      to_bits-value = Laws.to_bits-value;
      bytes-by-bits = ByBits.bytes-by-bits;
    }
