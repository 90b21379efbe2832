use Rattle.llc_pdus.proofs.Laws as Laws
use Rattle.llc_pdus.proofs.Framing as Framing
use Rattle.llc_pdus.proofs.Holding as Holding
use Rattle.llc_pdus.proofs.RoundTrip as RoundTrip
use Rattle.llc_pdus.proofs.CheckBits as CheckBits
use Rattle.llc_pdus.proofs.HandedBack as HandedBack
use Rattle.claims.proofs.pdus.Goals as goal

pub returns : goal.returns
returns c =
    record {
      header-reads = Laws.header-reads;
      reading-header = Laws.reading-header;
      from-raw = Laws.from-raw;
      raw-bits = Laws.raw-bits;
      header-type = Laws.header-type;
      header-ends = Laws.header-ends;
      held-bits = Holding.held-bits;
      reads-back = RoundTrip.reads-back;
      sdu-back = RoundTrip.sdu-back;
      received-back = CheckBits.received-back;
      length-frame = Framing.length-frame;
      frame-received = CheckBits.frame-received;
      received-frame = CheckBits.received-frame;
      held-sdu = HandedBack.held-sdu;
    }
