use Rattle.lists.proofs.Writes as Writes
use Rattle.hex_lines.proofs.Feeding as Feeding
use Rattle.hex_lines.proofs.Splitting as Splitting
use Rattle.hex_lines.proofs.RoundTrip as RoundTrip
use Rattle.record_lines.proofs.Records as RecordLines
use Rattle.claims.proofs.text.Goals as goal

pub returns : goal.returns
returns c =
    record {
      finished-says = Feeding.finished-says;
      scan-reads = Splitting.scan-reads;
      scan-chunk = Splitting.scan-chunk;
      wrote-shows = Writes.wrote-shows;
      wrote-rest = Writes.wrote-rest;
      round_trip = RoundTrip.round_trip;
      record-lines = RecordLines.record-lines;
    }
