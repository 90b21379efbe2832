use Rattle.lists.proofs.Writes.{same_bytes}
use Rattle.llc_records.proofs.Parts.{ack-set, ack-clear}
use Rattle.llc_records.proofs.fields.put_ack.Goals.{then-nr, else-nr}
use Rattle.llc_records.proofs.fields.put_ack.Goals as goal

pub returns : goal.returns
returns c =
    elim c.if-nr.branch [
      | then-nr w ↦ same_bytes (ack-set c.args.nr w.if-nr.true) (rw w.put_number-is at c.put_number.ensures)
      | else-nr w ↦ same_bytes (ack-clear c.args.nr w.if-nr.false) (rw w.put_number-is at c.put_number.ensures)
    ]
