use Rattle.lists.proofs.Writes.{◌⨾◌}
use Rattle.hex_lines.specs.Lines.{hex_of}
use Rattle.hex_lines.proofs.writing.put_hex.Goals as goal

pub returns : goal.returns
unfolding hex_of
returns c = rw (← c.hex_digit.ensures, ← c.hex_digit-2.ensures) (c.put-p.ensures ⨾ c.put.ensures)
