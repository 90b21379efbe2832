-- Text (hex_lines, record_lines).
use Rattle.std.specs.Prelude.{ℕ, ◌≤◌, ◌≡◌, List, map, ◌++◌, drop, length, take}
use Rattle.std.proofs.Math.Option.{some}
use Rattle.lists.specs.Lists.{All}
use Rattle.lists.specs.Writes.{Wrote}
use Rattle.llc_rule.specs.Records.{Record, all_bytes, bytes}
use Rattle.llc_rule.specs.Sizes.{Fits}
use Rattle.hex_lines.specs.Fed.{Fed}
use Rattle.hex_lines.specs.Lines.{Bytes, call_in, hex_of, lines_of, most_bytes}
use Rattle.hex_lines.specs.Gathering.{behind, calls, finished_of, fresh, said, scan}
use Rattle.hex_lines.specs.declared.Line.{Line}
use Rattle.record_lines.specs.Split.{in_lines, lines_of_records}

pub record Text : Type 0 where
  -- At a line's end the answer says the call that the line spells.
  pub finished-says : {cs : List ℕ} {l : Line} {bs : List ℕ} → Fed cs l bs → call_in cs ≡ said (finished_of l) bs
  -- A whole input, from its first character on.
  pub scan-reads : (bs cs : List ℕ) → most_bytes ≤ length bs → scan fresh bs cs ≡ map call_in (lines_of cs)
  -- An input in chunks: the calls of the first one, then those from what is under way behind it.
  pub scan-chunk :
      (cs : List ℕ) (l : Line) (bs ds : List ℕ)
      → scan l bs (cs ++ ds) ≡ calls l bs cs ++ scan (behind l bs cs).line (behind l bs cs).bytes ds
  -- What stands after a write up to its end, and behind it.
  pub wrote-shows : {l vs m : List ℕ} {i j : ℕ} → Wrote l i vs m j → j ≤ length l → take j m ≡ take i l ++ vs
  pub wrote-rest : {l vs m : List ℕ} {i j : ℕ} → Wrote l i vs m j → j ≤ length l → drop j m ≡ drop j l
  -- The digits of at most 2,048 bytes spell them.
  pub round_trip : (bs : List ℕ) → Bytes bs → length bs ≤ most_bytes → call_in (hex_of bs) ≡ some bs
  -- Each record comes out as one line.
  pub record-lines : (rs : List Record) → All Fits rs → lines_of_records (all_bytes rs) ≡ in_lines (map bytes rs)
