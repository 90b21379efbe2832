-- What gathering a line from a chunk of the input leaves to be read.
use Rattle.std.specs.Prelude.{ℕ, ◌-◌, ◌<◌, ◌≡◌, Option, Some, None, IfSome, List, ◌∷◌, ◌++◌, length, drop}
use Rattle.std.proofs.Math.Option as Math
use Rattle.hex_lines.specs.declared.Line.{Line}
use Rattle.hex_lines.specs.Gathering.{fresh, finished_of, said, scan}

-- The calls from a line on that has the bytes bs, with cs the characters behind the chunk: its line end has not come, or it has
-- and the rest of the chunk stands behind it.
abbrev pub scan_on : Option (List ℕ) → Line → List ℕ → List ℕ → List (Math.Option (List ℕ))
scan_on None l bs cs = scan l bs cs
scan_on (Some rest) l bs cs = said (finished_of l) bs ∷ scan fresh bs (rest ++ cs)

-- The chunk's characters, up to a line end and without the rest behind it, which is the chunk's end, were fed to the line l with the
-- bytes bs, and no call was lost or added: the line m with the bytes cs gives the same calls with that rest, whatever follows the chunk.
pub record Gathers (chunk : List ℕ) (l : Line) (bs : List ℕ) (m : Line) (cs : List ℕ) (rest : Option (List ℕ)) : Type 0 where
  pub shorter : IfSome rest (λ r. length r < length chunk)
  pub behind : IfSome rest (λ r. r ≡ drop (length chunk - length r) chunk)
  pub same : (ds : List ℕ) → scan l bs (chunk ++ ds) ≡ scan_on rest m cs ds
