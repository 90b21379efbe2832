-- What each function on a line does: the line's state and the bytes after one more character, and what is said at its end.
use Rattle.std.specs.Prelude.{ℕ, ◌+◌, ◌*◌, ◌/◌, ◌%◌, Bool, true, false, cond, ◌||◌, List, [], ◌∷◌, ltb, eqb, length, get_or, set, take, Result, Ok, Err}
use Rattle.questions.specs.declared.Refusal.{Refusal}
use Rattle.std.proofs.Math.Option.{Option, none, some}
use Rattle.hex_lines.specs.Lines.{most, line_end, digit}
use Rattle.hex_lines.specs.declared.Line.{Line}

-- A line under way and the bytes gathered.
pub record Gathered : Type 0 where
  pub line : Line
  pub bytes : List ℕ

abbrev pub gathered : Line → List ℕ → Gathered
gathered l bs = record { line = l; bytes = bs }

-- A line of which no character has come.
abbrev pub fresh : Line
fresh = record { digits = 0; bad = false }

abbrev pub spoiled : Line → Line
spoiled l = record { digits = l.digits; bad = true }

abbrev pub longer : Line → Line
longer l = record { digits = l.digits + 1; bad = l.bad }

-- A digit of value v pushed into byte k from the right.
abbrev pub pushed : List ℕ → ℕ → ℕ → List ℕ
pushed bs k v = set bs k (get_or bs k 0 % 16 * 16 + v)

-- One more digit of value v; a character that is no digit, a 4,097th digit and one for which there is no byte spoil the line.
unfoldable pub feed_value : Line → List ℕ → Option ℕ → Gathered
feed_value l bs none = gathered (spoiled l) bs
feed_value l bs (some v) =
    cond (ltb l.digits most)
    (cond (ltb (l.digits / 2) (length bs))
    (gathered (longer l) (pushed bs (l.digits / 2) v))
    (gathered (spoiled l) bs))
    (gathered (spoiled l) bs)

-- One more character.
abbrev pub feed_of : Line → List ℕ → ℕ → Gathered
feed_of l bs c = feed_value l bs (digit c)

-- Has a character come?
unfoldable pub begun_of : Line → Bool
begun_of l = ltb 0 l.digits || l.bad

abbrev pub odd : ℕ → Bool
odd n = eqb (n % 2) 1

-- At a line's end: how many bytes its call has, or that it is none.
unfoldable pub finished_of : Line → Result ℕ Refusal
finished_of l = cond (l.bad || ltb most l.digits || odd l.digits) (Err Refusal.Unfilled) (Ok (l.digits / 2))

-- The call that an answer says, of the bytes gathered.
abbrev pub said : Result ℕ Refusal → List ℕ → Option (List ℕ)
said (Ok n) bs = some (take n bs)
said (Err r) bs = none

-- The number of bytes that it is said to have.
abbrev pub call_length : Result ℕ Refusal → ℕ
call_length (Ok n) = n
call_length (Err r) = 0

-- The characters of an input one by one, from a line under way on: the calls of the lines, each said at its end;
-- a last line without a line end counts if it has begun.
unfoldable pub scan : Line → List ℕ → List ℕ → List (Option (List ℕ))
scan l bs [] = cond (begun_of l) (said (finished_of l) bs ∷ []) []
scan l bs (c ∷ cs) =
    cond (eqb c line_end)
    (said (finished_of l) bs ∷ scan fresh bs cs)
    (scan (feed_of l bs c).line (feed_of l bs c).bytes cs)

-- A chunk of the input: the calls of the lines that end in it, and what is under way behind it.
unfoldable pub calls : Line → List ℕ → List ℕ → List (Option (List ℕ))
calls l bs [] = []
calls l bs (c ∷ cs) =
    cond (eqb c line_end)
    (said (finished_of l) bs ∷ calls fresh bs cs)
    (calls (feed_of l bs c).line (feed_of l bs c).bytes cs)

unfoldable pub behind : Line → List ℕ → List ℕ → Gathered
behind l bs [] = gathered l bs
behind l bs (c ∷ cs) =
    cond (eqb c line_end)
    (behind fresh bs cs)
    (behind (feed_of l bs c).line (feed_of l bs c).bytes cs)
