-- Laws of gathering a line from a chunk, and of its end.
use Prim.Native.Nat.{ℕ, ◌+◌, ◌-◌, ◌≤◌, ◌<◌}
use native.Mathlib.Numerals.{add-one}
use native.Mathlib.Omega.{arith}
use mathlib.Core.Path.{◌≡◌, ◌∙◌, sym, ap}
use mathlib.Core.Logic.{◌≢◌}
use mathlib.Core.List.{List, ◌∷◌, ◌++◌}
use borrow.Author.Tests.{eq-eqb, ne_eqb}
use lib.ListN.{length, get_or, take, drop, length-drop}
use lib.Seq.{drop-cons}
use Rattle.std.proofs.lemmas.List.{take_rest}
use Rattle.hex_lines.specs.declared.Line.{Line}
use Rattle.questions.specs.declared.Refusal.{Refusal}
use Rattle.std.specs.Prelude.{Result, Ok, Some}
use Rattle.hex_lines.specs.Lines.{most_bytes, line_end}
use Rattle.hex_lines.specs.Gathering.{gathered, feed_of, finished_of, call_length, scan}
use Rattle.hex_lines.proofs.Feeding.{finished-few}
use Rattle.hex_lines.specs.Reading.{Gathers}

-- The chunk's characters up to i are fed: the line and its bytes give what is left to read.
pub record Under (chunk : List ℕ) (l₀ : Line) (bs₀ : List ℕ) (l : Line) (bs : List ℕ) (i : ℕ) : Type 0 where
  pub same : (ds : List ℕ) → scan l₀ bs₀ (chunk ++ ds) ≡ scan l bs (drop i chunk ++ ds)

drop-first : (l : List ℕ) (i : ℕ) → i < length l → drop i l ≡ get_or l i 0 ∷ drop (i + 1) l
drop-first l i h = rw (add-one i) (drop-cons l i 0 h)

-- One character more, or the line end.
pub one_more :
    {chunk : List ℕ} {l₀ : Line} {bs₀ : List ℕ} {l : Line} {bs : List ℕ} {i : ℕ} {m : Line} {cs : List ℕ}
    → Under chunk l₀ bs₀ l bs i
    → i < length chunk
    → get_or chunk i 0 ≢ line_end
    → gathered m cs ≡ feed_of l bs (get_or chunk i 0)
    → Under chunk l₀ bs₀ m cs (i + 1)
unfolding scan
one_more {chunk} {l₀} {bs₀} {l} {bs} {i} {m} {cs} u h n e =
    record { same = λ ds. u.same ds ∙ rw (drop-first chunk i h, ne_eqb (get_or chunk i 0) line_end n, ← e) }

pub line_ended :
    {chunk : List ℕ} {l₀ : Line} {bs₀ : List ℕ} {l : Line} {bs : List ℕ} {i : ℕ}
    → Under chunk l₀ bs₀ l bs i
    → i < length chunk
    → get_or chunk i 0 ≡ line_end
    → Gathers chunk l₀ bs₀ l bs (Some (take (length chunk - (i + 1)) (drop (i + 1) chunk)))
unfolding scan
line_ended {chunk} {l₀} {bs₀} {l} {bs} {i} u h e =
    rw (take_rest chunk (i + 1)) record {
      shorter = omega (arith, length-drop (i + 1) chunk);
      behind = ap (λ (k : ℕ). drop k chunk) (omega (arith, length-drop (i + 1) chunk));
      same = λ ds. u.same ds ∙ rw (drop-first chunk i h, eq-eqb (get_or chunk i 0) line_end e);
    }

-- A call has at most 2,048 bytes.
pub few_bytes : (l : Line) {r : Result ℕ Refusal} {n : ℕ} → r ≡ finished_of l → r ≡ Ok n → n ≤ most_bytes
few_bytes l {r} {n} e f =
    let k : call_length (finished_of l) ≡ n = ap call_length (sym e ∙ f) in
    omega (arith, finished-few l)
