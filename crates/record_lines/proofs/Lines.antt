-- Records written as lines, one behind the other.
use Prim.Native.Nat.{ℕ, ◌+◌, ◌*◌, ◌≤◌}
use native.Mathlib.Omega.{arith}
use mathlib.Core.Path.{◌≡◌, ◌∙◌, refl, sym, ap}
use mathlib.Core.List.{List, [], ◌∷◌, ◌++◌, append_assoc, append-nil}
use lib.ListN.{length, take, drop, length-drop}
use lib.Seq.{length-take-le}
use Rattle.lists.specs.Writes.{Wrote}
use Rattle.lists.proofs.Writes.{◌⨾◌, wrote_none}
use Rattle.hex_lines.specs.Lines.{line_end, hex_of}
use Rattle.hex_lines.proofs.Writes.{line-length}
use Rattle.record_lines.specs.Split.{split, in_lines, lines_of_records}
use Rattle.record_lines.specs.Ends.{Ends}

-- The lines of some of the records are written, vs, and those of the rest are left.
pub record Written (l : List ℕ) (at : ℕ) (records : List ℕ) (m rest : List ℕ) (p : ℕ) : Type 0 where
  pub room : p + 3 * length rest ≤ at + 3 * length records
  pub vs : List ℕ
  pub wrote : Wrote l at vs m p
  pub left : lines_of_records records ≡ vs ++ lines_of_records rest

pub none_yet : (l : List ℕ) (at : ℕ) (records : List ℕ) → Written l at records l records at
none_yet l at records = record { room = omega arith; vs = []; wrote = wrote_none l at; left = refl }

pub one_more :
    {l : List ℕ} {at : ℕ} {records m k rest line behind : List ℕ} {p e q : ℕ}
    → Written l at records m rest p
    → Ends rest e
    → line ≡ take e rest
    → behind ≡ drop e rest
    → Wrote m p (hex_of line ++ (line_end ∷ [])) k q
    → Written l at records k behind q
unfolding in_lines
one_more {l} {at} {records} {m} {k} {rest} {line} {behind} {p} {e} {q} w d f b v =
    let text : List ℕ = hex_of (take e rest) ++ (line_end ∷ []) in
    let front : length (take e rest) ≡ e = length-take-le e rest d.within in
    let u : Wrote m p text k q = rw f at v in
    record {
      room = rw b (omega (arith, w.room, u.next, line-length (take e rest), length-drop e rest, d.later, d.within));
      vs = w.vs ++ text;
      wrote = w.wrote ⨾ u;
      left =
          w.left
          ∙ ap (λ (rs : List (List ℕ)). w.vs ++ in_lines rs) d.cuts
          ∙ rw b (sym (append_assoc w.vs text (lines_of_records (drop e rest))));
    }

pub all-written :
    {l : List ℕ} {at : ℕ} {records m rest : List ℕ} {p : ℕ}
    → Written l at records m rest p
    → length rest ≡ 0
    → Wrote l at (lines_of_records records) m p
unfolding in_lines split
all-written {rest = []} w e = let whole = w.left ∙ append-nil w.vs in rw whole w.wrote
all-written {rest = b ∷ bs} w e = absurd (omega arith)
