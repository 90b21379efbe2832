-- What of a run is more than number 1.
use Rattle.std.specs.Prelude.{ℕ, Bool, cond, not, List, [], map, eqb, leb, length}
use Rattle.lists.specs.Lists.{keep}
use Rattle.llc_rule.specs.Limits.{output_bytes, store_bytes}
use Rattle.llc_rule.specs.Runs.{Exchange}
use Rattle.llc_runs.specs.Runs.{Lent}

-- The exchanges whose number is another than 1.
abbrev pub was_heard : Exchange → Bool
was_heard e = not (eqb e.number 1)

abbrev pub heard_of : List Exchange → List Exchange
heard_of es = keep was_heard es

-- The calls that are lent an output as long as it must be; on a store of its length these are put to the link, on another none.
abbrev pub lent_enough : Lent → Bool
lent_enough c = leb output_bytes (length c.out)

abbrev pub fitting : List Lent → List (List ℕ)
fitting cs = map (λ (c : Lent). c.call) (keep lent_enough cs)

abbrev pub put_to : List ℕ → List Lent → List (List ℕ)
put_to store cs = cond (eqb (length store) store_bytes) (fitting cs) []
