-- What an address sees of a run, beside what the one-address rule gives on its past.
use Rattle.std.specs.Prelude.{ℕ, ◌≡◌, Bool, not, List, [], ◌∷◌, map, length}
use Rattle.lists.specs.Lists.{keep, all, among}
use Rattle.tx_receipt.specs.States.{is}
use Rattle.tx_receipt.specs.Marks as Marks
use Rattle.tx_receipt.specs.Marks.{allowed}
use Rattle.tx_receipt.specs.declared.TxState.TheVariants.{Transmitted}
use Rattle.llc_rule.specs.Messages.{Message, Place, place_at, taken?}
use Rattle.llc_rule.specs.Rule.{Own, at_outset, rule}
use Rattle.llc_rule.specs.Runs.{Exchange, exchange, left}
use Rattle.llc_rule.specs.Past.{past, strays, holders_after, Sight, sight, held_by, taken_from}

-- What the rule answers to a list of calls: an exchange for each, what is seen of it, and what the rule keeps after them.
unfoldable pub rule_run : Own → List (List ℕ) → List Exchange
rule_run o [] = []
rule_run o (c ∷ cs) = exchange c (rule o c) ∷ rule_run (left o (rule o c)) cs

unfoldable pub rule_sights : Own → List (List ℕ) → List Sight
rule_sights o cs = map (λ (e : Exchange). record { number = e.number; records = e.records }) (rule_run o cs)

unfoldable pub rule_after : Own → List (List ℕ) → Own
rule_after o [] = o
rule_after o (c ∷ cs) = rule_after (left o (rule o c)) cs

-- The calls of some exchanges, what the rule answers to those of an address's past, and what it keeps after them.
abbrev pub calls : List Exchange → List (List ℕ)
calls es = map (λ (e : Exchange). e.call) es

abbrev pub ruled : ℕ → List Exchange → List Exchange
ruled a es = rule_run at_outset (calls (past a es))

abbrev pub kept_by_rule : ℕ → List Exchange → Own
kept_by_rule a es = rule_after at_outset (calls (past a es))

-- Was no call refused for a taken receipt (6) or a full table (7, 8, 13)?
abbrev pub hindrances : List ℕ
hindrances = 6 ∷ 7 ∷ 8 ∷ 13 ∷ []

unfoldable pub unhindered : List Exchange → Bool
unhindered es = all (λ (e : Exchange). not (among e.number hindrances)) es

-- What demand 3 says of an address a, by the exchanges of a run and the receipts that it leaves.
pub record SeesItsOwnPast (es : List Exchange) (ps : List Place) (a : ℕ) : Type 0 where
  -- Each call of its past gave the number and the records that the rule gives.
  pub seen : map (sight a) (past a es) ≡ rule_sights at_outset (calls (past a es))
  -- It holds the receipts that the rule keeps, with their marks.
  pub receipts : held_by a (holders_after es) 0 ps ≡ taken_from 0 (kept_by_rule a es).receipts
  -- "No other call gives a record with its SSI."
  pub alone : strays a es ≡ []

-- What an address a sees of one run, it sees of another.
pub record SeesTheSame (a : ℕ) (es : List Exchange) (ps : List Place) (fs : List Exchange) (qs : List Place) : Type 0 where
  pub same_calls : calls (past a es) ≡ calls (past a fs)
  pub same_sights : map (sight a) (past a es) ≡ map (sight a) (past a fs)
  pub same_receipts : held_by a (holders_after es) 0 ps ≡ held_by a (holders_after fs) 0 qs

-- How many of some messages are under way.
abbrev pub count_under_way : List Message → ℕ
count_under_way ms = length (keep (λ (m : Message). m.submitted) ms)

-- "14. If N(R) would finish a message, is its receipt Transmitted?" and "Transmitted becomes Lost": the two marks are allowed
-- exactly there.
pub record MarkedWhereTransmitted (ps : List Place) (m : Message) : Type 0 where
  pub acknowledged :
      taken? (allowed Marks.acknowledged) (place_at ps m.sent.receipt) ≡ taken? (is Transmitted) (place_at ps m.sent.receipt)
  pub lost : taken? (allowed Marks.lost) (place_at ps m.sent.receipt) ≡ taken? (is Transmitted) (place_at ps m.sent.receipt)
