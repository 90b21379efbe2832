-- What is claimed of every run, of the link as lists and of the entry point: for every list of calls, if none was refused for a
-- taken receipt or a full table (6, 7, 8, 13), each address has seen exactly what the one-address rule gives on its past alone;
-- what follows from that rule; and what holds whatever was refused.
use Rattle.std.specs.Prelude.{ℕ, ◌≤◌, ◌≡◌, true, false, List, [], ◌∷◌, ◌++◌, map, eqb}
use Rattle.lists.specs.Lists.{All}
use Rattle.llc_rule.specs.Messages.{Message, Place}
use Rattle.llc_rule.specs.Runs.{Exchange}
use Rattle.llc_rule.specs.Past.{Whose, belongs_to, whose, holders_after}
use Rattle.llc_rule.specs.Seen.{calls, unhindered, ruled, kept_by_rule, SeesItsOwnPast, SeesTheSame, count_under_way, MarkedWhereTransmitted}
use Rattle.llc_rule.specs.Sendings.{EachAtMostFour}
use Rattle.llc_rule.specs.Lost.{LostAfterFour, StaysSettled}
use Rattle.llc_rule.specs.Sound.{of_address}
use Rattle.llc_rule.specs.ReadBack.{AllReadBack}
use Rattle.llc_rule.specs.Repeats.{RepeatsStop}
use Rattle.llc_rule.specs.Texts.{TextsGoUp}

-- Whose a call is after the exchanges of other calls.
abbrev pub whose_after : List Exchange → List ℕ → Whose
whose_after es c = whose (holders_after es) c

-- Of something that is put lists of calls, of a kind C with their bytes: its exchanges, and the receipts and the acknowledged
-- messages that it holds after them.
pub record Claims
    {C : Type 0} (bytes : C → List ℕ) (run : List C → List Exchange) (receipts : List C → List Place)
    (messages : List C → List Message)
    : Type 0 where
  -- Each call has its exchange.
  pub calls : (cs : List C) → calls (run cs) ≡ map bytes cs
  -- Demand 3.
  pub demand3 : (cs : List C) → unhindered (run cs) ≡ true → (a : ℕ) → SeesItsOwnPast (run cs) (receipts cs) a
  -- "So two neighbouring calls about different addresses, neither of them a tick or a start, may change places, if that makes no
  -- such refusal, and no address sees a difference."
  pub swap :
      (before : List C) (c d : C) (later : List C) (s t : ℕ)
      → whose_after (run before) (bytes c) ≡ belongs_to s
      → whose_after (run (before ++ (c ∷ []))) (bytes d) ≡ belongs_to t
      → eqb s t ≡ false
      → unhindered (run (before ++ (c ∷ d ∷ later))) ≡ true
      → unhindered (run (before ++ (d ∷ c ∷ later))) ≡ true
      → (a : ℕ)
      → SeesTheSame a
      (run (before ++ (c ∷ d ∷ later)))
      (receipts (before ++ (c ∷ d ∷ later)))
      (run (before ++ (d ∷ c ∷ later)))
      (receipts (before ++ (d ∷ c ∷ later)))
  -- "By that rule an address has at most one acknowledged message under way": by the rule on its past, and of those that are held,
  -- whatever was refused.
  pub one_under_way : (cs : List C) → unhindered (run cs) ≡ true → (a : ℕ) → count_under_way (kept_by_rule a (run cs)).acknowledged ≤ 1
  pub one_among_held : (cs : List C) (a : ℕ) → count_under_way (of_address a (messages cs)) ≤ 1
  -- "14. If N(R) would finish a message, is its receipt Transmitted?" and "Transmitted becomes Lost": of an acknowledged message
  -- that is held the two marks are allowed exactly there, and by the rule on a past.
  pub where_transmitted : (cs : List C) → All (MarkedWhereTransmitted (receipts cs)) (messages cs)
  pub where_transmitted_by_rule :
      (cs : List C)
      → unhindered (run cs) ≡ true
      → (a : ℕ)
      → All (MarkedWhereTransmitted (kept_by_rule a (run cs)).receipts) (kept_by_rule a (run cs)).acknowledged
  -- "From now on a received SDU ends before its 32 check bits": of every call, whatever was refused.
  pub texts : (cs : List C) → TextsGoUp (run cs)
  -- "A frame with that same N(S) .. nothing goes up", whatever was refused.
  pub repeats : (cs : List C) → RepeatsStop (run cs)
  -- "Every frame written with the flag carries the FCS of its SDU": what is handed down is read back, whatever was refused.
  pub read_back : (cs : List C) → AllReadBack (run cs)
  -- Of every request that is accepted, at most four sendings, all the same, by its records: whatever was refused, and "by that
  -- rule .. each is handed down at most four times".
  pub four : (cs : List C) → EachAtMostFour (run cs)
  pub four_by_rule : (cs : List C) → unhindered (run cs) ≡ true → (a : ℕ) → EachAtMostFour (ruled a (run cs))
  -- "An acknowledged message that leaves unacknowledged, Lost or Discarded, has been handed down exactly four times", and each resend
  -- has its reason: whatever was refused, and by that rule.
  pub lost : (cs : List C) → LostAfterFour (run cs) (receipts cs) (messages cs)
  pub lost_by_rule :
      (cs : List C)
      → unhindered (run cs) ≡ true
      → (a : ℕ)
      → LostAfterFour (ruled a (run cs)) (kept_by_rule a (run cs)).receipts (kept_by_rule a (run cs)).acknowledged
  -- And by one call more: what has left is released then and not before, and its receipt reads as it did.
  pub settled :
      (before : List C) (c : C) (e : Exchange)
      → run (before ++ (c ∷ [])) ≡ run before ++ (e ∷ [])
      → StaysSettled e (receipts before) (messages before) (receipts (before ++ (c ∷ [])))
