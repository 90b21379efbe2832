-- Document 01, "One-address rule": whom a call concerns and what it does to holding, an address's past, and what it has seen. Of
-- the answers only acceptance, for holding, and number 1 are used.
use Rattle.std.specs.Prelude.{ℕ, suc, Bool, true, false, cond, not, ◌&&◌, List, [], ◌∷◌, ◌++◌, eqb}
use Rattle.std.proofs.Math.Option.{Option, none, some}
use Rattle.lists.specs.Lists.{keep}
use Rattle.questions.specs.Outcome.{Outcome, accepted, refused}
use Rattle.llc_rule.specs.Calls.{Call, start, tick_start, tick_end, request, frame, by_receipt, Action, report, release, Request, parsed}
use Rattle.llc_rule.specs.Records.{Record, ssi_of}
use Rattle.llc_rule.specs.Messages.{Place, is_free}
use Rattle.llc_rule.specs.Runs.{Exchange}

-- What a call is about ------------------------------------------------------------------------------------------------------

-- Whom a call concerns: everybody, an SSI, the holder of a receipt, or none.
pub data Whom : Type 0 where
  everybody : Whom
  address : ℕ → Whom
  holder_of : ℕ → Whom
  no_one : Whom

-- What a call does to holding where it is accepted: it empties all, takes a receipt for a request, frees one, or does nothing.
pub data Holding : Type 0 where
  empties : Holding
  takes : Request → Holding
  frees : ℕ → Holding
  stays : Holding

pub record About : Type 0 where
  pub whom : Whom
  pub to_holding : Holding

abbrev pub action_holding : ℕ → Action → Holding
action_holding i (report how) = stays
action_holding i release = frees i

-- "The starts, tick starts, tick ends" are in every past. "A request or frame belongs to its SSI. A report, a release and any other
-- call by receipt belongs to the address whose request holds that receipt". "A request holds its receipt from its acceptance to
-- an accepted release or start."
abbrev pub about_call : Call → About
about_call (start carrier t251) = record { whom = everybody; to_holding = empties }
about_call (tick_start time) = record { whom = everybody; to_holding = stays }
about_call tick_end = record { whom = everybody; to_holding = stays }
about_call (request s r) = record { whom = address r.ssi; to_holding = takes r }
about_call (frame f) = record { whom = address f.ssi; to_holding = stays }
about_call (by_receipt i a) = record { whom = holder_of i; to_holding = action_holding i a }

-- "Of the calls that pass questions 2 and 3 .. Every other call belongs to none."
abbrev pub about_read : Outcome Call → About
about_read (refused n) = record { whom = no_one; to_holding = stays }
about_read (accepted c) = about_call c

unfoldable pub about : List ℕ → About
about bytes = about_read (parsed bytes)

-- Who holds what ------------------------------------------------------------------------------------------------------------

-- What is known of the request that holds each receipt; none where nobody holds it.
abbrev pub HeldBy : Type 0 → Type 0
HeldBy A = ℕ → Option A

abbrev pub nobody : {A : Type 0} → HeldBy A
nobody i = none

abbrev pub holding : {A : Type 0} → ℕ → Option A → HeldBy A → HeldBy A
holding i who h j = cond (eqb j i) who (h j)

abbrev pub taken_by : {A : Type 0} → (Request → A) → Holding → HeldBy A → HeldBy A
taken_by known empties h = nobody
taken_by known (takes r) h = holding r.receipt (some (known r)) h
taken_by known (frees i) h = holding i none h
taken_by known stays h = h

-- Who holds each receipt: the SSI of a request, or nobody.
abbrev pub Holders : Type 0
Holders = HeldBy ℕ

abbrev pub held_after : Holding → Holders → Holders
held_after x h = taken_by (λ (r : Request). r.ssi) x h

-- What an exchange does to holding: an accepted call has number 0.
unfoldable pub done_to : Exchange → Holding
done_to e = cond (eqb e.number 0) (about e.call).to_holding stays

unfoldable pub holders : Exchange → Holders → Holders
holders e h = held_after (done_to e) h

-- Whose a call is -----------------------------------------------------------------------------------------------------------

-- Whose a call is: a start or a tick is in every past, another call belongs to one address or to none.
pub data Whose : Type 0 where
  everybody's : Whose
  nobody's : Whose
  belongs_to : ℕ → Whose

abbrev pub holder's : Option ℕ → Whose
holder's none = nobody's
holder's (some a) = belongs_to a

-- "To none if it is free."
abbrev pub whose_of : Holders → Whom → Whose
whose_of h everybody = everybody's
whose_of h (address a) = belongs_to a
whose_of h (holder_of i) = holder's (h i)
whose_of h no_one = nobody's

unfoldable pub whose : Holders → List ℕ → Whose
whose h bytes = whose_of h (about bytes).whom

-- Is a call of somebody in the past of address a?
abbrev pub concerns : ℕ → Whose → Bool
concerns a everybody's = true
concerns a nobody's = false
concerns a (belongs_to b) = eqb b a

-- Histories -----------------------------------------------------------------------------------------------------------------

-- "An address's past is the starts, tick starts, tick ends and its own calls, in order, less those that got number 1."
abbrev pub left_out : ℕ → Bool
left_out n = eqb n 1

unfoldable pub in_past : ℕ → Holders → Exchange → Bool
in_past a h e = not (left_out e.number) && concerns a (whose h e.call)

-- What is known of a run at a moment: who holds each receipt, each address's past, and the records with its SSI that calls
-- outside its past gave.
pub record History : Type 0 where
  pub holders : Holders
  pub past : ℕ → List Exchange
  pub strays : ℕ → List Record

-- Before the first call.
unfoldable pub nothing_yet : History
nothing_yet = record { holders = nobody; past = λ a. []; strays = λ a. [] }

-- After one more exchange.
unfoldable pub and_then : Exchange → History → History
and_then e k =
    record {
      holders = holders e k.holders;
      past = λ a. k.past a ++ cond (in_past a k.holders e) (e ∷ []) [];
      strays =
          λ a. k.strays a ++ cond (in_past a k.holders e) [] (keep (λ (r : Record). eqb (ssi_of r) a) e.records);
    }

unfoldable pub history : History → List Exchange → History
history k [] = k
history k (e ∷ es) = history (and_then e k) es

-- The history of a run, and its parts.
abbrev pub history_of : List Exchange → History
history_of es = history nothing_yet es

abbrev pub holders_after : List Exchange → Holders
holders_after es = (history_of es).holders

abbrev pub past : ℕ → List Exchange → List Exchange
past a es = (history_of es).past a

abbrev pub strays : ℕ → List Exchange → List Record
strays a es = (history_of es).strays a

-- What an address has seen --------------------------------------------------------------------------------------------------

-- "It has seen, for each call of its past, the number and the records in order (of a tick end those with its SSI)".
pub record Sight : Type 0 where
  pub number : ℕ
  pub records : List Record

abbrev pub is_tick_end : Outcome Call → Bool
is_tick_end (refused n) = false
is_tick_end (accepted (start carrier t251)) = false
is_tick_end (accepted (tick_start time)) = false
is_tick_end (accepted tick_end) = true
is_tick_end (accepted (request s r)) = false
is_tick_end (accepted (frame f)) = false
is_tick_end (accepted (by_receipt i a)) = false

unfoldable pub sight : ℕ → Exchange → Sight
sight a e =
    record {
      number = e.number;
      records =
          cond (is_tick_end (parsed e.call)) (keep (λ (r : Record). eqb (ssi_of r) a) e.records) e.records;
    }

-- "And the receipts it holds at the end with their marks": a receipt's number, and what is in its place.
pub record Held : Type 0 where
  pub receipt : ℕ
  pub place : Place

abbrev pub is_holder : ℕ → Option ℕ → Bool
is_holder a none = false
is_holder a (some b) = eqb b a

-- The receipts from number i on that an address holds, and those that are taken.
unfoldable pub held_by : ℕ → Holders → ℕ → List Place → List Held
held_by a h i [] = []
held_by a h i (p ∷ ps) =
    cond (is_holder a (h i)) (record { receipt = i; place = p } ∷ held_by a h (suc i) ps) (held_by a h (suc i) ps)

unfoldable pub taken_from : ℕ → List Place → List Held
taken_from i [] = []
taken_from i (p ∷ ps) = cond (is_free p) (taken_from (suc i) ps) (record { receipt = i; place = p } ∷ taken_from (suc i) ps)
