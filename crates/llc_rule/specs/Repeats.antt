-- Which frames of a run are repeats, by its calls and their numbers alone: "When our reply is lost the handset sends again".
use Rattle.std.specs.Prelude.{ℕ, ◌≡◌, Bool, true, false, cond, not, List, [], ◌∷◌, ◌++◌, eqb}
use Rattle.std.proofs.Math.Option.{Option, none, some}
use Rattle.lists.specs.Lists.{all}
use Rattle.questions.specs.Outcome.{Outcome, accepted, refused}
use Rattle.llc_pdus.specs.Headers.{ns_of}
use Rattle.llc_pdus.specs.Received.{Received, received}
use Rattle.llc_rule.specs.Calls.{Call, start, tick_start, tick_end, request, frame, by_receipt, parsed}
use Rattle.llc_rule.specs.Records.{Record, data_up, Indication}
use Rattle.llc_rule.specs.Runs.{Exchange}

-- What an accepted call is to repeats: a start, a frame with N(S) from an address, with its SDU, or neither.
pub data Hearing : Type 0 where
  begins : Hearing
  hears : ℕ → Bool → List ℕ → Hearing
  neither : Hearing

abbrev pub hears_from : ℕ → Option Bool → List ℕ → Hearing
hears_from a none sdu = neither
hears_from a (some ns) sdu = hears a ns sdu

abbrev pub hears_of : ℕ → Outcome Received → Hearing
hears_of a (refused n) = neither
hears_of a (accepted r) = hears_from a (ns_of r.header) r.sdu

abbrev pub hearing : Outcome Call → Hearing
hearing (refused n) = neither
hearing (accepted (start carrier t251)) = begins
hearing (accepted (tick_start time)) = neither
hearing (accepted tick_end) = neither
hearing (accepted (request s r)) = neither
hearing (accepted (frame f)) = hears_of f.ssi (received f.pdu)
hearing (accepted (by_receipt i a)) = neither

-- What an exchange is: "only an accepted frame updates the row".
unfoldable pub heard_in : Exchange → Hearing
heard_in e = cond (eqb e.number 0) (hearing (parsed e.call)) neither

-- "The last N(S) accepted from that SSI, or that there is none", after something more; "rows last until start".
abbrev pub last_next : ℕ → Option Bool → Hearing → Option Bool
last_next a last begins = none
last_next a last (hears b ns sdu) = cond (eqb b a) (some ns) last
last_next a last neither = last

unfoldable pub last_from : ℕ → Option Bool → List Exchange → Option Bool
last_from a last [] = last
last_from a last (e ∷ es) = last_from a (last_next a last (heard_in e)) es

-- And after the exchanges of a run.
abbrev pub last_heard : ℕ → List Exchange → Option Bool
last_heard a es = last_from a none es

-- Neither a start nor a frame with N(S) from an address, accepted.
abbrev pub is_neither : ℕ → Hearing → Bool
is_neither a begins = false
is_neither a (hears b ns sdu) = not (eqb b a)
is_neither a neither = true

abbrev pub none_from : ℕ → List Exchange → Bool
none_from a es = all (λ (e : Exchange). is_neither a (heard_in e)) es

-- Records that are one, of data that goes up from an address, with an SDU.
pub record WentUp (a : ℕ) (sdu : List ℕ) (rs : List Record) : Type 0 where
  pub indication : Indication
  pub alone : rs ≡ data_up indication ∷ []
  pub from : indication.ssi ≡ a
  pub brings : indication.sdu ≡ sdu

-- "A frame with that same N(S) .. nothing goes up": of two accepted frames with N(S) of one address that follow one another with
-- no start between, the second sends its SDU up exactly if its N(S) is another; the first after a start always does. "Also when it
-- is empty." That a repeat is acknowledged and its N(R) obeyed is in `step` and, by demand 3, in the rule.
pub record RepeatsStop (es : List Exchange) : Type 0 where
  pub same :
      (before : List Exchange) (c : Exchange) (between : List Exchange) (d : Exchange) (later : List Exchange)
      (a : ℕ) (ns : Bool) (sdu again : List ℕ)
      → es ≡ before ++ (c ∷ (between ++ (d ∷ later)))
      → heard_in c ≡ hears a ns sdu
      → none_from a between ≡ true
      → heard_in d ≡ hears a ns again
      → d.records ≡ []
  pub other :
      (before : List Exchange) (c : Exchange) (between : List Exchange) (d : Exchange) (later : List Exchange)
      (a : ℕ) (ns : Bool) (sdu next : List ℕ)
      → es ≡ before ++ (c ∷ (between ++ (d ∷ later)))
      → heard_in c ≡ hears a ns sdu
      → none_from a between ≡ true
      → heard_in d ≡ hears a (not ns) next
      → WentUp a next d.records
  pub first :
      (before : List Exchange) (c : Exchange) (between : List Exchange) (d : Exchange) (later : List Exchange)
      (a : ℕ) (ns : Bool) (sdu : List ℕ)
      → es ≡ before ++ (c ∷ (between ++ (d ∷ later)))
      → heard_in c ≡ begins
      → none_from a between ≡ true
      → heard_in d ≡ hears a ns sdu
      → WentUp a sdu d.records
