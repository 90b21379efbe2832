-- The tests by which the Rust searches its queues, and the flags of the places in use.
use Rattle.std.specs.Prelude.{ℕ, ◌<◌, ◌≡◌, Bool, false, not, ◌&&◌, ◌||◌, List, map, get_or, eqb}
use Rattle.lists.specs.Lists.{among}
use Rattle.llc_rule.specs.Limits.{store_places}
use Rattle.llc_state.specs.declared.Entry.{Entry}
use Rattle.llc_state.specs.declared.ScheduledOutAck.{ScheduledOutAck}

-- An acknowledgement due on an SSI and carrier, a message of an SSI and carrier that was passed down, and one with a receipt.
abbrev pub ack_on : ℕ → ℕ → ScheduledOutAck → Bool
ack_on ssi carrier d = eqb d.ssi ssi && eqb d.carrier_num carrier

abbrev pub expected_on : ℕ → ℕ → Entry → Bool
expected_on ssi carrier e = eqb e.sent.ssi ssi && (eqb e.sent.carrier_num carrier && e.progress.submitted_to_umac)

abbrev pub with_receipt : ℕ → Entry → Bool
with_receipt i e = eqb e.sent.receipt i

abbrev pub waits_with : ℕ → Entry → Bool
waits_with i e = eqb e.sent.receipt i && not e.progress.submitted_to_umac

-- The places of the store that messages have; the flags of the places in a list set, and the others as they were.
abbrev pub places_of : List Entry → List ℕ
places_of es = map (λ (e : Entry). e.frame.place) es

abbrev pub Marks : List Bool → List ℕ → List Bool → Type 0
Marks old us new = (q : ℕ) → q < store_places → get_or new q false ≡ get_or old q false || among q us
