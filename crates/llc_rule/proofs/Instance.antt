-- A run that meets the hypotheses of the theorems: two addresses, records of all five kinds, a repeat, a message moved to the
-- front, one that is acknowledged, one with an FCS that is handed down four times and lost, and an acknowledgement with an FCS that takes
-- an SDU along; releases, a receipt that serves again, refused calls, and no call that is hindered.
use Prim.Native.Nat.{ℕ}
use mathlib.Core.Path.{◌≡◌, refl}
use mathlib.Core.Bool.{Bool, true}
use mathlib.Core.List.{List, [], ◌∷◌, ◌++◌, map}
use lib.Dec.{eqb}
use Rattle.lists.specs.Lists.{any, all}
use Rattle.llc_rule.specs.Calls.{to_bytes}
use Rattle.llc_rule.specs.Records.{Record, kind}
use Rattle.llc_rule.specs.Link.{new}
use Rattle.llc_rule.specs.Runs.{Exchange, run, after}
use Rattle.llc_rule.specs.Seen.{unhindered, SeesItsOwnPast}
use Rattle.llc_rule.proofs.Demand3.{demand3}
use Rattle.llc_rule.proofs.Runs.{Told, hex, ◌gets◌, ◌and◌, exchanges, agrees}

-- The two addresses.
abbrev pub first : ℕ
first = 0x0a3e91

abbrev pub second : ℕ
second = 0x5bc72d

-- What is handed down for the requests of receipts 11 and 22, at first and again.
abbrev to_first : List ℕ
to_first = hex 65 0x010001010200030a3e91030001010400022a6b050004000000000600045465768707000498a9bacb080001000900010d0a0001110b0002c5d60c00050011173e80

abbrev to_second : List ℕ
to_second = hex 65 0x010001010200035bc72d0300010104000205fa05000400000000060004b5a69788070004796a5b4c080001000a0001220b00033d2e1f0c0008002e552d47141174

-- A call before the start is refused; then a start, a time, and bytes that are no call.
unfoldable pub opening : List Told
opening =
    hex 3 0x230000 gets 4
    ∷ hex 7 0x21000405fa0004 gets 0
    ∷ hex 8 0x2200051234150701 gets 0
    ∷ hex 3 0x290000 gets 3
    ∷ []

-- A request to each address, to the second with an FCS.
abbrev pub ask_first : List ℕ
ask_first = hex 32 0x24001d0a3e9101012a6b102132435465768798a9bacb040d1102c5d6000ce7d0

abbrev pub ask_second : List ℕ
ask_second = hex 33 0x24001e5bc72d01000000f1e2d3c4b5a69788796a5b4c020022033d2e1f0009a580

-- A text with an FCS from the first address, a repeat of it with another PDU, type, carrier and SDU, and an empty one with
-- another N(S).
abbrev pub text_of_first : List ℕ
text_of_first = hex 29 0x26001a0a3e91013c4d5e6f708192a3b4c503d6e7f8002c5ce2f0c8fd80

abbrev pub repeat_of_first : List ℕ
repeat_of_first = hex 22 0x2600130a3e91024d3ce1d2c3b4a596877800000b06c0

abbrev pub new_of_first : List ℕ
new_of_first = hex 21 0x2600120a3e91012b6ac1d2e3f40516273800000510

-- A request that steals, with an FCS, and takes along the acknowledgement that is due for the text.
abbrev pub steal_to_first : List ℕ
steal_to_first = hex 30 0x24001b0a3e9101013c4dd1c2b3a495867768594a3b2c030044015e0006b4

-- An acknowledgement with an FCS and nothing else.
abbrev pub ack_of_first : List ℕ
ack_of_first = hex 25 0x2600160a3e91012a6b4e5f60718293a4b50000257000000000

-- What follows, where the first tick end hands the two down in the order that they were asked for.
unfoldable pub following : List ℕ → List ℕ → List Told
following one other =
    -- A report for a message that waits; an unacknowledged message; an SDU for each address, of which one has an FCS and
    -- asks for a reply; its repeat, of which nothing goes up, and a new one. Each of the three is acknowledged, the first by a
    -- request that steals.
    hex 5 0x2700021101 gets 15
    ∷ hex 31 0x25001c0a3e9102017c8d0e1f2031425364758697a8b9050b3302cadb0007ca gets 0
    ∷ text_of_first gets 0
    and hex 44 0x010001040200030a3e91030001010500045e6f708106000492a3b4c50b0003d6e7f80d0001010c000300079c
    ∷ hex 23 0x2600145bc72d011a2b3c4d5e6f708192a301b4000d2d28 gets 0
    and hex 43 0x010001050200035bc72d0300010105000400000000060004708192a30b0001b40d0001000c00040009d280
    ∷ repeat_of_first gets 0
    ∷ new_of_first gets 0 and hex 35 0x010001040200030a3e9103000101050004c1d2e3f4060004051627380b00000d000100
    ∷ steal_to_first gets 0
    ∷ hex 3 0x230000 gets 0 and one and other
    and hex 54 0x010001020200030a3e91030001020400024d3c05000400000003060004000000000700040000000008000101090001040c0003000538
    and hex 54 0x010001020200030a3e91030001010400022b6a05000400000003060004000000000700040000000008000101090001040c0003000530
    and hex 64 0x010001030200030a3e91030001020400027c8d0500040e1f2031060004425364750700048697a8b9080001010900010b0a0001330b0002cadb0c0004000b2ca0
    and hex 63 0x010001030200030a3e91030001010400023c4d050004d1c2b3a406000495867768070004594a3b2c080001010a0001440b00015e0c0008002b7db74d83fc20
    -- A release of a receipt whose message is held. Both are reported transmitted, and the next tick end notes it.
    ∷ hex 4 0x28000111 gets 16
    ∷ hex 5 0x2700021101 gets 0
    ∷ hex 5 0x2700022201 gets 0
    ∷ hex 3 0x230000 gets 0
    -- An N(R) that does not fit moves the second to the front, so it is resent before the first.
    ∷ hex 21 0x2600125bc72d0105fac6d7e8f90a1b2c3d00000538 gets 0
    ∷ hex 8 0x2200051234150801 gets 0
    ∷ hex 3 0x230000 gets 0 and to_second and to_first
    -- The first is reported again, noted, acknowledged by a BL-ACK with FCS and nothing else, and released; so is the unacknowledged one.
    ∷ hex 5 0x2700021101 gets 0
    ∷ hex 5 0x2700022202 gets 0
    ∷ hex 3 0x230000 gets 0
    ∷ ack_of_first gets 0
    ∷ hex 4 0x28000111 gets 0
    ∷ hex 5 0x2700023301 gets 0
    ∷ hex 4 0x28000133 gets 0
    -- The second is resent twice more, is then lost, and is released.
    ∷ hex 8 0x2200051234150901 gets 0
    ∷ hex 3 0x230000 gets 0 and to_second
    ∷ hex 5 0x2700022201 gets 0
    ∷ hex 3 0x230000 gets 0
    ∷ hex 8 0x2200051234150a01 gets 0
    ∷ hex 3 0x230000 gets 0 and to_second
    ∷ hex 5 0x2700022201 gets 0
    ∷ hex 3 0x230000 gets 0
    ∷ hex 8 0x2200051234150b01 gets 0
    ∷ hex 3 0x230000 gets 0
    ∷ hex 4 0x28000122 gets 0
    -- Its receipt serves a request of the first address.
    ∷ hex 29 0x24001a0a3e9101000000112233445566778899aabbcc00002200000568 gets 0
    ∷ hex 3 0x230000 gets 0
    and hex 58 0x010001010200030a3e910300010104000205fa050004000000000600045566778807000499aabbcc080001000a0001220b00000c0004000a1b40
    ∷ []

-- The two requests in one order and in the other.
unfoldable pub instance : List Told
instance = opening ++ (ask_first gets 0 ∷ ask_second gets 0 ∷ following to_first to_second)

unfoldable pub turned : List Told
turned = opening ++ (ask_second gets 0 ∷ ask_first gets 0 ∷ following to_second to_first)

-- The calls of the run: before the two, behind them, and all of them in either order.
abbrev calls_of : List Told → List (List ℕ)
calls_of ts = map (λ (t : Told). t.call) ts

unfoldable pub opening_calls : List (List ℕ)
unfolding opening
opening_calls = calls_of opening

unfoldable pub later_calls : List (List ℕ)
unfolding following
later_calls = calls_of (following to_first to_second)

abbrev pub instance_calls : List (List ℕ)
instance_calls = opening_calls ++ (ask_first ∷ ask_second ∷ later_calls)

abbrev pub turned_calls : List (List ℕ)
turned_calls = opening_calls ++ (ask_second ∷ ask_first ∷ later_calls)

-- Each call gets its number and its records.
instance-calls : calls_of instance ≡ instance_calls
unfolding instance opening_calls later_calls
instance-calls = refl

turned-calls : calls_of turned ≡ turned_calls
unfolding turned opening_calls later_calls
turned-calls = refl

pub instance-agrees : agrees new instance ≡ true
unfolding agrees instance opening following
instance-agrees = refl

pub turned-agrees : agrees new turned ≡ true
unfolding agrees turned opening following
turned-agrees = refl

-- The kinds and numbers that come up in a run.
unfoldable pub has_kind : List Exchange → ℕ → Bool
has_kind es k = any (λ (e : Exchange). any (λ (r : Record). eqb (kind r) k) e.records) es

unfoldable pub has_number : List Exchange → ℕ → Bool
has_number es n = any (λ (e : Exchange). eqb e.number n) es

-- All five kinds, accepted calls, and four refusals that are none of the four that hinder.
pub instance-kinds : all (has_kind (run new instance_calls)) (1 ∷ 2 ∷ 3 ∷ 4 ∷ 5 ∷ []) ≡ true
unfolding has_kind run all any to_bytes exchanges opening_calls later_calls
instance-kinds = refl

pub instance-numbers : all (has_number (run new instance_calls)) (0 ∷ 3 ∷ 4 ∷ 15 ∷ 16 ∷ []) ≡ true
unfolding has_number run all any to_bytes exchanges opening_calls later_calls
instance-numbers = refl

pub unhindered-instance : unhindered (run new instance_calls) ≡ true
unfolding unhindered run all any to_bytes exchanges opening_calls later_calls
unhindered-instance = refl

pub unhindered-turned : unhindered (run new turned_calls) ≡ true
unfolding unhindered run all any to_bytes exchanges opening_calls later_calls
unhindered-turned = refl

-- So demand 3 says of it what it says of every address.
pub sees-instance : (a : ℕ) → SeesItsOwnPast (run new instance_calls) (after new instance_calls).receipts a
sees-instance = demand3 instance_calls unhindered-instance
