-- What the statements of the theorems say of exchanges that are written by hand, where no run of the link would show it.
use Prim.Native.Nat.{ℕ}
use mathlib.Core.Path.{◌≡◌, refl}
use mathlib.Core.Bool.{Bool, true, false}
use mathlib.Core.List.{List, [], ◌∷◌, ◌++◌, map}
use mathlib.Core.Option.{Option, none, some}
use lib.Dec.{eqb}
use lib.ListN.{length, set, replicate}
use Rattle.lists.specs.Lists.{keep, any, all}
use Rattle.questions.specs.Outcome.{number}
use Rattle.tx_receipt.specs.Marks.{discarded}
use Rattle.tx_receipt.specs.declared.TxState.TheVariants.{Transmitted}
use Rattle.llc_pdus.specs.Frames.{frame_bits}
use Rattle.llc_pdus.specs.Writes.{longest}
use Rattle.llc_pdus.specs.declared.Pdu.{Pdu}
use Rattle.llc_pdus.specs.declared.Pdu.TheVariants.{BlAdata, BlData, BlUdata, BlAck}
use Rattle.llc_rule.specs.Limits.{longest_frame, store_bytes, output_bytes}
use Rattle.llc_rule.specs.Calls.{to_bytes, Request}
use Rattle.llc_rule.specs.Records.{Record, acknowledged, reply, unacknowledged, data_up, unitdata_up, Sent, Indication}
use Rattle.llc_rule.specs.Messages.{Place, free, taken, pending, marked}
use Rattle.llc_rule.specs.Keeps.{with_receipts}
use Rattle.llc_rule.specs.Link.{Link, new}
use Rattle.llc_rule.specs.Step.{step}
use Rattle.llc_rule.specs.Rule.{at_outset, after_start, after_report, does, judged, rule}
use Rattle.llc_rule.specs.Runs.{Exchange, after}
use Rattle.llc_rule.specs.Past.{about, Holders, nobody, done_to, holders, everybody's, nobody's, belongs_to, whose, in_past, nothing_yet, and_then, history, past, strays, holders_after, sight, held_by, taken_from}
use Rattle.llc_rule.specs.Seen.{rule_run, unhindered}
use Rattle.llc_rule.specs.Sendings.{handed, sendings}
use Rattle.llc_rule.specs.ReadBack.{flag_in}
use Rattle.llc_rule.specs.Repeats.{heard_in, last_from, last_heard, none_from}
use Rattle.llc_rule.specs.Texts.{texts_in, shown}
use Rattle.llc_rule.proofs.Runs.{hex, exchanges}

-- Two addresses, and calls of the first: a request with receipt 11, a frame, and a report and a release of receipt 11.
abbrev first : ℕ
first = 0x0a3e91

abbrev second : ℕ
second = 0x5bc72d

abbrev start : List ℕ
start = hex 7 0x21000405fa0004

abbrev tick_start : List ℕ
tick_start = hex 8 0x2200051234150701

abbrev tick_end : List ℕ
tick_end = hex 3 0x230000

abbrev request : List ℕ
request = hex 32 0x24001d0a3e9101012a6b102132435465768798a9bacb040d1102c5d6000ce7d0

abbrev frame : List ℕ
frame = hex 25 0x2600160a3e91013c4d5e6f708192a3b4c503d6e7f8000c1ce0

abbrev report : List ℕ
report = hex 5 0x2700021101

abbrev release : List ℕ
release = hex 4 0x28000111

-- Of the second: a frame, and a release of receipt 22. And bytes that are no call.
abbrev its_frame : List ℕ
its_frame = hex 23 0x2600145bc72d011a2b3c4d5e6f708192a301b4000d2d28

abbrev its_release : List ℕ
its_release = hex 4 0x28000122

abbrev no_call : List ℕ
no_call = hex 3 0x290000

-- Records of an address: handed down with a receipt, acknowledged or not, a reply, and what goes up.
abbrev message : ℕ → ℕ → Sent
message a i =
    record {
      ssi = a;
      type = 1;
      carrier = 0x2a6b;
      link = 0;
      endpoint = 0x54657687;
      handle = 0x98a9bacb;
      steal = false;
      mask = none;
      receipt = i;
      block = [];
      pdu = [];
    }

abbrev answer : ℕ → Record
answer a = reply (record { ssi = a; type = 1; carrier = 0x3c4d; link = 0; steal = false; mask = none; pdu = [] })

abbrev indication : ℕ → Indication
indication a = record { ssi = a; type = 1; link = 0; endpoint = 0x92a3b4c5; block = []; fcs = false; sdu = [] }

-- A call with its number and its records.
abbrev told : List ℕ → ℕ → List Record → Exchange
told c n rs = record { call = c; number = n; records = rs }

-- A request with flags, and the FCS flag that its frame should have: the one that it asks for, whatever the PDU has, in a BL-UDATA
-- none.
abbrev asking : ℕ → Request
asking flags =
    record {
      ssi = first;
      type = 1;
      given = 0;
      carrier = 0;
      link = 0;
      endpoint = 0;
      handle = 0;
      flags = flags;
      mask = 0;
      receipt = 0;
      block = [];
      sdu = [];
    }

flags-asked :
    map (flag_in (asking 2)) (BlAdata false true true ∷ BlData false true ∷ BlUdata true ∷ BlAck false true ∷ [])
    ++ map (flag_in (asking 5)) (BlAdata true true true ∷ BlData true true ∷ BlUdata true ∷ BlAck true true ∷ [])
    ≡ true ∷ true ∷ false ∷ true ∷ false ∷ false ∷ false ∷ false ∷ []
flags-asked = refl

-- Document 01's lengths, as it gives them.
lengths : longest_frame ∷ longest ∷ store_bytes ∷ output_bytes ∷ [] ≡ 2633 ∷ 2595 ∷ 32256 ∷ 47040 ∷ []
lengths = refl

-- The numbers from 0 to 24.
abbrev numbers : List ℕ
numbers = 0 ∷ 1 ∷ 2 ∷ 3 ∷ 4 ∷ 5 ∷ 6 ∷ 7 ∷ 8 ∷ 9 ∷ 10 ∷ 11 ∷ 12 ∷ 13 ∷ 14 ∷ 15 ∷ 16 ∷ 17 ∷ 18 ∷ 19 ∷ 20 ∷ 21 ∷ 22 ∷ 23 ∷ 24 ∷ []

-- 6, 7, 8 and 13 hinder, wherever they come up, and no other number does.
hindering :
    map (λ (n : ℕ). unhindered (told frame n [] ∷ [])) numbers
    ≡ true ∷ true ∷ true ∷ true ∷ true ∷ true ∷ false ∷ false ∷ false ∷ true ∷ true ∷ true ∷ true ∷ false ∷ true ∷ true ∷ true
    ∷ true ∷ true ∷ true ∷ true ∷ true ∷ true ∷ true ∷ true ∷ []
unfolding unhindered all any
hindering = refl

hindered-later : unhindered (told frame 0 [] ∷ told frame 14 [] ∷ told frame 13 [] ∷ []) ≡ false
unfolding unhindered all any
hindered-later = refl

not-hindered : unhindered (told frame 0 [] ∷ told frame 14 [] ∷ told frame 2 [] ∷ []) ≡ true
unfolding unhindered all any
not-hindered = refl

-- A call of the address is in its past with every number but 1; another's is not; a tick is, and bytes that are no call are not.
past-numbers :
    map (λ (n : ℕ). in_past first nobody (told frame n [])) numbers
    ≡ true ∷ false ∷ true ∷ true ∷ true ∷ true ∷ true ∷ true ∷ true ∷ true ∷ true ∷ true ∷ true ∷ true ∷ true ∷ true ∷ true
    ∷ true ∷ true ∷ true ∷ true ∷ true ∷ true ∷ true ∷ true ∷ []
unfolding in_past whose about to_bytes exchanges
past-numbers = refl

past-others :
    map (λ (c : List ℕ). in_past first nobody (told c 0 [])) (its_frame ∷ no_call ∷ release ∷ start ∷ tick_start ∷ tick_end ∷ request ∷ [])
    ≡ false ∷ false ∷ false ∷ true ∷ true ∷ true ∷ true ∷ []
unfolding in_past whose about to_bytes exchanges
past-others = refl

-- In order, with the receipt that its request holds until a release of that receipt is accepted.
past-order :
    past first
    (told tick_end 4 [] ∷ told report 15 [] ∷ told request 0 [] ∷ told its_frame 0 [] ∷ told report 15 [] ∷ told release 16 []
    ∷ told frame 1 [] ∷ told its_release 0 [] ∷ told release 0 [] ∷ told release 16 [] ∷ [])
    ≡ told tick_end 4 [] ∷ told request 0 [] ∷ told report 15 [] ∷ told release 16 [] ∷ told release 0 [] ∷ []
unfolding history nothing_yet and_then in_past holders done_to whose about to_bytes exchanges
past-order = refl

-- Whose a call is: by its SSI, or by the receipt that it names.
abbrev held : Holders
held i = holders_after (told request 0 [] ∷ []) i

whose-calls :
    map (whose held) (start ∷ tick_start ∷ tick_end ∷ request ∷ frame ∷ report ∷ release ∷ its_frame ∷ its_release ∷ no_call ∷ [])
    ≡ everybody's ∷ everybody's ∷ everybody's ∷ belongs_to first ∷ belongs_to first ∷ belongs_to first ∷ belongs_to first
    ∷ belongs_to second ∷ nobody's ∷ nobody's ∷ []
unfolding whose about holders done_to history nothing_yet and_then in_past to_bytes exchanges
whose-calls = refl

-- Who holds receipt 11: from an accepted request on, until an accepted release of it or an accepted start.
abbrev holder : List Exchange → Option ℕ
holder es = holders_after (told request 0 [] ∷ es) 0x11

holding :
    map holder
    ([]
    ∷ (told tick_start 0 [] ∷ told tick_end 0 [] ∷ told frame 0 [] ∷ told report 0 [] ∷ [])
    ∷ (told release 16 [] ∷ [])
    ∷ (told its_release 0 [] ∷ [])
    ∷ (told release 0 [] ∷ [])
    ∷ (told start 5 [] ∷ [])
    ∷ (told start 0 [] ∷ [])
    ∷ [])
    ≡ some first ∷ some first ∷ some first ∷ some first ∷ none ∷ some first ∷ none ∷ []
unfolding holders done_to about history nothing_yet and_then in_past whose to_bytes exchanges
holding = refl

not-holding : holders_after (told request 8 [] ∷ told report 0 [] ∷ []) 0x11 ≡ none
unfolding holders done_to about history nothing_yet and_then in_past whose to_bytes exchanges
not-holding = refl

-- Records with the SSI of an address that calls outside its past give are strays, also of a call with number 1; those of its own
-- calls and of ticks are none.
stray :
    strays first
    (told tick_end 0 (acknowledged (message first 0x11) ∷ [])
    ∷ told frame 0 (data_up (indication first) ∷ [])
    ∷ told its_frame 0 (data_up (indication second) ∷ data_up (indication first) ∷ [])
    ∷ told frame 1 (unitdata_up (indication first) ∷ [])
    ∷ told no_call 2 (answer first ∷ answer second ∷ [])
    ∷ [])
    ≡ data_up (indication first) ∷ unitdata_up (indication first) ∷ answer first ∷ []
unfolding history nothing_yet and_then in_past holders done_to whose about keep to_bytes exchanges
stray = refl

-- Of a tick end an address sees the records with its SSI, of another call all.
abbrev both : List Record
both = acknowledged (message second 0x22) ∷ answer first ∷ unacknowledged (message first 0x33) ∷ answer second ∷ []

seen-tick-end : sight first (told tick_end 4 both) ≡ record { number = 4; records = answer first ∷ unacknowledged (message first 0x33) ∷ [] }
unfolding sight keep to_bytes exchanges
seen-tick-end = refl

seen_other : sight first (told frame 14 both) ≡ record { number = 14; records = both }
unfolding sight keep to_bytes exchanges
seen_other = refl

-- The receipts from a number on that an address holds, with what is in their places, and those that are taken.
abbrev places : List Place
places = pending true ∷ free ∷ marked discarded (pending true) ∷ pending false ∷ []

held-receipts : held_by first held 0x10 places ≡ record { receipt = 0x11; place = free } ∷ []
unfolding held_by holders done_to about history nothing_yet and_then in_past whose to_bytes exchanges
held-receipts = refl

taken-receipts :
    taken_from 0x10 places
    ≡ record { receipt = 0x10; place = pending true }
    ∷ record { receipt = 0x12; place = marked discarded (pending true) }
    ∷ record { receipt = 0x13; place = pending false }
    ∷ []
unfolding taken_from
taken-receipts = refl

-- Each record of kind 1 with the receipt hands down, also two of one call; other kinds and other receipts do not.
abbrev mixed : List Record
mixed =
    acknowledged (message first 0x11) ∷ unacknowledged (message first 0x11) ∷ acknowledged (message first 0x22) ∷ answer first
    ∷ acknowledged (message second 0x11) ∷ []

sent-twice : sendings 0x11 (told tick_end 0 mixed ∷ []) ≡ message first 0x11 ∷ message second 0x11 ∷ []
unfolding sendings done_to about handed to_bytes exchanges
sent-twice = refl

-- Only an accepted start, and an accepted release of the receipt, end it.
abbrev sent_after : Exchange → ℕ
sent_after e = length (sendings 0x11 (told tick_end 0 mixed ∷ e ∷ told tick_end 0 mixed ∷ []))

sent-while-held :
    map sent_after
    (told tick_start 0 [] ∷ told tick_end 0 mixed ∷ told request 0 [] ∷ told frame 0 [] ∷ told report 0 [] ∷ told no_call 0 []
    ∷ told its_release 0 [] ∷ told release 16 [] ∷ told release 0 [] ∷ told release 0 mixed ∷ told start 5 [] ∷ told start 0 []
    ∷ [])
    ≡ 4 ∷ 6 ∷ 4 ∷ 4 ∷ 4 ∷ 4 ∷ 4 ∷ 4 ∷ 2 ∷ 2 ∷ 4 ∷ 2 ∷ []
unfolding sendings done_to about handed to_bytes exchanges
sent-while-held = refl

-- What goes up: the SDUs of kinds 4 and 5, in order, empty ones too.
abbrev bringing : List ℕ → Indication
bringing sdu = record { ssi = first; type = 1; link = 0; endpoint = 0x92a3b4c5; block = []; fcs = true; sdu = sdu }

texts-brought :
    texts_in
    (acknowledged (message first 0x11) ∷ data_up (bringing (1 ∷ 0 ∷ [])) ∷ answer first ∷ unitdata_up (bringing (0 ∷ 1 ∷ 1 ∷ []))
    ∷ unacknowledged (message first 0x12) ∷ data_up (bringing []) ∷ [])
    ≡ (1 ∷ 0 ∷ []) ∷ (0 ∷ 1 ∷ 1 ∷ []) ∷ [] ∷ []
unfolding texts_in
texts-brought = refl

-- What should go up of each PDU, with a text and without one.
abbrev pdus : List Pdu
pdus = BlAdata true false true ∷ BlData true true ∷ BlUdata true ∷ BlAck true false ∷ []

texts-shown :
    map (λ (p : Pdu). shown p (1 ∷ 0 ∷ [])) pdus
    ≡ ((1 ∷ 0 ∷ []) ∷ []) ∷ ((1 ∷ 0 ∷ []) ∷ []) ∷ ((1 ∷ 0 ∷ []) ∷ []) ∷ ((1 ∷ 0 ∷ []) ∷ []) ∷ []
texts-shown = refl

none-shown : map (λ (p : Pdu). shown p []) pdus ≡ ([] ∷ []) ∷ ([] ∷ []) ∷ ([] ∷ []) ∷ [] ∷ []
none-shown = refl

-- What may stand between two frames with N(S) of the first address: anything but an accepted start and another of its own that is
-- accepted. `frame` is one, a BL-DATA with N(S) 1.
abbrev frame_of_second : List ℕ
frame_of_second = hex 21 0x2600125bc72d0105fa1a2b3c4d5e6f708100000510

abbrev udata_of_first : List ℕ
udata_of_first = hex 21 0x2600120a3e910105fa1a2b3c4d5e6f708100000528

abbrev ack_of_first : List ℕ
ack_of_first = hex 21 0x2600120a3e910105fa1a2b3c4d5e6f708100000538

abbrev between_frames : Exchange → Bool
between_frames e = none_from first (e ∷ [])

quiet_told :
    map between_frames
    (told frame_of_second 0 [] ∷ told udata_of_first 0 [] ∷ told ack_of_first 0 [] ∷ told frame 13 [] ∷ told frame 7 [] ∷ told start 5 []
    ∷ told tick_start 0 [] ∷ told tick_end 0 mixed ∷ told request 0 [] ∷ told report 0 [] ∷ told release 0 [] ∷ told no_call 2 []
    ∷ told frame 0 [] ∷ told start 0 [] ∷ [])
    ≡ true ∷ true ∷ true ∷ true ∷ true ∷ true ∷ true ∷ true ∷ true ∷ true ∷ true ∷ true ∷ false ∷ false ∷ []
unfolding heard_in all to_bytes exchanges
quiet_told = refl

-- And the last N(S) accepted from it after each of some exchanges.
last-told :
    map (λ (es : List Exchange). last_heard first es)
    ([]
    ∷ (told start 0 [] ∷ [])
    ∷ (told start 0 [] ∷ told frame 13 [] ∷ [])
    ∷ (told start 0 [] ∷ told frame 0 [] ∷ [])
    ∷ (told start 0 [] ∷ told frame 0 [] ∷ told frame_of_second 0 [] ∷ told udata_of_first 0 [] ∷ told ack_of_first 0 [] ∷ told start 5 [] ∷ [])
    ∷ (told start 0 [] ∷ told frame 0 [] ∷ told start 0 [] ∷ [])
    ∷ [])
    ≡ none ∷ none ∷ none ∷ some true ∷ some true ∷ none ∷ []
unfolding last_from heard_in to_bytes exchanges
last-told = refl

-- Document 01's frame of 010111 and 32 ones, and the same text without the flag.
frames-whole :
    frame_bits (BlData true true) (1 ∷ []) ∷ frame_bits (BlData false true) (1 ∷ []) ∷ []
    ≡ (0 ∷ 1 ∷ 0 ∷ 1 ∷ 1 ∷ 1 ∷ replicate 32 1) ∷ (0 ∷ 0 ∷ 0 ∷ 1 ∷ 1 ∷ 1 ∷ []) ∷ []
unfolding frame_bits exchanges
frames-whole = refl

-- The rule answers each call from what it kept of those before it.
rule-answers :
    rule_run at_outset (tick_end ∷ start ∷ tick_start ∷ no_call ∷ report ∷ [])
    ≡ told tick_end 4 [] ∷ told start 0 [] ∷ told tick_start 0 [] ∷ told no_call 3 [] ∷ told report 15 [] ∷ []
unfolding rule_run at_outset after_start after_report does judged rule to_bytes exchanges
rule-answers = refl

-- A message that was sent and noted, and the same with a receipt that expects no acknowledgement, as no run leaves it: an N(R) that
-- fits finishes the first, and is refused with 14 by the second, where the Rust panics.
abbrev noted : Link
noted = after new (start ∷ request ∷ tick_end ∷ report ∷ tick_end ∷ [])

abbrev expecting_none : Link
expecting_none = with_receipts noted (set noted.receipts 0x11 (taken (record { expects_ack = false; state = Transmitted })))

abbrev fitting : List ℕ
fitting = hex 21 0x2600120a3e91012a6b4e5f60718293a4b500000530

expects-one : eqb (number (step noted fitting)) 0 ≡ true
unfolding after to_bytes exchanges
expects-one = refl

expects-none : eqb (number (step expecting_none fitting)) 14 ≡ true
unfolding after to_bytes exchanges
expects-none = refl
