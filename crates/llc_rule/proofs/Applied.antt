-- The theorems applied to the instance: two requests that change places, a request that is handed down four times, a text and an
-- acknowledgement that come with check bits, two frames that are handed down with them, and a repeat.
use Prim.Native.Nat.{ℕ, suc}
use mathlib.Core.Path.{◌≡◌, ◌∙◌, refl, sym, ap, subst}
use mathlib.Core.Bool.{true, false}
use mathlib.Core.List.{List, [], ◌∷◌, ◌++◌, map}
use mathlib.Core.Option.{none, some, some-injective}
use borrow.Author.Tests.{ltb-true}
use lib.Dec.{eqb, ltb}
use lib.ListN.{length, get_or, take, drop}
use lib.Seq.{split_at}
use Rattle.lists.specs.Lists.{all, All}
use Rattle.bits.specs.Bits.{to_bits}
use Rattle.questions.specs.Outcome.{accepted, number}
use Rattle.llc_pdus.specs.Frames.{frame_bits}
use Rattle.llc_pdus.specs.declared.Pdu.TheVariants.{BlData, BlAck}
use Rattle.llc_rule.specs.Calls.{to_bytes, Request, Frame, frame, frame_in, parsed}
use Rattle.llc_rule.specs.Link.{Link, new}
use Rattle.llc_rule.specs.Step.{step}
use Rattle.llc_rule.specs.Rule.{at_outset, due_on, requested, after_data, after_unitdata, after_start, looked, submitted, resent, sent_first, at_tick_end, the_one, after_received, after_frame, still_waits, after_report, still_held, after_release, does, judged, rule}
use Rattle.llc_rule.specs.Runs.{Exchange, exchange, left, run, after}
use Rattle.llc_rule.specs.Past.{about, belongs_to, done_to, holders, whose, in_past, nothing_yet, and_then, history}
use Rattle.llc_rule.specs.Seen.{rule_run, ruled, SeesTheSame}
use Rattle.llc_rule.specs.Sendings.{request_spelled, handed, sendings, AtMostFour}
use Rattle.llc_rule.specs.ReadBack.{Requests, requests_from, requests_after, ReadAs, Carries, ReadAsReply, ReadBack}
use Rattle.llc_rule.specs.Records.{Record, acknowledged, reply, unacknowledged, data_up, unitdata_up, Sent}
use Rattle.llc_rule.specs.Repeats.{begins, hears, heard_in, last_from, WentUp}
use Rattle.llc_rule.specs.Texts.{texts_in}
use Rattle.llc_rule.specs.Claim.{whose_after}
use Rattle.llc_rule.proofs.Swap.{swap}
use Rattle.llc_rule.proofs.Lost.{four-run}
use Rattle.llc_rule.proofs.LostByRule.{four-ruled}
use Rattle.llc_rule.proofs.ReadBack.{read-back-run}
use Rattle.llc_rule.proofs.Repeats.{repeats-run}
use Rattle.llc_rule.proofs.Texts.{texts-run}
use Rattle.llc_rule.proofs.Runs.{exchanges}
use Rattle.llc_rule.proofs.Instance.{first, second, ask_first, ask_second, text_of_first, ack_of_first, opening_calls, later_calls, instance_calls, turned_calls, unhindered-instance, unhindered-turned}

-- Whose the two requests are, in either order.
pub whose-first : whose_after (run new opening_calls) ask_first ≡ belongs_to first
unfolding whose about done_to holders and_then history nothing_yet run to_bytes exchanges opening_calls
whose-first = refl

pub whose-second : whose_after (run new opening_calls) ask_second ≡ belongs_to second
unfolding whose about done_to holders and_then history nothing_yet run to_bytes exchanges opening_calls
whose-second = refl

pub whose-second-then : whose_after (run new (opening_calls ++ (ask_first ∷ []))) ask_second ≡ belongs_to second
unfolding whose about done_to holders and_then history nothing_yet run to_bytes exchanges opening_calls
whose-second-then = refl

pub whose-first-then : whose_after (run new (opening_calls ++ (ask_second ∷ []))) ask_first ≡ belongs_to first
unfolding whose about done_to holders and_then history nothing_yet run to_bytes exchanges opening_calls
whose-first-then = refl

-- They change places, and change back.
pub swap-instance :
    (a : ℕ)
    → SeesTheSame a
    (run new instance_calls) (after new instance_calls).receipts (run new turned_calls) (after new turned_calls).receipts
swap-instance =
    swap opening_calls ask_first ask_second later_calls first second whose-first whose-second-then refl
    unhindered-instance
    unhindered-turned

pub swap-turned :
    (a : ℕ)
    → SeesTheSame a
    (run new turned_calls) (after new turned_calls).receipts (run new instance_calls) (after new instance_calls).receipts
swap-turned =
    swap opening_calls ask_second ask_first later_calls second first whose-second whose-first-then refl
    unhindered-turned
    unhindered-instance

-- The request of the second address.
abbrev pub second_request : Request
second_request =
    record {
      ssi = 0x5bc72d;
      type = 1;
      given = 0;
      carrier = 0;
      link = 0xf1e2d3c4;
      endpoint = 0xb5a69788;
      handle = 0x796a5b4c;
      flags = 2;
      mask = 0;
      receipt = 0x22;
      block = 0x3d ∷ 0x2e ∷ 0x1f ∷ [];
      sdu = 1 ∷ 0 ∷ 1 ∷ 0 ∷ 0 ∷ 1 ∷ 0 ∷ 1 ∷ 1 ∷ [];
    }

pub is-request : request_spelled ask_second ≡ some second_request
unfolding about to_bytes exchanges
is-request = refl

-- The link when it is asked for.
abbrev pub asked : Link
asked = after new (opening_calls ++ (ask_first ∷ []))

pub is-accepted : number (step asked ask_second) ≡ 0
unfolding after to_bytes exchanges opening_calls
is-accepted = refl

-- A run taken apart at a call.
pub run-split :
    (l : Link) (before : List (List ℕ)) (c : List ℕ) (later : List (List ℕ))
    → run l (before ++ (c ∷ later))
    ≡ run l before ++ (exchange c (step (after l before) c) ∷ run (left (after l before) (step (after l before) c)) later)
unfolding run after
run-split l [] c later = refl
run-split l (b ∷ before) c later =
    ap (λ (es : List Exchange). exchange b (step l b) ∷ es) (run-split (left l (step l b)) before c later)

-- It is handed down four times, and no more, though its receipt serves again.
pub four-instance : AtMostFour second_request (sendings 0x22 (run (left asked (step asked ask_second)) later_calls))
four-instance =
    let before : List (List ℕ) = opening_calls ++ (ask_first ∷ []) in
    (four-run (before ++ (ask_second ∷ later_calls))).each
    (run new before)
    (exchange ask_second (step asked ask_second))
    (run (left asked (step asked ask_second)) later_calls)
    second_request
    (run-split new before ask_second later_calls)
    is-accepted
    is-request

pub four-times : eqb (length (sendings 0x22 (run (left asked (step asked ask_second)) later_calls))) 4 ≡ true
unfolding sendings handed done_to about run after to_bytes exchanges opening_calls later_calls
four-times = refl

-- The exchanges of the instance, computed, and the one of a place.
abbrev nothing : Exchange
nothing = record { call = []; number = 0; records = [] }

unfoldable pub told : List Exchange
unfolding run to_bytes exchanges opening_calls later_calls
told = run new instance_calls

pub told_is : run new instance_calls ≡ told
unfolding told
told_is = refl

abbrev pub told_at : ℕ → Exchange
told_at k = get_or told k nothing

-- It is taken apart at one place, and at one and a later one.
at_one : (k : ℕ) → ltb k (length told) ≡ true → run new instance_calls ≡ take k told ++ (told_at k ∷ drop (suc k) told)
at_one k e = told_is ∙ split_at told k nothing (ltb-true k (length told) e)

at-two :
    (k j : ℕ)
    → ltb k (length told) ≡ true
    → ltb j (length (drop (suc k) told)) ≡ true
    → run new instance_calls
    ≡ take k told ++ (told_at k ∷ (take j (drop (suc k) told) ++ (get_or (drop (suc k) told) j nothing ∷ drop (suc j) (drop (suc k) told))))
at-two k j e g =
    at_one k e
    ∙ ap (λ (l : List Exchange). take k told ++ (told_at k ∷ l)) (split_at (drop (suc k) told) j nothing (ltb-true j (length (drop (suc k) told)) g))

-- A text that comes with its check bits goes up without them, and an acknowledgement with an FCS and nothing else sends nothing
-- up.
abbrev pub text : List ℕ
text = 1 ∷ 0 ∷ 0 ∷ 1 ∷ 1 ∷ 1 ∷ 0 ∷ []

abbrev frame_of : List ℕ → Frame
frame_of c = frame_in (drop 3 c)

pub text-spelled : parsed (told_at 8).call ≡ accepted (frame (frame_of text_of_first))
unfolding told
text-spelled = refl

pub text-framed : (frame_of text_of_first).pdu ≡ frame_bits (BlData true true) text
unfolding exchanges to_bytes frame_bits
text-framed = refl

pub text-accepted : (told_at 8).number ≡ 0
unfolding told
text-accepted = refl

pub text-instance : texts_in (told_at 8).records ≡ text ∷ []
unfolding told last_from heard_in
text-instance =
    ((texts-run instance_calls).each (take 8 told) (told_at 8) (drop 9 told) (at_one 8 refl)).up
    (frame_of text_of_first) (BlData true true) text text-spelled text-framed text-accepted

pub ack-spelled : parsed (told_at 24).call ≡ accepted (frame (frame_of ack_of_first))
unfolding told
ack-spelled = refl

pub ack-framed : (frame_of ack_of_first).pdu ≡ frame_bits (BlAck true false) []
unfolding exchanges to_bytes frame_bits
ack-framed = refl

pub ack-accepted : (told_at 24).number ≡ 0
unfolding told
ack-accepted = refl

pub ack-instance : texts_in (told_at 24).records ≡ []
unfolding told
ack-instance =
    ((texts-run instance_calls).each (take 24 told) (told_at 24) (drop 25 told) (at_one 24 refl)).up
    (frame_of ack_of_first) (BlAck true false) [] ack-spelled ack-framed ack-accepted

-- The order to the second address and the BL-ACK that takes an SDU along are handed down with check bits, and read back by them.
abbrev pub steal_request : Request
steal_request =
    record {
      ssi = 0x0a3e91;
      type = 1;
      given = 1;
      carrier = 0x3c4d;
      link = 0xd1c2b3a4;
      endpoint = 0x95867768;
      handle = 0x594a3b2c;
      flags = 3;
      mask = 0;
      receipt = 0x44;
      block = 0x5e ∷ [];
      sdu = 1 ∷ 0 ∷ 1 ∷ 1 ∷ 0 ∷ 1 ∷ [];
    }

abbrev pub order_bits : List ℕ
order_bits = to_bits 46 0x154b51c5045d

abbrev pub ack_bits : List ℕ
ack_bits = to_bits 43 0x3edba6c1fe1

-- The bits that a record hands down.
abbrev pub handed_bits : Record → List ℕ
handed_bits (acknowledged s) = s.pdu
handed_bits (reply r) = r.pdu
handed_bits (unacknowledged s) = s.pdu
handed_bits (data_up i) = []
handed_bits (unitdata_up i) = []

pub bits-handed : map handed_bits (told_at 13).records
    ≡ to_bits 17 0x022e7d ∷ order_bits ∷ to_bits 5 0x07 ∷ to_bits 5 0x06 ∷ to_bits 11 0x165 ∷ ack_bits ∷ []
unfolding told to_bits
bits-handed = refl

pub requests-then : requests_after (take 13 told) 0x22 ∷ requests_after (take 13 told) 0x44 ∷ [] ≡ some second_request ∷ some steal_request ∷ []
unfolding told requests_from done_to about
requests-then = refl

pub requests-freed : requests_after (take 39 told) 0x22 ≡ none
unfolding told requests_from done_to about
requests-freed = refl

-- By the request that holds its receipt.
read_by : (h : Requests) (s : Sent) (r : Request) → h s.receipt ≡ some r → Carries h s → ReadAs r s.pdu
read_by h s r e c = subst (λ (x : Request). ReadAs x s.pdu) (some-injective c.request r (sym c.holds ∙ e)) c.reads

read-then : All (ReadBack (requests_after (take 13 told))) (told_at 13).records
unfolding told
read-then = (read-back-run instance_calls).each (take 13 told) (told_at 13) (drop 14 told) (at_one 13 refl)

pub order-read : ReadAs second_request order_bits
unfolding told to_bits requests_from done_to about
order-read = read_by (requests_after (take 13 told)) _ second_request refl read-then.1.0

pub ack-read : ReadAs steal_request ack_bits
unfolding told to_bits requests_from done_to about
ack-read = read_by (requests_after (take 13 told)) _ steal_request refl read-then.1.1.1.1.1.0

pub reply-read : ReadAsReply (to_bits 5 0x07)
unfolding told to_bits
reply-read = read-then.1.1.0

-- The text is the first since the start, and goes up; its repeat does not, with a call of the other address between; the next has
-- another N(S), and goes up though it is empty.
abbrev pub again : List ℕ
again = 1 ∷ 0 ∷ 1 ∷ 1 ∷ 0 ∷ []

pub begun : heard_in (told_at 1) ≡ begins
unfolding told heard_in
begun = refl

pub text-heard : heard_in (told_at 8) ≡ hears first true text
unfolding told heard_in
text-heard = refl

pub repeat-heard : heard_in (told_at 10) ≡ hears first true again
unfolding told heard_in
repeat-heard = refl

pub new-heard : heard_in (told_at 11) ≡ hears first false []
unfolding told heard_in
new-heard = refl

pub text-first : WentUp first text (told_at 8).records
unfolding told heard_in all
text-first =
    (repeats-run instance_calls).first (take 1 told) (told_at 1) (take 6 (drop 2 told)) (told_at 8) (drop 9 told) first true text
    (at-two 1 6 refl refl) begun refl text-heard

pub repeat-stopped : (told_at 10).records ≡ []
unfolding told heard_in all
repeat-stopped =
    (repeats-run instance_calls).same (take 8 told) (told_at 8) (take 1 (drop 9 told)) (told_at 10) (drop 11 told) first true text again
    (at-two 8 1 refl refl) text-heard refl repeat-heard

pub new-up : WentUp first [] (told_at 11).records
unfolding told heard_in all
new-up =
    (repeats-run instance_calls).other (take 10 told) (told_at 10) [] (told_at 11) (drop 12 told) first true again []
    (at-two 10 0 refl refl) repeat-heard refl new-heard

-- What the rule answers on the past of the second address, with all opened that it computes by.
unfoldable pub answers : List Exchange
unfolding exchanges rule_run at_outset due_on requested after_data after_unitdata after_start looked submitted resent sent_first at_tick_end
    the_one after_received after_frame still_waits after_report still_held after_release does judged rule about done_to holders whose in_past nothing_yet and_then history
    to_bytes opening_calls later_calls
answers = ruled second (run new instance_calls)

pub answers-are : ruled second (run new instance_calls) ≡ answers
unfolding answers
answers-are = refl

-- Its fourth call is the request, which the rule accepts.
unfoldable pub fourth : Exchange
unfolding answers
fourth = get_or answers 3 nothing

pub fourth-asks : request_spelled fourth.call ≡ some second_request
unfolding fourth about
fourth-asks = refl

pub fourth-accepted : fourth.number ≡ 0
unfolding fourth
fourth-accepted = refl

enough : ltb 3 (length answers) ≡ true
unfolding answers
enough = refl

pub answers-parts : ruled second (run new instance_calls) ≡ take 3 answers ++ (fourth ∷ drop 4 answers)
unfolding fourth
answers-parts = answers-are ∙ split_at answers 3 nothing (ltb-true 3 (length answers) enough)

-- And it hands it down four times.
pub four-by-rule : AtMostFour second_request (sendings 0x22 (drop 4 (ruled second (run new instance_calls))))
four-by-rule =
    rw answers-are
    ((four-ruled instance_calls unhindered-instance second).each
    (take 3 answers) fourth (drop 4 answers) second_request answers-parts fourth-accepted fourth-asks)

pub four-times-by-rule : eqb (length (sendings 0x22 (drop 4 answers))) 4 ≡ true
unfolding answers sendings handed done_to about
four-times-by-rule = refl
