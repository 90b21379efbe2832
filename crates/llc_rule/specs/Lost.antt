-- What Lost tells: "It shall say that an acknowledged message that leaves unacknowledged, Lost or Discarded, has been handed down
-- exactly four times, and that each resend followed a done time at least T251 slots old or one that lay ahead of the clock." By the
-- calls of a run, their numbers and records, and by what the run leaves: the receipts' marks, and which messages are held.
--
--     request | .. a sending .. the report on it .. the first tick end: done time .. | a tick end: sent again, or it leaves
--       asked |                              since                                   | e
--
-- An order is a request on the acknowledged path. A prefix of a run is a run, so what is said at the end of a run is said at every
-- moment. Which acknowledgement finished an order that reads Acknowledged is not said here, nor that what is due is sent at once: that
-- is the one-address rule's.
use Rattle.std.specs.Prelude.{ℕ, ◌≤◌, ◌≡◌, Bool, true, false, cond, not, ◌&&◌, ◌||◌, List, [], ◌∷◌, ◌++◌, eqb, ℤ, pos, negsuc, length}
use Rattle.lists.specs.Lists.{any}
use Rattle.questions.specs.Outcome.{Outcome, accepted, refused}
use Rattle.tdma_time.specs.Slots.{first, minus}
use Rattle.tdma_time.specs.declared.TdmaTime.{TdmaTime}
use Rattle.tx_receipt.specs.States.{is}
use Rattle.tx_receipt.specs.declared.TxState.{TxState}
use Rattle.tx_receipt.specs.declared.TxState.TheVariants.{Discarded, Lost, Acknowledged}
use Rattle.llc_rule.specs.Calls.{Call, start, tick_start, tick_end, request, frame, by_receipt, Service, tl_data, tl_unitdata, Action, report, release, Request, parsed}
use Rattle.llc_rule.specs.Ranges.{steals}
use Rattle.llc_rule.specs.Records.{Sent}
use Rattle.llc_rule.specs.Messages.{Message, Place, place_at, taken?}
use Rattle.llc_rule.specs.Runs.{Exchange}
use Rattle.llc_rule.specs.Past.{frees, done_to}
use Rattle.llc_rule.specs.Sendings.{ends, handed, sendings, AtMostFour}

-- What is read off a call -------------------------------------------------------------------------------------------------

-- What an accepted call is to an order: a start with its T251, a tick start with its time, a tick end, an order, a report on a
-- receipt with its value, or none of these.
pub data Event : Type 0 where
  started : ℕ → Event
  ticked : TdmaTime → Event
  tick_ended : Event
  ordered : Request → Event
  reported_on : ℕ → ℕ → Event
  other : Event

-- "Acknowledged path": a data request to an individual address that does not steal.
abbrev pub as_order : Service → Request → Event
as_order tl_data r = cond (eqb r.type 1 && not (steals r)) (ordered r) other
as_order tl_unitdata r = other

abbrev pub as_report : ℕ → Action → Event
as_report i (report how) = reported_on i how
as_report i release = other

abbrev pub event : Outcome Call → Event
event (refused n) = other
event (accepted (start carrier t251)) = started t251
event (accepted (tick_start time)) = ticked time
event (accepted tick_end) = tick_ended
event (accepted (request s r)) = as_order s r
event (accepted (frame f)) = other
event (accepted (by_receipt i a)) = as_report i a

-- Of an exchange: a refused call is none.
unfoldable pub event_in : Exchange → Event
event_in e = cond (eqb e.number 0) (event (parsed e.call)) other

abbrev pub is_tick_ended : Event → Bool
is_tick_ended (started t251) = false
is_tick_ended (ticked time) = false
is_tick_ended tick_ended = true
is_tick_ended (ordered r) = false
is_tick_ended (reported_on i how) = false
is_tick_ended other = false

abbrev pub is_report : ℕ → Event → Bool
is_report i (started t251) = false
is_report i (ticked time) = false
is_report i tick_ended = false
is_report i (ordered r) = false
is_report i (reported_on j how) = eqb j i
is_report i other = false

-- Does an exchange end a tick, report on receipt i, or hand down with it? Does it end the holding of it?
abbrev pub ends_tick : Exchange → Bool
ends_tick e = is_tick_ended (event_in e)

abbrev pub reports : ℕ → Exchange → Bool
reports i e = is_report i (event_in e)

abbrev pub is_any : List Sent → Bool
is_any [] = false
is_any (s ∷ ss) = true

abbrev pub sends : ℕ → Exchange → Bool
sends i e = is_any (handed i e.records)

abbrev pub ends_holding : ℕ → Exchange → Bool
ends_holding i e = ends i (done_to e)

-- The clock ---------------------------------------------------------------------------------------------------------------

-- The time and T251, as the calls give them.
pub record Clock : Type 0 where
  pub time : TdmaTime
  pub t251 : ℕ

-- "From a start to the next 22 the time is h 0, m 1, f 1, t 1." "Tick start sets the time."
abbrev pub clock_next : Clock → Event → Clock
clock_next k (started t251) = record { time = first; t251 = t251 }
clock_next k (ticked time) = record { time = time; t251 = k.t251 }
clock_next k tick_ended = k
clock_next k (ordered r) = k
clock_next k (reported_on i how) = k
clock_next k other = k

unfoldable pub clock_from : Clock → List Exchange → Clock
clock_from k [] = k
clock_from k (e ∷ es) = clock_from (clock_next k (event_in e)) es

-- After the exchanges of a run.
abbrev pub clock_after : List Exchange → Clock
clock_after es = clock_from (record { time = first; t251 = 0 }) es

-- "A done time at least T251 slots old or one that lay ahead of the clock."
abbrev pub OldEnoughBy : ℤ → ℕ → Type 0
OldEnoughBy (pos n) t251 = t251 ≤ n
OldEnoughBy (negsuc n) t251 = Unit {0}

abbrev pub OldEnough : Clock → TdmaTime → Type 0
OldEnough k done = OldEnoughBy (minus k.time done) k.t251

-- Why an order is sent again, and why it leaves -----------------------------------------------------------------------------

-- Of the exchanges since the request: the last that hands down with receipt i, and those behind it. "A submission .. clears the done
-- time": what was reported before it does not count.
pub record LastSending (i : ℕ) (since behind : List Exchange) : Type 0 where
  pub before : List Exchange
  pub sending : Exchange
  pub there : since ≡ before ++ (sending ∷ behind)
  pub hands_down : sends i sending ≡ true
  pub not_again : any (sends i) behind ≡ false

-- Of the exchanges since a sending: the one accepted report on receipt i, and those behind it.
pub record OneReport (i how : ℕ) (after_sending behind : List Exchange) : Type 0 where
  pub before : List Exchange
  pub report : Exchange
  pub there : after_sending ≡ before ++ (report ∷ behind)
  pub says : event_in report ≡ reported_on i how
  pub not_before : any (reports i) before ≡ false
  pub not_again : any (reports i) behind ≡ false

-- Of the exchanges since a report: the first tick end, and those behind it. "A message without a done time whose receipt is Discarded
-- or at least Transmitted gets done time now."
pub record FirstTickEnd (after_report behind : List Exchange) : Type 0 where
  pub before : List Exchange
  pub ending : Exchange
  pub there : after_report ≡ before ++ (ending ∷ behind)
  pub is_one : event_in ending ≡ tick_ended
  pub not_before : any ends_tick before ≡ false

-- What led to a tick end, where `asked` are the exchanges up to the request and `since` those from there up to that tick end: a
-- sending, the report on it, and the tick end that noted the report. The time of that one is the done time, and it is old.
pub record Reason (i : ℕ) (asked since : List Exchange) : Type 0 where
  pub behind_sending : List Exchange
  pub behind_report : List Exchange
  pub behind_noting : List Exchange
  pub how : ℕ
  pub sending : LastSending i since behind_sending
  pub report : OneReport i how behind_sending behind_report
  pub noting : FirstTickEnd behind_report behind_noting
  pub old :
      OldEnough (clock_after (asked ++ since))
      (clock_after (asked ++ (sending.before ++ (sending.sending ∷ (report.before ++ (report.report ∷ noting.before)))))).time

-- An order is handed down at a tick end, once; and again only for a reason.
pub record SentAt (i : ℕ) (asked since : List Exchange) (e : Exchange) : Type 0 where
  pub tick_end : event_in e ≡ tick_ended
  pub once : length (handed i e.records) ≡ 1
  pub again : any (sends i) since ≡ true → Reason i asked since

-- What the marks tell ---------------------------------------------------------------------------------------------------------

-- Does a receipt read so?
abbrev pub reads : TxState → Place → Bool
reads s p = taken? (is s) p

abbrev pub reads_lost_or_discarded : Place → Bool
reads_lost_or_discarded p = reads Lost p || reads Discarded p

-- An order that left as Lost or Discarded: it was handed down four times, and left at a tick end for the reason for which it
-- would have been sent again. "Transmitted becomes Lost, Discarded stays": Lost exactly if the last report on it was 1, transmitted,
-- Discarded exactly if it was 2, discarded.
pub record LeftAfterFour (i : ℕ) (asked later : List Exchange) (p : Place) : Type 0 where
  pub four : length (sendings i later) ≡ 4
  pub since : List Exchange
  pub leaving : Exchange
  pub behind : List Exchange
  pub there : later ≡ since ++ (leaving ∷ behind)
  pub tick_end : event_in leaving ≡ tick_ended
  pub reason : Reason i asked since
  pub sent_no_more : any (sends i) (leaving ∷ behind) ≡ false
  pub last_report : any (reports i) (leaving ∷ behind) ≡ false
  pub lost : reads Lost p ≡ eqb reason.how 1
  pub discarded : reads Discarded p ≡ eqb reason.how 2

-- Is one with receipt i among the acknowledged messages that are held?
abbrev pub is_held : ℕ → List Message → Bool
is_held i ms = any (λ (m : Message). eqb m.sent.receipt i) ms

-- What is told of an order r that exchange e asks for, by those before it and those later. While its request holds its receipt: by
-- what the receipt reads at the end, and by whether its message is held then.
pub record OrderTold (r : Request) (before : List Exchange) (e : Exchange) (later : List Exchange) (p : Place) (held : Bool) : Type 0 where
  -- The request hands nothing down. Later there are at most four sendings, all the same, and each has its reason.
  pub silent : sends r.receipt e ≡ false
  pub few : AtMostFour r (sendings r.receipt later)
  pub sent :
      (since : List Exchange) (d : Exchange) (behind : List Exchange)
      → later ≡ since ++ (d ∷ behind)
      → any (ends_holding r.receipt) since ≡ false
      → sends r.receipt d ≡ true
      → SentAt r.receipt (before ++ (e ∷ [])) since d
  -- It leaves in no other way than Acknowledged, Lost or Discarded; and Acknowledged or Lost is not read while it is held.
  pub ended : any (ends_holding r.receipt) later ≡ false → held ≡ false → reads Acknowledged p || reads_lost_or_discarded p ≡ true
  pub over : any (ends_holding r.receipt) later ≡ false → reads Acknowledged p || reads Lost p ≡ true → held ≡ false
  -- Lost after four, and never sooner.
  pub left :
      any (ends_holding r.receipt) later ≡ false
      → held ≡ false
      → reads_lost_or_discarded p ≡ true
      → LeftAfterFour r.receipt (before ++ (e ∷ [])) later p

-- Of every order of a run that is accepted, by the receipts and the acknowledged messages that the run leaves.
pub record LostAfterFour (es : List Exchange) (ps : List Place) (ms : List Message) : Type 0 where
  pub each :
      (before : List Exchange) (e : Exchange) (later : List Exchange) (r : Request)
      → es ≡ before ++ (e ∷ later)
      → event_in e ≡ ordered r
      → OrderTold r before e later (place_at ps r.receipt) (is_held r.receipt ms)

-- Of one exchange e more, by the receipts and acknowledged messages before it and the receipts after it: a receipt is released only if
-- no acknowledged message with it is held, and what a receipt reads once its message has left it reads until its holding ends.
pub record StaysSettled (e : Exchange) (ps : List Place) (ms : List Message) (qs : List Place) : Type 0 where
  pub released : (i : ℕ) → done_to e ≡ frees i → is_held i ms ≡ false
  pub stays :
      (i : ℕ)
      → ends_holding i e ≡ false
      → is_held i ms ≡ false
      → reads Acknowledged (place_at ps i) || reads_lost_or_discarded (place_at ps i) ≡ true
      → place_at qs i ≡ place_at ps i
