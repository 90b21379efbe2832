-- What is read off a run of the request that holds a receipt: its sendings, the report on the last of them, and when that was
-- noted. It is a reading of calls, numbers and records alone; what is told of orders (specs/Lost.antt) follows from it.
use Prim.Native.Nat.{ℕ}
use mathlib.Core.Path.{◌≡◌, refl, sym, ap, subst}
use mathlib.Core.Bool.{Bool, true, false, cond, ◌||◌}
use mathlib.Core.List.{List, [], ◌∷◌, ◌++◌, append-nil}
use mathlib.Core.Option.{Option, none, some}
use borrow.Author.Clash.{clash}
use lib.Dec.{eqb}
use lib.ListN.{length}
use Rattle.std.proofs.lemmas.Bool.{cond_both}
use Rattle.lists.proofs.Choices.{either}
use Rattle.tdma_time.specs.declared.TdmaTime.{TdmaTime}
use Rattle.tx_receipt.specs.declared.TxReceipt.{TxReceipt}
use Rattle.tx_receipt.specs.declared.TxState.{TxState}
use Rattle.tx_receipt.specs.declared.TxState.TheVariants.{Pending, Discarded, Transmitted, Lost, Acknowledged}
use Rattle.llc_rule.specs.Calls.{Request}
use Rattle.llc_rule.specs.Records.{Sent}
use Rattle.llc_rule.specs.Messages.{overdue, Place, taken}
use Rattle.llc_rule.specs.Runs.{Exchange}
use Rattle.llc_rule.specs.Past.{Holding, takes, taken_by, done_to}
use Rattle.llc_rule.specs.Sendings.{handed, AtMostFour}
use Rattle.llc_rule.specs.Lost.{Event, started, ticked, tick_ended, ordered, reported_on, other, event_in, is_tick_ended, is_any, Clock, clock_next, reads}

-- The reading -------------------------------------------------------------------------------------------------------------

-- Of a request that holds a receipt: whether it is an order, what was handed down for it, the report since the last sending, the
-- time of the first tick end after that, and whether it was due at a later one and was not sent.
pub record Watch : Type 0 where
  pub request : Request
  pub order : Bool
  pub sent : List Sent
  pub report : Option ℕ
  pub noted : Option TdmaTime
  pub over : Bool

abbrev pub asking : Request → Bool → Watch
asking r b = record { request = r; order = b; sent = []; report = none; noted = none; over = false }

abbrev pub reported_as : ℕ → Watch → Watch
reported_as how w =
    record { request = w.request; order = w.order; sent = w.sent; report = some how; noted = none; over = w.over }

abbrev pub sent_again : List Sent → Watch → Watch
sent_again ss w =
    record { request = w.request; order = w.order; sent = w.sent ++ ss; report = none; noted = none; over = w.over }

abbrev pub noted_at : TdmaTime → Watch → Watch
noted_at t w =
    record { request = w.request; order = w.order; sent = w.sent; report = w.report; noted = some t; over = w.over }

abbrev pub over_by : Bool → Watch → Watch
over_by b w =
    record { request = w.request; order = w.order; sent = w.sent; report = w.report; noted = w.noted; over = w.over || b }

abbrev pub is_order : Event → Bool
is_order (started t251) = false
is_order (ticked time) = false
is_order tick_ended = false
is_order (ordered r) = true
is_order (reported_on i how) = false
is_order other = false

-- A tick end at which nothing is sent: it notes a report, or finds a noted one due.
abbrev pub unnoted : Clock → Watch → Option ℕ → Watch
unnoted k w none = w
unnoted k w (some how) = noted_at k.time w

abbrev pub aged : Clock → Watch → Option TdmaTime → Watch
aged k w none = unnoted k w w.report
aged k w (some done) = over_by (overdue k.time k.t251 done) w

abbrev pub goes_on : ℕ → Clock → Event → List Sent → Watch → Watch
goes_on i k (started t251) ss w = w
goes_on i k (ticked time) ss w = w
goes_on i k tick_ended [] w = aged k w w.noted
goes_on i k tick_ended (s ∷ ss) w = sent_again (s ∷ ss) w
goes_on i k (ordered r) ss w = w
goes_on i k (reported_on j how) ss w = cond (eqb j i) (reported_as how w) w
goes_on i k other ss w = w

abbrev pub if_any : (Watch → Watch) → Option Watch → Option Watch
if_any f none = none
if_any f (some w) = some (f w)

-- Who is watched after a call took, freed or emptied; and what is read of it.
abbrev pub holding_now : ℕ → Event → Holding → Option Watch → Option Watch
holding_now i v x w = taken_by (λ (r : Request). asking r (is_order v)) x (λ j. w) i

abbrev pub watched_by : ℕ → Clock → Event → Holding → List Sent → Option Watch → Option Watch
watched_by i k v x ss w = if_any (goes_on i k v ss) (holding_now i v x w)

unfoldable pub watched : ℕ → Clock → Exchange → Option Watch → Option Watch
watched i k e w = watched_by i k (event_in e) (done_to e) (handed i e.records) w

unfoldable pub watch_from : ℕ → Clock → Option Watch → List Exchange → Option Watch
watch_from i k w [] = w
watch_from i k w (e ∷ es) = watch_from i (clock_next k (event_in e)) (watched i k e w) es

-- What holds of each exchange of a run --------------------------------------------------------------------------------------

-- Why it is handed down: for the first time, or since a noted report is old.
pub record WhyAgain (k : Clock) (w : Watch) : Type 0 where
  pub done : TdmaTime
  pub noted : w.noted ≡ some done
  pub old : overdue k.time k.t251 done ≡ true

abbrev pub Why : Clock → Watch → List Sent → Type 0
Why k w [] = Unit {0}
Why k w (s ∷ ss) = WhyAgain k w

-- What is handed down with the receipt in one exchange: nothing, or one at a tick end.
pub record SentWell (k : Clock) (w : Watch) (v : Event) (s : Sent) (ss : List Sent) : Type 0 where
  pub tick_end : v ≡ tick_ended
  pub once : ss ≡ []
  pub still : w.over ≡ false
  pub why : Why k w w.sent

abbrev pub AllSentWell : Clock → Watch → Event → List Sent → Type 0
AllSentWell k w v [] = Unit {0}
AllSentWell k w v (s ∷ ss) = SentWell k w v s ss

-- A call while a request holds receipt i: no other takes that, what is handed down has its reason, and a report on an order is
-- the first since a sending.
pub record Good (i : ℕ) (k : Clock) (w : Watch) (v : Event) (x : Holding) (ss : List Sent) : Type 0 where
  pub untaken : (r : Request) → x ≡ takes r → eqb i r.receipt ≡ false
  pub sent : AllSentWell k w v ss
  pub unreported : w.order ≡ true → (how : ℕ) → v ≡ reported_on i how → (w.report ≡ none) × (is_any w.sent ≡ true)

abbrev pub GoodBy : ℕ → Clock → Option Watch → Event → Holding → List Sent → Type 0
GoodBy i k none v x ss = ss ≡ []
GoodBy i k (some w) v x ss = Good i k w v x ss

abbrev pub GoodIn : ℕ → Clock → Option Watch → Exchange → Type 0
GoodIn i k w e = GoodBy i k w (event_in e) (done_to e) (handed i e.records)

-- And at each moment: at most four were handed down, all the same.
abbrev pub Fine : Option Watch → Type 0
Fine none = Unit {0}
Fine (some w) = AtMostFour w.request w.sent

abbrev pub Each : ℕ → Clock → Option Watch → List Exchange → Type 0
Each i k w [] = Fine w
Each i k w (e ∷ es) = Fine w × (GoodIn i k w e × Each i (clock_next k (event_in e)) (watched i k e w) es)

-- Before the first of them, too.
pub first_fine : (i : ℕ) (k : Clock) (w : Option Watch) (es : List Exchange) → Each i k w es → Fine w
first_fine i k w [] each = each
first_fine i k w (e ∷ es) each = each.0

-- What it keeps of a watch ----------------------------------------------------------------------------------------------------

-- Nothing is handed down but at a tick end.
pub none-handed : (k : Clock) (w : Watch) (v : Event) (ss : List Sent) → is_tick_ended v ≡ false → AllSentWell k w v ss → ss ≡ []
none-handed k w v [] f a = refl
none-handed k w v (s ∷ ss) f a = clash _ (ap is_tick_ended a.tick_end) f

-- Whose it is stays, and so does what was handed down, with what more is.
pub record Goes (w v : Watch) (ss : List Sent) : Type 0 where
  pub request : v.request ≡ w.request
  pub order : v.order ≡ w.order
  pub sent : v.sent ≡ w.sent ++ ss

goes_same : (w : Watch) → Goes w w []
goes_same w = record { request = refl; order = refl; sent = sym (append-nil w.sent) }

goes-unnoted : (k : Clock) (w : Watch) (o : Option ℕ) → Goes w (unnoted k w o) []
goes-unnoted k w none = goes_same w
goes-unnoted k w (some how) = record { request = refl; order = refl; sent = sym (append-nil w.sent) }

pub goes-aged : (k : Clock) (w : Watch) (o : Option TdmaTime) → Goes w (aged k w o) []
goes-aged k w none = goes-unnoted k w w.report
goes-aged k w (some done) = record { request = refl; order = refl; sent = sym (append-nil w.sent) }

pub goes-ended : (i : ℕ) (k : Clock) (w : Watch) (ss : List Sent) → Goes w (goes_on i k tick_ended ss w) ss
goes-ended i k w [] = goes-aged k w w.noted
goes-ended i k w (s ∷ ss) = record { request = refl; order = refl; sent = refl }

goes-still : (k : Clock) (w : Watch) (v : Event) (ss : List Sent) → is_tick_ended v ≡ false → AllSentWell k w v ss → Goes w w ss
goes-still k w v ss t a = subst (Goes w w) (sym (none-handed k w v ss t a)) (goes_same w)

pub goes : (i : ℕ) (k : Clock) (w : Watch) (v : Event) (ss : List Sent) → AllSentWell k w v ss → Goes w (goes_on i k v ss w) ss
goes i k w (started t251) ss a = goes-still k w (started t251) ss refl a
goes i k w (ticked time) ss a = goes-still k w (ticked time) ss refl a
goes i k w tick_ended ss a = goes-ended i k w ss
goes i k w (ordered r) ss a = goes-still k w (ordered r) ss refl a
goes i k w (reported_on j how) ss a =
    let g = goes-still k w (reported_on j how) ss refl a in
    cond_both (eqb j i) _ _ (λ (v : Watch). Goes w v ss)
    (λ h. record { request = refl; order = refl; sent = g.sent })
    (λ h. g)
goes i k w other ss a = goes-still k w other ss refl a

-- Whose it is, whatever was handed down.
pub goes-request : (i : ℕ) (k : Clock) (v : Event) (ss : List Sent) (w : Watch) → (goes_on i k v ss w).request ≡ w.request
goes-request i k (started t251) ss w = refl
goes-request i k (ticked time) ss w = refl
goes-request i k tick_ended ss w = (goes-ended i k w ss).request
goes-request i k (ordered r) ss w = refl
goes-request i k (reported_on j how) ss w = either (λ (v : Watch). v.request ≡ w.request) (eqb j i) refl refl
goes-request i k other ss w = refl

-- At the end of the run ----------------------------------------------------------------------------------------------------------

-- An order that is no longer held: what its receipt reads, by its last report.
pub record LeftBy (w : Watch) (how : ℕ) : Type 0 where
  pub four : length w.sent ≡ 4
  pub report : w.report ≡ some how
  pub over : w.over ≡ true

abbrev pub GoneAs : Watch → TxState → Type 0
GoneAs w Pending = ⊥
GoneAs w Discarded = LeftBy w 2
GoneAs w Transmitted = ⊥
GoneAs w Lost = LeftBy w 1
GoneAs w Acknowledged = Unit {0}

pub record Gone (w : Watch) (p : Place) : Type 0 where
  pub receipt : TxReceipt
  pub taken : p ≡ taken receipt
  pub how : GoneAs w receipt.state

-- One that is held reads neither Acknowledged nor Lost.
pub record Ended (w : Watch) (p : Place) (held : Bool) : Type 0 where
  pub gone : held ≡ false → Gone w p
  pub still : held ≡ true → reads Acknowledged p || reads Lost p ≡ false

abbrev pub End : Option Watch → Place → Bool → Type 0
End none p held = Unit {0}
End (some w) p held = w.order ≡ true → Ended w p held
