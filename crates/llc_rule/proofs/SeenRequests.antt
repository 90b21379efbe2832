-- A request, as its own address has it and as another address does.
use Prim.Native.Nat.{ℕ, ◌<◌}
use mathlib.Core.Path.{◌≡◌, ◌∙◌, refl, sym, ap}
use mathlib.Core.Bool.{Bool, true, false, cond, not, false≢true}
use mathlib.Core.List.{List, [], ◌∷◌, ◌++◌, append-nil}
use mathlib.Core.Option.{some}
use borrow.Author.Tests.{eq-eqb, eqb-true}
use lib.Dec.{eqb}
use lib.ListN.{length, set}
use Rattle.std.proofs.lemmas.Bool.{and_parts}
use Rattle.lists.specs.Lists.{keep, Found, nothing, first, others}
use Rattle.lists.proofs.Lists.{keep_append, find-by, TakenOut, found-out}
use Rattle.lists.proofs.Choices.{by-test}
use Rattle.llc_pdus.specs.declared.Pdu.{Pdu}
use Rattle.llc_pdus.specs.declared.Pdu.TheVariants.{BlUdata, BlAck}
use Rattle.llc_rule.specs.Calls.{Service, Request}
use Rattle.llc_rule.specs.Ranges.{steals, wants_fcs}
use Rattle.llc_rule.specs.Records.{Sent}
use Rattle.llc_rule.specs.Messages.{Message, Due, Place, free, taken, place_at, is_free, pending, waiting, carrier_of, sent_of}
use Rattle.llc_rule.specs.Link.{Link, bit_of, numbers_of}
use Rattle.llc_rule.specs.Step.{is_due_for, due_for, on_acknowledged_path, data_pdu, with_acknowledged, with_unacknowledged, with_stolen}
use Rattle.llc_rule.specs.Keeps.{with_bit, acknowledged_now, unacknowledged_now, due_now, with_receipts, with_rows}
use Rattle.llc_rule.specs.Rule.{Own, due_on, requested, after_data, after_unitdata}
use Rattle.llc_rule.specs.Past.{Holders, holding, is_holder}
use Rattle.llc_rule.specs.Sound.{of_address}
use Rattle.llc_rule.proofs.Paths.{Acknowledged, Unacknowledged}
use Rattle.llc_rule.proofs.Own.{sent_to, due_to, blank, own, keep_found, find-keep, keep_taken, numbers-own, own-parts, numbers-other, blank-set, blank-set-other, place-blank}

-- The acknowledgement due, as its address finds it.
due-own : (r : Request) (h : Holders) (l : Link) → due_on (carrier_of l.carrier r) (own r.ssi h l) ≡ keep_found (due_to r.ssi) (due_for r l)
unfolding due_on own due_for
due-own r h l = find-keep (due_to r.ssi) (λ (d : Due). eqb d.carrier (carrier_of l.carrier r)) l.due

others-own : (a : ℕ) (f : Found Due) (ds : List Due) → others (keep_found (due_to a) f) (keep (due_to a) ds) ≡ keep (due_to a) (others f ds)
others-own a nothing ds = refl
others-own a (first d xs) ds = refl

-- A message put last, its own address's.
last-own : (r : Request) (c k : ℕ) (p : Pdu) (ms : List Sent) → keep (sent_to r.ssi) (ms ++ (sent_of r c k p ∷ [])) ≡ keep (sent_to r.ssi) ms ++ (sent_of r c k p ∷ [])
unfolding sent_of keep
last-own r c k p ms =
    keep_append (sent_to r.ssi) ms (sent_of r c k p ∷ []) ∙ rw (eq-eqb r.ssi r.ssi refl)

-- What the rule makes of a request on the acknowledged path, of one that steals, and of one to a group.
rule-acknowledged :
    (r : Request) (o : Own) (f : Found Due)
    → due_on (carrier_of o.carrier r) o ≡ f
    → steals r ≡ false
    → eqb r.type 1 ≡ true
    → after_data r o
    ≡ with_rows
    (with_receipts
    (due_now
    (acknowledged_now o
    (o.acknowledged ++ (waiting (sent_of r (carrier_of o.carrier r) 0 (data_pdu r o.rows.bit f)) o.rows.bit ∷ [])))
    (others f o.due))
    (set o.receipts r.receipt (pending true)))
    (with_bit o.rows (not o.rows.bit))
unfolding after_data requested
rule-acknowledged r o nothing e s t = rw (e, s, t)
rule-acknowledged r o (first d ds) e s t = rw (e, s, t)

data-pdu-own : (r : Request) (b : Bool) (a : ℕ) (f : Found Due) → data_pdu r b (keep_found (due_to a) f) ≡ data_pdu r b f
data-pdu-own r b a nothing = refl
data-pdu-own r b a (first d ds) = refl

message-own :
    (r : Request) (c k : ℕ) (p : Pdu) (ns : Bool) (ms : List Message)
    → of_address r.ssi (ms ++ (waiting (sent_of r c k p) ns ∷ [])) ≡ of_address r.ssi ms ++ (waiting (sent_of r c k p) ns ∷ [])
unfolding sent_of keep
message-own r c k p ns ms =
    keep_append (λ (m : Message). eqb m.sent.ssi r.ssi) ms (waiting (sent_of r c k p) ns ∷ [])
    ∙ rw (eq-eqb r.ssi r.ssi refl)

acknowledged-own :
    (r : Request) (h : Holders) (l : Link)
    → steals r ≡ false
    → eqb r.type 1 ≡ true
    → r.receipt < length l.receipts
    → own r.ssi (holding r.receipt (some r.ssi) h) (with_acknowledged r l) ≡ after_data r (own r.ssi h l)
unfolding own with_acknowledged
acknowledged-own r h l s t lt =
    let a : ℕ = r.ssi in
    let b : Bool = bit_of a l.rows in
    let c : ℕ = carrier_of l.carrier r in
    let numbers = numbers-own a (with_bit (numbers_of a l.rows) (not b)) l.rows in
    let messages =
    message-own r c 0 (data_pdu r b (due_for r l)) b l.acknowledged
    ∙ ap (λ (p : Pdu). of_address a l.acknowledged ++ (waiting (sent_of r c 0 p) b ∷ [])) (sym (data-pdu-own r b a (due_for r l)))
    in
    let dues = sym (others-own a (due_for r l) l.due) in
    let places = blank-set a h r.receipt (some a) (pending true) l.receipts lt (rw (eq-eqb a a refl)) in
    own-parts a h (holding r.receipt (some r.ssi) h) l (with_acknowledged r l) refl numbers messages refl dues places
    ∙ sym (rule-acknowledged r (own a h l) (keep_found (due_to a) (due_for r l)) (due-own r h l) s t)

-- What the rule keeps after an unacknowledged message, with the acknowledgements that are left due.
abbrev rule_unacknowledged : Request → ℕ → Pdu → List Due → Own → Own
rule_unacknowledged r k p ds o =
    with_receipts
    (due_now
    (unacknowledged_now o (o.unacknowledged ++ (sent_of r (carrier_of o.carrier r) k p ∷ [])))
    ds)
    (set o.receipts r.receipt (pending false))

-- An unacknowledged message put last, its own address's.
unacknowledged-own :
    (r : Request) (h : Holders) (l : Link) (k : ℕ) (p : Pdu) (ds : List Due)
    → r.receipt < length l.receipts
    → own r.ssi (holding r.receipt (some r.ssi) h) (with_unacknowledged r k p ds l)
    ≡ rule_unacknowledged r k p (keep (due_to r.ssi) ds) (own r.ssi h l)
unfolding own with_unacknowledged
unacknowledged-own r h l k p ds lt =
    let a : ℕ = r.ssi in
    let messages = last-own r (carrier_of l.carrier r) k p l.unacknowledged in
    let places = blank-set a h r.receipt (some a) (pending false) l.receipts lt (rw (eq-eqb a a refl)) in
    own-parts a h (holding r.receipt (some r.ssi) h) l (with_unacknowledged r k p ds l) refl refl refl messages refl places

rule-stolen :
    (r : Request) (o : Own) (d : Due) (ds : List Due)
    → due_on (carrier_of o.carrier r) o ≡ first d ds
    → steals r ≡ true
    → after_data r o ≡ rule_unacknowledged r r.link (BlAck (wants_fcs r) d.nr) ds o
unfolding after_data requested
rule-stolen r o d ds e s = rw (e, s)

rule-none-due :
    (r : Request) (o : Own)
    → due_on (carrier_of o.carrier r) o ≡ nothing
    → steals r ≡ true
    → after_data r o ≡ rule_unacknowledged r 0 (BlUdata false) o.due o
unfolding after_data requested
rule-none-due r o e s = rw (e, s)

rule-group :
    (r : Request) (o : Own)
    → steals r ≡ false
    → eqb r.type 1 ≡ false
    → after_data r o ≡ rule_unacknowledged r 0 (BlUdata false) o.due o
unfolding after_data requested
rule-group r o s t = rw (s, t)

stolen-own :
    (r : Request) (h : Holders) (l : Link) (f : Found Due)
    → due_for r l ≡ f
    → steals r ≡ true
    → r.receipt < length l.receipts
    → own r.ssi (holding r.receipt (some r.ssi) h) (with_stolen r l f) ≡ after_data r (own r.ssi h l)
unfolding with_stolen own
stolen-own r h l nothing e s lt =
    unacknowledged-own r h l 0 (BlUdata false) l.due lt
    ∙ sym (rule-none-due r (own r.ssi h l) (due-own r h l ∙ ap (keep_found (due_to r.ssi)) e) s)
stolen-own r h l (first d ds) e s lt =
    unacknowledged-own r h l r.link (BlAck (wants_fcs r) d.nr) ds lt
    ∙ sym
    (rule-stolen r (own r.ssi h l) d (keep (due_to r.ssi) ds) (due-own r h l ∙ ap (keep_found (due_to r.ssi)) e) s)

group-own :
    (r : Request) (h : Holders) (l : Link)
    → steals r ≡ false
    → eqb r.type 1 ≡ false
    → r.receipt < length l.receipts
    → own r.ssi (holding r.receipt (some r.ssi) h) (with_stolen r l nothing) ≡ after_data r (own r.ssi h l)
unfolding with_stolen own
group-own r h l s t lt =
    unacknowledged-own r h l 0 (BlUdata false) l.due lt ∙ sym (rule-group r (own r.ssi h l) s t)

pub unitdata-own :
    (r : Request) (h : Holders) (l : Link)
    → r.receipt < length l.receipts
    → own r.ssi (holding r.receipt (some r.ssi) h) (with_unacknowledged r r.link (BlUdata false) l.due l)
    ≡ after_unitdata r (own r.ssi h l)
unfolding after_unitdata requested own
unitdata-own r h l lt = unacknowledged-own r h l r.link (BlUdata false) l.due lt

-- The link after a data request that is accepted.
unfoldable pub after_data_link : Request → Link → Link
after_data_link r l =
    cond (on_acknowledged_path r) (with_acknowledged r l)
    (cond (steals r) (with_stolen r l (due_for r l)) (with_stolen r l nothing))

pub data-own :
    (r : Request) (h : Holders) (l : Link)
    → r.receipt < length l.receipts
    → own r.ssi (holding r.receipt (some r.ssi) h) (after_data_link r l) ≡ after_data r (own r.ssi h l)
unfolding after_data_link
data-own r h l lt =
    by-test (steals r)
    (λ s. by-test (eqb r.type 1) (λ t. rw (s, t) (stolen-own r h l (due_for r l) refl s lt)) (λ t. rw (s, t) (stolen-own r h l (due_for r l) refl s lt)))
    (λ s. by-test (eqb r.type 1) (λ t. rw (s, t) (acknowledged-own r h l s t lt)) (λ t. rw (s, t) (group-own r h l s t lt)))

-- Another address's request changes nothing of an address.
free-is : (p : Place) → is_free p ≡ true → p ≡ free
free-is free e = refl
free-is (taken t) e = absurd (false≢true e)

-- A place that is free is free for every address.
blank-free : (a : ℕ) (h : Holders) (ps : List Place) (i : ℕ) → is_free (place_at ps i) ≡ true → place_at (blank a h ps) i ≡ free
blank-free a h ps i e =
    place-blank a h ps i
    ∙ ap (λ (p : Place). cond (is_holder a (h i)) p free) (free-is (place_at ps i) e)
    ∙ by-test (is_holder a (h i)) (λ t. rw t) (λ t. rw t)

due-other :
    (a : ℕ) (r : Request) (l : Link) (used : Found Due)
    → TakenOut (is_due_for r l) l.due used
    → eqb r.ssi a ≡ false
    → keep (due_to a) (others used l.due) ≡ keep (due_to a) l.due
due-other a r l used t e =
    keep_taken (due_to a) (is_due_for r l) l.due (λ d q. rw (eqb-true d.ssi r.ssi (and_parts _ _ q).0) e) used t

message-other :
    (a : ℕ) (r : Request) (c k : ℕ) (p : Pdu) (ns : Bool) (ms : List Message)
    → eqb r.ssi a ≡ false
    → of_address a (ms ++ (waiting (sent_of r c k p) ns ∷ [])) ≡ of_address a ms
unfolding sent_of keep
message-other a r c k p ns ms e =
    keep_append (λ (m : Message). eqb m.sent.ssi a) ms (waiting (sent_of r c k p) ns ∷ [])
    ∙ rw e (append-nil (of_address a ms))

last-other :
    (a : ℕ) (r : Request) (c k : ℕ) (p : Pdu) (ms : List Sent)
    → eqb r.ssi a ≡ false
    → keep (sent_to a) (ms ++ (sent_of r c k p ∷ [])) ≡ keep (sent_to a) ms
unfolding sent_of keep
last-other a r c k p ms e = keep_append (sent_to a) ms (sent_of r c k p ∷ []) ∙ rw e (append-nil (keep (sent_to a) ms))

pub acknowledged-other :
    (a : ℕ) (r : Request) (h : Holders) (l : Link)
    → Acknowledged r l
    → eqb r.ssi a ≡ false
    → r.receipt < length l.receipts
    → own a (holding r.receipt (some r.ssi) h) (with_acknowledged r l) ≡ own a h l
unfolding own with_acknowledged due_for
acknowledged-other a r h l k e lt =
    let b : Bool = bit_of r.ssi l.rows in
    let numbers = numbers-other a r.ssi (with_bit (numbers_of r.ssi l.rows) (not b)) l.rows e in
    let messages =
    message-other a r (carrier_of l.carrier r) 0 (data_pdu r b (due_for r l)) b l.acknowledged e
    in
    let dues = due-other a r l (due_for r l) (found-out _ l.due (due_for r l) (find-by _ l.due)) e in
    let places =
    blank-set-other a h r.receipt (some r.ssi) (pending true) l.receipts lt e (blank-free a h l.receipts r.receipt k.free)
    in
    own-parts a h (holding r.receipt (some r.ssi) h) l (with_acknowledged r l) refl numbers messages refl dues places

pub unacknowledged-other :
    {v : Service} (a : ℕ) (r : Request) (h : Holders) (l : Link) (link : ℕ) (p : Pdu) (used : Found Due)
    → Unacknowledged v r link p used l
    → eqb r.ssi a ≡ false
    → r.receipt < length l.receipts
    → own a (holding r.receipt (some r.ssi) h) (with_unacknowledged r link p (others used l.due) l) ≡ own a h l
unfolding own with_unacknowledged
unacknowledged-other a r h l link p used k e lt =
    let ds : List Due = others used l.due in
    let messages = last-other a r (carrier_of l.carrier r) link p l.unacknowledged e in
    let dues = due-other a r l used k.used e in
    let places =
    blank-set-other a h r.receipt (some r.ssi) (pending false) l.receipts lt e (blank-free a h l.receipts r.receipt k.free)
    in
    own-parts a h (holding r.receipt (some r.ssi) h) l (with_unacknowledged r link p ds l) refl refl refl messages dues places
