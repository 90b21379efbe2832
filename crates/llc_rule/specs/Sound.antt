-- What holds of the link after every run, whatever was refused in it.
use Rattle.std.specs.Prelude.{ℕ, ◌+◌, ◌≤◌, ◌≡◌, Bool, true, false, not, List, [], ◌∷◌, eqb, length}
use Rattle.std.proofs.Math.Option.{Option, none, some}
use Rattle.lists.specs.Lists.{keep, any, All}
use Rattle.tx_receipt.specs.States.{is}
use Rattle.tx_receipt.specs.declared.TxState.TheVariants.{Pending}
use Rattle.tx_receipt.specs.declared.TxReceipt.{TxReceipt}
use Rattle.llc_rule.specs.Records.{Sent}
use Rattle.llc_rule.specs.Messages.{Message, Place, place_at, is_free, taken?}
use Rattle.llc_rule.specs.Link.{Link}
use Rattle.llc_rule.specs.Past.{Holders}

-- The receipt of a message that is held is taken, by its own address.
pub record Owned (h : Holders) (ps : List Place) (s : Sent) : Type 0 where
  pub holder : h s.receipt ≡ some s.ssi
  pub taken : is_free (place_at ps s.receipt) ≡ false

-- A receipt is Pending.
abbrev pub IsPending : List Place → ℕ → Type 0
IsPending ps i = taken? (is Pending) (place_at ps i) ≡ true

-- A receipt expects an acknowledgement.
abbrev pub expects : TxReceipt → Bool
expects r = r.expects_ack

abbrev pub Expects : List Place → ℕ → Type 0
Expects ps i = taken? expects (place_at ps i) ≡ true

-- The receipt of an acknowledged message expects an acknowledgement; that of one that waits is Pending, and it has no done time.
pub record Waiting (ps : List Place) (m : Message) : Type 0 where
  pub expects : Expects ps m.sent.receipt
  pub receipt : m.submitted ≡ false → IsPending ps m.sent.receipt
  pub time : m.submitted ≡ false → m.done ≡ none

-- How many messages that are held have receipt i.
abbrev pub acknowledged_with : ℕ → List Message → ℕ
acknowledged_with i ms = length (keep (λ (m : Message). eqb m.sent.receipt i) ms)

abbrev pub unacknowledged_with : ℕ → List Sent → ℕ
unacknowledged_with i us = length (keep (λ (s : Sent). eqb s.receipt i) us)

-- The acknowledged messages of an address, in their order.
abbrev pub of_address : ℕ → List Message → List Message
of_address a ms = keep (λ (m : Message). eqb m.sent.ssi a) ms

-- At most one of them is submitted, and it comes first.
unfoldable pub one_ahead : List Message → Bool
one_ahead [] = true
one_ahead (m ∷ ms) = not (any (λ (n : Message). n.submitted) ms)

abbrev pub is_nobody : Option ℕ → Bool
is_nobody none = true
is_nobody (some a) = false

-- "64 acknowledged messages, 32 unacknowledged, 64 due acknowledgements, 128 receipts and 256 address rows."
pub record Within (l : Link) : Type 0 where
  pub acknowledged : length l.acknowledged ≤ 64
  pub unacknowledged : length l.unacknowledged ≤ 32
  pub due : length l.due ≤ 64
  pub receipts : length l.receipts ≡ 128
  pub rows : length l.rows ≤ 256

pub record Sound (h : Holders) (l : Link) : Type 0 where
  pub limits : Within l
  -- A held message's receipt is taken, by its own address; no two held messages share one.
  pub owned : All (λ (m : Message). Owned h l.receipts m.sent) l.acknowledged
  pub owned_too : All (Owned h l.receipts) l.unacknowledged
  pub apart : (i : ℕ) → acknowledged_with i l.acknowledged + unacknowledged_with i l.unacknowledged ≤ 1
  -- A receipt is free exactly if nobody holds it.
  pub free : (i : ℕ) → is_free (place_at l.receipts i) ≡ is_nobody (h i)
  -- An acknowledged message's receipt expects an acknowledgement; a waiting message's receipt is Pending.
  pub waiting : All (Waiting l.receipts) l.acknowledged
  pub waiting_too : All (λ (s : Sent). IsPending l.receipts s.receipt) l.unacknowledged
  -- Each address has at most one message under way, ahead of those that wait.
  pub ahead : (a : ℕ) → one_ahead (of_address a l.acknowledged) ≡ true
