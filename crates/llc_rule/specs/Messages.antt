-- What the link and the one-address rule both keep: messages, due acknowledgements and receipts.
use Rattle.std.specs.Prelude.{ℕ, ◌-◌, ◌^◌, Bool, true, false, cond, ◌&&◌, ◌||◌, List, eqb, leb, ℤ, pos, negsuc, get_or, set, replicate}
use Rattle.std.proofs.Math.Option.{Option, none, some}
use Rattle.tdma_time.specs.Slots.{plus, minus}
use Rattle.tdma_time.specs.declared.TdmaTime.{TdmaTime}
use Rattle.tx_receipt.specs.States.{is, at_least}
use Rattle.tx_receipt.specs.Marks as Marks
use Rattle.tx_receipt.specs.Marks.{Mark}
use Rattle.tx_receipt.specs.declared.TxState.TheVariants.{Pending, Discarded, Transmitted}
use Rattle.tx_receipt.specs.declared.TxReceipt.{TxReceipt}
use Rattle.llc_pdus.specs.Headers.{header}
use Rattle.llc_pdus.specs.Frames.{frame_bits}
use Rattle.llc_pdus.specs.declared.Pdu.{Pdu}
use Rattle.llc_pdus.specs.declared.Pdu.TheVariants.{BlAck}
use Rattle.llc_rule.specs.Calls.{Request}
use Rattle.llc_rule.specs.Ranges.{steals, has_mask}
use Rattle.llc_rule.specs.Records.{Record, reply, Sent}

-- An acknowledged message: what each of its sendings hands down, its N(S), whether it was submitted, its done time and how
-- often it was resent.
pub record Message : Type 0 where
  pub sent : Sent
  pub ns : Bool
  pub submitted : Bool
  pub done : Option TdmaTime
  pub resends : ℕ

-- A message as a request leaves it: it waits.
abbrev pub waiting : Sent → Bool → Message
waiting s ns = record { sent = s; ns = ns; submitted = false; done = none; resends = 0 }

-- "A submission .. clears the done time and repeats the same bits." After so many resends.
abbrev pub submitted_after : ℕ → Message → Message
submitted_after n m = record { sent = m.sent; ns = m.ns; submitted = true; done = none; resends = n }

abbrev pub done_at : TdmaTime → Message → Message
done_at t m = record { sent = m.sent; ns = m.ns; submitted = m.submitted; done = some t; resends = m.resends }

abbrev pub has_time : Option TdmaTime → Bool
has_time none = false
has_time (some t) = true

-- "If now less done is T251 or more. A difference below zero counts as due."
abbrev pub reaches : ℤ → ℕ → Bool
reaches (pos n) t251 = leb t251 n
reaches (negsuc n) t251 = true

unfoldable pub overdue : TdmaTime → ℕ → TdmaTime → Bool
overdue time t251 done = reaches (minus time done) t251

-- An acknowledgement that is due: for which address, with which N(R), and the slot t in which its frame came.
pub record Due : Type 0 where
  pub ssi : ℕ
  pub type : ℕ
  pub carrier : ℕ
  pub nr : Bool
  pub slot : ℕ

-- "Its slot two before now."
unfoldable pub slot_before : TdmaTime → ℕ
slot_before time = (plus time (negsuc 1)).t

-- "An acknowledgement reply whose slot t is 2 to 4 steals: link id t and a timeslot mask with bit t - 1 only; else link id 0,
-- no mask."
abbrev pub steals_slot : ℕ → Bool
steals_slot t = leb 2 t && leb t 4

unfoldable pub reply_to : Due → Record
reply_to d =
    reply
    (record {
      ssi = d.ssi;
      type = d.type;
      carrier = d.carrier;
      link = cond (steals_slot d.slot) d.slot 0;
      steal = steals_slot d.slot;
      mask = cond (steals_slot d.slot) (some (2 ^ (d.slot - 1))) none;
      pdu = header (BlAck false d.nr);
    })

-- The place of a receipt, of which there are 128.
pub data Place : Type 0 where
  free : Place
  taken : TxReceipt → Place

-- 128 receipts, all free.
unfoldable pub no_receipts : List Place
no_receipts = replicate 128 free

abbrev pub place_at : List Place → ℕ → Place
place_at l i = get_or l i free

abbrev pub is_free : Place → Bool
is_free free = true
is_free (taken r) = false

-- "A request takes its receipt as Pending"; "receipts of unacknowledged messages expect no acknowledgement".
abbrev pub pending : Bool → Place
pending expects = taken (record { expects_ack = expects; state = Pending })

-- Does a test hold of a receipt that is taken?
abbrev pub taken? : (TxReceipt → Bool) → Place → Bool
taken? p free = false
taken? p (taken r) = p r

-- A receipt that is taken, marked. A mark that the table does not allow leaves it as it was.
abbrev pub marked : Mark → Place → Place
marked k free = free
marked k (taken r) = taken (Marks.marked k r).receipt

-- The receipt with a number, marked.
abbrev pub mark : Mark → ℕ → List Place → List Place
mark k i l = set l i (marked k (place_at l i))

-- The mark of a report: "1 transmitted or 2 discarded".
abbrev pub mark_of : ℕ → Mark
mark_of how = cond (eqb how 1) Marks.transmitted Marks.discarded

-- "Whose receipt is Discarded or at least Transmitted."
abbrev pub reported : TxReceipt → Bool
reported r = is Discarded r || at_least Transmitted r

-- "The carrier is the one given, else the main carrier."
abbrev pub carrier_of : ℕ → Request → ℕ
carrier_of main r = cond (eqb r.given 1) r.carrier main

-- What a request hands down on a carrier behind a header, with a link id.
unfoldable pub sent_of : Request → ℕ → ℕ → Pdu → Sent
sent_of r carrier link p =
    record {
      ssi = r.ssi;
      type = r.type;
      carrier = carrier;
      link = link;
      endpoint = r.endpoint;
      handle = r.handle;
      steal = steals r;
      mask = cond (has_mask r) (some r.mask) none;
      receipt = r.receipt;
      block = r.block;
      pdu = frame_bits p r.sdu;
    }
