-- A state with one receipt marked, taken or freed.
use Rattle.std.specs.Prelude.{ℕ, Bool, true, cond, List, get_or, set, Option, Some, None}
use Rattle.tx_receipt.specs.States.{number, numbered}
use Rattle.tx_receipt.specs.Marks.{Mark, marked}
use Rattle.tx_receipt.specs.declared.TxState.TheVariants.{Pending}
use Rattle.tx_receipt.specs.declared.TxReceipt.{TxReceipt}
use Rattle.llc_state.specs.declared.ReceiptPlace.{ReceiptPlace}
use Rattle.llc_state.specs.declared.State.{State}
use Rattle.llc_state.specs.States.{no_receipt}

-- A state with other receipts.
abbrev pub with_places : State → List ReceiptPlace → State
with_places s ps =
    record {
      started = s.started;
      main_carrier = s.main_carrier;
      t251 = s.t251;
      dltime = s.dltime;
      n_messages = s.n_messages;
      outbound_messages = s.outbound_messages;
      n_udata = s.n_udata;
      outbound_udata_messages = s.outbound_udata_messages;
      n_acks = s.n_acks;
      scheduled_out_acks = s.scheduled_out_acks;
      receipts = ps;
      n_rows = s.n_rows;
      link_send_seq = s.link_send_seq;
    }

-- The receipt of a place, and that of one that may be free.
abbrev pub receipt_of : ReceiptPlace → TxReceipt
receipt_of p = record { expects_ack = p.expects_ack; state = numbered p.state }

abbrev pub receipt_in : ReceiptPlace → Option TxReceipt
receipt_in p = cond p.taken (Some (receipt_of p)) None

-- A place that a receipt has taken, and one that a request has.
abbrev pub taken_by : TxReceipt → ReceiptPlace
taken_by r = record { taken = true; expects_ack = r.expects_ack; state = number r.state }

abbrev pub requested_receipt : Bool → TxReceipt
requested_receipt expects = record { expects_ack = expects; state = Pending }

abbrev pub pending_place : Bool → ReceiptPlace
pending_place expects = taken_by (requested_receipt expects)

-- A place with another receipt, and with its receipt marked, if it is taken.
abbrev pub with_receipt : TxReceipt → ReceiptPlace → ReceiptPlace
with_receipt r p = cond p.taken (taken_by r) p

abbrev pub marked_place : Mark → ReceiptPlace → ReceiptPlace
marked_place k p = with_receipt (marked k (receipt_of p)).receipt p

-- The place with a number, and the places with the receipt there marked if it is taken.
abbrev pub place_of : List ReceiptPlace → ℕ → ReceiptPlace
place_of ps i = get_or ps i no_receipt

abbrev pub mark : Mark → ℕ → List ReceiptPlace → List ReceiptPlace
mark k i ps = set ps i (marked_place k (place_of ps i))

abbrev pub mark_receipt : State → ℕ → Mark → State
mark_receipt s i k = with_places s (mark k i s.receipts)

abbrev pub take_receipt : State → ℕ → Bool → State
take_receipt s i expects = with_places s (set s.receipts i (pending_place expects))

abbrev pub free_receipt : State → ℕ → State
free_receipt s i = with_places s (set s.receipts i no_receipt)
