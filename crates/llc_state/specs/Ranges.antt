-- Question 1: "every count and value in the state handed in within its range".
-- A value is in use if it lies below its array's count and, where a flag says whether it is there, the flag says so. The counts
-- and the values in use are asked, and no others. T251 and the time are there once started; an entry of the unacknowledged
-- queue has no N(S), no done time and no retransmissions.
use Rattle.std.specs.Prelude.{ℕ, Bool, not, ◌&&◌, ◌||◌, leb, ltb, take}
use Rattle.lists.specs.Lists.{all}
use Rattle.tdma_time.specs.Slots.{valid}
use Rattle.llc_pdus.specs.Headers.{bdata, udata, ack, length_of}
use Rattle.llc_pdus.specs.Writes.{longest_of, longest_sent}
use Rattle.llc_rule.specs.Limits.{store_places}
use Rattle.llc_rule.specs.Ranges.{is_type, is_receipt}
use Rattle.llc_state.specs.declared.TmaUnitdataReq.{TmaUnitdataReq}
use Rattle.llc_state.specs.declared.Progress.{Progress}
use Rattle.llc_state.specs.declared.Entry.{Entry}
use Rattle.llc_state.specs.declared.ScheduledOutAck.{ScheduledOutAck}
use Rattle.llc_state.specs.declared.ReceiptPlace.{ReceiptPlace}
use Rattle.llc_state.specs.declared.LinkSendSeq.{LinkSendSeq}
use Rattle.llc_state.specs.declared.State.{State}

-- A value that a flag says is there is asked; one that is not there is not.
abbrev pub if_there : Bool → Bool → Bool
if_there there fits = not there || fits

-- An SSI has 24 bits.
abbrev pub is_ssi : ℕ → Bool
is_ssi n = ltb n 16777216

-- What is handed down, and how far a message has come.
unfoldable pub sent_in_range : TmaUnitdataReq → Bool
sent_in_range r =
    is_ssi r.ssi
    && is_type r.ssi_type
    && if_there r.has_mask (ltb r.mask 16)
    && is_receipt r.receipt
    && leb r.block_len 64

unfoldable pub progress_in_range : Progress → Bool
progress_in_range p = leb p.retransmit_count 3 && if_there p.has_umac_done (valid p.t_umac_done)

-- An entry of either queue.
unfoldable pub entry_in_range : Entry → Bool
entry_in_range e = sent_in_range e.sent && ltb e.frame.place store_places

-- One of the acknowledged queue: its frame is the header of a BL-DATA or a BL-ADATA and the SDU.
unfoldable pub message_in_range : Entry → Bool
message_in_range e =
    entry_in_range e
    && leb (length_of bdata) e.frame.len
    && leb e.frame.len longest_sent
    && progress_in_range e.progress

-- One of the unacknowledged queue: its frame is the header of a BL-UDATA or a BL-ACK and the SDU.
unfoldable pub udata_in_range : Entry → Bool
udata_in_range e = entry_in_range e && leb (length_of udata) e.frame.len && leb e.frame.len (longest_of ack)

unfoldable pub ack_in_range : ScheduledOutAck → Bool
ack_in_range a = is_ssi a.ssi && is_type a.ssi_type && leb 1 a.ts && leb a.ts 4

-- A receipt that is taken is in one of the five states.
unfoldable pub place_in_range : ReceiptPlace → Bool
place_in_range p = if_there p.taken (ltb p.state 5)

unfoldable pub row_in_range : LinkSendSeq → Bool
row_in_range r = is_ssi r.ssi

-- The counts, and T251 and the time once they are set.
unfoldable pub head_in_range : State → Bool
head_in_range s =
    leb s.n_messages 64
    && leb s.n_udata 32
    && leb s.n_acks 64
    && leb s.n_rows 256
    && if_there s.started (ltb 0 s.t251 && valid s.dltime)

-- The whole state.
unfoldable pub state_in_range : State → Bool
state_in_range s =
    head_in_range s
    && all message_in_range (take s.n_messages s.outbound_messages)
    && all udata_in_range (take s.n_udata s.outbound_udata_messages)
    && all ack_in_range (take s.n_acks s.scheduled_out_acks)
    && all row_in_range (take s.n_rows s.link_send_seq)
    && all place_in_range s.receipts
