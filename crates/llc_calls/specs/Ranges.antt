-- Question 5 on a call that was taken apart, as llc_rule's Ranges has it on the call: lengths in place of lists.
use Rattle.std.specs.Prelude.{◌/◌, ◌%◌, Bool, true, not, ◌&&◌, ◌||◌, eqb, leb, ltb, length}
use Rattle.tdma_time.specs.Slots.{valid}
use Rattle.llc_pdus.specs.Writes.{longest}
use Rattle.llc_rule.specs.Limits.{longest_frame}
use Rattle.llc_rule.specs.Ranges.{is_type, is_receipt, action_in_range}
use Rattle.llc_calls.specs.Decoded.{action_of}
use Rattle.llc_calls.specs.declared.RequestCall.{RequestCall}
use Rattle.llc_calls.specs.declared.FrameCall.{FrameCall}
use Rattle.llc_calls.specs.declared.Call.{Call}
use Rattle.llc_calls.specs.declared.Call.TheVariants.{Start, TickStart, TickEnd, Request, Frame, ByReceipt}

unfoldable pub request_range : RequestCall → Bool
request_range q =
    is_type q.ssi_type
    && leb q.given 1
    && (eqb q.given 1 || eqb q.carrier 0)
    && ltb q.flags 8
    && ltb q.mask 16
    && (eqb (q.flags / 4 % 2) 1 || eqb q.mask 0)
    && is_receipt q.receipt
    && leb (length q.block.now) 64
    && leb q.sdu.len longest

unfoldable pub frame_range : FrameCall → Bool
frame_range f = is_type f.ssi_type && leb (length f.block.now) 64 && leb f.pdu.len longest_frame

unfoldable pub in_range_of : Call → Bool
in_range_of (Start carrier t251) = not (eqb t251 0)
in_range_of (TickStart time) = valid time
in_range_of TickEnd = true
in_range_of (Request s q) = request_range q
in_range_of (Frame f) = frame_range f
in_range_of (ByReceipt receipt action) = is_receipt receipt && action_in_range (action_of action)
