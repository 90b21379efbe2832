-- Question 5: "Values in range: time, T251 not 0, type, carrier-given, flags under 8, report value, receipt under 128, mask
-- under 16 and 0 without flag 4, carrier 0 if not given, block, SDU up to 2,595 bits, frame up to 2,633?"
use Rattle.std.specs.Prelude.{ℕ, ◌/◌, ◌%◌, Bool, true, not, ◌&&◌, ◌||◌, eqb, leb, ltb, length}
use Rattle.tdma_time.specs.Slots.{valid}
use Rattle.llc_pdus.specs.Writes.{longest}
use Rattle.llc_rule.specs.Limits.{longest_frame}
use Rattle.llc_rule.specs.Calls.{Call, start, tick_start, tick_end, request, frame, by_receipt, Action, report, release, Request, Frame}

-- "Flags: 1 steal, 2 FCS, 4 mask present."
abbrev pub steals : Request → Bool
steals r = eqb (r.flags % 2) 1

abbrev pub wants_fcs : Request → Bool
wants_fcs r = eqb (r.flags / 2 % 2) 1

abbrev pub has_mask : Request → Bool
has_mask r = eqb (r.flags / 4 % 2) 1

-- "Type 1 individual or 2 group."
abbrev pub is_type : ℕ → Bool
is_type n = eqb n 1 || eqb n 2

abbrev pub is_receipt : ℕ → Bool
is_receipt n = ltb n 128

unfoldable pub request_in_range : Request → Bool
request_in_range r =
    is_type r.type
    && leb r.given 1
    && (eqb r.given 1 || eqb r.carrier 0)
    && ltb r.flags 8
    && ltb r.mask 16
    && (has_mask r || eqb r.mask 0)
    && is_receipt r.receipt
    && leb (length r.block) 64
    && leb (length r.sdu) longest

unfoldable pub frame_in_range : Frame → Bool
frame_in_range f = is_type f.type && leb (length f.block) 64 && leb (length f.pdu) longest_frame

abbrev pub action_in_range : Action → Bool
action_in_range (report how) = eqb how 1 || eqb how 2
action_in_range release = true

unfoldable pub in_range : Call → Bool
in_range (start carrier t251) = not (eqb t251 0)
in_range (tick_start time) = valid time
in_range tick_end = true
in_range (request s r) = request_in_range r
in_range (frame f) = frame_in_range f
in_range (by_receipt i a) = is_receipt i && action_in_range a
