-- What the answer of a decoding says: the call as document 01 has it, its block and its bits out of the call's own bytes, or
-- the number of the question failed; and what its numbers and its parts are below.
use Rattle.std.specs.Prelude.{ℕ, ◌^◌, ◌<◌, ◌≡◌, List, length, Result, Ok, Err}
use Rattle.bits.specs.Parts.{bits_of}
use Rattle.bits.specs.declared.parts.Part.{Part}
use Rattle.questions.specs.Outcome.{Outcome, accepted, refused}
use Rattle.questions.specs.Refusals.{number_of}
use Rattle.questions.specs.declared.Refusal.{Refusal}
use Rattle.llc_rule.specs.Calls as Rule
use Rattle.llc_rule.specs.Calls.{start, tick_start, tick_end, request, frame, by_receipt, tl_data, tl_unitdata, report, release}
use Rattle.llc_calls.specs.declared.RequestCall.{RequestCall}
use Rattle.llc_calls.specs.declared.FrameCall.{FrameCall}
use Rattle.llc_calls.specs.declared.Service.{Service}
use Rattle.llc_calls.specs.declared.Service.TheVariants.{TlData, TlUnitdata}
use Rattle.llc_calls.specs.declared.Action.{Action}
use Rattle.llc_calls.specs.declared.Action.TheVariants.{Report, Release}
use Rattle.llc_calls.specs.declared.Call.{Call}
use Rattle.llc_calls.specs.declared.Call.TheVariants.{Start, TickStart, TickEnd, Request, Frame, ByReceipt}

unfoldable pub request_of : RequestCall → Rule.Request
request_of q =
    record {
      ssi = q.ssi;
      type = q.ssi_type;
      given = q.given;
      carrier = q.carrier;
      link = q.link;
      endpoint = q.endpoint;
      handle = q.handle;
      flags = q.flags;
      mask = q.mask;
      receipt = q.receipt;
      block = q.block.now;
      sdu = bits_of q.sdu;
    }

unfoldable pub frame_of : FrameCall → Rule.Frame
frame_of f =
    record {
      ssi = f.ssi;
      type = f.ssi_type;
      carrier = f.carrier;
      link = f.link;
      endpoint = f.endpoint;
      block = f.block.now;
      pdu = bits_of f.pdu;
    }

-- The service of a request, and what is done by a receipt.
abbrev pub service_of : Service → Rule.Service
service_of TlData = tl_data
service_of TlUnitdata = tl_unitdata

abbrev pub action_of : Action → Rule.Action
action_of (Report how) = report how
action_of Release = release

abbrev pub call_of : Call → Rule.Call
call_of (Start carrier t251) = start carrier t251
call_of (TickStart time) = tick_start time
call_of TickEnd = tick_end
call_of (Request s q) = request (service_of s) (request_of q)
call_of (Frame f) = frame (frame_of f)
call_of (ByReceipt receipt action) = by_receipt receipt (action_of action)

-- The call, or the number.
abbrev pub decoded : Result Call Refusal → Outcome Rule.Call
decoded (Ok c) = accepted (call_of c)
decoded (Err r) = refused (number_of r)

-- A block as long as one byte can say, and bits as many as two, from a byte's first on.
pub record PartsInside (block : List ℕ) (lent : Part) : Type 0 where
  pub block_len : length block < 2 ^ 8
  pub place : lent.place ≡ 0
  pub bits_len : lent.len < 2 ^ 16

-- A request's address is one of three bytes, and its parts are those of a call; its other numbers are those of their bytes by their types.
pub record RequestInside (q : RequestCall) : Type 0 where
  pub ssi : q.ssi < 2 ^ 24
  pub parts : PartsInside q.block.now q.sdu

-- The same of a frame.
pub record FrameInside (f : FrameCall) : Type 0 where
  pub ssi : f.ssi < 2 ^ 24
  pub parts : PartsInside f.block.now f.pdu

abbrev pub Inside : Call → Type 0
Inside (Start carrier t251) = Unit {0}
Inside (TickStart time) = Unit {0}
Inside TickEnd = Unit {0}
Inside (Request s q) = RequestInside q
Inside (Frame f) = FrameInside f
Inside (ByReceipt receipt action) = Unit {0}
