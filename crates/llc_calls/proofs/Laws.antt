-- The law for callers: question 5 on what was taken apart is question 5 on the call.
use mathlib.Core.Path.{◌≡◌, refl}
use Rattle.bits.proofs.PartLaws.{length-bits_of}
use Rattle.llc_rule.specs.Ranges.{in_range, request_in_range, frame_in_range}
use Rattle.llc_calls.specs.Decoded.{request_of, frame_of, call_of}
use Rattle.llc_calls.specs.Ranges.{request_range, frame_range, in_range_of}
use Rattle.llc_calls.specs.declared.RequestCall.{RequestCall}
use Rattle.llc_calls.specs.declared.FrameCall.{FrameCall}
use Rattle.llc_calls.specs.declared.Call.{Call}
use Rattle.llc_calls.specs.declared.Call.TheVariants.{Start, TickStart, TickEnd, Request, Frame, ByReceipt}

pub request-range : (q : RequestCall) → request_range q ≡ request_in_range (request_of q)
unfolding request_range request_in_range request_of
request-range q = rw (length-bits_of q.sdu)

pub frame-range : (f : FrameCall) → frame_range f ≡ frame_in_range (frame_of f)
unfolding frame_range frame_in_range frame_of
frame-range f = rw (length-bits_of f.pdu)

pub in-range : (c : Call) → in_range_of c ≡ in_range (call_of c)
unfolding in_range_of in_range
in-range (Start carrier t251) = refl
in-range (TickStart time) = refl
in-range TickEnd = refl
in-range (Request s q) = request-range q
in-range (Frame f) = frame-range f
in-range (ByReceipt receipt action) = refl
