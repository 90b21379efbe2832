-- What goes up of a frame, as the code writes it, and the room that it takes.
use Prim.Native.Nat.{ℕ, ◌≤◌, ◌<◌}
use native.Mathlib.Omega.{arith}
use mathlib.Core.Path.{◌≡◌, refl, sym}
use mathlib.Core.Bool.{Bool, true, ◌&&◌}
use mathlib.Core.List.{List, [], ◌∷◌, ◌++◌, append-nil}
use borrow.Author.Tests.{leb-true}
use lib.Dec.{leb}
use lib.ListN.{length}
use Rattle.std.proofs.lemmas.Bool.{and_parts}
use Rattle.bits.specs.Parts.{bits_of}
use Rattle.bits.specs.declared.parts.Part.{Part}
use Rattle.llc_pdus.specs.declared.Pdu.{Pdu}
use Rattle.llc_pdus.specs.declared.Pdu.TheVariants.{BlAdata, BlData, BlUdata, BlAck}
use Rattle.llc_rule.specs.Limits.{longest_frame}
use Rattle.llc_rule.specs.Calls.{Frame}
use Rattle.llc_rule.specs.Ranges.{is_type}
use Rattle.llc_rule.specs.Upward.{upward}
use Rattle.llc_rule.specs.Records.{bytes, all_bytes, indication_bytes}
use Rattle.llc_rule.proofs.Records.{most_up, small-indication}
use Rattle.llc_calls.specs.Decoded.{frame_of}
use Rattle.llc_calls.specs.Ranges.{frame_range}
use Rattle.llc_calls.specs.declared.FrameCall.{FrameCall}
use Rattle.bits.proofs.PartLaws.{length-bits_of}
use Rattle.llc_received.specs.Upward.{sent_up}

-- What each PDU sends up.
module _ (f : Frame) (sdu : List ℕ) where
  alone : (k link : ℕ) (fcs : Bool) → indication_bytes k (sent_up f link fcs sdu) ++ [] ≡ indication_bytes k (sent_up f link fcs sdu)
  alone k link fcs = append-nil (indication_bytes k (sent_up f link fcs sdu))

  pub adata-up : (c nr ns : Bool) → all_bytes (upward f (BlAdata c nr ns) sdu) ≡ indication_bytes 4 (sent_up f f.link c sdu)
  unfolding upward all_bytes bytes
  adata-up c nr ns = alone 4 f.link c

  pub data-up : (c ns : Bool) → all_bytes (upward f (BlData c ns) sdu) ≡ indication_bytes 4 (sent_up f f.link c sdu)
  unfolding upward all_bytes bytes
  data-up c ns = alone 4 f.link c

  pub udata-up : (c : Bool) → all_bytes (upward f (BlUdata c) sdu) ≡ indication_bytes 5 (sent_up f 0 c sdu)
  unfolding upward all_bytes bytes
  udata-up c = alone 5 0 c

pub ack-up :
    (f : Frame) (sdu : List ℕ) (c nr : Bool)
    → 0 < length sdu
    → all_bytes (upward f (BlAck c nr) sdu) ≡ indication_bytes 4 (sent_up f 0 c sdu)
unfolding upward all_bytes bytes
ack-up f [] c nr h = absurd (omega (arith, h))
ack-up f (b ∷ sdu) c nr h = alone f (b ∷ sdu) 4 0 c

-- The same of bits that are lent, by the kind, link id and FCS flag that the code chose.
abbrev pub chosen : Frame → Part → ℕ × ℕ × Bool → List ℕ
chosen f sdu k = indication_bytes k.0 (sent_up f k.1 k.2 (bits_of sdu))

module _ (f : Frame) (sdu : Part) {p : Pdu} {k : ℕ × ℕ × Bool} where
  pub adata-lent : {c nr ns : Bool} → p ≡ BlAdata c nr ns → k ≡ (4, f.link, c) → chosen f sdu k ≡ all_bytes (upward f p (bits_of sdu))
  adata-lent {c} {nr} {ns} e is = rw (e, is) (sym (adata-up f (bits_of sdu) c nr ns))

  pub data-lent : {c ns : Bool} → p ≡ BlData c ns → k ≡ (4, f.link, c) → chosen f sdu k ≡ all_bytes (upward f p (bits_of sdu))
  data-lent {c} {ns} e is = rw (e, is) (sym (data-up f (bits_of sdu) c ns))

  pub udata-lent : {c : Bool} → p ≡ BlUdata c → k ≡ (5, 0, c) → chosen f sdu k ≡ all_bytes (upward f p (bits_of sdu))
  udata-lent {c} e is = rw (e, is) (sym (udata-up f (bits_of sdu) c))

  pub ack-lent : {c nr : Bool} → p ≡ BlAck c nr → 0 < sdu.len → k ≡ (4, 0, c) → chosen f sdu k ≡ all_bytes (upward f p (bits_of sdu))
  ack-lent {c} {nr} e some is =
      rw (e, is) (sym (ack-up f (bits_of sdu) c nr (omega (arith, length-bits_of sdu, some))))

pub none-up : (f : Frame) (sdu : List ℕ) (c nr : Bool) → length sdu ≡ 0 → all_bytes (upward f (BlAck c nr) sdu) ≡ []
unfolding upward all_bytes
none-up f [] c nr h = refl
none-up f (b ∷ sdu) c nr h = absurd (omega (arith, h))

-- How much room it takes at most.
pub up-size :
    (f : Frame) (p : Pdu) (sdu : List ℕ)
    → length f.block ≤ 64
    → length sdu ≤ longest_frame
    → length (all_bytes (upward f p sdu)) ≤ most_up
up-size f (BlAdata c nr ns) sdu hb hs = rw (adata-up f sdu c nr ns) (small-indication 4 (sent_up f f.link c sdu) hb hs)
up-size f (BlData c ns) sdu hb hs = rw (data-up f sdu c ns) (small-indication 4 (sent_up f f.link c sdu) hb hs)
up-size f (BlUdata c) sdu hb hs = rw (udata-up f sdu c) (small-indication 5 (sent_up f 0 c sdu) hb hs)
up-size f (BlAck c nr) [] hb hs = rw (none-up f [] c nr refl) (omega arith)
up-size f (BlAck c nr) (b ∷ sdu) hb hs =
    rw (ack-up f (b ∷ sdu) c nr (omega arith)) (small-indication 4 (sent_up f 0 c (b ∷ sdu)) hb hs)

-- What question 5 says of the lengths of a frame.
pub frame_small : (f : FrameCall) → frame_range f ≡ true → (length f.block.now ≤ 64) × (f.pdu.len ≤ longest_frame)
unfolding frame_range
frame_small f h =
    let e = and_parts (is_type f.ssi_type && leb (length f.block.now) 64) (leb f.pdu.len longest_frame) h in
    (leb-true (length f.block.now) 64 (and_parts (is_type f.ssi_type) (leb (length f.block.now) 64) e.0).1, leb-true f.pdu.len longest_frame e.1)

pub up-most :
    (f : FrameCall) (sdu : Part) (p : Pdu)
    → frame_range f ≡ true
    → sdu.len ≤ longest_frame
    → length (all_bytes (upward (frame_of f) p (bits_of sdu))) ≤ most_up
unfolding frame_of
up-most f sdu p h short =
    let small = frame_small f h in
    up-size (frame_of f) p (bits_of sdu) small.0 (omega (arith, length-bits_of sdu, short))
