-- What question 5 says of each field of a request and of a frame that a message or a record takes over.
use Prim.Native.Nat.{ℕ, ◌≤◌}
use native.Mathlib.Omega.{arith}
use mathlib.Core.Path.{◌≡◌}
use mathlib.Core.Bool.{true, ◌||◌}
use borrow.Author.Tests.{eqb-true, leb-true}
use lib.Dec.{eqb, leb, ltb}
use lib.ListN.{length}
use Rattle.std.proofs.lemmas.Bool.{and_parts}
use Rattle.lists.proofs.Choices.{by-test}
use Rattle.llc_pdus.specs.Writes.{longest}
use Rattle.llc_rule.specs.Limits.{longest_frame}
use Rattle.llc_rule.specs.Calls.{Request, Frame}
use Rattle.llc_rule.specs.Ranges.{has_mask, is_type, is_receipt, request_in_range, frame_in_range}

-- The fields of a request.
pub record RequestFields (r : Request) : Type 0 where
  pub type : is_type r.type ≡ true
  pub mask : ltb r.mask 16 ≡ true
  pub given : has_mask r || eqb r.mask 0 ≡ true
  pub receipt : is_receipt r.receipt ≡ true
  pub block : leb (length r.block) 64 ≡ true
  pub sdu : leb (length r.sdu) longest ≡ true

pub request-fields : (r : Request) → request_in_range r ≡ true → RequestFields r
unfolding request_in_range
request-fields r h =
    let h₁ = and_parts _ (leb (length r.sdu) longest) h in
    let h₂ = and_parts _ (leb (length r.block) 64) h₁.0 in
    let h₃ = and_parts _ (is_receipt r.receipt) h₂.0 in
    let h₄ = and_parts _ (has_mask r || eqb r.mask 0) h₃.0 in
    let h₅ = and_parts _ (ltb r.mask 16) h₄.0 in
    let h₆ = and_parts _ (ltb r.flags 8) h₅.0 in
    let h₇ = and_parts _ (eqb r.given 1 || eqb r.carrier 0) h₆.0 in
    let h₈ = and_parts _ (leb r.given 1) h₇.0 in
    record { type = h₈.0; mask = h₅.1; given = h₄.1; receipt = h₃.1; block = h₂.1; sdu = h₁.1 }

-- The fields of a frame.
pub record FrameFields (f : Frame) : Type 0 where
  pub type : is_type f.type ≡ true
  pub block : leb (length f.block) 64 ≡ true
  pub pdu : leb (length f.pdu) longest_frame ≡ true

pub frame-fields : (f : Frame) → frame_in_range f ≡ true → FrameFields f
unfolding frame_in_range
frame-fields f h =
    let h₁ = and_parts _ (leb (length f.pdu) longest_frame) h in
    let h₂ = and_parts _ (leb (length f.block) 64) h₁.0 in
    record { type = h₂.0; block = h₂.1; pdu = h₁.1 }

-- A type is 1 or 2.
pub type-at-most : (n : ℕ) → is_type n ≡ true → n ≤ 2
type-at-most n h =
    by-test (eqb n 1) (λ t. omega (arith, eqb-true n 1 t)) (λ f. omega (arith, eqb-true n 2 (rw f at h)))

-- The lengths.
pub frame-lengths : (f : Frame) → frame_in_range f ≡ true → (length f.block ≤ 64) × (length f.pdu ≤ longest_frame)
frame-lengths f h =
    let t = frame-fields f h in (leb-true (length f.block) 64 t.block, leb-true (length f.pdu) longest_frame t.pdu)

pub request-lengths : (r : Request) → request_in_range r ≡ true → (length r.block ≤ 64) × (length r.sdu ≤ longest)
request-lengths r h =
    let t = request-fields r h in (leb-true (length r.block) 64 t.block, leb-true (length r.sdu) longest t.sdu)
