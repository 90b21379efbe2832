-- What it says of a time's fields that it is in range, and that its slots are then below W.
use Prim.Native.Nat.{◌≤◌, ◌<◌}
use native.Mathlib.Omega.{arith}
use mathlib.Core.Path.{◌≡◌}
use mathlib.Core.Bool.{true, ◌&&◌}
use borrow.Author.Tests.{leb-true, le-leb}
use lib.Dec.{leb}
use Rattle.std.proofs.lemmas.Bool.{and_parts}
use Rattle.tdma_time.specs.Slots.{W, valid, slots}
use Rattle.tdma_time.specs.declared.TdmaTime.{TdmaTime}

pub record InRange (a : TdmaTime) : Type 0 where
  pub t-low : 1 ≤ a.t
  pub t-high : a.t ≤ 4
  pub f-low : 1 ≤ a.f
  pub f-high : a.f ≤ 18
  pub m-low : 1 ≤ a.m
  pub m-high : a.m ≤ 60
  pub h-high : a.h ≤ 65535

pub in_range : (a : TdmaTime) → valid a ≡ true → InRange a
unfolding valid
in_range a v =
    let b₁ = leb 1 a.t in
    let b₂ = b₁ && leb a.t 4 in
    let b₃ = b₂ && leb 1 a.f in
    let b₄ = b₃ && leb a.f 18 in
    let b₅ = b₄ && leb 1 a.m in
    let b₆ = b₅ && leb a.m 60 in
    let v₇ = and_parts b₆ (leb a.h 65535) v in
    let v₆ = and_parts b₅ (leb a.m 60) v₇.0 in
    let v₅ = and_parts b₄ (leb 1 a.m) v₆.0 in
    let v₄ = and_parts b₃ (leb a.f 18) v₅.0 in
    let v₃ = and_parts b₂ (leb 1 a.f) v₄.0 in
    let v₂ = and_parts b₁ (leb a.t 4) v₃.0 in
    record {
      t-low = leb-true 1 a.t v₂.0;
      t-high = leb-true a.t 4 v₂.1;
      f-low = leb-true 1 a.f v₃.1;
      f-high = leb-true a.f 18 v₄.1;
      m-low = leb-true 1 a.m v₅.1;
      m-high = leb-true a.m 60 v₆.1;
      h-high = leb-true a.h 65535 v₇.1;
    }

-- The other way.
pub is-valid : {a : TdmaTime} → InRange a → valid a ≡ true
unfolding valid
is-valid {a} r =
    rw (
      le-leb 1 a.t r.t-low,
      le-leb a.t 4 r.t-high,
      le-leb 1 a.f r.f-low,
      le-leb a.f 18 r.f-high,
      le-leb 1 a.m r.m-low,
      le-leb a.m 60 r.m-high,
      le-leb a.h 65535 r.h-high,
    )

pub slots-below : (a : TdmaTime) → valid a ≡ true → slots a < W
unfolding slots
slots-below a v = omega (arith, in_range a v)
