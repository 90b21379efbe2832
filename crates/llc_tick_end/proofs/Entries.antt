-- What question 1 tells of an entry.
use Prim.Native.Nat.{◌≤◌, ◌<◌}
use native.Mathlib.Omega.{arith}
use mathlib.Core.Path.{◌≡◌}
use mathlib.Core.Bool.{true}
use Rattle.llc_pdus.specs.Writes.{longest_sent}
use Rattle.llc_rule.specs.Limits.{store_places}
use Rattle.llc_state.specs.Ranges.{message_in_range, udata_in_range}
use Rattle.llc_state.specs.declared.Entry.{Entry}
use Rattle.llc_state.proofs.InRange.{entry-tells, message-tells, udata-tells}

-- The numbers of an entry that index and measure.
pub record Measures (e : Entry) : Type 0 where
  pub receipt : e.sent.receipt < 128
  pub block : e.sent.block_len ≤ 64
  pub place : e.frame.place < store_places
  pub len : e.frame.len ≤ longest_sent

pub message-measures : (e : Entry) → message_in_range e ≡ true → Measures e
message-measures e h =
    let m = message-tells e h in
    let t = entry-tells e m.entry in
    record { receipt = t.receipt; block = t.block; place = t.place; len = m.high }

pub udata-measures : (e : Entry) → udata_in_range e ≡ true → Measures e
udata-measures e h =
    let u = udata-tells e h in
    let t = entry-tells e u.entry in
    record { receipt = t.receipt; block = t.block; place = t.place; len = omega (arith, u.high) }
