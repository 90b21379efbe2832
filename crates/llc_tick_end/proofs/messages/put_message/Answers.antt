use Prim.Native.Nat.{ℕ, ◌-◌, ◌*◌}
use native.Mathlib.Omega.{arith}
use mathlib.Core.Path.{◌≡◌, ◌∙◌, refl, sym, ap}
use mathlib.Core.Bool.{Bool, true, false, cond}
use mathlib.Core.List.{List}
use mathlib.Core.Option.{none, some}
use lib.ListN.{length, take, drop, length-drop}
use lib.Seq.{take_all}
use Rattle.std.specs.Prelude as Code
use Rattle.std.specs.Bool.{then_some}
use Rattle.lists.proofs.Writes.{same_bytes}
use Rattle.bits.specs.Bits.{bits}
use Rattle.bits.proofs.Laws.{drop_bits}
use Rattle.llc_pdus.specs.Headers.{option_of}
use Rattle.llc_rule.specs.Limits.{place_bytes}
use Rattle.llc_rule.specs.Records.{sent_bytes}
use Rattle.llc_state.specs.View.{place_bit, frame_at, sent_with, sent_in}
use Rattle.llc_state.specs.declared.Entry.{Entry}
use Rattle.llc_tick_end.proofs.messages.put_message.Goals as goal

mask-is : (has : Bool) (m : ℕ) → option_of (then_some has m) ≡ cond has (some m) none
mask-is true m = refl
mask-is false m = refl

-- The bits of a message's frame, as the bytes from its place on hold them.
abbrev from_place : List ℕ → Entry → List ℕ
from_place store e =
    let at = e.frame.place * place_bytes in take e.frame.len (bits (take (length store - at) (drop at store)))

frame-is : (store : List ℕ) (e : Entry) → from_place store e ≡ frame_at (bits store) e
unfolding frame_at
frame-is store e =
    let at = e.frame.place * place_bytes in
    let place : 8 * at ≡ place_bit e.frame.place = omega arith in
    ap (λ (t : List ℕ). take e.frame.len t)
    (ap bits (take_all (length store - at) (drop at store) (omega (arith, length-drop at store)))
    ∙ sym (drop_bits at store)
    ∙ ap (λ (n : ℕ). drop n (bits store)) place)

-- A message with what is taken of it.
message-is :
    (k : ℕ) (store : List ℕ) (e : Entry) {mask : Code.Option ℕ}
    → mask ≡ then_some e.sent.has_mask e.sent.mask
    → sent_bytes k (record (sent_with (from_place store e) e.sent) { mask = option_of mask }) ≡ sent_bytes k (sent_in (bits store) e)
unfolding sent_in
message-is k store e p =
    λ i.
    sent_bytes k
    (record (sent_with (frame-is store e i) e.sent) {
      mask = (ap (λ (m : Code.Option ℕ). option_of m) p ∙ mask-is e.sent.has_mask e.sent.mask) i;
    })

pub put_sent-requires-clause-len_in_bounds : goal.put_sent-requires-clause-len_in_bounds
put_sent-requires-clause-len_in_bounds c =
    rw (message-is c.args.kind c.args.store.now c.args.e.now c.then_some.ensures) c.requires.room

pub returns : goal.returns
returns c =
    same_bytes (message-is c.args.kind c.args.store.now c.args.e.now c.then_some.ensures) c.put_sent.ensures
