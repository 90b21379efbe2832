-- Runs of calls, each call with the number and the records that it should get: the checker computes `run` on the calls. What
-- they should get was written from document 01, and not taken from `step`.
pub mod Sample
pub mod Edges
pub mod Course
pub mod Awkward
pub mod Marks
pub mod Widths
pub mod Ranges
pub mod Orders
pub mod Checks
pub mod CheckBits
pub mod Repeats
pub mod Announced
pub mod Lost
use Prim.Native.Nat.{ℕ, zero, suc}
use mathlib.Core.Bool.{Bool, true, false, ◌&&◌}
use mathlib.Core.List.{List, [], ◌∷◌, ◌++◌, map}
use lib.Dec.{eqb}
use Rattle.lists.specs.Lists.{any, find, walk, first_or, filed}
use Rattle.bits.specs.Bits.{to_bits, value, bits}
use Rattle.tdma_time.specs.Modulo.{modulo}
use Rattle.tdma_time.specs.Slots.{slots, time_at, plus as plus_slots, centred, minus, valid}
use Rattle.llc_pdus.specs.Headers.{reading}
use Rattle.llc_pdus.specs.Frames.{frame_bits}
use Rattle.fcs.specs.Polynomials.{plus, divisor, rest}
use Rattle.fcs.specs.Fcs.{start, fcs}
use Rattle.llc_pdus.specs.Received.{checks, checked, received}
use Rattle.llc_rule.specs.Calls.{from_bytes, to_bytes, filled_from, request_in, frame_in, tag_of, inner, filled, parsed}
use Rattle.llc_rule.specs.Records.{Record, packed, counted, masked, counted_if_any, sent_bytes, reply_bytes, indication_bytes, bytes}
use Rattle.llc_rule.specs.Ranges.{request_in_range, frame_in_range, in_range}
use Rattle.llc_rule.specs.Upward.{upward}
use Rattle.llc_rule.specs.Messages.{no_receipts, overdue, slot_before, reply_to, sent_of}
use Rattle.llc_rule.specs.Link.{Link, new, started_with}
use Rattle.llc_rule.specs.Step.{due_for, row_for, with_acknowledged, with_unacknowledged, with_stolen, on_data, on_unitdata, awaiting, answered_by, on_received, on_frame, held, waits, on_report, on_release, retransmission, first_sending, retransmissions, first_sendings, on_tick_end, act, called, step}
use Rattle.llc_rule.specs.Runs.{Exchange, run, after}

-- A call, and the number and the records that it should get.
pub record Told : Type 0 where
  pub call : List ℕ
  pub number : ℕ
  pub records : List (List ℕ)

-- n bytes, as document 01 prints them.
abbrev pub hex : ℕ → ℕ → List ℕ
hex n v = to_bytes n v

-- A call with its number, with further records, and with one more.
infixl 70 ◌gets◌ ◌with◌ ◌and◌
abbrev pub ◌gets◌ : List ℕ → ℕ → Told
c gets n = record { call = c; number = n; records = [] }

abbrev pub ◌with◌ : Told → List (List ℕ) → Told
t with rs = record { call = t.call; number = t.number; records = t.records ++ rs }

abbrev pub ◌and◌ : Told → List ℕ → Told
t and r = t with (r ∷ [])

-- A data request of SSI 0003e9 with receipt i, and n of them with the receipts from i on, each accepted.
abbrev pub request : ℕ → List ℕ
request i = hex 24 0x2400190003e9010000000000000000000000000000000000 ++ (i ∷ hex 3 0x000000)

unfoldable pub requests : ℕ → ℕ → List Told
requests zero i = []
requests (suc n) i = request i gets 0 ∷ requests n (suc i)

-- Are these the bytes of the records?
unfoldable pub same : List ℕ → List ℕ → Bool
same [] [] = true
same [] (y ∷ ys) = false
same (x ∷ xs) [] = false
same (x ∷ xs) (y ∷ ys) = eqb x y && same xs ys

unfoldable pub spell : List (List ℕ) → List Record → Bool
unfolding same packed counted masked counted_if_any sent_bytes reply_bytes indication_bytes bytes
spell [] [] = true
spell [] (r ∷ rs) = false
spell (x ∷ xs) [] = false
spell (x ∷ xs) (r ∷ rs) = same x (bytes r) && spell xs rs

-- The exchanges of a run from a link, with all opened that `run` computes by, and the link after it.
unfoldable pub exchanges : Link → List Told → List Exchange
unfolding to_bits value bits plus divisor rest start fcs reading modulo slots time_at plus_slots centred minus valid any find
    walk from_bytes to_bytes filled_from request_in frame_in tag_of inner filled parsed request_in_range frame_in_range in_range checks
    checked received upward overdue slot_before reply_to frame_bits sent_of no_receipts new started_with first_or filed due_for row_for
    with_acknowledged with_unacknowledged with_stolen on_data on_unitdata awaiting answered_by on_received on_frame held waits
    on_report on_release retransmission first_sending retransmissions first_sendings on_tick_end act called step run
exchanges l ts = run l (map (λ (t : Told). t.call) ts)

unfoldable pub link_after : Link → List Told → Link
unfolding exchanges after
link_after l ts = after l (map (λ (t : Told). t.call) ts)

-- Does each call of a run get its number and its records?
unfoldable pub told : List Told → List Exchange → Bool
unfolding spell
told [] [] = true
told [] (e ∷ es) = false
told (t ∷ ts) [] = false
told (t ∷ ts) (e ∷ es) = eqb e.number t.number && spell t.records e.records && told ts es

unfoldable pub agrees : Link → List Told → Bool
unfolding exchanges told
agrees l ts = told ts (exchanges l ts)
