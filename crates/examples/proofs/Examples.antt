-- The one proof over document 01's table: the checker computes the whole test.
use mathlib.Core.Path.{◌≡◌, refl}
use mathlib.Core.Bool.{true}
use lib.Dec.{eqb}
use lib.ListN.{length}
use Rattle.bits.specs.Bits.{to_bits, value}
use Rattle.fcs.specs.Polynomials.{plus, divisor, rest}
use Rattle.fcs.specs.Fcs.{start, fcs}
use Rattle.llc_pdus.specs.Headers.{reading}
use Rattle.llc_pdus.specs.Frames.{frame_bits}
use Rattle.llc_pdus.specs.Received.{received, checked, checks}
use Rattle.tdma_time.specs.Modulo.{modulo}
use Rattle.tdma_time.specs.Slots.{valid, slots, time_at, plus as plus_slots, centred, minus, ahead, forward}
use Rattle.examples.specs.Table.{table, sameℤ, same, same_outcome, right}

pub examples : right table ≡ true
unfolding right same_outcome same sameℤ table to_bits value fcs start plus divisor rest reading frame_bits received checked checks modulo valid slots time_at plus_slots centred minus ahead forward
examples = refl

-- None of its rows is missing.
pub all-rows : eqb (length table) 15 ≡ true
unfolding table
all-rows = refl
