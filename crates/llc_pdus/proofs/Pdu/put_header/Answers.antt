use Prim.Native.Nat.{ℕ, ◌+◌, ◌^◌, ◌<◌}
use native.Mathlib.Omega.{arith}
use mathlib.Core.Bool.{false}
use mathlib.Core.List.{List}
use mathlib.Core.Path.{◌∙◌, ap, ap₂}
use Rattle.bitbuffer.proofs.Laws.{written-inside}
use Rattle.questions.specs.Effect.{Effect}
use Rattle.bitbuffer.specs.declared.BitBuffer.{BitBuffer}
use Rattle.bits.proofs.Laws.{to_bits-value, value-below}
use Rattle.bits.specs.Bits.{to_bits, bits, splice}
use Rattle.llc_pdus.specs.Headers.{header}
use Rattle.llc_pdus.proofs.Framing.{all-header}
use Rattle.llc_pdus.proofs.Laws.{header-short}
use Rattle.llc_pdus.proofs.Pdu.put_header.Goals as goal

pub returns : goal.returns
returns c =
    let a = c.args in
    let p = a.self in
    let size = c.header_len-size in
    let w : BitBuffer = record { start = 0; pos = 0; end = size.result + a.len; flag_autoexpand = false } in
    let v : c.header_value.result < 2 ^ size.result =
    rw (c.header_value.ensures, size.ensures) (value-below (header p) (all-header p)) in
    ap (λ (e : Effect BitBuffer). e.bits) c.write_bits.ensures
    ∙ written-inside w (bits a.out.now) c.header_value.result size.result (omega arith) (omega (arith, header-short p)) v (omega arith)
    ∙ ap (λ (t : List ℕ). splice (bits a.out.now) 0 t)
    (ap₂ to_bits size.ensures c.header_value.ensures ∙ to_bits-value (header p) (all-header p))
