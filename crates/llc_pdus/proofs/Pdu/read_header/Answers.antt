use Prim.Native.Nat.{ℕ, ◌/◌, ◌%◌}
use native.Mathlib.Omega.{arith}
use mathlib.Core.Bool.{true, false}
use mathlib.Core.List.{List}
use mathlib.Core.Path.{◌≡◌, ◌∙◌, sym, ap}
use Rattle.bits.specs.Bits.{to_bits, bits}
use borrow.Author.Tests.{leb-true, eq-eqb, ne_eqb}
use lib.ListN.{length, get_or}
use Rattle.questions.specs.Outcome.{accepted}
use Rattle.llc_pdus.specs.Headers.{header, one, kind_at, length_of}
use Rattle.llc_pdus.specs.declared.Pdu.{Pdu}
use Rattle.llc_pdus.proofs.FirstByte.{first, header-length, has_first, too_short, not-basic, no_header, whole-header}
use Rattle.llc_pdus.proofs.Pdu.read_header.Goals as goal

pub returns-then-len-lt4 : goal.returns-then-len-lt4
returns-then-len-lt4 c =
    let a = c.args in
    let h = sym c.if-not-within.ensures in
    rw (h, too_short a.frame.now a.len c.if-len-lt4.true (leb-true a.len (length (bits a.frame.now)) h))

pub bounds-frame-0 : goal.bounds-frame-0
bounds-frame-0 c =
    let a = c.args in
    has_first a.frame.now a.len c.if-len-lt4.false (leb-true a.len (length (bits a.frame.now)) (sym c.if-not-within.ensures))

pub returns-then-b-ge128 : goal.returns-then-b-ge128
unfolding to_bits
returns-then-b-ge128 c =
    let a = c.args in
    let h = sym c.if-not-within.ensures in
    let top : one (first a.frame.now) 0 ≡ true = eq-eqb (get_or a.frame.now 0 0 / 128 % 2) 1 (omega (arith, c.type_inv.frame 0)) in
    rw (h, not-basic a.frame.now a.len c.if-len-lt4.false (leb-true a.len (length (bits a.frame.now)) h) top)

pub returns-then-len-header_len : goal.returns-then-len-header_len
unfolding to_bits
returns-then-len-header_len c =
    let a = c.args in
    let h = sym c.if-not-within.ensures in
    let t : List ℕ = first a.frame.now in
    let top : one t 0 ≡ false = ne_eqb (get_or a.frame.now 0 0 / 128 % 2) 1 (omega (arith, c.type_inv.frame 0)) in
    let size : c.header_len.result ≡ length_of (kind_at t) =
    c.header_len.ensures ∙ ap (λ (p : Pdu). length (header p)) c.first_byte-pdu.ensures ∙ header-length (kind_at t) (one t 1) (one t 4) (one t 5) in
    rw (h, no_header a.frame.now a.len c.if-len-lt4.false (leb-true a.len (length (bits a.frame.now)) h) top (omega arith))

pub returns : goal.returns
unfolding to_bits
returns c =
    let a = c.args in
    let h = sym c.if-not-within.ensures in
    let t : List ℕ = first a.frame.now in
    let top : one t 0 ≡ false = ne_eqb (get_or a.frame.now 0 0 / 128 % 2) 1 (omega (arith, c.type_inv.frame 0)) in
    let size : c.header_len.result ≡ length_of (kind_at t) =
    c.header_len.ensures ∙ ap (λ (p : Pdu). length (header p)) c.first_byte-pdu.ensures ∙ header-length (kind_at t) (one t 1) (one t 4) (one t 5) in
    rw (h, whole-header a.frame.now a.len c.if-len-lt4.false (leb-true a.len (length (bits a.frame.now)) h) top (omega (arith, c.if-len-header_len.false)))
    (ap accepted c.first_byte-pdu.ensures)
