use Prim.Native.Nat.{ℕ, ◌+◌}
use native.Mathlib.Omega.{arith}
use mathlib.Core.List.{List, []}
use mathlib.Core.Path.{◌≡◌, ◌∙◌, sym, ap, ap₂}
use borrow.Author.Tests.{leb-true, leb-false}
use lib.Dec.{leb}
use lib.ListN.{length}
use Rattle.bits.specs.Bits.{bits, splice}
use Rattle.bits.specs.Parts.{bits_of}
use Rattle.questions.proofs.Asked.{accepted-passed, content}
use Rattle.questions.specs.Outcome.{accepted}
use Rattle.questions.specs.Effect.{effect}
use Rattle.llc_pdus.specs.Headers.{header}
use Rattle.llc_pdus.specs.Frames.{check_bits, check_sequence}
use Rattle.llc_pdus.proofs.Framing.{length-frame-of, no_room, has_room, in_three}
use Rattle.llc_pdus.proofs.writing.to_bitbuf.Goals as goal

pub returns-then-not-within : goal.returns-then-not-within
returns-then-not-within c =
    let a = c.args in
    let l = bits a.out.now in
    let s = bits a.sdu.now in
    let size = c.header_len in
    let check = c.check_len in
    let there = leb-true (a.from + a.len) (length s) (accepted-passed 5 (leb (a.from + a.len) (length s)) c.in_ok-sdu.ensures.value).0 in
    let short = leb-false (size.result + a.len + check.result) (length l) (sym c.if-not-within.ensures) in
    sym
    (no_room a.pdu l s a.from a.len
    (omega arith)
    (omega arith)
    (omega (arith, length-frame-of a.pdu s a.from a.len there, size.ensures, check.ensures)))

pub returns : goal.returns
returns c =
    let a = c.args in
    let l = bits a.out.now in
    let s = bits a.sdu.now in
    let p = a.pdu in
    let size = c.header_len in
    let check = c.check_len in
    let h = accepted-passed 5 (leb (a.from + a.len) (length s)) c.in_ok-sdu.ensures.value in
    let there = leb-true (a.from + a.len) (length s) h.0 in
    let fits = leb-true (size.result + a.len + check.result) (length l) (sym c.if-not-within.ensures) in
    let long = length-frame-of p s a.from a.len there in
    let same : length (header p) + a.len + check_bits p ≡ size.result + a.len + check.result =
    omega (arith, size.ensures, check.ensures) in
    let m = bits_of c.in_ok-sdu.sdu in
    let put =
    c.put_check.ensures
    ∙ ap₂ (λ (t : List ℕ) (k : ℕ). splice t k (check_sequence p m))
    (c.put_sdu.ensures ∙ ap₂ (λ (t : List ℕ) (k : ℕ). splice t k m) c.put_header.ensures c.header_len-2.ensures)
    (ap (λ (k : ℕ). length (header p) + k) c.in_ok-sdu.ensures.count)
    ∙ ap (λ (m : List ℕ). splice (splice (splice l 0 (header p)) (length (header p)) m) (length (header p) + a.len) (check_sequence p m)) (ap (content []) h.1)
    ∙ in_three p l s a.from a.len there (omega (arith, same)) in
    sym
    (has_room p l s a.from a.len
    (omega arith)
    (omega arith)
    (omega (arith, long, same))
    ∙ ap₂ (λ (n : ℕ) (t : List ℕ). effect (accepted n) t) (long ∙ same) (sym put))
