use Prim.Native.Nat.{ℕ, ◌-◌}
use native.Mathlib.Omega.{arith}
use mathlib.Core.Path.{◌≡◌, ◌∙◌, sym, ap, ap₂}
use mathlib.Core.Bool.{Bool, cond}
use mathlib.Core.List.{List}
use lib.ListN.{length, take, drop}
use Rattle.std.proofs.Common.{rules}
use Rattle.std.proofs.lemmas.List.{take_rest}
use Rattle.bits.specs.Bits.{bits}
use Rattle.fcs.specs.Answers as Fcs
use Rattle.fcs.specs.Fcs.{fcs_bits}
use Rattle.questions.specs.Outcome.{Outcome, accepted}
use Rattle.questions.specs.Refusals.{number_of}
use Rattle.llc_pdus.specs.Answers.{Frame, sdu_of}
use Rattle.llc_pdus.specs.Headers.{header}
use Rattle.llc_pdus.specs.Frames.{check_bits}
use Rattle.llc_pdus.specs.Sdus.{sdu_at, header_end}
use Rattle.llc_pdus.specs.declared.headers.HeaderEnd.{HeaderEnd}
use Rattle.llc_pdus.specs.declared.Pdu.{Pdu}
use Rattle.llc_pdus.specs.declared.Sdu.{Sdu}
use Rattle.llc_pdus.proofs.Received.{apart, check_behind, unchecked, right, wrong, refused-so}
use Rattle.llc_pdus.proofs.reading.from_bitbuf.Goals as goal

-- The SDU ends m bits before the end of the frame.
place : (p : Pdu) (n k : ℕ) {m : ℕ} {s : Sdu} → s ≡ sdu_at k (n - k - m) → k ≡ length (header p) → m ≡ check_bits p
    → ◌≡◌ {A = Outcome Frame} (accepted (record { pdu = p; sdu = s })) (accepted (record { pdu = p; sdu = sdu_of n p }))
place p n k is at e = ap (λ (s : Sdu). accepted (record { pdu = p; sdu = s })) (is ∙ ap₂ (λ (k m : ℕ). sdu_at k (n - k - m)) at e)

-- What the check answered, of the bits behind the header.
answer :
    (f : List ℕ) (n k : ℕ) (p : Pdu) (e : HeaderEnd) {o : Outcome (Unit {0})}
    → o ≡ Fcs.check (bits (take (length f - e.byte) (drop e.byte f))) e.bits (n - k)
    → e ≡ header_end p
    → k ≡ length (header p)
    → o ≡ check_behind f p (n - length (header p))
answer f n k p e asked at size =
    asked
    ∙ ap (λ (l : List ℕ). Fcs.check (bits l) e.bits (n - k)) (take_rest f e.byte)
    ∙ ap (λ (x : HeaderEnd). Fcs.check (bits (drop x.byte f)) x.bits (n - k)) at
    ∙ ap (λ (k : ℕ). check_behind f p (n - k)) size

pub returns-in_err-pdu : goal.returns-in_err-pdu
returns-in_err-pdu c =
    let h = refused-so (bits c.args.frame.now) c.args.len (number_of c.in_err-pdu.field-0.0) c.in_err-pdu.ensures in
    search rules

pub overflow_sub-behind : goal.overflow_sub-behind
overflow_sub-behind c =
    omega (arith, c.header_len-first.ensures, (apart c.args.frame.now c.args.len c.in_ok-pdu.pdu c.in_ok-pdu.ensures).whole)

pub returns-then-not-has_fcs : goal.returns-then-not-has_fcs
returns-then-not-has_fcs c =
    let a = c.args in
    let p = c.in_ok-pdu.pdu in
    let first = c.header_len-first in
    let no = sym c.if-not-has_fcs.ensures in
    let all : a.len - first.result ≡ a.len - first.result - 0 = omega arith in
    place p a.len first.result (c.at.ensures ∙ ap (sdu_at first.result) all) first.ensures (sym (ap (λ (t : Bool). cond t fcs_bits 0) no))
    ∙ unchecked (apart a.frame.now a.len p c.in_ok-pdu.ensures) no

pub returns-in_err-check_fcs : goal.returns-in_err-check_fcs
returns-in_err-check_fcs c =
    let a = c.args in
    let p = c.in_ok-pdu.pdu in
    let first = c.header_len-first in
    let end = c.header_end-end in
    let h =
    wrong (apart a.frame.now a.len p c.in_ok-pdu.ensures) (number_of c.in_err-check_fcs.field-0.0) (sym c.if-not-has_fcs.ensures)
    (answer a.frame.now a.len first.result p end.result c.in_err-check_fcs.ensures end.ensures first.ensures) in
    search rules

pub returns : goal.returns
returns c =
    let a = c.args in
    let p = c.in_ok-pdu.pdu in
    let first = c.header_len-first in
    let end = c.header_end-end in
    place p a.len first.result c.at-2.ensures first.ensures (sym (ap (λ (t : Bool). cond t fcs_bits 0) (sym c.if-not-has_fcs.ensures)))
    ∙ right (apart a.frame.now a.len p c.in_ok-pdu.ensures)
    (answer a.frame.now a.len first.result p end.result c.in_ok-check_fcs.ensures end.ensures first.ensures)
