-- The bytes that the reader hands back hold the SDU that the frame is received with: none of them holds check bits alone.
use Prim.Native.Nat.{ℕ, ◌+◌, ◌≤◌}
use native.Mathlib.Omega.{arith}
use mathlib.Core.Path.{◌≡◌, ◌∙◌, sym, ap}
use mathlib.Core.List.{List}
use borrow.Author.Tests.{leb-true}
use lib.Dec.{leb}
use lib.ListN.{length, take}
use Rattle.bits.specs.Bits.{bits, part}
use Rattle.bits.proofs.Laws.{length-bits, part-take}
use Rattle.std.specs.Prelude.{Ok}
use Rattle.questions.specs.Outcome.{accepted}
use Rattle.questions.proofs.Asked.{accepted-passed}
use Rattle.llc_pdus.specs.Answers.{answered, read_from}
use Rattle.llc_pdus.specs.Received.{received}
use Rattle.llc_pdus.specs.Sdus.{holding}
use Rattle.llc_pdus.specs.declared.Pdu.{Pdu}
use Rattle.llc_pdus.specs.declared.Sdu.{Sdu}
use Rattle.llc_pdus.proofs.Holding.{held-is}
use Rattle.llc_pdus.proofs.Received.{read_as}

pub held-sdu :
    (f : List ℕ) (n : ℕ) (p : Pdu) (s : Sdu)
    → answered (Ok (p, s)) ≡ read_from (bits f) n
    → received (take n (bits f))
    ≡ accepted (record { header = p; sdu = part (bits (holding f s.first s.len)) s.place s.len })
held-sdu f n p s e =
    let fits : n ≤ length (bits f) = leb-true n (length (bits f)) (accepted-passed 5 (leb n (length (bits f))) e).0 in
    let r = read_as (Ok (p, s)) (bits f) n fits e in
    let inside : s.first + s.len ≤ n = r.inside.inside in
    let held = held-is f s.first s.len (omega (arith, length-bits f)) in
    let cut = part-take (bits f) n s.first s.len inside (omega arith) in
    let place = ap (λ (x : Sdu). x.place) r.inside.placed in
    sym r.same
    ∙ ap (λ (x : List ℕ). accepted (record { header = p; sdu = x }))
    (cut ∙ sym (ap (λ (k : ℕ). part (bits (holding f s.first s.len)) k s.len) place ∙ held.same))
