-- A frame that was written to the front of a part of the store, as the store has it.
use Prim.Native.Nat.{ℕ, ◌+◌, ◌-◌, ◌*◌, ◌≤◌, ◌<◌}
use native.Mathlib.Omega.{arith}
use mathlib.Core.Path.{◌≡◌, ◌∙◌, refl, sym, ap}
use mathlib.Core.List.{List, ◌++◌, append_assoc}
use lib.ListN.{length, take, drop, length-drop, take-append-drop}
use lib.Seq.{drop-append-le, drop-drop, length-take-le}
use Rattle.std.specs.Prelude.{Result, Ok, Err}
use Rattle.std.specs.Result.{IsOk}
use Rattle.bits.specs.Bits.{bits, splice}
use Rattle.bits.specs.Parts.{bits_of}
use Rattle.bits.proofs.Laws.{bits-append, length-bits, drop_bits, take-bits}
use Rattle.questions.specs.Outcome.{accepted}
use Rattle.questions.specs.Effect.{effect, Effect}
use Rattle.questions.specs.Refusals.{outcome}
use Rattle.questions.specs.declared.Refusal.{Refusal}
use Rattle.llc_pdus.specs.Frames.{frame_bits}
use Rattle.llc_pdus.specs.Writes.{longest, longest_sent, written}
use Rattle.llc_pdus.specs.declared.Pdu.{Pdu}
use Rattle.llc_pdus.proofs.Framing.{frame-short, has_room as all-written}
use Rattle.llc_rule.specs.Limits.{place_bytes, store_bytes, store_places}
use Rattle.llc_calls.specs.Decoded.{request_of}
use Rattle.llc_calls.specs.declared.RequestCall.{RequestCall}
use Rattle.bits.proofs.PartLaws.{length-bits_of}
use Rattle.llc_state.specs.View.{place_bit}

-- Bits put to the front of k bytes from a place on are put there in the whole.
whole :
    (xs ys : List ℕ) (a k : ℕ) (vs : List ℕ)
    → a + k ≤ length xs
    → length vs ≤ 8 * k
    → bits ys ≡ splice (bits (take k (drop a xs))) 0 vs
    → bits (take a xs ++ (ys ++ drop k (drop a xs))) ≡ splice (bits xs) (8 * a) vs
whole xs ys a k vs inside fits e =
    let mid : List ℕ = take k (drop a xs) in
    let post : List ℕ = drop k (drop a xs) in
    let left : length (drop a xs) ≡ length xs - a = length-drop a xs in
    let long : length (bits mid) ≡ 8 * k =
    length-bits mid ∙ ap (λ (n : ℕ). 8 * n) (length-take-le k (drop a xs) (omega arith))
    in
    let zero : 0 + length vs ≡ length vs = omega arith in
    let rest : drop (0 + length vs) (bits mid) ++ bits post ≡ drop (8 * a + length vs) (bits xs) =
    ap (λ (n : ℕ). drop n (bits mid) ++ bits post) zero
    ∙ sym (drop-append-le (length vs) (bits mid) (bits post) (omega arith))
    ∙ ap (drop (length vs)) (sym (bits-append mid post) ∙ ap bits (take-append-drop k (drop a xs)) ∙ sym (drop_bits a xs))
    ∙ drop-drop (length vs) (8 * a) (bits xs)
    in
    bits-append (take a xs) (ys ++ post)
    ∙ ap (λ (t : List ℕ). bits (take a xs) ++ t)
    (bits-append ys post
    ∙ ap (λ (t : List ℕ). t ++ bits post) e
    ∙ append_assoc vs (drop (0 + length vs) (bits mid)) (bits post)
    ∙ ap (λ (t : List ℕ). vs ++ t) rest)
    ∙ ap (λ (t : List ℕ). t ++ (vs ++ drop (8 * a + length vs) (bits xs))) (sym (take-bits a xs))

-- The frame of a PDU and a request, written to a place of the store: the answer and the bits after it.
pub record Put (p : Pdu) (q : RequestCall) (place : ℕ) (before : List ℕ) (r : Result ℕ Refusal) (after : List ℕ) : Type 0 where
  pub answer : outcome r ≡ accepted (length (frame_bits p (request_of q).sdu))
  pub store : bits after ≡ splice (bits before) (place_bit place) (frame_bits p (request_of q).sdu)

pub put :
    (p : Pdu) (q : RequestCall) (place : ℕ) (xs ys : List ℕ) (r : Result ℕ Refusal)
    → length xs ≡ store_bytes
    → place < store_places
    → q.sdu.len ≤ longest
    → effect (outcome r) (bits ys)
    ≡ written p
    (bits (take (place * place_bytes + place_bytes - place * place_bytes) (drop (place * place_bytes) xs)))
    (bits q.sdu.bytes.now)
    q.sdu.place
    q.sdu.len
    → Put p q place xs r (take (place * place_bytes) xs ++ (ys ++ drop (place * place_bytes + place_bytes - place * place_bytes) (drop (place * place_bytes) xs)))
unfolding request_of
put p q place xs ys r long there few e =
    let a : ℕ = place * place_bytes in
    let k : ℕ = a + place_bytes - a in
    let size : k ≡ place_bytes = omega arith in
    let mid : List ℕ = take k (drop a xs) in
    let left : length (drop a xs) ≡ length xs - a = length-drop a xs in
    let room : length (bits mid) ≡ 8 * k =
    length-bits mid ∙ ap (λ (m : ℕ). 8 * m) (length-take-le k (drop a xs) (omega arith))
    in
    let s : List ℕ = bits q.sdu.bytes.now in
    let inside : q.sdu.place + q.sdu.len ≤ length s = omega (arith, length-bits q.sdu.bytes.now, q.sdu.inside) in
    let frame : List ℕ = frame_bits p (bits_of q.sdu) in
    let short : length frame ≤ longest_sent = frame-short p (bits_of q.sdu) (omega (arith, length-bits_of q.sdu)) in
    let done : effect (outcome r) (bits ys) ≡ effect (accepted (length frame)) (splice (bits mid) 0 frame) =
    e ∙ all-written p (bits mid) s q.sdu.place q.sdu.len few (omega (arith, q.sdu.begins)) (omega arith)
    in
    let at : 8 * a ≡ place_bit place = omega arith in
    record {
      answer = ap (λ (t : Effect ℕ). t.answer) done;
      store =
          whole xs ys a k frame (omega arith) (omega arith) (ap (λ (t : Effect ℕ). t.bits) done)
          ∙ ap (λ (m : ℕ). splice (bits xs) m frame) at;
    }

-- The call is not refused, and its value is the length.
module _ {p : Pdu} {q : RequestCall} {place : ℕ} {before after : List ℕ} where
  pub is_written : (r : Result ℕ Refusal) → Put p q place before r after → IsOk r
  is_written (Ok n) d = refl
  is_written (Err e) d = cc d.answer

  pub length-is : {r : Result ℕ Refusal} → Put p q place before r after → (n : ℕ) → r ≡ Ok n → n ≡ length (frame_bits p (request_of q).sdu)
  length-is d n e = cc d.answer
