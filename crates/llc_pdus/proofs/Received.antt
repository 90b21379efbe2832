-- A frame taken apart: what is known of its parts, and question 12 put to the bytes from the header's last byte onwards.
use Prim.Native.Nat.{ℕ, ◌+◌, ◌-◌, ◌*◌, ◌≤◌}
use native.Mathlib.Omega.{arith}
use mathlib.Core.Path.{◌≡◌, ◌∙◌, refl, sym, ap, subst}
use mathlib.Core.Bool.{Bool, true, false, not, ◌&&◌, ◌||◌, or-true}
use mathlib.Core.List.{List}
use borrow.Author.Tests.{leb-true, le-leb}
use lib.Dec.{leb, eqb}
use lib.ListN.{length, take, drop, length-drop}
use lib.Seq.{length-take-le, take_all, take-take, drop-drop}
use Rattle.std.proofs.lemmas.List.{drop-take}
use Rattle.bits.specs.Bits.{AllBits, bits, value, part}
use Rattle.bits.proofs.Laws.{length-bits, length_part, part-take, drop_bits, all_take, all_drop}
use Rattle.fcs.specs.Answers as Fcs
use Rattle.fcs.specs.Fcs.{fcs}
use Rattle.std.specs.Prelude.{Result, Ok, Err}
use Rattle.questions.specs.Refusals.{number_of}
use Rattle.questions.specs.declared.Refusal.{Refusal}
use Rattle.questions.specs.Outcome.{Outcome, accepted, refused, ask, number}
use Rattle.questions.proofs.Asked.{content, accepted-passed, by-question}
use Rattle.llc_pdus.specs.Answers.{Frame, pdu_in, head_from, answered, sdu_of, framed, read_from}
use Rattle.llc_pdus.specs.Headers.{header, Reading, reading, reading_of, has_fcs, length_of, kind_at, one}
use Rattle.llc_pdus.specs.Frames.{check_bits}
use Rattle.llc_pdus.specs.Received.{Received, checks, sdu_before, checked, received}
use Rattle.llc_pdus.specs.Sdus.{sdu_at, header_end}
use Rattle.llc_pdus.specs.declared.Pdu.{Pdu}
use Rattle.llc_pdus.specs.declared.Sdu.{Sdu}
use Rattle.llc_pdus.proofs.FirstByte.{header-length}
use Rattle.llc_pdus.proofs.Laws.{header-ends}

-- A header that was read is in the frame, and is its PDU's.
pub record Size (l : List ℕ) (r : Reading) : Type 0 where
  pub inside : r.size ≤ length l
  pub is : r.size ≡ length (header r.pdu)

pub size_of : (l : List ℕ) (r : Reading) → accepted r ≡ reading l → Size l r
unfolding reading
size_of l r e =
    let a = accepted-passed 9 (leb 4 (length l)) e in
    let b = accepted-passed 10 (not (one l 0)) a.1 in
    let c = accepted-passed 11 (leb (length_of (kind_at l)) (length l)) b.1 in
    let same : r ≡ reading_of l = ap (content r) c.1 in
    subst (Size l) (sym same)
    (record {
      inside = leb-true (length_of (kind_at l)) (length l) c.0;
      is = sym (header-length (kind_at l) (one l 1) (one l 4) (one l 5));
    })

-- What stands behind the header of a PDU, and the frame taken apart there.
abbrev pub behind : Pdu → List ℕ → List ℕ
behind p l = drop (length (header p)) l

abbrev pub parts_of : Pdu → List ℕ → Received
parts_of p l = record { header = p; sdu = sdu_before p (behind p l) }

-- What question 12 leaves of a frame whose header was read.
pub asked_of : (l : List ℕ) (r : Reading) → Size l r
    → checked l (accepted r)
    ≡ ask 12 (not (has_fcs r.pdu) || checks (behind r.pdu l)) (accepted (parts_of r.pdu l))
unfolding checked
asked_of l r s =
    ap
    (λ (k : ℕ).
    ask 12 (not (has_fcs r.pdu) || checks (drop k l))
    (accepted (record { header = r.pdu; sdu = sdu_before r.pdu (drop k l) })))
    s.is

-- A frame that was taken apart: where its SDU lies.
pub record Taken (l : List ℕ) (r : Received) : Type 0 where
  pub inside : (sdu_of (length l) r.header).first + (sdu_of (length l) r.header).len ≤ length l
  pub is : r.sdu ≡ part l (sdu_of (length l) r.header).first (sdu_of (length l) r.header).len

abbrev TakenIf : List ℕ → Outcome Received → Type 0
TakenIf l (refused n) = Unit {0}
TakenIf l (accepted r) = Taken l r

taken_at : (l : List ℕ) (p : Pdu) → length (header p) ≤ length l → Taken l (parts_of p l)
taken_at l p h =
    record {
      inside = omega arith;
      is = ap (λ (n : ℕ). take (n - check_bits p) (behind p l)) (length-drop (length (header p)) l);
    }

checked-taken : (l : List ℕ) (o : Outcome Reading) → reading l ≡ o → TakenIf l (checked l o)
unfolding checked
checked-taken l (refused n) e = tt
checked-taken l (accepted r) e =
    let s = size_of l r (sym e) in
    subst (TakenIf l) (sym (asked_of l r s))
    (by-question (TakenIf l) 12 (not (has_fcs r.pdu) || checks (behind r.pdu l)) tt (λ q. taken_at l r.pdu (omega (arith, s.inside, s.is))))

pub taken : (l : List ℕ) (r : Received) → received l ≡ accepted r → Taken l r
unfolding received
taken l r e = subst (TakenIf l) e (checked-taken l (reading l) refl)

-- So it is no longer than the frame, and of bits if the frame is.
pub sdu-short : (l : List ℕ) (r : Received) → received l ≡ accepted r → length r.sdu ≤ length l
sdu-short l r e =
    let t = taken l r e in
    let s : Sdu = sdu_of (length l) r.header in
    omega (arith, ap length t.is, length_part l s.first s.len t.inside, t.inside)

pub sdu-bits : (l : List ℕ) (r : Received) → received l ≡ accepted r → AllBits l → AllBits r.sdu
sdu-bits l r e h =
    let s : Sdu = sdu_of (length l) r.header in
    subst AllBits (sym (taken l r e).is) (all_take s.len (drop s.first l) (all_drop s.first l h))

-- What the answer of the reader says of the bits l, n of which are the frame.
pub record SduIn (s : Sdu) (n : ℕ) : Type 0 where
  pub inside : s.first + s.len ≤ n
  pub placed : s ≡ sdu_at s.first s.len

abbrev pub SduInside : Result (Pdu × Sdu) Refusal → ℕ → Type 0
SduInside (Ok f) n = SduIn f.1 n
SduInside (Err r) n = Unit {0}

abbrev pub received_as : Result (Pdu × Sdu) Refusal → List ℕ → Outcome Received
received_as (Ok f) l = accepted (record { header = f.0; sdu = part l f.1.first f.1.len })
received_as (Err r) l = refused (number_of r)

pub record ReadAs (r : Result (Pdu × Sdu) Refusal) (l : List ℕ) (n : ℕ) : Type 0 where
  pub same : received_as r (take n l) ≡ received (take n l)
  pub inside : SduInside r n

pub read_as : (r : Result (Pdu × Sdu) Refusal) (l : List ℕ) (n : ℕ) → n ≤ length l → answered r ≡ read_from l n → ReadAs r l n
read_as r l n h e =
    go r (received (take n l)) refl (e ∙ rw (le-leb n (length l) h))
  where
    go : (r : Result (Pdu × Sdu) Refusal) (o : Outcome Received) → received (take n l) ≡ o → answered r ≡ framed n o → ReadAs r l n
    go (Ok f) (accepted x) q t =
        let s : Sdu = f.1 in
        let long : length (take n l) ≡ n = length-take-le n l h in
        let k = taken (take n l) x q in
        let is : ◌≡◌ {A = Frame} (record { pdu = f.0; sdu = s }) (record { pdu = x.header; sdu = sdu_of n x.header }) =
        ap (content (record { pdu = f.0; sdu = s })) t in
        let place : s ≡ sdu_of (length (take n l)) x.header = ap (λ (y : Frame). y.sdu) is ∙ ap (λ (m : ℕ). sdu_of m x.header) (sym long) in
        let pdu : f.0 ≡ x.header = ap (λ (y : Frame). y.pdu) is in
        record {
          same =
              sym
              (q
              ∙ ap (λ (d : List ℕ). accepted (record { header = x.header; sdu = d }))
              (k.is ∙ ap (λ (y : Sdu). part (take n l) y.first y.len) (sym place))
              ∙ ap (λ (y : Pdu). accepted (record { header = y; sdu = part (take n l) s.first s.len })) (sym pdu));
          inside =
              subst (λ (y : Sdu). SduIn y n) (sym place)
              (record { inside = omega (arith, k.inside); placed = refl });
        }
    go (Ok f) (refused j) q t = let z : ◌≡◌ {A = ℕ} 0 1 = cc in absurd (omega arith)
    go (Err r) (accepted x) q t = let z : ◌≡◌ {A = ℕ} 0 1 = cc in absurd (omega arith)
    go (Err r) (refused i) q t = record { same = ap refused (ap number t) ∙ sym q; inside = tt }

-- The last bits of n bits of others.
last-part : (l : List ℕ) (at m n : ℕ) → part l (at + m) n ≡ drop m (part l at (m + n))
last-part l at m n = ap (take n) (sym (drop-drop m at l)) ∙ sym (drop-take m n (drop at l))

-- The check of n bits that lie in others.
check-is :
    (l : List ℕ) (at n : ℕ)
    → at + n ≤ length l
    → Fcs.check l at n ≡ ask 12 (checks (part l at n)) (accepted tt)
unfolding checks
check-is l at n h =
    let long : length (part l at n) ≡ n = length_part l at n h in
    rw (le-leb (at + n) (length l) h, long) (go (leb 32 n) refl)
  where
    go :
        (b : Bool)
        → leb 32 n ≡ b
        → ask 12 (leb 32 n) (ask 12 (eqb (value (fcs (part l at (n - 32)))) (value (part l (at + (n - 32)) 32))) (accepted tt))
        ≡ ask 12 (leb 32 n && eqb (value (fcs (take (n - 32) (part l at n)))) (value (drop (n - 32) (part l at n)))) (accepted (tt {0}))
    go false e = rw e
    go true e =
        let h : 32 ≤ n = leb-true 32 n e in
        let m : n - 32 + 32 ≡ n = omega arith in
        let tail : part l (at + (n - 32)) 32 ≡ drop (n - 32) (part l at n) = rw m at (last-part l at (n - 32) 32) in
        rw (e, tail, take-take (n - 32) n (drop at l) (omega arith))

-- The bits behind a header, in the bytes from the header's last byte onwards.
record Behind (f : List ℕ) (p : Pdu) (n : ℕ) : Type 0 where
  fits : (header_end p).bits + n ≤ length (bits (drop (header_end p).byte f))
  same : part (bits (drop (header_end p).byte f)) (header_end p).bits n ≡ part (bits f) (length (header p)) n

behind-is : (f : List ℕ) (p : Pdu) (n : ℕ) → length (header p) + n ≤ 8 * length f → Behind f p n
behind-is f p n h =
    let k : ℕ = (header_end p).byte in
    let m : ℕ = (header_end p).bits in
    let ends : 8 * k + m ≡ length (header p) = header-ends p in
    record {
      fits = omega (arith, length-bits (drop k f), length-drop k f);
      same =
          ap (λ (t : List ℕ). part t m n) (sym (drop_bits k f))
          ∙ ap (take n) (drop-drop m (8 * k) (bits f) ∙ ap (λ (q : ℕ). drop q (bits f)) ends);
    }

-- What the check answers of n bits behind a header.
abbrev pub check_behind : List ℕ → Pdu → ℕ → Outcome (Unit {0})
check_behind f p n = Fcs.check (bits (drop (header_end p).byte f)) (header_end p).bits n

-- What is known of a frame of n bits whose header was read: what is left to ask, and what the check of the bits behind the
-- header answers.
pub record Apart (f : List ℕ) (n : ℕ) (p : Pdu) : Type 0 where
  pub fits : n ≤ length (bits f)
  pub whole : length (header p) ≤ n
  pub asks :
      received (take n (bits f))
      ≡ ask 12 (not (has_fcs p) || checks (behind p (take n (bits f)))) (accepted (parts_of p (take n (bits f))))
  pub check : check_behind f p (n - length (header p)) ≡ ask 12 (checks (behind p (take n (bits f)))) (accepted tt)

apart-at : (f : List ℕ) (n : ℕ) (r : Reading) → n ≤ length (bits f) → reading (take n (bits f)) ≡ accepted r → Apart f n r.pdu
unfolding received
apart-at f n r h e =
    let p : Pdu = r.pdu in
    let l : List ℕ = take n (bits f) in
    let long : length l ≡ n = length-take-le n (bits f) h in
    let size = size_of l r (sym e) in
    let whole : length (header p) ≤ n = omega (arith, size.inside, size.is) in
    let m : ℕ = n - length (header p) in
    let all : part l (length (header p)) m ≡ behind p l = take_all m (behind p l) (omega (arith, length-drop (length (header p)) l)) in
    let cut : part l (length (header p)) m ≡ part (bits f) (length (header p)) m =
    part-take (bits f) n (length (header p)) m (omega arith) (omega arith) in
    let last = behind-is f p m (omega (arith, length-bits f)) in
    record {
      fits = h;
      whole = whole;
      asks = ap (checked l) e ∙ asked_of l r size;
      check =
          check-is (bits (drop (header_end p).byte f)) (header_end p).bits m last.fits
          ∙ ap (λ (x : List ℕ). ask 12 (checks x) (accepted tt)) (last.same ∙ sym cut ∙ all);
    }

pub apart : (f : List ℕ) (n : ℕ) (p : Pdu) → accepted p ≡ head_from (bits f) n → Apart f n p
apart f n p e =
    let a = accepted-passed 5 (leb n (length (bits f))) e in
    go (reading (take n (bits f))) refl a.1 (leb-true n (length (bits f)) a.0)
  where
    go : (o : Outcome Reading) → reading (take n (bits f)) ≡ o → accepted p ≡ pdu_in o → n ≤ length (bits f) → Apart f n p
    go (accepted r) q t h = subst (Apart f n) (sym (ap (content p) t)) (apart-at f n r h q)
    go (refused k) q t h = let z : ◌≡◌ {A = ℕ} 0 1 = cc in absurd (omega arith)

-- A header that was refused.
pub refused-so : (l : List ℕ) (n k : ℕ) → refused k ≡ head_from l n → refused k ≡ read_from l n
unfolding received checked
refused-so l n k e = go (leb n (length l)) (reading (take n l)) refl refl e
  where
    go :
        (b : Bool) (o : Outcome Reading)
        → leb n (length l) ≡ b
        → reading (take n l) ≡ o
        → refused k ≡ ask 5 b (pdu_in o)
        → refused k ≡ read_from l n
    go false o h q t = rw h (ap refused (ap number t))
    go true (accepted r) h q t = let z : ◌≡◌ {A = ℕ} 0 1 = cc in absurd (omega arith)
    go true (refused j) h q t = rw (h, q) (ap refused (ap number t))

-- Question 12 is not put; the check answers yes, or refuses, which is by question 12.
refused-twelve : (k : ℕ) (b : Bool) → ◌≡◌ {A = Outcome (Unit {0})} (refused k) (ask 12 b (accepted tt)) → (b ≡ false) × (k ≡ 12)
refused-twelve k false e = (refl, ap number e)
refused-twelve k true e = let z : ◌≡◌ {A = ℕ} 0 1 = cc in absurd (omega arith)

module _ {f : List ℕ} {n : ℕ} {p : Pdu} (a : Apart f n p) where
  read_is : {o : Outcome Received} → received (take n (bits f)) ≡ o → framed n o ≡ read_from (bits f) n
  read_is e = sym (rw (le-leb n (length (bits f)) a.fits) (ap (framed n) e))

  pub unchecked : has_fcs p ≡ false → accepted (record { pdu = p; sdu = sdu_of n p }) ≡ read_from (bits f) n
  unchecked h = read_is {o = accepted (parts_of p (take n (bits f)))} (a.asks ∙ rw h)

  pub right : accepted tt ≡ check_behind f p (n - length (header p)) → accepted (record { pdu = p; sdu = sdu_of n p }) ≡ read_from (bits f) n
  right e =
      let yes = (accepted-passed 12 (checks (behind p (take n (bits f)))) (e ∙ a.check)).0 in
      read_is {o = accepted (parts_of p (take n (bits f)))} (a.asks ∙ rw (yes, or-true (not (has_fcs p))))

  pub wrong : (k : ℕ) → has_fcs p ≡ true → refused k ≡ check_behind f p (n - length (header p)) → refused k ≡ read_from (bits f) n
  wrong k h e =
      let no = refused-twelve k (checks (behind p (take n (bits f)))) (e ∙ a.check) in
      ap refused no.1 ∙ read_is {o = refused 12} (a.asks ∙ rw (h, no.0))
