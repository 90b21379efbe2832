-- The bytes of records: how they begin, how many they are, and that they determine the records.
use Prim.Native.Nat.{ℕ, zero, suc, ◌+◌, ◌*◌, ◌/◌, ◌%◌, ◌^◌, ◌-◌, ◌≤◌, ◌<◌}
use native.Mathlib.Nat.{pow-succ', one-le-pow, mod-eq_of_lt, ne_of_gt}
use native.Mathlib.Omega.{arith}
use mathlib.Core.Path.{◌≡◌, ◌∙◌, refl, sym, ap, ap₂}
use mathlib.Core.Logic.{◌≢◌}
use mathlib.Core.Bool.{Bool, true, false}
use mathlib.Core.List.{List, [], ◌∷◌, ◌++◌, append_assoc, append-nil, head-eq_of_cons-eq, tail-eq_of_cons-eq}
use mathlib.Core.Option.{Option, none, some}
use lib.Arith.{mod-mul}
use lib.ListN.{length, take, drop, get_or, replicate, length-append, length-drop}
use lib.Seq.{take_at, take-take, take-add, length-take-le}
use Rattle.lists.specs.Lists.{All}
use Rattle.lists.proofs.Lists.{append-cancel}
use Rattle.bits.specs.Bits.{AllBits}
use Rattle.bits.proofs.Laws.{all_take, all_drop, all_append, value-determines}
use Rattle.bits.proofs.Bytes.{all-zeros}
use Rattle.llc_pdus.specs.Headers.{bit}
use Rattle.llc_pdus.specs.Writes.{longest_sent}
use Rattle.llc_rule.specs.Limits.{longest_frame}
use Rattle.llc_rule.specs.Calls.{from_bytes, to_bytes}
use Rattle.llc_rule.specs.Records.{Record, acknowledged, reply, unacknowledged, data_up, unitdata_up, Sent, Reply, Indication, field, number_field, packed, pack, counted, masked, counted_if_any, sent_bytes, reply_bytes, indication_bytes, bytes, all_bytes, kind}
use Rattle.llc_rule.specs.Sizes.{Fits, FitsMask, FitsBits, FitsSent, FitsReply, FitsIndication, SmallSent}

-- How records begin -------------------------------------------------------------------------------------------------------

-- A record's bytes begin with field 01 and its kind.
pub begins : (r : Record) → bytes r ≡ 0x01 ∷ 0x00 ∷ 0x01 ∷ kind r ∷ drop 4 (bytes r)
unfolding bytes sent_bytes reply_bytes indication_bytes to_bytes
begins (acknowledged s) = refl
begins (reply r) = refl
begins (unacknowledged s) = refl
begins (data_up i) = refl
begins (unitdata_up i) = refl

-- Bytes of numbers, and bytes of bits -------------------------------------------------------------------------------------

pub length-to_bytes : (n v : ℕ) → length (to_bytes n v) ≡ n
unfolding to_bytes
length-to_bytes zero v = refl
length-to_bytes (suc n) v = ap suc (length-to_bytes n v)

-- The number that the n lowest bytes of a number spell.
pub from_bytes-to_bytes : (n v : ℕ) → from_bytes (to_bytes n v) ≡ v % 256 ^ n
unfolding from_bytes to_bytes
from_bytes-to_bytes zero v = omega arith
from_bytes-to_bytes (suc n) v =
    rw (length-to_bytes n v, from_bytes-to_bytes n v, pow-succ' 256 n) (sym (mod-mul v (omega arith) (one-le-pow n 256 (omega arith))))

-- n bytes determine a number that fits them.
pub to_bytes-determine : (n v w : ℕ) → v < 256 ^ n → w < 256 ^ n → to_bytes n v ≡ to_bytes n w → v ≡ w
to_bytes-determine n v w hv hw e =
    sym (mod-eq_of_lt hv)
    ∙ sym (from_bytes-to_bytes n v)
    ∙ ap from_bytes e
    ∙ from_bytes-to_bytes n w
    ∙ mod-eq_of_lt hw

pub length-packed : (n : ℕ) (l : List ℕ) → length (packed n l) ≡ n
unfolding packed
length-packed zero l = refl
length-packed (suc n) l = ap suc (length-packed n (drop 8 l))

-- n bytes of bits determine the first 8 n bits.
packed-determine :
    (n : ℕ) (p q : List ℕ)
    → AllBits p
    → AllBits q
    → 8 * n ≤ length p
    → 8 * n ≤ length q
    → packed n p ≡ packed n q
    → take (8 * n) p ≡ take (8 * n) q
unfolding packed
packed-determine zero p q bp bq lp lq e = refl
packed-determine (suc n) p q bp bq lp lq e =
    let dp : length (drop 8 p) ≡ length p - 8 = length-drop 8 p in
    let dq : length (drop 8 q) ≡ length q - 8 = length-drop 8 q in
    let long : length (take 8 p) ≡ length (take 8 q) = length-take-le 8 p (omega arith) ∙ sym (length-take-le 8 q (omega arith)) in
    let front : take 8 p ≡ take 8 q =
    value-determines (take 8 p) (take 8 q) (all_take 8 p bp) (all_take 8 q bq) long (head-eq_of_cons-eq e) in
    let back : take (8 * n) (drop 8 p) ≡ take (8 * n) (drop 8 q) =
    packed-determine n (drop 8 p) (drop 8 q) (all_drop 8 p bp) (all_drop 8 q bq) (omega arith) (omega arith) (tail-eq_of_cons-eq e) in
    let more : 8 * suc n ≡ 8 + 8 * n = omega arith in
    rw (more, take-add 8 (8 * n) p, take-add 8 (8 * n) q, front, back)

-- The bytes of bits determine the bits, if it is known how many they are.
pub pack-determines : (p q : List ℕ) → AllBits p → AllBits q → length p ≡ length q → pack p ≡ pack q → p ≡ q
pack-determines p q bp bq n e =
    let z : List ℕ = replicate 7 0 in
    let k : ℕ = (length p + 7) / 8 in
    let kq : (length q + 7) / 8 ≡ k = rw n in
    let lp : length (p ++ z) ≡ length p + 7 = length-append p z in
    let lq : length (q ++ z) ≡ length q + 7 = length-append q z in
    let same : take (8 * k) (p ++ z) ≡ take (8 * k) (q ++ z) =
    packed-determine k (p ++ z) (q ++ z) (all_append p z bp (all-zeros 7)) (all_append q z bq (all-zeros 7))
    (omega arith) (omega arith)
    (rw kq at e) in
    sym (take_at p z (length p) refl)
    ∙ sym (take-take (length p) (8 * k) (p ++ z) (omega arith))
    ∙ ap (take (length p)) same
    ∙ take-take (length p) (8 * k) (q ++ z) (omega arith)
    ∙ take_at q z (length p) (sym n)

-- Fields one behind the other ---------------------------------------------------------------------------------------------

-- What two equal lists give once their first fields are cut off: E of the fields, and that what is behind them is equal.
abbrev Cut : Type 0 → List ℕ → List ℕ → List ℕ → List ℕ → Type 0
Cut E r s x y = E × (r ++ x ≡ s ++ y)

peel :
    (p q r s x y : List ℕ)
    → length p ≡ length q
    → (p ++ r) ++ x ≡ (q ++ s) ++ y
    → Cut (p ≡ q) r s x y
peel p q r s x y n e =
    append-cancel p q (r ++ x) (s ++ y) n (sym (append_assoc p r x) ∙ e ∙ append_assoc q s y)

pub length-field : (tag : ℕ) (v : List ℕ) → length (field tag v) ≡ 3 + length v
length-field tag v = rw (length-append (to_bytes 2 (length v)) v, length-to_bytes 2 (length v)) (omega arith)

pub length-number : (tag n v : ℕ) → length (number_field tag n v) ≡ 3 + n
length-number tag n v = rw (length-field tag (to_bytes n v), length-to_bytes n v)

-- The tag and the length of a field have three bytes.
heads : (tag : ℕ) (v w : List ℕ) → length (tag ∷ to_bytes 2 (length v)) ≡ length (tag ∷ to_bytes 2 (length w))
heads tag v w = rw (length-to_bytes 2 (length v), length-to_bytes 2 (length w))

peel-even :
    (tag : ℕ) (v w r s x y : List ℕ)
    → length v ≡ length w
    → (field tag v ++ r) ++ x ≡ (field tag w ++ s) ++ y
    → Cut (v ≡ w) r s x y
peel-even tag v w r s x y n e =
    let cut = peel (field tag v) (field tag w) r s x y (rw (length-field tag v, length-field tag w, n)) e in
    ((append-cancel (tag ∷ to_bytes 2 (length v)) (tag ∷ to_bytes 2 (length w)) v w (heads tag v w) cut.0).1, cut.1)

peel-field :
    (tag : ℕ) (v w r s x y : List ℕ)
    → length v < 2 ^ 16
    → length w < 2 ^ 16
    → (field tag v ++ r) ++ x ≡ (field tag w ++ s) ++ y
    → Cut (v ≡ w) r s x y
peel-field tag v w r s x y hv hw e =
    let front : List ℕ → List ℕ = λ t. tag ∷ to_bytes 2 (length t) in
    let same : front v ≡ front w =
    (append-cancel (front v) (front w) (v ++ (r ++ x)) (w ++ (s ++ y)) (heads tag v w)
    (sym (append_assoc (front v) v (r ++ x))
    ∙ sym (append_assoc (field tag v) r x)
    ∙ e
    ∙ append_assoc (field tag w) s y
    ∙ append_assoc (front w) w (s ++ y))
    ).0 in
    peel-even tag v w r s x y (to_bytes-determine 2 (length v) (length w) hv hw (tail-eq_of_cons-eq same)) e

peel-number :
    (tag n v w : ℕ) (r s x y : List ℕ)
    → v < 256 ^ n
    → w < 256 ^ n
    → (number_field tag n v ++ r) ++ x ≡ (number_field tag n w ++ s) ++ y
    → Cut (v ≡ w) r s x y
peel-number tag n v w r s x y hv hw e =
    let cut = peel-even tag (to_bytes n v) (to_bytes n w) r s x y (length-to_bytes n v ∙ sym (length-to_bytes n w)) e in
    (to_bytes-determine n v w hv hw cut.0, cut.1)

bit_below : (b : Bool) → bit b < 256 ^ 1
bit_below false = omega arith
bit_below true = omega arith

bit-determines : (b c : Bool) → bit b ≡ bit c → b ≡ c
bit-determines false false e = refl
bit-determines false true e = absurd (omega arith)
bit-determines true false e = absurd (omega arith)
bit-determines true true e = refl

peel-flag :
    (tag : ℕ) (b c : Bool) (r s x y : List ℕ)
    → (number_field tag 1 (bit b) ++ r) ++ x ≡ (number_field tag 1 (bit c) ++ s) ++ y
    → Cut (b ≡ c) r s x y
peel-flag tag b c r s x y e =
    let cut = peel-number tag 1 (bit b) (bit c) r s x y (bit_below b) (bit_below c) e in
    (bit-determines b c cut.0, cut.1)

-- What stands behind a mask begins with a tag other than 09.
peel-mask :
    (tag : ℕ) (m n : Option ℕ) (r s x y : List ℕ)
    → tag ≢ 0x09
    → FitsMask m
    → FitsMask n
    → (masked m ++ (tag ∷ r)) ++ x ≡ (masked n ++ (tag ∷ s)) ++ y
    → Cut (m ≡ n) (tag ∷ r) (tag ∷ s) x y
unfolding masked
peel-mask tag none none r s x y h fm fn e = (refl, e)
peel-mask tag none (some n) r s x y h fm fn e = absurd (h (head-eq_of_cons-eq e))
peel-mask tag (some m) none r s x y h fm fn e = absurd (h (sym (head-eq_of_cons-eq e)))
peel-mask tag (some m) (some n) r s x y h fm fn e =
    let cut = peel-number 0x09 1 m n (tag ∷ r) (tag ∷ s) x y fm fn e in
    (ap some cut.0, cut.1)

-- The value of the field of bits, which comes last, and the bits that it determines.
abbrev in_counted : List ℕ → List ℕ
in_counted l = to_bytes 2 (length l) ++ pack l

pub length-pack : (l : List ℕ) → length (pack l) ≡ (length l + 7) / 8
length-pack l = length-packed ((length l + 7) / 8) (l ++ replicate 7 0)

length-in_counted : (l : List ℕ) → length (in_counted l) ≡ 2 + (length l + 7) / 8
length-in_counted l = rw (length-append (to_bytes 2 (length l)) (pack l), length-to_bytes 2 (length l), length-pack l)

counted-fits : (l : List ℕ) → FitsBits l → length (in_counted l) < 2 ^ 16
counted-fits l f = let n = length-in_counted l in omega (arith, f.count)

in_counted-determines : (p q : List ℕ) → FitsBits p → FitsBits q → in_counted p ≡ in_counted q → p ≡ q
in_counted-determines p q fp fq e =
    let cut =
    append-cancel (to_bytes 2 (length p)) (to_bytes 2 (length q)) (pack p) (pack q)
    (length-to_bytes 2 (length p) ∙ sym (length-to_bytes 2 (length q)))
    e in
    let same = to_bytes-determine 2 (length p) (length q) (omega (arith, fp.count)) (omega (arith, fq.count)) cut.0 in
    pack-determines p q fp.bits fq.bits same cut.1

last-bits : (p q x y : List ℕ) → FitsBits p → FitsBits q → counted p ++ x ≡ counted q ++ y → (p ≡ q) × (x ≡ y)
unfolding counted
last-bits p q x y fp fq e =
    let cut =
    peel-field 0x0C (in_counted p) (in_counted q) x y [] [] (counted-fits p fp) (counted-fits q fq)
    (ap (λ (t : List ℕ). t ++ []) e) in
    (in_counted-determines p q fp fq cut.0, sym (append-nil x) ∙ cut.1 ∙ append-nil y)

-- Bytes that are none, or begin with the tag of a record's first field.
abbrev pub Begun : List ℕ → Type 0
Begun x = get_or x 0 0x01 ≡ 0x01

last-bits-if-any :
    (p q x y : List ℕ)
    → FitsBits p
    → FitsBits q
    → Begun x
    → Begun y
    → counted_if_any p ++ x ≡ counted_if_any q ++ y
    → (p ≡ q) × (x ≡ y)
unfolding counted_if_any counted
last-bits-if-any [] [] x y fp fq bx by e = (refl, e)
last-bits-if-any [] (b ∷ q) x y fp fq bx by e = absurd (omega (arith, rw e at bx))
last-bits-if-any (a ∷ p) [] x y fp fq bx by e = absurd (omega (arith, rw (← e) at by))
last-bits-if-any (a ∷ p) (b ∷ q) x y fp fq bx by e = last-bits (a ∷ p) (b ∷ q) x y fp fq e

-- A record's bytes determine it -------------------------------------------------------------------------------------------

sent-determined :
    (k : ℕ) (s t : Sent) (x y : List ℕ)
    → FitsSent s
    → FitsSent t
    → sent_bytes k s ++ x ≡ sent_bytes k t ++ y
    → (s ≡ t) × (x ≡ y)
unfolding sent_bytes
sent-determined k s t x y fs ft e =
    let c1 = peel-even 0x01 (to_bytes 1 k) (to_bytes 1 k) _ _ x y refl e in
    let c2 = peel-number 0x02 3 s.ssi t.ssi _ _ x y fs.ssi ft.ssi c1.1 in
    let c3 = peel-number 0x03 1 s.type t.type _ _ x y fs.type ft.type c2.1 in
    let c4 = peel-number 0x04 2 s.carrier t.carrier _ _ x y fs.carrier ft.carrier c3.1 in
    let c5 = peel-number 0x05 4 s.link t.link _ _ x y fs.link ft.link c4.1 in
    let c6 = peel-number 0x06 4 s.endpoint t.endpoint _ _ x y fs.endpoint ft.endpoint c5.1 in
    let c7 = peel-number 0x07 4 s.handle t.handle _ _ x y fs.handle ft.handle c6.1 in
    let c8 = peel-flag 0x08 s.steal t.steal _ _ x y c7.1 in
    let c9 = peel-mask 0x0A s.mask t.mask _ _ x y (ne_of_gt (omega arith)) fs.mask ft.mask c8.1 in
    let c_a = peel-number 0x0A 1 s.receipt t.receipt _ _ x y fs.receipt ft.receipt c9.1 in
    let c_b = peel-field 0x0B s.block t.block _ _ x y fs.block ft.block c_a.1 in
    let c_c = last-bits s.pdu t.pdu x y fs.pdu ft.pdu c_b.1 in (
      λ i. record {
        ssi = c2.0 i;
        type = c3.0 i;
        carrier = c4.0 i;
        link = c5.0 i;
        endpoint = c6.0 i;
        handle = c7.0 i;
        steal = c8.0 i;
        mask = c9.0 i;
        receipt = c_a.0 i;
        block = c_b.0 i;
        pdu = c_c.0 i;
      },
      c_c.1,
    )

reply-determined :
    (s t : Reply) (x y : List ℕ) → FitsReply s → FitsReply t → reply_bytes s ++ x ≡ reply_bytes t ++ y → (s ≡ t) × (x ≡ y)
unfolding reply_bytes counted
reply-determined s t x y fs ft e =
    let c1 = peel-even 0x01 (to_bytes 1 2) (to_bytes 1 2) _ _ x y refl e in
    let c2 = peel-number 0x02 3 s.ssi t.ssi _ _ x y fs.ssi ft.ssi c1.1 in
    let c3 = peel-number 0x03 1 s.type t.type _ _ x y fs.type ft.type c2.1 in
    let c4 = peel-number 0x04 2 s.carrier t.carrier _ _ x y fs.carrier ft.carrier c3.1 in
    let c5 = peel-number 0x05 4 s.link t.link _ _ x y fs.link ft.link c4.1 in
    let c6 = peel-even 0x06 (to_bytes 4 0) (to_bytes 4 0) _ _ x y refl c5.1 in
    let c7 = peel-even 0x07 (to_bytes 4 0) (to_bytes 4 0) _ _ x y refl c6.1 in
    let c8 = peel-flag 0x08 s.steal t.steal _ _ x y c7.1 in
    let c9 = peel-mask 0x0C s.mask t.mask _ _ x y (ne_of_gt (omega arith)) fs.mask ft.mask c8.1 in
    let c_c = last-bits s.pdu t.pdu x y fs.pdu ft.pdu c9.1 in (
      λ i. record {
        ssi = c2.0 i;
        type = c3.0 i;
        carrier = c4.0 i;
        link = c5.0 i;
        steal = c8.0 i;
        mask = c9.0 i;
        pdu = c_c.0 i;
      },
      c_c.1,
    )

indication-determined :
    (k : ℕ) (s t : Indication) (x y : List ℕ)
    → FitsIndication s
    → FitsIndication t
    → Begun x
    → Begun y
    → indication_bytes k s ++ x ≡ indication_bytes k t ++ y
    → (s ≡ t) × (x ≡ y)
unfolding indication_bytes
indication-determined k s t x y fs ft bx by e =
    let c1 = peel-even 0x01 (to_bytes 1 k) (to_bytes 1 k) _ _ x y refl e in
    let c2 = peel-number 0x02 3 s.ssi t.ssi _ _ x y fs.ssi ft.ssi c1.1 in
    let c3 = peel-number 0x03 1 s.type t.type _ _ x y fs.type ft.type c2.1 in
    let c5 = peel-number 0x05 4 s.link t.link _ _ x y fs.link ft.link c3.1 in
    let c6 = peel-number 0x06 4 s.endpoint t.endpoint _ _ x y fs.endpoint ft.endpoint c5.1 in
    let c_b = peel-field 0x0B s.block t.block _ _ x y fs.block ft.block c6.1 in
    let c_d = peel-flag 0x0D s.fcs t.fcs _ _ x y c_b.1 in
    let c_c = last-bits-if-any s.sdu t.sdu x y fs.sdu ft.sdu bx by c_d.1 in (
      λ i. record {
        ssi = c2.0 i;
        type = c3.0 i;
        link = c5.0 i;
        endpoint = c6.0 i;
        block = c_b.0 i;
        fcs = c_d.0 i;
        sdu = c_c.0 i;
      },
      c_c.1,
    )

-- The kinds are equal.
same_kind : (r s : Record) (x y : List ℕ) → bytes r ++ x ≡ bytes s ++ y → kind r ≡ kind s
same_kind r s x y e =
    ap (λ (l : List ℕ). get_or l 3 0)
    (ap (λ (t : List ℕ). t ++ x) (sym (begins r)) ∙ e ∙ ap (λ (t : List ℕ). t ++ y) (begins s))

alike : {A : Type 0} {s t : A} {x y : List ℕ} (f : A → Record) → (s ≡ t) × (x ≡ y) → (f s ≡ f t) × (x ≡ y)
alike f h = (ap f h.0, h.1)

of-kind :
    (r s : Record) (x y : List ℕ)
    → kind r ≡ kind s
    → Fits r
    → Fits s
    → Begun x
    → Begun y
    → bytes r ++ x ≡ bytes s ++ y
    → (r ≡ s) × (x ≡ y)
unfolding bytes
of-kind (acknowledged s) (acknowledged t) x y k fs ft bx by e = alike acknowledged (sent-determined 1 s t x y fs ft e)
of-kind (acknowledged s) (reply t) x y k fs ft bx by e = absurd (omega arith)
of-kind (acknowledged s) (unacknowledged t) x y k fs ft bx by e = absurd (omega arith)
of-kind (acknowledged s) (data_up t) x y k fs ft bx by e = absurd (omega arith)
of-kind (acknowledged s) (unitdata_up t) x y k fs ft bx by e = absurd (omega arith)
of-kind (reply s) (acknowledged t) x y k fs ft bx by e = absurd (omega arith)
of-kind (reply s) (reply t) x y k fs ft bx by e = alike reply (reply-determined s t x y fs ft e)
of-kind (reply s) (unacknowledged t) x y k fs ft bx by e = absurd (omega arith)
of-kind (reply s) (data_up t) x y k fs ft bx by e = absurd (omega arith)
of-kind (reply s) (unitdata_up t) x y k fs ft bx by e = absurd (omega arith)
of-kind (unacknowledged s) (acknowledged t) x y k fs ft bx by e = absurd (omega arith)
of-kind (unacknowledged s) (reply t) x y k fs ft bx by e = absurd (omega arith)
of-kind (unacknowledged s) (unacknowledged t) x y k fs ft bx by e = alike unacknowledged (sent-determined 3 s t x y fs ft e)
of-kind (unacknowledged s) (data_up t) x y k fs ft bx by e = absurd (omega arith)
of-kind (unacknowledged s) (unitdata_up t) x y k fs ft bx by e = absurd (omega arith)
of-kind (data_up s) (acknowledged t) x y k fs ft bx by e = absurd (omega arith)
of-kind (data_up s) (reply t) x y k fs ft bx by e = absurd (omega arith)
of-kind (data_up s) (unacknowledged t) x y k fs ft bx by e = absurd (omega arith)
of-kind (data_up s) (data_up t) x y k fs ft bx by e = alike data_up (indication-determined 4 s t x y fs ft bx by e)
of-kind (data_up s) (unitdata_up t) x y k fs ft bx by e = absurd (omega arith)
of-kind (unitdata_up s) (acknowledged t) x y k fs ft bx by e = absurd (omega arith)
of-kind (unitdata_up s) (reply t) x y k fs ft bx by e = absurd (omega arith)
of-kind (unitdata_up s) (unacknowledged t) x y k fs ft bx by e = absurd (omega arith)
of-kind (unitdata_up s) (data_up t) x y k fs ft bx by e = absurd (omega arith)
of-kind (unitdata_up s) (unitdata_up t) x y k fs ft bx by e = alike unitdata_up (indication-determined 5 s t x y fs ft bx by e)

-- A record before nothing or before another record is determined, and so is what is behind it.
pub determined-before :
    (r s : Record) (x y : List ℕ)
    → Fits r
    → Fits s
    → Begun x
    → Begun y
    → bytes r ++ x ≡ bytes s ++ y
    → (r ≡ s) × (x ≡ y)
determined-before r s x y fr fs bx by e = of-kind r s x y (same_kind r s x y e) fr fs bx by e

-- A record's bytes determine it.
pub determined : (r s : Record) → Fits r → Fits s → bytes r ≡ bytes s → r ≡ s
determined r s fr fs e = (determined-before r s [] [] fr fs refl refl (ap (λ (t : List ℕ). t ++ []) e)).0

-- The bytes of several records are none, or begin with the tag of a record's first field.
pub begun : (rs : List Record) → Begun (all_bytes rs)
unfolding all_bytes
begun [] = refl
begun (r ∷ rs) = rw (begins r)

some_bytes : (r : Record) (rs : List Record) → length (all_bytes (r ∷ rs)) ≢ 0
unfolding all_bytes
some_bytes r rs = rw (begins r) (λ h. omega arith)

-- The bytes of several records determine the records.
pub all-determined : (rs ss : List Record) → All Fits rs → All Fits ss → all_bytes rs ≡ all_bytes ss → rs ≡ ss
unfolding all_bytes
all-determined [] [] fr fs e = refl
all-determined [] (s ∷ ss) fr fs e = absurd (some_bytes s ss (ap length (sym e)))
all-determined (r ∷ rs) [] fr fs e = absurd (some_bytes r rs (ap length e))
all-determined (r ∷ rs) (s ∷ ss) fr fs e =
    let h = determined-before r s (all_bytes rs) (all_bytes ss) fr.0 fs.0 (begun rs) (begun ss) e in
    ap₂ (λ (t : Record) (ts : List Record). t ∷ ts) h.0 (all-determined rs ss fr.1 fs.1 h.1)

-- How many bytes records take ---------------------------------------------------------------------------------------------

pub length-counted : (l : List ℕ) → length (counted l) ≡ 5 + (length l + 7) / 8
unfolding counted
length-counted l = rw (length-field 0x0C (in_counted l), length-in_counted l) (omega arith)

-- How many bytes a mask takes, and bits that may be none.
abbrev pub mask_size : Option ℕ → ℕ
mask_size none = 0
mask_size (some m) = 4

abbrev pub size_if_any : List ℕ → ℕ
size_if_any [] = 0
size_if_any (b ∷ l) = 5 + (length (b ∷ l) + 7) / 8

pub length-masked : (m : Option ℕ) → length (masked m) ≡ mask_size m
unfolding masked
length-masked none = refl
length-masked (some m) = length-number 0x09 1 m

pub length-counted_if_any : (l : List ℕ) → length (counted_if_any l) ≡ size_if_any l
unfolding counted_if_any
length-counted_if_any [] = refl
length-counted_if_any (b ∷ l) = length-counted (b ∷ l)

-- Kinds 1 and 3.
pub length-sent :
    (k : ℕ) (s : Sent)
    → length (sent_bytes k s) ≡ 56 + mask_size s.mask + length s.block + (length s.pdu + 7) / 8
unfolding sent_bytes to_bytes
length-sent k s =
    rw (length-append (masked s.mask) _, length-append s.block _, length-masked s.mask, length-counted s.pdu)
    (omega arith)

-- Kind 2.
pub length-reply : (r : Reply) → length (reply_bytes r) ≡ 49 + mask_size r.mask + (length r.pdu + 7) / 8
unfolding reply_bytes to_bytes
length-reply r =
    rw (length-append (masked r.mask) _, length-masked r.mask, length-counted r.pdu) (omega arith)

-- Kinds 4 and 5.
pub length-indication :
    (k : ℕ) (i : Indication) → length (indication_bytes k i) ≡ 35 + length i.block + size_if_any i.sdu
unfolding indication_bytes to_bytes
length-indication k i =
    rw (length-append i.block _, length-counted_if_any i.sdu) (omega arith)

mask-size : (m : Option ℕ) → mask_size m ≤ 4
mask-size none = omega arith
mask-size (some m) = omega arith

size-if-any : (l : List ℕ) → size_if_any l ≤ 5 + (length l + 7) / 8
size-if-any [] = omega arith
size-if-any (b ∷ l) = omega arith

-- How many bytes a small message takes at most: its fields with a mask, its block and its frame.
abbrev pub most_sent : ℕ
most_sent = 60 + 64 + (longest_sent + 7) / 8

pub small-sent : (k : ℕ) (s : Sent) → SmallSent s → length (sent_bytes k s) ≤ most_sent
small-sent k s h =
    let n = length-sent k s in
    let m = mask-size s.mask in
    omega (arith, h.block, h.pdu)

-- And a reply with the five bits of a BL-ACK: its fields with a mask, and one byte.
abbrev pub most_reply : ℕ
most_reply = 53 + 1

pub small-reply : (r : Reply) → length r.pdu ≡ 5 → length (reply_bytes r) ≤ most_reply
small-reply r h =
    let n = length-reply r in
    let m = mask-size r.mask in
    omega arith

-- How many bytes it takes at most what goes up of a frame in range.
abbrev pub most_up : ℕ
most_up = 40 + 64 + (longest_frame + 7) / 8

pub small-indication :
    (k : ℕ) (i : Indication)
    → length i.block ≤ 64
    → length i.sdu ≤ longest_frame
    → length (indication_bytes k i) ≤ most_up
small-indication k i hb hs =
    let n = length-indication k i in
    let m = size-if-any i.sdu in
    omega arith
