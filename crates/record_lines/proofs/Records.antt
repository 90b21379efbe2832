-- Each record of a call comes out as one line: the records' bytes, cut, are the bytes of each.
use Prim.Native.Nat.{ℕ, ◌+◌, ◌^◌, ◌<◌}
use native.Mathlib.Omega.{arith}
use mathlib.Core.Path.{◌≡◌, ◌∙◌, refl, sym, ap}
use mathlib.Core.Bool.{false}
use mathlib.Core.List.{List, [], ◌∷◌, ◌++◌, map, append_assoc, append-nil}
use mathlib.Core.Option.{Option, none, some}
use lib.Dec.{eqb}
use lib.ListN.{length, take, length-append}
use lib.Seq.{take_at, drop_at}
use Rattle.lists.specs.Lists.{All}
use Rattle.llc_pdus.specs.Headers.{bit}
use Rattle.llc_rule.specs.Calls.{to_bytes}
use Rattle.llc_rule.specs.Records.{Record, acknowledged, reply, unacknowledged, data_up, unitdata_up, Sent, Reply, Indication, field, number_field, pack, counted, counted_if_any, masked, sent_bytes, reply_bytes, indication_bytes, bytes, all_bytes}
use Rattle.llc_rule.specs.Sizes.{Fits, FitsBits, FitsSent, FitsReply, FitsIndication}
use Rattle.llc_rule.proofs.Records.{from_bytes-to_bytes, length-to_bytes, length-field, length-counted, begins}
use Rattle.record_lines.specs.Split.{behind_tag, cut, split, in_lines, lines_of_records}
use Rattle.record_lines.proofs.Cuts.{before, before-before, nothing-cut, split-on, cut-same, cut-next, cut-none}

-- A field's length says where it ends, if its value fits.
behind-value : (v x : List ℕ) → length v < 2 ^ 16 → behind_tag ((to_bytes 2 (length v) ++ v) ++ x) ≡ 2 + length v
behind-value v x h =
    let two : take 2 ((to_bytes 2 (length v) ++ v) ++ x) ≡ to_bytes 2 (length v) =
    ap (take 2) (append_assoc (to_bytes 2 (length v)) v x)
    ∙ take_at (to_bytes 2 (length v)) (v ++ x) 2 (length-to_bytes 2 (length v)) in
    rw (two, from_bytes-to_bytes 2 (length v)) (omega arith)

-- A whole field at the front of a record.
split-whole : (tag : ℕ) (v x : List ℕ) → length v < 2 ^ 16 → split (field tag v ++ x) ≡ before (field tag v) (cut 0 x)
split-whole tag v x h =
    let front : List ℕ = to_bytes 2 (length v) ++ v in
    let long : length front ≡ 2 + length v =
    length-append (to_bytes 2 (length v)) v ∙ ap (λ (n : ℕ). n + length v) (length-to_bytes 2 (length v)) in
    split-on tag (front ++ x)
    ∙ rw (behind-value v x h, take_at front x (2 + length v) long, drop_at front x (2 + length v) long)

-- Bytes that go on with a record: whole fields, none of tag 01.
record Inner (l : List ℕ) : Type 0 where
  pub on : (x : List ℕ) → cut 0 (l ++ x) ≡ before l (cut 0 x)

inner-none : Inner []
inner-none = record { on = λ x. sym (nothing-cut 0 x) }

-- Some and others behind them.
infixr 5 ◌then◌
◌then◌ : {p q : List ℕ} → Inner p → Inner q → Inner (p ++ q)
◌then◌ {p} {q} f g =
    record {
      on =
          λ x.
          ap (cut 0) (append_assoc p q x)
          ∙ f.on (q ++ x)
          ∙ ap (before p) (g.on x)
          ∙ before-before p q (cut 0 x);
    }

inner-field : (tag : ℕ) (v : List ℕ) → eqb tag 0x01 ≡ false → length v < 2 ^ 16 → Inner (field tag v)
inner-field tag v e h =
    record { on = λ x. cut-same tag ((to_bytes 2 (length v) ++ v) ++ x) e ∙ split-whole tag v x h }

inner-number : (tag n v : ℕ) → eqb tag 0x01 ≡ false → n < 2 ^ 16 → Inner (number_field tag n v)
inner-number tag n v e h = inner-field tag (to_bytes n v) e (omega (arith, length-to_bytes n v))

inner-masked : (m : Option ℕ) → Inner (masked m)
unfolding masked
inner-masked none = inner-none
inner-masked (some m) = inner-number 0x09 1 m refl (omega arith)

inner-counted : (l : List ℕ) → FitsBits l → Inner (counted l)
unfolding counted
inner-counted l f =
    let v : List ℕ = to_bytes 2 (length l) ++ pack l in
    inner-field 0x0C v refl (omega (arith, length-counted l, length-field 0x0C v, f.count))

inner-counted_if_any : (l : List ℕ) → FitsBits l → Inner (counted_if_any l)
unfolding counted_if_any
inner-counted_if_any [] f = inner-none
inner-counted_if_any (b ∷ l) f = inner-counted (b ∷ l) f

-- Field 01 and what goes on with the record.
split-record : (k : ℕ) (rest x : List ℕ) → Inner rest → split ((number_field 0x01 1 k ++ rest) ++ x) ≡ before (number_field 0x01 1 k ++ rest) (cut 0 x)
split-record k rest x f =
    let first : List ℕ = number_field 0x01 1 k in
    ap split (append_assoc first rest x)
    ∙ split-whole 0x01 (to_bytes 1 k) (rest ++ x) (omega (arith, length-to_bytes 1 k))
    ∙ ap (before first) (f.on x)
    ∙ before-before first rest (cut 0 x)

-- The bytes of each kind of record, before others.
split-sent : (k : ℕ) (s : Sent) (x : List ℕ) → FitsSent s → split (sent_bytes k s ++ x) ≡ before (sent_bytes k s) (cut 0 x)
unfolding sent_bytes
split-sent k s x f =
    split-record k _ x
    (inner-number 0x02 3 s.ssi refl (omega arith)
    then inner-number 0x03 1 s.type refl (omega arith)
    then inner-number 0x04 2 s.carrier refl (omega arith)
    then inner-number 0x05 4 s.link refl (omega arith)
    then inner-number 0x06 4 s.endpoint refl (omega arith)
    then inner-number 0x07 4 s.handle refl (omega arith)
    then inner-number 0x08 1 (bit s.steal) refl (omega arith)
    then inner-masked s.mask
    then inner-number 0x0A 1 s.receipt refl (omega arith)
    then inner-field 0x0B s.block refl f.block
    then inner-counted s.pdu f.pdu)

split-reply : (r : Reply) (x : List ℕ) → FitsReply r → split (reply_bytes r ++ x) ≡ before (reply_bytes r) (cut 0 x)
unfolding reply_bytes
split-reply r x f =
    split-record 2 _ x
    (inner-number 0x02 3 r.ssi refl (omega arith)
    then inner-number 0x03 1 r.type refl (omega arith)
    then inner-number 0x04 2 r.carrier refl (omega arith)
    then inner-number 0x05 4 r.link refl (omega arith)
    then inner-number 0x06 4 0 refl (omega arith)
    then inner-number 0x07 4 0 refl (omega arith)
    then inner-number 0x08 1 (bit r.steal) refl (omega arith)
    then inner-masked r.mask
    then inner-counted r.pdu f.pdu)

split-indication :
    (k : ℕ) (i : Indication) (x : List ℕ)
    → FitsIndication i
    → split (indication_bytes k i ++ x) ≡ before (indication_bytes k i) (cut 0 x)
unfolding indication_bytes
split-indication k i x f =
    split-record k _ x
    (inner-number 0x02 3 i.ssi refl (omega arith)
    then inner-number 0x03 1 i.type refl (omega arith)
    then inner-number 0x05 4 i.link refl (omega arith)
    then inner-number 0x06 4 i.endpoint refl (omega arith)
    then inner-field 0x0B i.block refl f.block
    then inner-number 0x0D 1 (bit i.fcs) refl (omega arith)
    then inner-counted_if_any i.sdu f.sdu)

split_one : (r : Record) (x : List ℕ) → Fits r → split (bytes r ++ x) ≡ before (bytes r) (cut 0 x)
unfolding bytes
split_one (acknowledged s) x f = split-sent 1 s x f
split_one (reply s) x f = split-reply s x f
split_one (unacknowledged s) x f = split-sent 3 s x f
split_one (data_up i) x f = split-indication 4 i x f
split_one (unitdata_up i) x f = split-indication 5 i x f

-- Behind a record nothing follows, or the next one.
cut_all : (rs : List Record) → cut 0 (all_bytes rs) ≡ [] ∷ split (all_bytes rs)
unfolding all_bytes
cut_all [] = cut-none
cut_all (r ∷ rs) = rw (begins r) (cut-next 0x01 _ refl)

-- The records' bytes are cut into the bytes of each.
pub split-records : (rs : List Record) → All Fits rs → split (all_bytes rs) ≡ map bytes rs
unfolding all_bytes split
split-records [] f = refl
split-records (r ∷ rs) f =
    split_one r (all_bytes rs) f.0
    ∙ ap (before (bytes r)) (cut_all rs)
    ∙ rw (append-nil (bytes r), split-records rs f.1)

-- Each record comes out as one line.
pub record-lines : (rs : List Record) → All Fits rs → lines_of_records (all_bytes rs) ≡ in_lines (map bytes rs)
record-lines rs f = ap in_lines (split-records rs f)
