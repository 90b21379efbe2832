-- The values of a call whose bytes are bytes fit their fields: n bytes spell a number below 256 ^ n.
use Prim.Native.Nat.{ℕ, ◌+◌, ◌^◌, ◌≤◌, ◌<◌}
use native.Mathlib.Nat.{pow-succ', pow-le-pow_right}
use native.Mathlib.Omega.{arith}
use mathlib.Core.Path.{◌≡◌, subst}
use mathlib.Core.List.{List, [], ◌∷◌}
use lib.Arith.{digits_lt}
use lib.Dec.{eqb}
use lib.ListN.{length, get_or, take, drop, length-take}
use Rattle.lists.specs.Lists.{All}
use Rattle.lists.proofs.Lists.{all_take, all_drop}
use Rattle.questions.specs.Outcome.{Outcome, accepted, refused}
use Rattle.questions.proofs.Asked.{by-question}
use Rattle.bits.specs.Bits.{bits, AllBits}
use Rattle.bits.proofs.Laws as Bits
use Rattle.llc_rule.specs.Calls.{Call, start, tick_start, tick_end, request, frame, by_receipt, Request, Frame, from_bytes, number_at, count_at, bits_at, request_in, frame_in, filled_from, filled, Tag, tag21, tag22, tag23, tag24, tag25, tag26, tag27, tag28, unknown, tag_of, inner, parsed}

-- A number that one byte holds.
abbrev pub IsByte : ℕ → Type 0
IsByte b = b < 256

-- The number that n bytes spell is below 256 ^ n.
from-bytes-below : (l : List ℕ) → All IsByte l → from_bytes l < 256 ^ length l
unfolding from_bytes
from-bytes-below [] a = omega arith
from-bytes-below (b ∷ l) a = rw (pow-succ' 256 (length l)) (digits_lt a.0 (from-bytes-below l a.1))

number-below : (v : List ℕ) (i n : ℕ) → All IsByte v → number_at v i n < 256 ^ n
number-below v i n a =
    let l : List ℕ = take n (drop i v) in
    let short : length l ≤ n = omega (arith, length-take n (drop i v)) in
    omega (
      arith,
      from-bytes-below l (all_take IsByte n (drop i v) (all_drop IsByte i v a)),
      pow-le-pow_right {n = 256} (omega arith) {i = length l} {j = n} short,
    )

-- What bytes give of a request and of a frame; question 5 gives the rest.
pub record RequestFits (r : Request) : Type 0 where
  pub ssi : r.ssi < 2 ^ 24
  pub carrier : r.carrier < 2 ^ 16
  pub link : r.link < 2 ^ 32
  pub endpoint : r.endpoint < 2 ^ 32
  pub handle : r.handle < 2 ^ 32
  pub sdu : AllBits r.sdu

pub record FrameFits (f : Frame) : Type 0 where
  pub ssi : f.ssi < 2 ^ 24
  pub carrier : f.carrier < 2 ^ 16
  pub link : f.link < 2 ^ 32
  pub endpoint : f.endpoint < 2 ^ 32
  pub pdu : AllBits f.pdu

-- What they give of a call, and of what bytes are parsed as.
abbrev pub CallFits : Call → Type 0
CallFits (start carrier t251) = carrier < 2 ^ 16
CallFits (tick_start time) = Unit {0}
CallFits tick_end = Unit {0}
CallFits (request s r) = RequestFits r
CallFits (frame f) = FrameFits f
CallFits (by_receipt i a) = Unit {0}

abbrev pub CallFitsIn : Outcome Call → Type 0
CallFitsIn (accepted c) = CallFits c
CallFitsIn (refused n) = Unit {0}

bits-at : (v : List ℕ) (i : ℕ) → AllBits (bits_at v i)
bits-at v i =
    let b : List ℕ = drop (i + 3 + get_or v i 0) v in Bits.all_take (count_at v i) (bits b) (Bits.all-bits b)

request-fits : (v : List ℕ) → All IsByte v → RequestFits (request_in v)
unfolding request_in
request-fits v a =
    record {
      ssi = number-below v 0 3 a;
      carrier = number-below v 5 2 a;
      link = number-below v 7 4 a;
      endpoint = number-below v 11 4 a;
      handle = number-below v 15 4 a;
      sdu = bits-at v 22;
    }

frame-fits : (v : List ℕ) → All IsByte v → FrameFits (frame_in v)
unfolding frame_in
frame-fits v a =
    record {
      ssi = number-below v 0 3 a;
      carrier = number-below v 4 2 a;
      link = number-below v 6 4 a;
      endpoint = number-below v 10 4 a;
      pdu = bits-at v 14;
    }

inner-fits : (t : Tag) (v : List ℕ) → All IsByte v → CallFitsIn (inner t v)
unfolding inner
inner-fits tag21 v a = by-question CallFitsIn 2 (eqb (length v) 4) tt (λ e. number-below v 0 2 a)
inner-fits tag22 v a = by-question CallFitsIn 2 (eqb (length v) 5) tt (λ e. tt)
inner-fits tag23 v a = by-question CallFitsIn 2 (eqb (length v) 0) tt (λ e. tt)
inner-fits tag24 v a = by-question CallFitsIn 2 (filled_from v 22) tt (λ e. request-fits v a)
inner-fits tag25 v a = by-question CallFitsIn 2 (filled_from v 22) tt (λ e. request-fits v a)
inner-fits tag26 v a = by-question CallFitsIn 2 (filled_from v 14) tt (λ e. frame-fits v a)
inner-fits tag27 v a = by-question CallFitsIn 2 (eqb (length v) 2) tt (λ e. tt)
inner-fits tag28 v a = by-question CallFitsIn 2 (eqb (length v) 1) tt (λ e. tt)
inner-fits unknown v a = tt

-- The bits of a frame are bits, whatever numbers its call has.
abbrev FrameBits : Call → Type 0
FrameBits (start carrier t251) = Unit {0}
FrameBits (tick_start time) = Unit {0}
FrameBits tick_end = Unit {0}
FrameBits (request s r) = Unit {0}
FrameBits (frame f) = AllBits f.pdu
FrameBits (by_receipt i a) = Unit {0}

abbrev BitsIn : Outcome Call → Type 0
BitsIn (accepted c) = FrameBits c
BitsIn (refused n) = Unit {0}

inner-bits : (t : Tag) (v : List ℕ) → BitsIn (inner t v)
unfolding inner frame_in
inner-bits tag21 v = by-question BitsIn 2 (eqb (length v) 4) tt (λ e. tt)
inner-bits tag22 v = by-question BitsIn 2 (eqb (length v) 5) tt (λ e. tt)
inner-bits tag23 v = by-question BitsIn 2 (eqb (length v) 0) tt (λ e. tt)
inner-bits tag24 v = by-question BitsIn 2 (filled_from v 22) tt (λ e. tt)
inner-bits tag25 v = by-question BitsIn 2 (filled_from v 22) tt (λ e. tt)
inner-bits tag26 v = by-question BitsIn 2 (filled_from v 14) tt (λ e. bits-at v 14)
inner-bits tag27 v = by-question BitsIn 2 (eqb (length v) 2) tt (λ e. tt)
inner-bits tag28 v = by-question BitsIn 2 (eqb (length v) 1) tt (λ e. tt)
inner-bits unknown v = tt

pub frame-bits : (bytes : List ℕ) (f : Frame) → parsed bytes ≡ accepted (frame f) → AllBits f.pdu
unfolding parsed
frame-bits bytes f e =
    subst BitsIn e (by-question BitsIn 2 (filled bytes) tt (λ q. inner-bits (tag_of (get_or bytes 0 0)) (drop 3 bytes)))

-- The values of any call.
pub parsed-fits : (bytes : List ℕ) → All IsByte bytes → CallFitsIn (parsed bytes)
unfolding parsed
parsed-fits bytes a =
    by-question CallFitsIn 2 (filled bytes) tt (λ e. inner-fits (tag_of (get_or bytes 0 0)) (drop 3 bytes) (all_drop IsByte 3 bytes a))
