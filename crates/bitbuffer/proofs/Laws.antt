-- Writes that stay before the end, for callers: they are accepted, and put their bits in place.
use Prim.Native.Nat.{ℕ, ◌+◌, ◌-◌, ◌^◌, ◌≤◌, ◌<◌}
use native.Mathlib.Omega.{arith}
use mathlib.Core.Path.{◌≡◌, ◌∙◌, ap}
use mathlib.Core.Bool.{true}
use mathlib.Core.List.{List}
use borrow.Author.Tests.{le-leb, lt-ltb}
use lib.ListN.{length}
use Rattle.bits.specs.Bits.{to_bits, part, splice}
use Rattle.bitbuffer.specs.Window.{valid}
use Rattle.bitbuffer.specs.Writes.{widths, after_all, written, copied}
use Rattle.bitbuffer.specs.declared.BitBuffer.{BitBuffer}
use Rattle.bitbuffer.proofs.Bounds.{Ordered}
use Rattle.bitbuffer.proofs.Widths.{end_after_all, after_all-is}

-- A window in order, inside the lent bits.
pub is-valid : {w : BitBuffer} {l : List ℕ} → Ordered w l → valid w l ≡ true
unfolding valid
is-valid {w} {l} o =
    rw (le-leb w.start w.pos o.low, le-leb w.pos w.end o.high, le-leb w.end (length l) o.inside)

pub written-inside :
    (w : BitBuffer) (l : List ℕ) (v n : ℕ)
    → Ordered w l
    → n ≤ 64
    → v < 2 ^ n
    → w.pos + n ≤ w.end
    → (written w l v n).bits ≡ splice l w.pos (to_bits n v)
written-inside w l v n o few fits inside =
    rw (
      is-valid o,
      le-leb n 64 few,
      lt-ltb v (2 ^ n) fits,
      le-leb (w.pos + n) w.end inside,
      le-leb w.end w.end (omega arith),
    )

-- A long write that stays before the end leaves it where it was.
end_stays : (w : BitBuffer) (n : ℕ) → w.pos + n ≤ w.end → (after_all w (widths n)).end ≡ w.end
unfolding end_after_all
end_stays w n inside =
    ap (λ (v : BitBuffer). v.end) (after_all-is w n (omega arith)) ∙ rw (le-leb n (w.end - w.pos) (omega arith))

pub copied-inside :
    (w : BitBuffer) (l : List ℕ) (v : BitBuffer) (s : List ℕ) (n : ℕ)
    → Ordered w l
    → Ordered v s
    → w.pos + n ≤ w.end
    → v.pos + n ≤ v.end
    → (copied w l v s n).bits ≡ splice l w.pos (part s v.pos n)
copied-inside w l v s n o p inside left =
    rw (
      is-valid o,
      is-valid p,
      le-leb (v.pos + n) v.end left,
      end_stays w n inside,
      le-leb w.end w.end (omega arith),
    )
