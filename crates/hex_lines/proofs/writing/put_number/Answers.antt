use Rattle.std.proofs.Common.{arith, ◌≡◌, ◌/◌, ◌%◌}
use Rattle.lists.proofs.Writes.{◌⨾◌, wrote_none}
use Rattle.hex_lines.proofs.Writes.{one-digit, two_digits, three-digits, placed}
use Rattle.hex_lines.proofs.writing.put_number.Goals as goal
use Rattle.hex_lines.proofs.writing.put_number.Goals.{then-n-ge100, else-n-ge100, then-n-ge10, else-n-ge10}

pub returns : goal.returns
returns c =
    let n = c.args.n in
    let last = c.put-p-2.ensures ⨾ c.put.ensures in
    elim c.if-n-ge100.branch [
      | then-n-ge100 w ↦ elim c.if-n-ge10.branch [
        | then-n-ge10 v ↦
            rw (three-digits n (omega arith) (omega arith))
            (placed w.out-is w.p-is w.put-p.ensures ⨾ placed v.out-is v.p-is v.put-p-then-n-ge10.ensures ⨾ last)
        | else-n-ge10 v ↦ absurd (omega arith)
      ]
      | else-n-ge100 w ↦ elim c.if-n-ge10.branch [
        | then-n-ge10 v ↦
            let tens : n / 10 % 10 ≡ n / 10 = omega arith in
            rw (two_digits n (omega arith) (omega arith), ← tens)
            (placed w.out-is w.p-is (wrote_none _ _) ⨾ placed v.out-is v.p-is v.put-p-then-n-ge10.ensures ⨾ last)
        | else-n-ge10 v ↦
            let ones : n % 10 ≡ n = omega arith in
            rw (one-digit n (omega arith), ← ones)
            (placed w.out-is w.p-is (wrote_none _ _) ⨾ placed v.out-is v.p-is (wrote_none _ _) ⨾ last)
      ]
    ]
