use Rattle.std.proofs.Common.{◌∙◌, ◌∷◌, [], ℕ, sym, ap, arith}
use Rattle.lists.proofs.Writes.{same_bytes, wrote_none, wrote_one}
use Rattle.bits.specs.Parts.{bits_of}
use Rattle.bits.proofs.PartLaws.{length-bits_of, all-bits_of}
use Rattle.llc_records.proofs.Parts.{pack-none, pack-few, last-exact, last_fits}
use Rattle.llc_records.proofs.fields.put_last.Goals as goal

pub returns-then-bits-eq0 : goal.returns-then-bits-eq0
returns-then-bits-eq0 c = same_bytes (pack-none (bits_of c.args.bits) (length-bits_of c.args.bits ∙ omega arith)) (wrote_none c.args.out.now c.args.at)

pub overflow_cast-out : goal.overflow_cast-out
overflow_cast-out c =
    let p = c.args.bits in
    record { fits = last_fits (bits_of p) p.len c.get.result (all-bits_of p) (length-bits_of p) (omega arith) c.get.ensures }

pub returns : goal.returns
returns c =
    let p = c.args.bits in
    same_bytes
    (ap (λ (v : ℕ). v ∷ []) (last-exact (bits_of p) p.len c.get.result (all-bits_of p) (length-bits_of p) (omega arith) c.get.ensures)
    ∙ sym (pack-few (bits_of p) p.len (length-bits_of p) (omega arith) (omega arith)))
    (wrote_one c.args.out.now c.args.at _)
