use Rattle.std.proofs.Common.{ap, ◌-◌, ◌∙◌, take, drop, ℕ, List}
use Rattle.lists.proofs.Writes.{same_bytes}
use Rattle.llc_records.proofs.Parts.{lowest}
use Rattle.llc_records.proofs.fields.put_lowest.Goals as goal

pub returns : goal.returns
returns c =
    let k : ℕ = 4 - c.args.n in
    same_bytes (ap (λ (l : List ℕ). take (4 - k) (drop k l)) c.to_be_bytes.ensures ∙ lowest c.args.n c.args.v c.requires.n_bound) c.put_bytes.ensures
