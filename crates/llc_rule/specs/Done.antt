-- What a call that was accepted leaves, and the records that it gives.
use Rattle.std.specs.Prelude.{List}
use Rattle.llc_rule.specs.Records.{Record}

pub record Done (S : Type 0) : Type 0 where
  pub state : S
  pub records : List Record

abbrev pub done : {S : Type 0} → S → List Record → Done S
done s rs = record { state = s; records = rs }
