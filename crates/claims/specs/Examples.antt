-- Document 01's examples (examples).
use Rattle.std.specs.Prelude.{◌≡◌, true, eqb, length}
use Rattle.examples.specs.Table.{right, table}

pub record Examples : Type 0 where
  pub examples : right table ≡ true
  pub all-rows : eqb (length table) 15 ≡ true
