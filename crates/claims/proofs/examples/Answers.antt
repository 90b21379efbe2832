use Rattle.examples.proofs.Examples as Examples
use Rattle.claims.proofs.examples.Goals as goal

pub returns : goal.returns
returns c =
    record {
      examples = Examples.examples;
      all-rows = Examples.all-rows;
    }
