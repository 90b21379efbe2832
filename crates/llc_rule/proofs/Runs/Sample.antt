-- Document 01's sample run, with the lines that it prints.
use mathlib.Core.Path.{◌≡◌, refl}
use mathlib.Core.Bool.{true}
use mathlib.Core.List.{List, [], ◌∷◌}
use Rattle.llc_rule.specs.Link.{new}
use Rattle.llc_rule.proofs.Runs.{Told, hex, ◌gets◌, ◌and◌, agrees}

-- A frame with N(S) 1 in slot 3 goes up without an SDU, and is acknowledged for slot 1, which does not steal.
pub sample : List Told
sample =
    hex 7 0x21000405fa0004 gets 0
    ∷ hex 8 0x2200050000010103 gets 0
    ∷ hex 21 0x2600120003e90105fa000000000000000000000518 gets 0
    and hex 35 0x010001040200030003e90300010105000400000000060004000000000b00000d000100
    ∷ hex 3 0x230000 gets 0
    and hex 50 0x010001020200030003e90300010104000205fa050004000000000600040000000007000400000000080001000c0003000538
    ∷ []

pub sample-agrees : agrees new sample ≡ true
unfolding agrees sample
sample-agrees = refl
