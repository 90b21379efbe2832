-- The marks that receipts are left with, which no record shows.
use mathlib.Core.Path.{◌≡◌, refl}
use mathlib.Core.Bool.{Bool, true, false, ◌&&◌, beq}
use mathlib.Core.List.{List, [], ◌∷◌}
use lib.ListN.{replicate}
use Rattle.tx_receipt.specs.States.{is}
use Rattle.tx_receipt.specs.declared.TxState.{TxState}
use Rattle.tx_receipt.specs.declared.TxState.TheVariants.{Pending, Discarded, Transmitted, Lost, Acknowledged}
use Rattle.llc_rule.specs.Messages.{Place, free, taken}
use Rattle.llc_rule.specs.Link.{new}
use Rattle.llc_rule.proofs.Runs.{Told, hex, ◌gets◌, ◌and◌, agrees, link_after}

-- Receipt 0 is acknowledged; 1 and 2 leave after three resends, Transmitted and Discarded; 8 and 9 are under way, 3 waits
-- behind 8; 4 to 7 are unacknowledged, and 7 is released.
pub marks : List Told
marks =
    hex 7 0x21000405fa0001 gets 0
    ∷ hex 28 0x2400190003e901000000000000000000000000000000000000000000 gets 0
    ∷ hex 28 0x2400190003ea01000000000000000000000000000000000001000000 gets 0
    ∷ hex 28 0x2400190003eb01000000000000000000000000000000000002000000 gets 0
    ∷ hex 3 0x230000 gets 0
    and hex 57 0x010001010200030003e90300010104000205fa050004000000000600040000000007000400000000080001000a0001000b00000c0003000510
    and hex 57 0x010001010200030003ea0300010104000205fa050004000000000600040000000007000400000000080001000a0001010b00000c0003000510
    and hex 57 0x010001010200030003eb0300010104000205fa050004000000000600040000000007000400000000080001000a0001020b00000c0003000510
    ∷ hex 5 0x2700020001 gets 0
    ∷ hex 5 0x2700020101 gets 0
    ∷ hex 5 0x2700020202 gets 0
    ∷ hex 3 0x230000 gets 0
    ∷ hex 21 0x2600120003e90105fa000000000000000000000530 gets 0
    ∷ hex 8 0x2200050000010102 gets 0
    ∷ hex 3 0x230000 gets 0
    and hex 57 0x010001010200030003ea0300010104000205fa050004000000000600040000000007000400000000080001000a0001010b00000c0003000510
    and hex 57 0x010001010200030003eb0300010104000205fa050004000000000600040000000007000400000000080001000a0001020b00000c0003000510
    ∷ hex 5 0x2700020101 gets 0
    ∷ hex 5 0x2700020202 gets 0
    ∷ hex 3 0x230000 gets 0
    ∷ hex 8 0x2200050000010103 gets 0
    ∷ hex 3 0x230000 gets 0
    and hex 57 0x010001010200030003ea0300010104000205fa050004000000000600040000000007000400000000080001000a0001010b00000c0003000510
    and hex 57 0x010001010200030003eb0300010104000205fa050004000000000600040000000007000400000000080001000a0001020b00000c0003000510
    ∷ hex 5 0x2700020101 gets 0
    ∷ hex 5 0x2700020202 gets 0
    ∷ hex 3 0x230000 gets 0
    ∷ hex 8 0x2200050000010104 gets 0
    ∷ hex 3 0x230000 gets 0
    and hex 57 0x010001010200030003ea0300010104000205fa050004000000000600040000000007000400000000080001000a0001010b00000c0003000510
    and hex 57 0x010001010200030003eb0300010104000205fa050004000000000600040000000007000400000000080001000a0001020b00000c0003000510
    ∷ hex 5 0x2700020101 gets 0
    ∷ hex 5 0x2700020202 gets 0
    ∷ hex 3 0x230000 gets 0
    ∷ hex 8 0x2200050000010201 gets 0
    ∷ hex 3 0x230000 gets 0
    ∷ hex 28 0x2400190003ec01000000000000000000000000000000000008000000 gets 0
    ∷ hex 28 0x2400190003ec01000000000000000000000000000000000003000000 gets 0
    ∷ hex 28 0x2400190003ed01000000000000000000000000000000000009000000 gets 0
    ∷ hex 28 0x2500190003e901000000000000000000000000000000000004000000 gets 0
    ∷ hex 28 0x2500190003e901000000000000000000000000000000000005000000 gets 0
    ∷ hex 28 0x2500190003e901000000000000000000000000000000000006000000 gets 0
    ∷ hex 28 0x2500190003e901000000000000000000000000000000000007000000 gets 0
    ∷ hex 3 0x230000 gets 0
    and hex 57 0x010001010200030003ec0300010104000205fa050004000000000600040000000007000400000000080001000a0001080b00000c0003000510
    and hex 57 0x010001010200030003ed0300010104000205fa050004000000000600040000000007000400000000080001000a0001090b00000c0003000510
    and hex 57 0x010001030200030003e90300010104000205fa050004000000000600040000000007000400000000080001000a0001040b00000c0003000420
    and hex 57 0x010001030200030003e90300010104000205fa050004000000000600040000000007000400000000080001000a0001050b00000c0003000420
    and hex 57 0x010001030200030003e90300010104000205fa050004000000000600040000000007000400000000080001000a0001060b00000c0003000420
    and hex 57 0x010001030200030003e90300010104000205fa050004000000000600040000000007000400000000080001000a0001070b00000c0003000420
    ∷ hex 5 0x2700020801 gets 0
    ∷ hex 5 0x2700020902 gets 0
    ∷ hex 5 0x2700020401 gets 0
    ∷ hex 5 0x2700020502 gets 0
    ∷ hex 5 0x2700020701 gets 0
    ∷ hex 4 0x28000107 gets 0
    ∷ []

pub marks-agrees : agrees new marks ≡ true
unfolding agrees marks
marks-agrees = refl

-- A receipt that is taken, of an acknowledged message and of an unacknowledged one.
abbrev pub expecting : TxState → Place
expecting s = taken (record { expects_ack = true; state = s })

abbrev pub expecting_none : TxState → Place
expecting_none s = taken (record { expects_ack = false; state = s })

-- The receipts after the run.
pub places : List Place
places =
    expecting Acknowledged
    ∷ expecting Lost
    ∷ expecting Discarded
    ∷ expecting Pending
    ∷ expecting_none Transmitted
    ∷ expecting_none Discarded
    ∷ expecting_none Pending
    ∷ free
    ∷ expecting Transmitted
    ∷ expecting Discarded
    ∷ replicate 118 free

-- Are two lists of receipts the same?
unfoldable pub same_place : Place → Place → Bool
same_place free free = true
same_place free (taken r) = false
same_place (taken q) free = false
same_place (taken q) (taken r) = is q.state r && beq q.expects_ack r.expects_ack

unfoldable pub same_places : List Place → List Place → Bool
same_places [] [] = true
same_places [] (y ∷ ys) = false
same_places (x ∷ xs) [] = false
same_places (x ∷ xs) (y ∷ ys) = same_place x y && same_places xs ys

pub marks-left : same_places places (link_after new marks).receipts ≡ true
unfolding link_after marks places same_place same_places
marks-left = refl
