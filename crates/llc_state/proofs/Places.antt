-- Receipts marked, taken and freed in a state are so in the link that lies in it.
use Prim.Native.Nat.{ℕ}
use mathlib.Core.Path.{◌≡◌, ◌∙◌, refl, sym, ap}
use mathlib.Core.Bool.{Bool, true, false, ◌&&◌}
use mathlib.Core.List.{List, map}
use lib.ListN.{set, get_or-map}
use lib.Seq.{map-set}
use Rattle.tx_receipt.specs.Marks as Marks
use Rattle.tx_receipt.specs.Marks.{Mark}
use Rattle.tx_receipt.specs.declared.TxReceipt.{TxReceipt}
use Rattle.tx_receipt.proofs.Laws.{numbered-number}
use Rattle.llc_rule.specs.Messages.{free, taken, pending, taken?, marked, mark, place_at}
use Rattle.llc_rule.specs.Keeps.{with_receipts}
use Rattle.llc_state.specs.Receipts.{receipt_of, with_places, taken_by, marked_place, pending_place, place_of, mark as mark_places, mark_receipt, take_receipt, free_receipt}
use Rattle.llc_state.specs.States.{no_receipt}
use Rattle.llc_state.specs.View.{place_in, link_in}
use Rattle.llc_state.specs.declared.ReceiptPlace.{ReceiptPlace}
use Rattle.llc_state.specs.declared.State.{State}

-- A marked place as the link has it.
taken-in-link : (r : TxReceipt) → place_in (taken_by r) ≡ taken r
unfolding place_in
taken-in-link r = rw (numbered-number r.state)

marked_by :
    (k : Mark) (b : Bool) (p : ReceiptPlace)
    → p.taken ≡ b
    → place_in (marked_place k p) ≡ marked k (place_in p)
unfolding place_in
marked_by k true p e = rw e (taken-in-link (Marks.marked k (receipt_of p)).receipt)
marked_by k false p e = rw e

marked-in : (k : Mark) (p : ReceiptPlace) → place_in (marked_place k p) ≡ marked k (place_in p)
marked-in k p = marked_by k p.taken p refl

-- The place with a number, the places with one marked, and what a test says of a receipt that is taken.
pub place-in : (ps : List ReceiptPlace) (i : ℕ) → place_at (map place_in ps) i ≡ place_in (place_of ps i)
unfolding place_in
place-in ps i = get_or-map place_in ps i no_receipt

pub mark-in : (k : Mark) (i : ℕ) (ps : List ReceiptPlace) → map place_in (mark_places k i ps) ≡ mark k i (map place_in ps)
mark-in k i ps =
    map-set place_in ps i (marked_place k (place_of ps i))
    ∙ ap (set (map place_in ps) i) (marked-in k (place_of ps i) ∙ ap (marked k) (sym (place-in ps i)))

taken-by :
    (t : TxReceipt → Bool) (b : Bool) (p : ReceiptPlace)
    → p.taken ≡ b
    → taken? t (place_in p) ≡ p.taken && t (receipt_of p)
unfolding place_in
taken-by t true p e = rw e
taken-by t false p e = rw e

pub taken_in :
    (t : TxReceipt → Bool) (ps : List ReceiptPlace) (i : ℕ)
    → (place_of ps i).taken && t (receipt_of (place_of ps i)) ≡ taken? t (place_at (map place_in ps) i)
taken_in t ps i = sym (ap (taken? t) (place-in ps i) ∙ taken-by t (place_of ps i).taken (place_of ps i) refl)

-- The link with one place written.
set-in :
    (s : State) (store : List ℕ) (i : ℕ) (p : ReceiptPlace)
    → link_in (with_places s (set s.receipts i p)) store
    ≡ with_receipts (link_in s store) (set (link_in s store).receipts i (place_in p))
unfolding link_in
set-in s store i p = rw (map-set place_in s.receipts i p)

pub mark-receipt-in :
    (s : State) (store : List ℕ) (i : ℕ) (k : Mark)
    → link_in (mark_receipt s i k) store ≡ with_receipts (link_in s store) (mark k i (link_in s store).receipts)
unfolding link_in
mark-receipt-in s store i k = rw (mark-in k i s.receipts)

pub take-receipt-in :
    (s : State) (store : List ℕ) (i : ℕ) (expects : Bool)
    → link_in (take_receipt s i expects) store
    ≡ with_receipts (link_in s store) (set (link_in s store).receipts i (pending expects))
unfolding place_in
take-receipt-in s store i expects = set-in s store i (pending_place expects)

pub free-receipt-in :
    (s : State) (store : List ℕ) (i : ℕ)
    → link_in (free_receipt s i) store ≡ with_receipts (link_in s store) (set (link_in s store).receipts i free)
unfolding place_in
free-receipt-in s store i = set-in s store i no_receipt
