-- A receipt is released only if no message with it is held, and what it reads once its message has left stays until its holding ends.
use Prim.Native.Nat.{ℕ}
use native.Mathlib.Omega.{arith}
use mathlib.Core.Path.{◌≡◌, ◌∙◌, refl, sym, ap, subst}
use mathlib.Core.Bool.{Bool, true, false, ◌||◌, true≢false, false≢true}
use mathlib.Core.List.{List, [], ◌∷◌, ◌++◌}
use mathlib.Core.Option.{Option, none, some, some-injective, none-ne-some}
use borrow.Author.Clash.{clash}
use borrow.Author.Tests.{eqb-true, not-true}
use lib.Dec.{eqb}
use lib.ListN.{set}
use Rattle.std.proofs.lemmas.Bool.{cond_both, and_parts, or_parts, cond-false}
use Rattle.lists.specs.Lists.{any, Found, nothing, first}
use Rattle.lists.proofs.Lists.{any_append, append-cancel, FoundBy, find-by}
use Rattle.questions.specs.Outcome.{accepted, refused}
use Rattle.tx_receipt.specs.States.{is, final}
use Rattle.tx_receipt.specs.Marks as Marks
use Rattle.tx_receipt.specs.declared.TxReceipt.{TxReceipt}
use Rattle.tx_receipt.specs.declared.TxState.{TxState}
use Rattle.tx_receipt.specs.declared.TxState.TheVariants.{Pending, Discarded, Transmitted, Lost, Acknowledged}
use Rattle.llc_pdus.specs.Headers.{ns_of, nr_of}
use Rattle.llc_rule.specs.Calls.{Request, Frame}
use Rattle.llc_rule.specs.Ranges.{request_in_range}
use Rattle.llc_rule.specs.Messages.{Message, Place, free, taken, place_at, is_free, pending, taken?, mark, mark_of}
use Rattle.llc_rule.specs.Link.{Link, new}
use Rattle.llc_rule.specs.Step.{receipt_free, with_acknowledged, with_unacknowledged, numbered, awaiting, fits, answered_by, answered, held, reportable, step}
use Rattle.llc_rule.specs.Runs.{left, Exchange, exchange, run, after}
use Rattle.llc_rule.specs.Past.{Holding, empties, takes, frees, stays, about_call, Holders, done_to, holders_after}
use Rattle.llc_rule.specs.Sound.{Sound}
use Rattle.llc_rule.specs.Sendings.{ends}
use Rattle.llc_rule.specs.Lost.{reads, reads_lost_or_discarded, is_held, StaysSettled}
use Rattle.llc_rule.proofs.Places.{turned, place_set, place_other, place-mark}
use Rattle.llc_rule.proofs.Paths.{Paths, step-law}
use Rattle.llc_rule.proofs.SoundLists.{other_place}
use Rattle.llc_rule.proofs.SoundRequests.{receipt-within}
use Rattle.llc_rule.proofs.SoundCalls.{done-accepted, done_refused, sound-run}
use Rattle.llc_rule.proofs.Follows.{none-mine}
use Rattle.llc_rule.proofs.FollowsTickEnd.{tick-none}

-- What a receipt reads of a message that has left.
abbrev settled : Place → Bool
settled p = reads Acknowledged p || reads_lost_or_discarded p

settled-taken : (p : Place) → settled p ≡ true → is_free p ≡ false
settled-taken free e = absurd (false≢true e)
settled-taken (taken r) e = refl

settled-state : (r : TxReceipt) (s : TxState) → r.state ≡ s → settled (taken r) ≡ true → is Pending r ≡ false
settled-state r Pending q e = clash _ e (rw q)
settled-state r Discarded q e = rw q
settled-state r Transmitted q e = rw q
settled-state r Lost q e = rw q
settled-state r Acknowledged q e = rw q

settled-reported : (p : Place) → settled p ≡ true → taken? (is Pending) p ≡ false
settled-reported free e = refl
settled-reported (taken r) e = settled-state r r.state refl e

-- What frees a receipt.
abbrev freed : Holding → Option ℕ
freed empties = none
freed (takes r) = none
freed (frees i) = some i
freed stays = none

-- A call, by what it does to holding and the link after it.
record Settles (l : Link) (x : Holding) (n : Link) : Type 0 where
  released : (i : ℕ) → freed x ≡ some i → is_held i l.acknowledged ≡ false
  stays :
      (i : ℕ)
      → ends i x ≡ false
      → is_held i l.acknowledged ≡ false
      → settled (place_at l.receipts i) ≡ true
      → place_at n.receipts i ≡ place_at l.receipts i

module _ (h : Holders) (l : Link) (sound : Sound h l) where
  -- A request takes a free receipt, and that is another.
  request-settles :
      (r : Request) (p : Place) (n : Link)
      → request_in_range r ≡ true
      → receipt_free r l ≡ true
      → n.receipts ≡ set l.receipts r.receipt p
      → Settles l (takes r) n
  request-settles r p n range f is =
      record {
        released = λ i e. absurd (none-ne-some i e);
        stays =
            λ i e unheld s.
            ap (λ (ps : List Place). place_at ps i) is
            ∙ place_set l.receipts r.receipt i p (omega (arith, sound.limits.receipts, receipt-within r range))
            ∙ cond-false _ p (place_at l.receipts i)
            (other_place l.receipts r.receipt i f (settled-taken (place_at l.receipts i) s));
      }

  -- A frame marks the receipt of a message that is held.
  answered-by-settles :
      (i : ℕ) (k : Link) (p : Message → Bool) (nr : Bool) (g : Found Message)
      → FoundBy p k.acknowledged g
      → is_held i k.acknowledged ≡ false
      → place_at (answered_by nr g k).receipts i ≡ place_at k.receipts i
  unfolding answered_by any
  answered-by-settles i k p nr nothing z unheld = refl
  answered-by-settles i k p nr (first m ms) z unheld =
      let there = sym (any_append (λ (n : Message). eqb n.sent.receipt i) z.front (m ∷ z.back)) ∙ subst (λ (x : List Message). is_held i x ≡ false) z.whole unheld in
      let other = (or_parts (eqb m.sent.receipt i) _ (or_parts (is_held i z.front) _ there).1).0 in
      cond_both (fits nr m) _ _ (λ (n : Link). place_at n.receipts i ≡ place_at k.receipts i)
      (λ f. place-mark Marks.acknowledged k.receipts m.sent.receipt i ∙ cond-false _ _ _ (turned m.sent.receipt i false other))
      (λ f. refl)

  answered-settles :
      (i : ℕ) (f : Frame) (x o : Option Bool)
      → is_held i l.acknowledged ≡ false
      → place_at (answered f o (numbered f x l)).receipts i ≡ place_at l.receipts i
  unfolding awaiting
  answered-settles i f none none unheld = refl
  answered-settles i f none (some nr) unheld = answered-by-settles i l _ nr (awaiting f l) (find-by _ l.acknowledged) unheld
  answered-settles i f (some ns) none unheld = refl
  answered-settles i f (some ns) (some nr) unheld =
      answered-by-settles i (numbered f (some ns) l) _ nr (awaiting f (numbered f (some ns) l)) (find-by _ l.acknowledged) unheld

  reported-settles : (j how i : ℕ) → reportable j l ≡ true → settled (place_at l.receipts i) ≡ true → place_at (mark (mark_of how) j l.receipts) i ≡ place_at l.receipts i
  reported-settles j how i may s =
      place-mark (mark_of how) l.receipts j i
      ∙ cond_both (eqb i j) _ _ (λ (p : Place). p ≡ place_at l.receipts i)
      (λ e.
      clash _ (and_parts (taken? (is Pending) (place_at l.receipts j)) _ may).0
      (ap (λ (n : ℕ). taken? (is Pending) (place_at l.receipts n)) (sym (eqb-true i j e)) ∙ settled-reported (place_at l.receipts i) s))
      (λ e. refl)

  settles-paths : Paths l (λ c n rs. Settles l (about_call c).to_holding n)
  unfolding with_acknowledged with_unacknowledged held
  settles-paths =
      record {
        start =
            λ carrier t251.
            record { released = λ i e. absurd (none-ne-some i e); stays = λ i e u s. absurd (true≢false e) };
        tick_start = λ time. record { released = λ i e. absurd (none-ne-some i e); stays = λ i e u s. refl };
        tick_end =
            record {
              released = λ i e. absurd (none-ne-some i e);
              stays = λ i e u s. (tick-none i l (none-mine i l.acknowledged u)).place;
            };
        acknowledged = λ r q. request-settles r (pending true) (with_acknowledged r l) q.range q.free refl;
        unacknowledged = λ v r link p used q. request-settles r (pending false) (with_unacknowledged r link p _ l) q.range q.free refl;
        heard =
            λ f r q.
            record {
              released = λ i e. absurd (none-ne-some i e);
              stays = λ i e u s. answered-settles i f (ns_of r.header) (nr_of r.header) u;
            };
        reported =
            λ j how q.
            record {
              released = λ i e. absurd (none-ne-some i e);
              stays = λ i e u s. reported-settles j how i q.may s;
            };
        released =
            λ j q.
            let unheld = not-true (held j l) (and_parts (taken? final (place_at l.receipts j)) _ q.may).1 in
            record {
              released =
                  λ i e.
                  subst (λ (n : ℕ). is_held n l.acknowledged ≡ false) (some-injective j i e)
                  (or_parts (is_held j l.acknowledged) _ unheld).0;
              stays = λ i e u s. place_other l.receipts j i free (turned j i false e);
            };
      }

  settled-by : (e : Exchange) (n : Link) → Settles l (done_to e) n → StaysSettled e l.receipts l.acknowledged n.receipts
  settled-by e n s = record { released = λ i d. s.released i (ap freed d); stays = s.stays }

  -- One call.
  pub settled-step : (c : List ℕ) → StaysSettled (exchange c (step l c)) l.receipts l.acknowledged (left l (step l c)).receipts
  settled-step c =
      step-law l _ settles-paths c (λ o. StaysSettled (exchange c o) l.receipts l.acknowledged (left l o).receipts)
      (λ n k.
      settled-by (exchange {S = Link} c (refused n)) l
      (subst (λ (x : Holding). Settles l x l) (sym (done_refused c n [] k))
      (record { released = λ i e. absurd (none-ne-some i e); stays = λ i e u s. refl })))
      (λ d o e s.
      settled-by (exchange c (accepted o)) o.state (subst (λ (x : Holding). Settles l x o.state) (sym (done-accepted c d o.records e)) s))

-- Runs ---------------------------------------------------------------------------------------------------------------------------

after_last : (l : Link) (cs : List (List ℕ)) (c : List ℕ) → after l (cs ++ (c ∷ [])) ≡ left (after l cs) (step (after l cs) c)
unfolding after
after_last l [] c = refl
after_last l (b ∷ cs) c = after_last (left l (step l b)) cs c

run-last : (l : Link) (cs : List (List ℕ)) (c : List ℕ) → run l (cs ++ (c ∷ [])) ≡ run l cs ++ (exchange c (step (after l cs) c) ∷ [])
unfolding run after
run-last l [] c = refl
run-last l (b ∷ cs) c = ap (λ (es : List Exchange). exchange b (step l b) ∷ es) (run-last (left l (step l b)) cs c)

-- The last of two lists that are the same.
pub same-last : (es : List Exchange) (d e : Exchange) → es ++ (d ∷ []) ≡ es ++ (e ∷ []) → d ≡ e
same-last es d e q = let one = (append-cancel es es (d ∷ []) (e ∷ []) refl q).1 in cc

pub settled-run :
    (before : List (List ℕ)) (c : List ℕ) (e : Exchange)
    → run new (before ++ (c ∷ [])) ≡ run new before ++ (e ∷ [])
    → StaysSettled e (after new before).receipts (after new before).acknowledged (after new (before ++ (c ∷ []))).receipts
settled-run before c e is =
    subst (λ (n : Link). StaysSettled e (after new before).receipts (after new before).acknowledged n.receipts) (sym (after_last new before c))
    (subst (λ (d : Exchange). StaysSettled d (after new before).receipts (after new before).acknowledged (left (after new before) (step (after new before) c)).receipts)
    (same-last (run new before) (exchange c (step (after new before) c)) e (sym (run-last new before c) ∙ is))
    (settled-step (holders_after (run new before)) (after new before) (sound-run before) c))
