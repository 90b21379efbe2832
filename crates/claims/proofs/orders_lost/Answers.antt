use Prim.Native.Nat.{ℕ, ◌≤◌}
use mathlib.Core.Path.{◌≡◌, ◌∙◌, refl, sym, ap, subst}
use mathlib.Core.Bool.{Bool, true, false, ◌||◌}
use mathlib.Core.List.{List, [], ◌∷◌, ◌++◌, append_assoc}
use lib.IntN.{ℤ, pos}
use Rattle.lists.specs.Lists.{any}
use Rattle.lists.proofs.Lists.{any_append}
use Rattle.tx_receipt.specs.declared.TxState.TheVariants.{Lost, Acknowledged}
use Rattle.llc_rule.specs.Calls.{Request}
use Rattle.llc_rule.specs.Messages.{Place, place_at}
use Rattle.llc_rule.specs.Runs.{Exchange}
use Rattle.llc_rule.specs.Lost.{reports, sends, reads, reads_lost_or_discarded, OldEnoughBy, Reason, LeftAfterFour}
use Rattle.llc_runs.specs.Claim.{receipts_after}
use Rattle.llc_runs.specs.Runs.{Lent}
use Rattle.claims.specs.OrdersLost.{Ordered, Because, LastReport, place, OfOrder}
use Rattle.llc_runs.proofs.Claim as Claim
use Rattle.llc_runs.proofs.AppliedLost as LostLents
use Rattle.llc_rule.proofs.AppliedLost as AppliedLost
use Rattle.llc_rule.proofs.StatementsLost as StatementsLost
use Rattle.claims.proofs.orders_lost.Goals as goal

-- A difference that is not below zero is T251 or more.
at_least : (z : ℤ) (t251 n : ℕ) → OldEnoughBy z t251 → z ≡ pos n → t251 ≤ n
at_least z t251 n old is = subst (λ (x : ℤ). OldEnoughBy x t251) is old

-- A reason, taken apart.
because : (i : ℕ) (asked since : List Exchange) → Reason i asked since → Because i asked since
because i asked since r =
    let s = r.sending in
    let p = r.report in
    let t = r.noting in
    let tail = p.there ∙ ap (λ (l : List Exchange). p.before ++ (p.report ∷ l)) t.there in (
      s.before,
      (
        s.sending,
        (
          p.before,
          (
            p.report,
            (
              r.how,
              (
                t.before,
                (
                  t.ending,
                  (
                    r.behind_noting,
                    (
                      s.there ∙ ap (λ (l : List Exchange). s.before ++ (s.sending ∷ l)) tail,
                      (
                        s.hands_down,
                        (
                          p.says,
                          (
                            t.is_one,
                            (
                              ap (any (sends i)) (sym tail) ∙ s.not_again,
                              (
                                p.not_before,
                                (
                                  ap (any (reports i)) (sym t.there) ∙ p.not_again,
                                  (t.not_before, λ n is. at_least _ _ n r.old is),
                                ),
                              ),
                            ),
                          ),
                        ),
                      ),
                    ),
                  ),
                ),
              ),
            ),
          ),
        ),
      ),
    )

-- The last report on what left.
last-report : (i : ℕ) (asked later : List Exchange) (p : Place) (l : LeftAfterFour i asked later p) → LastReport i later l.reason.how
last-report i asked later p l =
    let r = l.reason in
    let s = r.sending in
    let t = r.report in
    let rest : List Exchange = l.leaving ∷ l.behind in (
      s.before ++ (s.sending ∷ t.before),
      (
        t.report,
        (
          r.behind_report ++ rest,
          (
            l.there
                ∙ ap (λ (x : List Exchange). x ++ rest) (s.there ∙ ap (λ (x : List Exchange). s.before ++ (s.sending ∷ x)) t.there)
                ∙ append_assoc s.before (s.sending ∷ (t.before ++ (t.report ∷ r.behind_report))) rest
                ∙ ap (λ (x : List Exchange). s.before ++ (s.sending ∷ x)) (append_assoc t.before (t.report ∷ r.behind_report) rest)
                ∙ sym (append_assoc s.before (s.sending ∷ t.before) (t.report ∷ (r.behind_report ++ rest))),
            (t.says, any_append (reports i) r.behind_report rest ∙ rw (t.not_again, l.last_report)),
          ),
        ),
      ),
    )

of-order :
    (store : List ℕ) (cs : List Lent) (before : List Exchange) (e : Exchange) (later : List Exchange) (r : Request)
    → Ordered store cs before e later r
    → OfOrder store cs before e later r
of-order store cs before e later r o =
    let t = (((Claim.claim).runs store).lost cs).each before e later r o.there o.order in
    record {
      four = λ h u m. (t.left h u m).four;
      ended = t.ended;
      over = t.over;
      sent =
          λ since d behind split h s.
          let k = t.sent since d behind split h s in
          (k.tick_end, k.once);
      resent =
          λ since d behind split h s again.
          because r.receipt (before ++ (e ∷ [])) since ((t.sent since d behind split h s).again again);
      told =
          λ h u m.
          let l = t.left h u m in
          (l.reason.how, (last-report r.receipt (before ++ (e ∷ [])) later (place store cs before e later r) l, (l.lost, l.discarded)));
    }

-- A receipt that reads Lost reads so of what has left.
lost-read : (p : Place) → reads Lost p ≡ true → reads Acknowledged p || reads_lost_or_discarded p ≡ true
lost-read p e = rw e (or-true (reads Acknowledged p))
  where
    or-true : (b : Bool) → b || true ≡ true
    or-true true = refl
    or-true false = refl

pub returns : goal.returns
returns c =
    record {
      of_each = of-order;
      released = λ store before c e i split. (((Claim.claim).runs store).settled before c e split).released i;
      stays = λ store before c e i split h u m. (((Claim.claim).runs store).settled before c e split).stays i h u (lost-read (place_at (receipts_after store before) i) m);
      reads-lost = LostLents.reads-lost;
      lost-lents = LostLents.lost-lents;
      stands-lost = AppliedLost.stands-lost;
      wraps-lost = AppliedLost.wraps-lost;
      wraps-discarded = AppliedLost.wraps-discarded;
      jumps-lost = AppliedLost.jumps-lost;
      jumps-discarded = AppliedLost.jumps-discarded;
      stands-marks = AppliedLost.stands-marks;
      wraps-marks = AppliedLost.wraps-marks;
      jumps-marks = AppliedLost.jumps-marks;
      early-refused = StatementsLost.early-refused;
      at-the-report-refused = StatementsLost.at-the-report-refused;
      old-report-refused = StatementsLost.old-report-refused;
      unreported-refused = StatementsLost.unreported-refused;
      twice-refused = StatementsLost.twice-refused;
      by-a-report-refused = StatementsLost.by-a-report-refused;
      five-refused = StatementsLost.five-refused;
      three-refused = StatementsLost.three-refused;
      vanished-refused = StatementsLost.vanished-refused;
      held-lost-refused = StatementsLost.held-lost-refused;
      lost-though-discarded-refused = StatementsLost.lost-though-discarded-refused;
    }
