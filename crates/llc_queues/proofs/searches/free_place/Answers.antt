use Prim.Native.Nat.{◌<◌, ◌≤◌}
use native.Mathlib.Omega.{arith}
use mathlib.Core.Path.{ap, subst, refl, ◌∙◌}
use mathlib.Core.Bool.{not, false, true}
use lib.ListN.{set, replicate, take, length-set}
use lib.Seq.{take_all}
use Rattle.std.proofs.Common.{rules, tests, ◌≡◌, ◌++◌, length}
use Rattle.std.proofs.Common.{position as found_at}
use Rattle.std.proofs.lemmas.List.{length_push}
use Rattle.std.proofs.lemmas.Iterator.{YieldsList-from_slice}
use Rattle.std.proofs.lemmas.Iterator.Consumers.{YieldsList-from_chain, YieldsList-turn, YieldsList-end}
use Rattle.std.proofs.lemmas.Iterator.Search.{position_from_yields_List}
use Rattle.llc_rule.specs.Limits.{store_places}
use Rattle.llc_steps.specs.States.{messages_of, udata_of}
use Rattle.llc_queues.specs.Queues.{places_of, Marks}
use Rattle.llc_queues.proofs.Marking.{first-free, marks-none, marks-it, marks-not}
use Rattle.llc_queues.proofs.searches.free_place.Goals as goal

pub loop-e-init : goal.loop-e-init
loop-e-init c = (omega arith, marks-none (replicate store_places false))

pub loop-e-preserved-then-e-lt-STORE_PLACES : goal.loop-e-preserved-then-e-lt-STORE_PLACES
loop-e-preserved-then-e-lt-STORE_PLACES c =
    let t = YieldsList-turn (YieldsList-from_chain (YieldsList-from_slice c.messages.result.now (cc)) (YieldsList-from_slice c.udata.result.now (cc)) (cc) (cc)) c.loop-e.yielded _ c.loop-e.yielded_by _ _ c.in-Some.e c.in-Some.is c.next.ensures.steps in
    let u = rw (c.messages.ensures.part, c.udata.ensures) at t in
    let used = c.loop-e.used in
    let m = c.loop-e.invariant in
    rw (length_push c.loop-e.yielded c.in-Some.e) (
      length-set used c.in-Some.e.now.frame.place true ∙ m.0,
      marks-it (replicate store_places false) used (messages_of c.args.state.now ++ udata_of c.args.state.now) (length c.loop-e.yielded) c.in-Some.e.now u.0 m.1 m.0
          (subst (λ x. x.frame.place < store_places) u.1 c.if-e-lt-STORE_PLACES.true)
          (ap (λ x. set used x.frame.place true) u.1),
    )

pub loop-e-preserved : goal.loop-e-preserved
loop-e-preserved c =
    let t = YieldsList-turn (YieldsList-from_chain (YieldsList-from_slice c.messages.result.now (cc)) (YieldsList-from_slice c.udata.result.now (cc)) (cc) (cc)) c.loop-e.yielded _ c.loop-e.yielded_by _ _ c.in-Some.e c.in-Some.is c.next.ensures.steps in
    let u = rw (c.messages.ensures.part, c.udata.ensures) at t in
    let used = c.loop-e.used in
    let m = c.loop-e.invariant in
    rw (length_push c.loop-e.yielded c.in-Some.e) (
      m.0,
      marks-not (replicate store_places false) used (messages_of c.args.state.now ++ udata_of c.args.state.now) (length c.loop-e.yielded) c.in-Some.e.now u.0 m.1
          (subst (λ x. store_places ≤ x.frame.place) u.1 c.if-e-lt-STORE_PLACES.false)
          refl,
    )

pub returns : goal.returns
returns c =
    let t = YieldsList-end (YieldsList-from_chain (YieldsList-from_slice c.messages.result.now (cc)) (YieldsList-from_slice c.udata.result.now (cc)) (cc) (cc)) c.loop-e.yielded _ c.loop-e.yielded_by _ _ c.in-None.is c.next.ensures.steps in
    let u = rw (c.messages.ensures.part, c.udata.ensures) at t in
    let used = c.loop-e.used in
    let all = messages_of c.args.state.now ++ udata_of c.args.state.now in
    let found : c.position.result ≡ found_at not used =
    position_from_yields_List not _ _ c.position.result c.position.ensures.ran (YieldsList-from_slice used (cc)) (λ x b q k. search (rules, tests))
    in
    let whole : take (length c.loop-e.yielded) all ≡ all = take_all (length c.loop-e.yielded) all (omega (arith, u.1)) in
    rw (c.unwrap_or.ensures, found)
    (first-free c.args.state.now used c.loop-e.invariant.0
    (subst (λ es. Marks (replicate store_places false) (places_of es) used) whole c.loop-e.invariant.1))
