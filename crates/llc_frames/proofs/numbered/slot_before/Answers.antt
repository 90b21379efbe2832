use mathlib.Core.Path.{◌≡◌, ◌∙◌, sym, ap}
use Rattle.questions.specs.Outcome.{accepted}
use Rattle.questions.specs.Refusals.{outcome}
use Rattle.questions.proofs.Asked.{ask-yes}
use Rattle.tdma_time.specs.Slots.{plus}
use Rattle.tdma_time.specs.declared.TdmaTime.{TdmaTime}
use lib.IntN.{negsuc}
use Rattle.llc_rule.specs.Messages.{slot_before}
use Rattle.llc_frames.proofs.numbered.slot_before.Goals as goal

pub returns : goal.returns
unfolding slot_before
returns c =
    let sent : accepted c.unwrap.result ≡ accepted (plus c.args.time (negsuc 1)) =
    sym (ap outcome c.unwrap.ensures) ∙ c.add_timeslots.ensures ∙ ask-yes 5 _ c.requires
    in
    let same : c.unwrap.result ≡ plus c.args.time (negsuc 1) = cc in
    ap (λ (a : TdmaTime). a.t) same
