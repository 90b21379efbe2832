use Rattle.llc_state.proofs.InUse as InUse
use Rattle.llc_state.proofs.View as View
use Rattle.llc_steps.proofs.Steps as Steps
use Rattle.llc_steps.proofs.NotStarted as NotStarted
use Rattle.llc_steps.proofs.Ready as Ready
use Rattle.llc_steps.proofs.Sane as Sane
use Rattle.llc_steps.proofs.Places as Places
use Rattle.claims.proofs.state_and_store.Goals as goal

pub returns : goal.returns
returns c =
    record {
      new_in = View.new_in;
      started-in = View.started-in;
      time-in = View.time-in;
      new-in-range = View.new-in-range;
      started-in-range = View.started-in-range;
      time-in-range = View.time-in-range;
      used-asked = InUse.used-asked;
      used-seen = InUse.used-seen;
      steps-not-started = NotStarted.steps-not-started;
      steps-in = Steps.steps-in;
      ready = Ready.ready;
      steps-sane = Sane.steps-sane;
      new-sane = Sane.new-sane;
      free-place = Places.free-place;
      part-there = Places.part-there;
      frame-elsewhere = Places.frame-elsewhere;
    }
