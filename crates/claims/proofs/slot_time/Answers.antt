use Rattle.tdma_time.proofs.Laws as Laws
use Rattle.claims.proofs.slot_time.Goals as goal

pub returns : goal.returns
returns c =
    record {
      slots-signed = Laws.slots-signed;
      slots-time_at = Laws.slots-time_at;
      time_at-slots = Laws.time_at-slots;
      slots-plus = Laws.slots-plus;
      plus-valid = Laws.plus-valid;
      plus-only = Laws.plus-only;
      minus-near = Laws.minus-near;
      minus-congruent = Laws.minus-congruent;
      minus-only = Laws.minus-only;
      ahead-below = Laws.ahead-below;
      forward-slot = Laws.forward-slot;
      forward-here = Laws.forward-here;
      time_at-valid = Laws.time_at-valid;
      same-slots = Laws.same-slots;
      plus-plus = Laws.plus-plus;
      plus-zero = Laws.plus-zero;
      minus_plus = Laws.minus_plus;
      minus-plus-near = Laws.minus-plus-near;
      minus-self = Laws.minus-self;
      plus-minus = Laws.plus-minus;
    }
