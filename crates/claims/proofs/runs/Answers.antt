use mathlib.Core.List.{List}
use Rattle.llc_rule.specs.Records.{acknowledged, reply, unacknowledged, Sent}
use Rattle.llc_rule.specs.ReadBack.{requests_after, Carries}
use Rattle.llc_rule.specs.Runs.{Exchange}
use Rattle.claims.specs.Runs.{Read}
use Rattle.llc.proofs.Determined as Determined
use Rattle.llc_runs.proofs.Claim as Claim
use Rattle.llc_runs.proofs.Instance as Instance
use Rattle.llc_runs.proofs.Applied as Applied
use Rattle.claims.proofs.runs.Goals as goal

-- What a record carries, taken apart.
read : (before : List Exchange) (s : Sent) → Carries (requests_after before) s → Read before s
read before s k = (k.request, (k.holds, (k.reads.pdu, (k.reads.flag, (k.reads.short, k.reads.read)))))

pub returns : goal.returns
returns c =
    record {
      one_answer = Determined.one_answer;
      no-leaves-all = Determined.no-leaves-all;
      claim = Claim.claim;
      seen = λ store cs u a. (((Claim.claim).runs store).demand3 cs u a).seen;
      receipts = λ store cs u a. (((Claim.claim).runs store).demand3 cs u a).receipts;
      alone = λ store cs u a. (((Claim.claim).runs store).demand3 cs u a).alone;
      few = λ store before c r later n q. (Claim.four-later store before c r later n q).few;
      texts = Claim.text-later;
      texts-read = Claim.read-later;
      texts-only = λ store before c f e z. let k = Claim.framed-later store before c f e z in (k.pdu, (k.text, k.is));
      repeats-same = λ store cs. (((Claim.claim).runs store).repeats cs).same;
      repeats-other = λ store cs. (((Claim.claim).runs store).repeats cs).other;
      repeats-first = λ store cs. (((Claim.claim).runs store).repeats cs).first;
      read_back = λ store cs before e later front rest s split among. read before s (Claim.read_at store cs before e later front rest (acknowledged s) split among);
      read-back-too = λ store cs before e later front rest s split among. read before s (Claim.read_at store cs before e later front rest (unacknowledged s) split among);
      reply-back = λ store cs before e later front rest a split among. let k = Claim.read_at store cs before e later front rest (reply a) split among in (k.nr, k.read);
      one = Determined.one_answer;
      unhindered-lents = Instance.unhindered-lents;
      sees-lents = Instance.sees-lents;
      unhindered-turned-lents = Instance.unhindered-turned-lents;
      kinds-lents = Instance.kinds-lents;
      numbers-lents = Instance.numbers-lents;
      one_lent = Instance.one_lent;
      swap-lents = Applied.swap-lents;
      swap-turned-lents = Applied.swap-turned-lents;
      four-lents = Applied.four-lents;
      four-times-lents = Applied.four-times-lents;
      four-by-rule-lents = Applied.four-by-rule-lents;
    }
