use Rattle.llc_rule.proofs.Claim as Claim
use Rattle.llc_rule.proofs.Instance as Instance
use Rattle.llc_rule.proofs.Applied as Applied
use Rattle.llc_rule.proofs.Repeats as Repeats
use Rattle.llc_rule.proofs.FitsRuns as FitsRuns
use Rattle.llc_rule.proofs.SoundCalls as SoundCalls
use Rattle.llc_rule.proofs.Records as Records
use Rattle.llc_rule.proofs.Room as Room
use Rattle.claims.proofs.link_as_lists.Goals as goal

pub returns : goal.returns
returns c =
    record {
      claims = Claim.claims;
      unhindered-instance = Instance.unhindered-instance;
      unhindered-turned = Instance.unhindered-turned;
      instance-kinds = Instance.instance-kinds;
      instance-numbers = Instance.instance-numbers;
      swap-instance = Applied.swap-instance;
      swap-turned = Applied.swap-turned;
      four-instance = Applied.four-instance;
      four-times = Applied.four-times;
      four-by-rule = Applied.four-by-rule;
      answers-are = Applied.answers-are;
      four-times-by-rule = Applied.four-times-by-rule;
      told_is = Applied.told_is;
      text-spelled = Applied.text-spelled;
      text-accepted = Applied.text-accepted;
      ack-spelled = Applied.ack-spelled;
      ack-accepted = Applied.ack-accepted;
      text-framed = Applied.text-framed;
      text-instance = Applied.text-instance;
      ack-framed = Applied.ack-framed;
      ack-instance = Applied.ack-instance;
      bits-handed = Applied.bits-handed;
      requests-then = Applied.requests-then;
      requests-freed = Applied.requests-freed;
      order-read = Applied.order-read;
      ack-read = Applied.ack-read;
      reply-read = Applied.reply-read;
      begun = Applied.begun;
      text-heard = Applied.text-heard;
      repeat-heard = Applied.repeat-heard;
      new-heard = Applied.new-heard;
      text-first = Applied.text-first;
      repeat-stopped = Applied.repeat-stopped;
      new-up = Applied.new-up;
      hears-framed = Repeats.hears-framed;
      sound-run = SoundCalls.sound-run;
      determined = Records.determined;
      all-determined = Records.all-determined;
      new-fits = FitsRuns.new-fits;
      fits-run = FitsRuns.fits-run;
      begins = Records.begins;
      length-sent = Records.length-sent;
      length-reply = Records.length-reply;
      length-indication = Records.length-indication;
      no-slack = Room.no-slack;
      room = Room.room;
      new-small = Room.new-small;
      small-after = Room.small-after;
    }
