use Rattle.llc_rule.proofs.Runs.Sample as Sample
use Rattle.llc_rule.proofs.Runs.Edges as Edges
use Rattle.llc_rule.proofs.Runs.Course as Course
use Rattle.llc_rule.proofs.Runs.Awkward as Awkward
use Rattle.llc_rule.proofs.Runs.Marks as Marks
use Rattle.llc_rule.proofs.Runs.Widths as Widths
use Rattle.llc_rule.proofs.Runs.Orders as Orders
use Rattle.llc_rule.proofs.Runs.Ranges as Ranges
use Rattle.llc_rule.proofs.Runs.Checks as Checks
use Rattle.llc_rule.proofs.Runs.CheckBits as CheckBits
use Rattle.llc_rule.proofs.Runs.Repeats as Repeats
use Rattle.llc_rule.proofs.Runs.Announced as Announced
use Rattle.llc_rule.proofs.Runs.Lost as Lost
use Rattle.llc_rule.proofs.Instance as Instance
use Rattle.claims.proofs.computed.Goals as goal

pub returns : goal.returns
returns c =
    record {
      sample-agrees = Sample.sample-agrees;
      lengths-agrees = Edges.lengths-agrees;
      ranges-agrees = Edges.ranges-agrees;
      sdus-agrees = Edges.sdus-agrees;
      age-agrees = Edges.age-agrees;
      messages-agrees = Edges.messages-agrees;
      unacknowledged-agrees = Edges.unacknowledged-agrees;
      dues-agrees = Edges.dues-agrees;
      rows-agrees = Edges.rows-agrees;
      release-agrees = Course.release-agrees;
      refused-by-8-agrees = Course.refused-by-8-agrees;
      too-early-agrees = Course.too-early-agrees;
      to-the-front-agrees = Course.to-the-front-agrees;
      garbage-agrees = Awkward.garbage-agrees;
      values-agrees = Awkward.values-agrees;
      front-agrees = Awkward.front-agrees;
      still-agrees = Awkward.still-agrees;
      early-agrees = Awkward.early-agrees;
      discarded-agrees = Awkward.discarded-agrees;
      leaves-agrees = Awkward.leaves-agrees;
      lost-agrees = Awkward.lost-agrees;
      ages-agrees = Awkward.ages-agrees;
      unacked-agrees = Awkward.unacked-agrees;
      stealing-agrees = Awkward.stealing-agrees;
      frames-agrees = Awkward.frames-agrees;
      restart-agrees = Awkward.restart-agrees;
      marks-agrees = Marks.marks-agrees;
      marks-left = Marks.marks-left;
      widths-tags = Widths.tags-agrees;
      widths-frames = Widths.frames-agrees;
      widths-requests = Widths.requests-agrees;
      widths-ages = Widths.ages-agrees;
      orders-taken = Orders.taken-agrees;
      orders-rowless = Orders.rowless-agrees;
      orders-full-of-dues = Orders.full-of-dues-agrees;
      orders-reported-once = Orders.reported-once-agrees;
      ranges-values = Ranges.values-agrees;
      checks-flagged = Checks.flagged-agrees;
      checks-lengths = Checks.lengths-agrees;
      check-bits-emptied = CheckBits.emptied-agrees;
      check-bits-cut = CheckBits.cut-agrees;
      check-bits-longest = CheckBits.longest-agrees;
      check-bits-unflagged = CheckBits.unflagged-agrees;
      check-bits-too-short = CheckBits.too-short-agrees;
      check-bits-wrong-check = CheckBits.wrong-check-agrees;
      check-bits-twice = CheckBits.twice-agrees;
      check-bits-acknowledged = CheckBits.acknowledged-agrees;
      check-bits-other-flag = CheckBits.other-flag-agrees;
      repeats-adata-after-data = Repeats.adata-after-data-agrees;
      repeats-data-after-adata = Repeats.data-after-adata-agrees;
      repeats-other-carrier = Repeats.other-carrier-agrees;
      repeats-other-type = Repeats.other-type-agrees;
      repeats-between = Repeats.between-agrees;
      repeats-never-repeats = Repeats.never-repeats-agrees;
      repeats-empty = Repeats.empty-agrees;
      repeats-finishes = Repeats.finishes-agrees;
      repeats-moves-to-front = Repeats.moves-to-front-agrees;
      repeats-before-done-time = Repeats.before-done-time-agrees;
      repeats-refused-by-12 = Repeats.refused-by-12-agrees;
      repeats-refused-by-14 = Repeats.refused-by-14-agrees;
      repeats-refused-otherwise = Repeats.refused-otherwise-agrees;
      repeats-refused-by-13 = Repeats.refused-by-13-agrees;
      repeats-after-start = Repeats.after-start-agrees;
      repeats-request-row = Repeats.request-row-agrees;
      repeats-frame-row = Repeats.frame-row-agrees;
      repeats-interleaved = Repeats.interleaved-agrees;
      repeats-send-side = Repeats.send-side-agrees;
      repeats-rows = Repeats.rows-of-frames-agrees;
      announced-kinds = Announced.kinds-agrees;
      announced-unitdata = Announced.unitdata-agrees;
      announced-resent = Announced.resent-agrees;
      lost-ages = Lost.ages-agrees;
      lost-discarded = Lost.discarded-agrees;
      lost-stands = Lost.stands-agrees;
      lost-wraps = Lost.wraps-agrees;
      lost-jumps = Lost.jumps-agrees;
      lost-there-and-back = Lost.there-and-back-agrees;
      instance-agrees = Instance.instance-agrees;
      turned-agrees = Instance.turned-agrees;
    }
