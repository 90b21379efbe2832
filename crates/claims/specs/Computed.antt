-- Runs that the checker computes (llc_rule proofs/Runs and proofs/Instance): document 01's sample, its edges, what the course gets wrong,
-- awkward runs, marks, full widths, orders of questions, ranges, check sequences, check bits that are cut, repeats, check sequences
-- that are sent, orders that leave after four sendings, and the instance.
use Rattle.std.specs.Prelude.{◌≡◌, true}
use Rattle.llc_rule.specs.Link.{new}
use Rattle.llc_rule.proofs.Runs.Sample.{sample}
use Rattle.llc_rule.proofs.Runs.{agrees, link_after}
use Rattle.llc_rule.proofs.Runs.Edges.{age, crowded, dues, lengths, messages, ranges, rows, sdus, unacknowledged}
use Rattle.llc_rule.proofs.Runs.Course.{refused-by-8, release, to-the-front, too-early}
use Rattle.llc_rule.proofs.Runs.Awkward.{ages, discarded, early, frames, front, garbage, leaves, lost, restart, stealing, still, unacked, values}
use Rattle.llc_rule.proofs.Runs.Marks.{marks, places, same_places}
use Rattle.llc_rule.proofs.Runs.Widths as Widths
use Rattle.llc_rule.proofs.Runs.Orders as Orders
use Rattle.llc_rule.proofs.Runs.Ranges as Ranges
use Rattle.llc_rule.proofs.Runs.Checks as Checks
use Rattle.llc_rule.proofs.Runs.CheckBits as CheckBits
use Rattle.llc_rule.proofs.Runs.Repeats as Repeats
use Rattle.llc_rule.proofs.Runs.Announced as Announced
use Rattle.llc_rule.proofs.Runs.Lost as Lost
use Rattle.llc_rule.proofs.Instance.{instance, turned}

pub record Computed : Type 0 where
  pub sample-agrees : agrees new sample ≡ true
  pub lengths-agrees : agrees new lengths ≡ true
  pub ranges-agrees : agrees new ranges ≡ true
  pub sdus-agrees : agrees new sdus ≡ true
  pub age-agrees : agrees new age ≡ true
  pub messages-agrees : agrees new messages ≡ true
  pub unacknowledged-agrees : agrees new unacknowledged ≡ true
  pub dues-agrees : agrees new dues ≡ true
  pub rows-agrees : agrees crowded rows ≡ true
  pub release-agrees : agrees new release ≡ true
  pub refused-by-8-agrees : agrees new refused-by-8 ≡ true
  pub too-early-agrees : agrees new too-early ≡ true
  pub to-the-front-agrees : agrees new to-the-front ≡ true
  pub garbage-agrees : agrees new garbage ≡ true
  pub values-agrees : agrees new values ≡ true
  pub front-agrees : agrees new front ≡ true
  pub still-agrees : agrees new still ≡ true
  pub early-agrees : agrees new early ≡ true
  pub discarded-agrees : agrees new discarded ≡ true
  pub leaves-agrees : agrees new leaves ≡ true
  pub lost-agrees : agrees new lost ≡ true
  pub ages-agrees : agrees new ages ≡ true
  pub unacked-agrees : agrees new unacked ≡ true
  pub stealing-agrees : agrees new stealing ≡ true
  pub frames-agrees : agrees new frames ≡ true
  pub restart-agrees : agrees new restart ≡ true
  pub marks-agrees : agrees new marks ≡ true
  pub marks-left : same_places places (link_after new marks).receipts ≡ true
  pub widths-tags : agrees new Widths.tags ≡ true
  pub widths-frames : agrees new Widths.frames ≡ true
  pub widths-requests : agrees new Widths.requests ≡ true
  pub widths-ages : agrees new Widths.ages ≡ true
  pub orders-taken : agrees new Orders.taken ≡ true
  pub orders-rowless : agrees crowded Orders.rowless ≡ true
  pub orders-full-of-dues : agrees new Orders.full-of-dues ≡ true
  pub orders-reported-once : agrees new Orders.reported-once ≡ true
  pub ranges-values : agrees new Ranges.values ≡ true
  pub checks-flagged : agrees new Checks.flagged ≡ true
  pub checks-lengths : agrees new Checks.lengths ≡ true
  pub check-bits-emptied : agrees new CheckBits.emptied ≡ true
  pub check-bits-cut : agrees new CheckBits.cut ≡ true
  pub check-bits-longest : agrees new CheckBits.longest ≡ true
  pub check-bits-unflagged : agrees new CheckBits.unflagged ≡ true
  pub check-bits-too-short : agrees new CheckBits.too_short ≡ true
  pub check-bits-wrong-check : agrees new CheckBits.wrong-check ≡ true
  pub check-bits-twice : agrees new CheckBits.twice ≡ true
  pub check-bits-acknowledged : agrees new CheckBits.acknowledged ≡ true
  pub check-bits-other-flag : agrees new CheckBits.other-flag ≡ true
  pub repeats-adata-after-data : agrees new Repeats.adata-after-data ≡ true
  pub repeats-data-after-adata : agrees new Repeats.data-after-adata ≡ true
  pub repeats-other-carrier : agrees new Repeats.other-carrier ≡ true
  pub repeats-other-type : agrees new Repeats.other-type ≡ true
  pub repeats-between : agrees new Repeats.between ≡ true
  pub repeats-never-repeats : agrees new Repeats.never-repeats ≡ true
  pub repeats-empty : agrees new Repeats.empty ≡ true
  pub repeats-finishes : agrees new Repeats.finishes ≡ true
  pub repeats-moves-to-front : agrees new Repeats.moves-to-front ≡ true
  pub repeats-before-done-time : agrees new Repeats.before-done-time ≡ true
  pub repeats-refused-by-12 : agrees new Repeats.refused-by-12 ≡ true
  pub repeats-refused-by-14 : agrees new Repeats.refused-by-14 ≡ true
  pub repeats-refused-otherwise : agrees new Repeats.refused-otherwise ≡ true
  pub repeats-refused-by-13 : agrees new Repeats.refused-by-13 ≡ true
  pub repeats-after-start : agrees new Repeats.after-start ≡ true
  pub repeats-request-row : agrees new Repeats.request-row ≡ true
  pub repeats-frame-row : agrees new Repeats.frame_row ≡ true
  pub repeats-interleaved : agrees new Repeats.interleaved ≡ true
  pub repeats-send-side : agrees new Repeats.send-side ≡ true
  pub repeats-rows : agrees crowded Repeats.rows-of-frames ≡ true
  pub announced-kinds : agrees new Announced.kinds ≡ true
  pub announced-unitdata : agrees new Announced.unitdata ≡ true
  pub announced-resent : agrees new Announced.resent ≡ true
  pub lost-ages : agrees new Lost.ages ≡ true
  pub lost-discarded : agrees new Lost.discarded ≡ true
  pub lost-stands : agrees new Lost.stands ≡ true
  pub lost-wraps : agrees new Lost.wraps ≡ true
  pub lost-jumps : agrees new Lost.jumps ≡ true
  pub lost-there-and-back : agrees new Lost.there_and_back ≡ true
  pub instance-agrees : agrees new instance ≡ true
  pub turned-agrees : agrees new turned ≡ true
