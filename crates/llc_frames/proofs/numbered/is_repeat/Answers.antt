use mathlib.Core.Path.{◌∙◌}
use Rattle.llc_frames.proofs.Heard.{row-there, repeat-found}
use Rattle.llc_frames.proofs.numbered.is_repeat.Goals as goal

pub returns-then-seq : goal.returns-then-seq
returns-then-seq c =
    let a = c.args in
    let there = row-there a.state.now a.f.now.ssi c.requires.row_value c.in-Some.is in
    rw c.in-Some.is (rw c.if-seq.true at (repeat-found a.state.now a.f.now.ssi there c.in-Some.heard.ns c.send_seq-seq.ensures))

pub returns-else-seq : goal.returns-else-seq
returns-else-seq c =
    let a = c.args in
    let there = row-there a.state.now a.f.now.ssi c.requires.row_value c.in-Some.is in
    rw c.in-Some.is (c.if-seq.false ∙ rw c.if-seq.false at (repeat-found a.state.now a.f.now.ssi there c.in-Some.heard.ns c.send_seq-seq.ensures))
