-- One more figure is put behind those before it, and a line feed behind the last.
-- Assumes nothing.
use Rattle.listing.proofs.Putting.{one_figure_more, ◌next◌}
use Rattle.listing.proofs.text.Line.end.Goals as goal
use Rattle.listing.specs.LineText.{end_line, figures_text}
use Rattle.listing.specs.Text.{Adds}
use Rattle.std.proofs.Common.{add-one, arith}
use Rattle.std.proofs.Math.Seq.{take_all}

pub loop-figure-preserved : goal.loop-figure-preserved
loop-figure-preserved c =
    let i = c.loop-figure.figure-index in
    let more = one_figure_more c.args.figures.now i c.loop-figure-test.true in
    record { adds = rw (add-one i, more) (c.loop-figure.invariant.adds next c.field.ensures.adds); short = omega arith }

pub returns : goal.returns
unfolding end_line
returns c =
    let figures = c.args.figures.now in
    let all : Adds _ (figures_text figures) _ = rw (take_all c.loop-figure.figure-index figures (omega arith)) at c.loop-figure.invariant.adds in
    c.text.ensures next all next c.push.ensures
