-- One more number is read at its place, and all twelve are those of the places.
-- Assumes nothing.
use Rattle.figures.proofs.Places.{all-places, place_more}
use Rattle.figures.proofs.doubles.numbers_in.Goals as goal
use Rattle.std.proofs.Common.{arith, rules, sym}
use Rattle.working.specs.Positions.{two_at}

pub loop-i-preserved : goal.loop-i-preserved
loop-i-preserved c =
    let figures = c.args.figures.now in
    let l = c.loop-i in
    (search rules, place_more (two_at figures) 2 0 l.i c.args.at l.numbers c.number_at.result (omega arith) l.invariant.1 (sym c.number_at.ensures))

pub returns : goal.returns
returns c =
    let l = c.loop-i in
    all-places (two_at c.args.figures.now) 2 0 12 c.args.at l.numbers l.invariant.0 (λ k h. l.invariant.1 k (omega arith))
