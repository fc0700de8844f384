-- The counts are read off the bytes from their place on.
-- Assumes nothing.
use Rattle.figures.proofs.doubles.double_in.Goals as goal
use Rattle.position.proofs.HighFirst.{chunk_there}
use Rattle.std.proofs.Common.{arith, drop, refl, take, ◌≡◌}

pub returns : goal.returns
returns c =
    let figures = c.args.figures.now in
    let counts : c.unwrap.result.now ≡ take 12 (drop 1 figures) = chunk_there figures 1 283 12 _ _ (omega arith) c.first_chunk.ensures.cases c.unwrap.ensures in
    rw (c.counts_in.ensures, c.side_in.ensures, c.side_in-2.ensures, counts) refl
