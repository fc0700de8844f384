-- Its tests are the definition's, in their order, so that the first that holds is the verdict. What the calls require follows from the tests before them.
-- Assumes nothing.
use Rattle.shelf.proofs.Verdicts.{long-shelf, short_name}
use Rattle.shelf.proofs.shelves.store.Goals as goal
use Rattle.std.proofs.Common.{arith, sym}
use Rattle.working.proofs.theorems.Positions.{read_then_written}

pub title_of-title-requires : goal.title_of-title-requires
title_of-title-requires c = short_name _ (sym c.if-not-is_name.ensures)

pub put_place-requires : goal.put_place-requires
put_place-requires c =
    let long = long-shelf _ c.in-Some.ensures.0 in
    (omega arith, (read_then_written _ (sym c.if-not-is_position.ensures)).0)
