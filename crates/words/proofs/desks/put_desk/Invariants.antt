-- The first `i` words of the desk are its figures, and the others as they were.
-- Assumes nothing.
use Rattle.std.proofs.Common.{drop, take, ◌++◌}
use Rattle.words.proofs.desks.put_desk.Given as goal
use Rattle.words.specs.Stores.{DeskPut}

abbrev pub invariant-loop-i : goal.invariant-loop-i
invariant-loop-i l = DeskPut l.initial.words l.words l.fn.at (λ t. take l.i l.figures ++ drop l.i t)
