-- The first `i` places hold the numbers, and the others what they held.
-- Assumes nothing.
use Rattle.doubleentering.proofs.kept.put_places.Given as goal
use Rattle.doubleentering.specs.DoubleWords.{PlacesBecome}
use Rattle.std.proofs.Common.{drop, take, ◌++◌}

abbrev pub invariant-loop-i : goal.invariant-loop-i
invariant-loop-i l = PlacesBecome l.initial.words l.words l.fn.at (λ t. take l.i l.numbers ++ drop l.i t)
