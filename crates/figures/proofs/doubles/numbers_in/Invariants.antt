-- `doubles::numbers_in` meets its contract. The loop's invariant: each number below `i` is the one that the two bytes of its place say.
-- Assumes nothing.
use Rattle.figures.proofs.Places.{Reads}
use Rattle.figures.proofs.doubles.numbers_in.Given as goal
use Rattle.std.proofs.Common.{length, ◌≡◌}
use Rattle.working.specs.Positions.{two_at}

abbrev pub invariant-loop-i : goal.invariant-loop-i
invariant-loop-i l = (length l.numbers ≡ 12) × Reads (two_at l.figures) 2 0 l.i l.at l.numbers
