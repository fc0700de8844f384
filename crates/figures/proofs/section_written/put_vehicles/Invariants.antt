-- `section_written::put_vehicles` meets its contract. The loop's invariant: the places below `i` are put.
-- Assumes nothing.
use Rattle.figures.proofs.section_written.put_vehicles.Given as goal
use Rattle.figures.specs.Written.{put_places}
use Rattle.std.proofs.Common.{◌≡◌}

abbrev pub invariant-loop-i : goal.invariant-loop-i
invariant-loop-i l = (l.room ≡ put_places l.i l.places l.initial.room)
