-- The places are those of the first `i` vehicles.
-- Assumes nothing.
use Rattle.position.proofs.sections.vehicles_at.Given as goal
use Rattle.position.specs.Reading.{vehicles_from}
use Rattle.std.proofs.Common.{take, ◌≡◌}
use Rattle.working.specs.Sections.{pad_to}

abbrev pub invariant-loop-i : goal.invariant-loop-i
invariant-loop-i l = l.places ≡ pad_to 24 (take l.i (vehicles_from l.count l.bytes))
