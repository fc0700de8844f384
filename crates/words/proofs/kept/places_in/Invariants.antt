-- The places are those of the first `i` vehicles.
-- Assumes nothing.
use Rattle.std.proofs.Common.{take, ◌≡◌}
use Rattle.words.proofs.kept.places_in.Given as goal
use Rattle.words.specs.Words.{section_in}
use Rattle.working.specs.Sections.{pad_to, vehicles_of}

abbrev pub invariant-loop-i : goal.invariant-loop-i
invariant-loop-i l = l.places ≡ pad_to 24 (take l.i (vehicles_of (section_in l.words)))
