-- The words are those of the empty section with the first `i` places.
-- Assumes nothing.
use Rattle.std.proofs.Common.{take}
use Rattle.words.proofs.kept.words_of.Given as goal
use Rattle.words.specs.Words.{OwnWords}
use Rattle.working.specs.Sections.{emptied, with_vehicles}

abbrev pub invariant-loop-i : goal.invariant-loop-i
invariant-loop-i l = OwnWords l.words (with_vehicles (emptied l.s.force l.s.refused) (take l.i l.s.vehicles))
