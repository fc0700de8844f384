-- The vehicles from place `i` on differ among themselves, and their keys are noted.
-- Assumes nothing.
use Rattle.section.proofs.Keys.{Noted}
use Rattle.section.proofs.made.forms_differ.Given as goal
use Rattle.std.proofs.Common.{drop, ◌≡◌}
use Rattle.working.specs.WellMade.{differ}

abbrev pub invariant-loop-i : goal.invariant-loop-i
invariant-loop-i l = record {
  so_far : l.differ ≡ differ (drop l.i l.vehicles);
  noted : Noted (drop l.i l.vehicles) l.keys l.i;
}
