-- The places of the first `i` vehicles are put, and all else is zero.
-- Assumes nothing.
use Rattle.position.proofs.sections.places_in.Given as goal
use Rattle.std.proofs.Common.{length, replicate, take, ◌++◌, ◌≡◌}
use Rattle.words.specs.Words.{section_in}
use Rattle.working.specs.Positions.{places_bytes}
use Rattle.working.specs.Sections.{vehicles_of}

abbrev pub invariant-loop-i : goal.invariant-loop-i
invariant-loop-i l = record {
  long : length l.p ≡ 281;
  so_far : l.p ≡ places_bytes 24 (take l.i (vehicles_of (section_in l.words))) ++ replicate 41 0;
}
