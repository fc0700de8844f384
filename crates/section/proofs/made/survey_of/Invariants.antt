-- The vehicles yielded so far, B's nearest first, are surveyed.
-- Assumes nothing.
use Rattle.section.proofs.Passes.{passed}
use Rattle.section.proofs.made.survey_of.Given as goal
use Rattle.section.specs.Made.{survey_of}
use Rattle.std.proofs.Common.{◌≡◌}

abbrev pub invariant-loop-v : goal.invariant-loop-v
invariant-loop-v l = l.survey ≡ survey_of l.last_a l.last_b (passed l.yielded)
