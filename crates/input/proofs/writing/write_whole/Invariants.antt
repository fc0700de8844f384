-- `writing::write_whole` ends: each write takes a byte or more of the rest.
-- Assumes nothing.
use Rattle.input.proofs.writing.write_whole.Given as goal
use Rattle.std.proofs.Common.{length}

abbrev pub decreases-loop-rest : goal.decreases-loop-rest
decreases-loop-rest g l = length l.rest
