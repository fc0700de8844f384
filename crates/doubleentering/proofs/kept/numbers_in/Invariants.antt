-- The first `i` numbers are those of the places, and zeros stand behind them.
-- Assumes nothing.
use Rattle.doubleentering.proofs.kept.numbers_in.Given as goal
use Rattle.doubleentering.specs.DoubleWords.{places_in}
use Rattle.std.proofs.Common.{drop, take, ℕ, ◌++◌, ◌≡◌}
use Rattle.words.specs.Words.{ring_in}
use lib.ListN.{replicate}

abbrev pub invariant-loop-i : goal.invariant-loop-i
invariant-loop-i l = l.numbers ≡ take l.i (places_in (ring_in l.words) l.fn.at) ++ drop l.i (replicate {A = ℕ} 12 0)
