-- The line rises if the numbers passed do, and those behind them rise above the last passed.
-- Assumes nothing.
use Rattle.double.specs.WellMade.{rising}
use Rattle.doubleentering.proofs.made.rises.Given as goal
use Rattle.std.proofs.Common.{drop, ◌≡◌}
use mathlib.Core.Bool.{◌&&◌}

abbrev pub invariant-loop-number : goal.invariant-loop-number
invariant-loop-number l = rising 0 l.last l.line ≡ (l.rises && rising l.below l.last (drop l.number-index l.line))
