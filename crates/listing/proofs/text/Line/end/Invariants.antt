-- `text::Line::end` meets its contract. The loop's invariant: the first `i` of the figures are put behind the word.
-- Assumes nothing.
use Rattle.listing.proofs.text.Line.end.Given as goal
use Rattle.listing.specs.LineText.{figures_text}
use Rattle.listing.specs.Text.{AddsAtMost, longest_field}
use Rattle.std.proofs.Common.{take, ◌*◌}

abbrev pub invariant-loop-figure : goal.invariant-loop-figure
invariant-loop-figure l = AddsAtMost (l.figure-index * longest_field) l.initial.self (figures_text (take l.figure-index l.figures)) l.self
