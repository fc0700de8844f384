-- `writing::write_listing` is safe and ends: what is filled fits the block, and a block leaves fewer lines to come.
-- Assumes nothing.
use Rattle.input.proofs.writing.write_listing.Given as goal
use Rattle.listing.specs.LineText.{longest_line}
use Rattle.std.proofs.Common.{length, ◌≤◌}
use Rattle.step.proofs.Ending.{lines_left}
use Rattle.step.specs.ListingLines.{listing_in}
use Rattle.step.specs.Tables.{section_by}

abbrev pub invariant-loop-listed : goal.invariant-loop-listed
invariant-loop-listed g l = longest_line ≤ length l.block

abbrev pub decreases-loop-listed : goal.decreases-loop-listed
decreases-loop-listed g l = lines_left (listing_in l.listed (section_by g.S.Line.TABLE l.words))
