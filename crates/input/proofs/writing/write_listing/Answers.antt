-- A block that has room for a line leaves fewer lines to come.
-- Assumes nothing.
use Rattle.input.proofs.writing.write_listing.Goals as goal
use Rattle.std.proofs.Common.{arith, false, length, rules, ◌≡◌}
use Rattle.step.proofs.Ending.{block_fewer}
use Rattle.step.specs.ListingLines.{listing_in}
use Rattle.step.specs.Tables.{section_by}

pub loop-listed-smaller : goal.loop-listed-smaller
loop-listed-smaller g c =
    let l = c.loop-listed in
    let room = length l.block in
    let more : l.listed.ended ≡ false = search rules in
    rw c.fill-put.ensures.fills.listing
    (block_fewer g.S.Line.TABLE _ room (listing_in l.listed (section_by g.S.Line.TABLE l.words)) room more (omega (arith, l.invariant)) (omega (arith, l.invariant)))
