-- The length is compared with 4,688, and of that length `places_made` tests the 16 places.
-- Assumes nothing.
use Rattle.shelf.proofs.shelves.shelf_in.Goals as goal
use Rattle.std.proofs.Common.{eq-eqb, length, ne_eqb, sym}
use Rattle.working.specs.Shelves.{is_shelf}

pub returns-in_default : goal.returns-in_default
unfolding is_shelf
returns-in_default c = rw (ne_eqb (length c.args.bytes.now) 4688 c.in_default.ensures.1)

pub returns-then-not-places_made : goal.returns-then-not-places_made
unfolding is_shelf
returns-then-not-places_made c =
    let whole = c.in-Ok.ensures.1 in
    rw (eq-eqb (length c.args.bytes.now) 4688 whole.long, ← whole.same, sym c.if-not-places_made.ensures)

pub returns : goal.returns
unfolding is_shelf
returns c =
    let whole = c.in-Ok.ensures.1 in
    (rw (eq-eqb (length c.args.bytes.now) 4688 whole.long, ← whole.same, sym c.if-not-places_made.ensures), whole.same)
