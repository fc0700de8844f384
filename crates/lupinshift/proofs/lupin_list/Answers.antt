-- Where the buffer has the room of any log of that length, one filling from the start takes the whole listing.
-- Assumes nothing.
use Rattle.lupinshift.proofs.Laws.{lists}
use Rattle.lupinshift.proofs.lupin_list.Goals as goal
use Rattle.std.proofs.Common.{arith}

pub returns : goal.returns
returns c = lists (omega arith) (rw c.listing_room.ensures at c.if-out-listing_room.false) c.list.ensures
