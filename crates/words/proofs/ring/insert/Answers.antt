-- One more vehicle, in the slot at the station's end.
-- Assumes nothing.
use Rattle.words.proofs.Ends.{insert_becomes}
use Rattle.words.proofs.ring.insert.Goals as goal

pub returns : goal.returns
returns c =
    insert_becomes c.args.at c.args.v c.args.words.now c.present_in-present.ensures.0 c.move_start-start.ensures c.at_end.ensures c.at_end.result.in_ring c.put_vehicle.ensures
