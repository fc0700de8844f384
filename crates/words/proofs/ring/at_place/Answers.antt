-- Place i stands in the slot i on from the start.
-- Assumes nothing.
use Rattle.std.proofs.Common.{ap, arith, sym, ◌%◌, ◌+◌, ◌∙◌}
use Rattle.words.proofs.VehiclesIn.{present_length, vehicles_at, vehicles_of_lem}
use Rattle.words.proofs.ring.at_place.Goals as goal
use Rattle.words.specs.Words.{ring_in, slots, vehicle_at}

pub returns : goal.returns
returns c =
    let w = c.args.words.now in
    let i = c.args.i in
    let there = c.on.ensures ∙ ap (λ k. (k + i) % slots) c.start_in.ensures in
    rw (vehicles_of_lem w) (c.vehicle_at.ensures ∙ ap (vehicle_at (ring_in w)) there ∙ sym (vehicles_at w i (omega (arith, present_length w))))
