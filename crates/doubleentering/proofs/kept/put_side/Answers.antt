-- The figures that a desk has are put, and then the numbers in the places.
-- Assumes nothing.
use Rattle.doubleentering.proofs.Sides.{desk_places_side}
use Rattle.doubleentering.proofs.kept.put_side.Goals as goal
use Rattle.working.specs.declared.Desk.{Desk}

pub returns : goal.returns
returns c =
    let d = c.args.d in
    let f = c.fresh.result in
    let figures : Desk =
    record { clock = d.clock; last = d.last; sent = d.len; interval = d.interval; out = f.out; guest = f.guest; clears = f.clears; waiting = f.waiting } in
    desk_places_side c.args.at (λ e. figures) (λ t. d.numbers) c.put_desk.ensures.0 c.put_desk.ensures.1 c.put_places.ensures
