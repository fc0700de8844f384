-- The places are well made where those from `i` on are.
-- Assumes nothing.
use Rattle.shelf.proofs.Walk.{places_from}
use Rattle.shelf.proofs.places.places_made.Given as goal
use Rattle.std.proofs.Common.{◌-◌, ◌≡◌}
use Rattle.working.specs.Shelves.{places_made}

abbrev pub invariant-loop-i : goal.invariant-loop-i
invariant-loop-i l = (places_made 16 l.shelf ≡ places_made (16 - l.i) (places_from l.shelf l.i))
