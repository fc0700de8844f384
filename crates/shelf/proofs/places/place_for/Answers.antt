-- `position` looks for the name's place, or the first that begins with a zero, as the definition does.
-- Assumes nothing.
use Rattle.shelf.proofs.Chunks.{found, has, length-parts, place_in_parts, place_most, places_yielded}
use Rattle.shelf.proofs.places.place_for.Goals as goal
use Rattle.std.proofs.Common.{[], arith, rules, take, tests, ◌||◌, ◌∷◌}
use Rattle.std.proofs.lemmas.Iterator.Search.{position_from_yields_List}
use Rattle.std.specs.Cmp.Lexicographic.{pointwise}
use Rattle.working.specs.Shelves.{place_for}
use lib.Dec.{eqb}

pub returns : goal.returns
returns c =
    let shelf = c.args.shelf.now in
    let title = c.args.title.now in
    let at = position_from_yields_List (λ place. has title place || pointwise eqb (0 ∷ []) (take 1 place)) _ _ _ c.position.ensures.ran
    (places_yielded _ shelf 16 c.chunks_exact.ensures.size c.chunks_exact.ensures.rest (omega arith)) (λ x b q k. search (rules, tests)) in
    found _ (place_for title 16 shelf) (place_most title 16 shelf) (rw (length-parts 16 shelf, place_in_parts title (omega arith) 16 shelf (omega arith)) at at)
