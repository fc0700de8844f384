-- `any` looks at the places from a place on, as the definition does.
-- Assumes nothing.
use Rattle.shelf.proofs.Chunks.{among_parts, has, places_yielded}
use Rattle.shelf.proofs.Titles.{to_end}
use Rattle.shelf.proofs.places.is_among.Goals as goal
use Rattle.std.proofs.Common.{arith, drop, length, length-drop, rules, tests, ◌*◌, ◌-◌, ◌∙◌, ◌≡◌}
use Rattle.std.proofs.lemmas.Iterator.Search.{any_from_yields_List}

pub returns : goal.returns
returns c =
    let from = c.args.from in
    let title = c.args.title.now in
    let rest = drop (293 * from) c.args.shelf.now in
    let long : length rest ≡ 293 * (16 - from) = omega (arith, length-drop (293 * from) c.args.shelf.now) in
    let whole = c.chunks_exact.ensures.rest ∙ to_end c.args.shelf.now (293 * from) 4688 (omega arith) in
    any_from_yields_List (has title) _ _ _ c.any.ensures.ran (places_yielded _ rest (16 - from) c.chunks_exact.ensures.size whole long) (λ x b q k. search (rules, tests))
    ∙ among_parts title (omega arith) (16 - from) rest
