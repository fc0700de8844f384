-- The head has bytes for all the places, and each figure is read off the bytes from its place on.
-- Assumes nothing.
use Rattle.figures.proofs.Places.{section_places}
use Rattle.figures.proofs.sections.section_in.Goals as goal
use Rattle.position.proofs.HighFirst.{chunk_there}
use Rattle.std.proofs.Common.{arith, drop, length, refl, rules, take, ◌≡◌, ◌≤◌}

pub returns : goal.returns
returns c =
    let figures = c.args.figures.now in
    let long : 240 ≤ length figures = search rules in
    let counts : c.unwrap.result.now ≡ take 12 (drop 242 figures) = chunk_there figures 242 42 12 _ _ (omega arith) c.first_chunk.ensures.cases c.unwrap.ensures in
    let a : c.unwrap-2.result.now ≡ take 14 (drop 254 figures) = chunk_there figures 254 30 14 _ _ (omega arith) c.first_chunk-2.ensures.cases c.unwrap-2.ensures in
    let b : c.unwrap-3.result.now ≡ take 14 (drop 268 figures) = chunk_there figures 268 16 14 _ _ (omega arith) c.first_chunk-3.ensures.cases c.unwrap-3.ensures in
    rw (c.vehicles_at.ensures, section_places figures long, c.from.ensures, c.counts_in.ensures, c.desk_in.ensures, c.desk_in-2.ensures, counts, a, b) refl
