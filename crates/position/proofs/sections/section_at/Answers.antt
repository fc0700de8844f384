-- The bytes are enough for the vehicles present, and each figure is read off the bytes from its place on.
-- Assumes nothing.
use Rattle.position.proofs.HighFirst.{chunk_there}
use Rattle.position.proofs.Places.{all_present}
use Rattle.position.proofs.sections.section_at.Goals as goal
use Rattle.std.proofs.Common.{arith, drop, length, refl, rules, take, ◌≡◌}
use Rattle.working.specs.Positions.{section_at}

pub returns : goal.returns
unfolding section_at
returns c =
    let p = c.args.p.now in
    let long : length p ≡ 281 = search rules in
    let counts : c.unwrap.result.now ≡ take 12 (drop 241 p) = chunk_there p 241 40 12 _ _ (omega arith) c.first_chunk.ensures.cases c.unwrap.ensures in
    let a : c.unwrap-2.result.now ≡ take 14 (drop 253 p) = chunk_there p 253 28 14 _ _ (omega arith) c.first_chunk-2.ensures.cases c.unwrap-2.ensures in
    let b : c.unwrap-3.result.now ≡ take 14 (drop 267 p) = chunk_there p 267 14 14 _ _ (omega arith) c.first_chunk-3.ensures.cases c.unwrap-3.ensures in
    rw (c.vehicles_at.ensures, c.present_at-present.ensures.0, all_present p long, c.counts_in.ensures, c.desk_in.ensures, c.desk_in-2.ensures, counts, a, b) refl
