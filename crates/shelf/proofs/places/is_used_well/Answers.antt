-- Its tests are the definition's, of the place's title, of its position and of the places behind it.
-- Assumes nothing.
use Rattle.position.proofs.HighFirst.{chunk_there}
use Rattle.shelf.proofs.Walk.{used_here}
use Rattle.shelf.proofs.places.is_used_well.Goals as goal
use Rattle.std.proofs.Common.{arith, drop, take, ◌*◌, ◌+◌, ◌-◌, ◌≡◌}

pub returns : goal.returns
returns c =
    let i = c.args.i in
    let rest : 293 * i + 293 - (293 * i + 12) ≡ 281 = omega arith in
    let title : c.unwrap-title.result.now ≡ take 12 (drop (293 * i) c.args.shelf.now) =
    chunk_there c.args.shelf.now (293 * i) (4688 - 293 * i) 12 _ _ (omega arith) c.first_chunk.ensures.cases c.unwrap-title.ensures in
    rw (c.is_among.ensures, c.is_position.ensures, c.is_title.ensures, title, rest) (used_here c.args.shelf.now i (omega arith))
