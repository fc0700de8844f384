-- A line with any train on it has its first in the first place.
-- Assumes nothing.
use Rattle.doubleentering.proofs.Numbers.{first_of, line_from, place_at, places_count}
use Rattle.doubleentering.proofs.Sides.{line_is}
use Rattle.doubleentering.proofs.places.is_first.Goals as goal
use Rattle.doubleentering.specs.DoubleWords.{places_in}
use Rattle.std.proofs.Common.{arith, length, rules, ◌+◌, ◌≡◌}
use Rattle.words.specs.Words.{ring_in, word_count}

pub returns : goal.returns
returns c =
    let at = c.args.at in
    let w = c.args.words.now in
    let long : length w ≡ word_count = search rules in
    let count = places_count w long at in
    let there : line_from at + 0 ≡ c.line_from.result = omega arith in
    rw (
      line_is w long at,
      first_of c.args.form _ (places_in (ring_in w) at) (omega arith),
      place_at w at 0 (omega arith),
      there,
      c.desk-d.ensures,
    )
