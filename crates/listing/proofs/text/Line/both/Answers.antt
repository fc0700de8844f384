-- `text::Line::both` meets its contract: the second figure is put behind the first and a stroke.
-- Assumes nothing.
use Rattle.listing.proofs.Putting.{◌next◌}
use Rattle.listing.proofs.text.Line.both.Goals as goal
use Rattle.std.proofs.Common.{arith}

pub returns : goal.returns
returns c = record {
  adds = rw (← c.from.ensures, ← c.from-2.ensures) (c.field.ensures.adds next c.push.ensures next c.number.ensures.adds);
  short = omega (arith, c.push.ensures.puts.place);
}
