-- `text::Line::answer` meets its contract: each part is put behind the one before it.
-- Assumes nothing.
use Rattle.listing.proofs.Putting.{◌next◌}
use Rattle.listing.proofs.text.Line.answer.Goals as goal
use Rattle.std.proofs.Common.{arith}

pub returns-in-Err : goal.returns-in-Err
returns-in-Err c = record {
  adds = rw (c.in-Err.is, ← c.number.ensures, ← c.from.ensures) (c.text.ensures next c.field.ensures.adds);
  short = omega (arith, c.text.ensures.puts.place);
}

pub returns-in-Ok : goal.returns-in-Ok
returns-in-Ok c =
    let put = c.text-in-Ok.ensures next c.field-in-Ok.ensures.adds next c.field-in-Ok-2.ensures.adds next c.speed.ensures.adds in
    record {
      adds = rw (c.in-Ok.is, ← c.from-in-Ok.ensures, ← c.from-in-Ok-2.ensures) put;
      short = omega (arith, c.text-in-Ok.ensures.puts.place);
    }
