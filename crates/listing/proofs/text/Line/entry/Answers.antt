-- `text::Line::entry` meets its contract: each field is put behind the one before it.
-- Assumes nothing.
use Rattle.listing.proofs.Putting.{◌next◌}
use Rattle.listing.proofs.text.Line.entry.Goals as goal
use Rattle.listing.specs.LineText.{line_text}

pub returns : goal.returns
unfolding line_text
returns c =
    let put = c.number.ensures.adds next c.field.ensures.adds next c.push.ensures next c.push-2.ensures next c.answer.ensures.adds next c.push-3.ensures in
    rw (← c.from.ensures, ← c.letter_at.ensures) put
