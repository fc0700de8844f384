-- A run of one entry is the step on its bytes, and where there are none the refusal is 1.
-- Assumes nothing.
use Rattle.std.proofs.Common.{ap, sym, ◌∙◌}
use Rattle.std.specs.Prelude.{None}
use Rattle.step.proofs.Advancing.{last_is}
use Rattle.step.proofs.OneEntry.{answered, unanswered}
use Rattle.step.proofs.positions.entered.Goals as goal
use Rattle.words.specs.Words.{section_in}
use Rattle.working.specs.Sections.{count_refusal}

pub returns-in-None : goal.returns-in-None
returns-in-None c =
    let ran = c.advance-done.ensures in
    let none = unanswered (section_in c.args.words.now) c.args.entry.now c.requires (sym (last_is ran) ∙ c.in-None.is) in
    rw none.step (c.refuse.ensures.answer, c.refuse.ensures.words.section ∙ ap (count_refusal None) (ran.words.section ∙ none.section))

pub returns-in-Some : goal.returns-in-Some
returns-in-Some c =
    let ran = c.advance-done.ensures in
    let one = answered (section_in c.args.words.now) c.args.entry.now _ (sym (last_is ran) ∙ c.in-Some.is) in
    (one.0, ran.words.section ∙ one.1)
