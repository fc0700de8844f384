-- They are the words of an empty section, with both sides put into them.
-- Assumes nothing.
use Rattle.double.specs.Sections.{with_side}
use Rattle.double.specs.declared.Section.{Section}
use Rattle.doubleentering.proofs.Sides.{made_anew}
use Rattle.doubleentering.proofs.kept.words_of.Goals as goal
use Rattle.doubleentering.specs.DoubleWords.{trimmed_side}
use Rattle.std.proofs.Common.{ap, ◌∙◌}
use Rattle.working.specs.declared.Station.TheVariants.{A, B}

pub returns : goal.returns
returns c =
    let s = c.args.s in
    let empty = made_anew c.emptied_words-words.ensures in
    let with-a = c.put_side.ensures ∙ ap (λ (t : Section). with_side t A (trimmed_side s.a)) empty in
    c.put_side-2.ensures ∙ ap (λ (t : Section). with_side t B (trimmed_side s.b)) with-a
