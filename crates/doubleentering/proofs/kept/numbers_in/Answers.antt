-- One more number is read off its place, and at the end zeros stand behind those on the line.
-- Assumes nothing.
use Rattle.doubleentering.proofs.Numbers.{padded, place_at, places_count}
use Rattle.doubleentering.proofs.Sides.{side_is}
use Rattle.doubleentering.proofs.kept.numbers_in.Goals as goal
use Rattle.doubleentering.specs.DoubleWords.{places_in}
use Rattle.section.proofs.Passes.{take_present}
use Rattle.std.proofs.Common.{ap, arith, length, min, rules, take, ◌∙◌, ◌≡◌}
use Rattle.words.proofs.DeskWords.{figure_next}
use Rattle.words.specs.Words.{ring_in, word_count}
use Rattle.working.specs.Sections.{pad_with}
use lib.ListN.{replicate}

pub loop-i-preserved : goal.loop-i-preserved
loop-i-preserved c =
    let w = c.args.words.now in
    let i = c.loop-i.i in
    let long : length w ≡ word_count = search rules in
    let t = places_in (ring_in w) c.args.at in
    let count = places_count w long c.args.at in
    let next = figure_next t (replicate 12 0) i (omega arith) (omega arith) in
    rw (c.line_from-from.ensures.0, ← place_at w c.args.at i (omega arith), c.loop-i.invariant) next

pub returns : goal.returns
returns c =
    let at = c.args.at in
    let w = c.args.words.now in
    let long : length w ≡ word_count = search rules in
    let t = places_in (ring_in w) at in
    let count = places_count w long at in
    let n = c.desk.result.sent in
    let present : c.loop-i.i ≡ min n 12 = omega arith in
    c.loop-i.invariant ∙ padded c.loop-i.i 12 t count ∙ ap (λ k. pad_with 0 12 (take k t)) present
    ∙ ap (pad_with 0 12) (take_present t n 12 count) ∙ rw (side_is w at, c.desk.ensures)
