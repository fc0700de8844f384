-- A well-made section is its own lines padded, since its arrays have the places of their type.
-- Assumes nothing.
use Rattle.std.proofs.Common.{length, rules, ◌≡◌}
use Rattle.step.proofs.Own.{own_lines}
use Rattle.step.proofs.double_line.SectionLine.words_of.Goals as goal

pub returns : goal.returns
returns c made =
    let s = c.args.self in
    let long-a : length s.a.numbers ≡ 12 = search rules in
    let long-b : length s.b.numbers ≡ 12 = search rules in
    rw (own_lines s long-a long-b made) at c.words_of.ensures
