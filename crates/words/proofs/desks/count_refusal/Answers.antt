-- The word stored is the only one that is altered, and it is in range.
-- Assumes nothing.
use Rattle.std.proofs.Common.{ap, arith, length, rules, ◌∙◌, ◌≡◌}
use Rattle.words.proofs.DeskWords.{count_becomes, more_counted}
use Rattle.words.proofs.desks.count_refusal.Goals as goal
use Rattle.words.specs.Words.{word_count}
use Rattle.working.specs.Sections.{one_more}

pub returns : goal.returns
returns c =
    let w = c.args.words.now in
    let long : length w ≡ word_count = search rules in
    rw c.count_place.ensures.0 (count_becomes c.args.whose w long (omega arith) (c.saturating_add-more.ensures ∙ more_counted c.count.result (omega arith) ∙ ap one_more c.count.ensures))
