-- 1 or 0 comes back as the test.
-- Assumes nothing.
use Rattle.words.proofs.DeskWords.{desk_becomes}
use Rattle.words.proofs.Packing.{one_back_lem}
use Rattle.words.proofs.desks.put_out.Goals as goal
use Rattle.words.specs.Words.{with_out}

pub returns : goal.returns
returns c =
    let word = c.from.ensures in
    desk_becomes (with_out c.args.out) c.put.ensures (rw (word, one_back_lem c.args.out)) (λ d. rw word)
