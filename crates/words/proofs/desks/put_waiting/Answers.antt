-- `put` stores waiting in its word; it is below 256, so that it is read back as it was put.
-- Assumes nothing.
use Rattle.std.proofs.Common.{arith, refl}
use Rattle.words.proofs.DeskWords.{desk_becomes}
use Rattle.words.proofs.desks.put_waiting.Goals as goal
use Rattle.words.specs.Words.{with_waiting}

pub returns : goal.returns
returns c = desk_becomes (with_waiting c.args.waiting) c.put.ensures (grind arith) (λ d. refl)
