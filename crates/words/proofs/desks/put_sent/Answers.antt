-- `put` stores sent in its word; it is below 256, so that it is read back as it was put.
-- Assumes nothing.
use Rattle.std.proofs.Common.{arith, refl}
use Rattle.words.proofs.DeskWords.{desk_becomes, ring-kept}
use Rattle.words.proofs.desks.put_sent.Goals as goal
use Rattle.words.specs.Words.{with_sent}

pub returns : goal.returns
returns c = (desk_becomes (with_sent c.args.count) c.put.ensures (grind arith) (λ d. refl), ring-kept c.put.ensures)
