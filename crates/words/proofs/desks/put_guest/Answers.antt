-- `put` stores the guest's class in its word; it is below 256, so that it is read back as it was put.
-- Assumes nothing.
use Rattle.std.proofs.Common.{arith, refl}
use Rattle.words.proofs.DeskWords.{desk_becomes}
use Rattle.words.proofs.desks.put_guest.Goals as goal
use Rattle.words.specs.Words.{with_guest}

pub returns : goal.returns
returns c = desk_becomes (with_guest c.args.guest) c.put.ensures (grind arith) (λ d. refl)
