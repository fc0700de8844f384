-- `put` stores the clock in its word; a minute is below 65,536, so that it is read back as it was put.
-- Assumes nothing.
use Rattle.std.proofs.Common.{arith, refl}
use Rattle.words.proofs.DeskWords.{desk_becomes, ring-kept}
use Rattle.words.proofs.desks.put_clock.Goals as goal
use Rattle.words.specs.Words.{with_clock}

pub returns : goal.returns
returns c = (desk_becomes (with_clock c.args.minute) c.put.ensures (grind arith) (λ d. refl), ring-kept c.put.ensures)
