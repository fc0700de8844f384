-- `put` stores asked, holds and owes in their three words; each is below 256, so that it is read back as it was put.
-- Assumes nothing.
use Rattle.std.proofs.Common.{arith, refl}
use Rattle.words.proofs.DeskWords.{desk_becomes, put_next}
use Rattle.words.proofs.desks.put_clears.Goals as goal
use Rattle.words.specs.Words.{with_clears}

pub returns : goal.returns
returns c = desk_becomes (with_clears c.args.c) (put_next (put_next c.put.ensures c.put-2.ensures) c.put-3.ensures) (grind arith) (λ d. refl)
