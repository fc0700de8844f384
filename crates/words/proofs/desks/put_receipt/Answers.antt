-- `put` stores clock, sent and 0 for the interval in their three words; each fits its type, so that it is read back as it was put.
-- Assumes nothing.
use Rattle.std.proofs.Common.{arith, refl}
use Rattle.words.proofs.DeskWords.{desk_becomes, put_next}
use Rattle.words.proofs.desks.put_receipt.Goals as goal
use Rattle.words.specs.Words.{with_receipt}

pub returns : goal.returns
returns c = desk_becomes (with_receipt c.args.time c.args.sent) (put_next (put_next c.put.ensures c.put-2.ensures) c.put-3.ensures) (grind arith) (λ d. refl)
