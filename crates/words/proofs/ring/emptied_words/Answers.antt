-- Every word but four is 0.
-- Assumes nothing.
use Rattle.std.proofs.Common.{arith}
use Rattle.words.proofs.Keeping.{own-emptied}
use Rattle.words.proofs.ring.emptied_words.Goals as goal

pub returns : goal.returns
returns c = rw c.from.ensures (own-emptied c.args.force c.args.counts (omega arith) (omega arith) (omega arith))
