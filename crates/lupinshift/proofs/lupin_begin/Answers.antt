-- The fresh section's words, and the start of the log's listing, are kept in the words lent.
-- Assumes nothing.
use Rattle.lupinshift.proofs.Keeping.{begins}
use Rattle.lupinshift.proofs.lupin_begin.Goals as goal

pub returns : goal.returns
returns c = begins c.in-Some.ensures.cases.enough c.fresh_words.ensures c.start_of.ensures c.keep.ensures
