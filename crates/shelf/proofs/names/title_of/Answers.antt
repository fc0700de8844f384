-- A name copied to the front of 12 zeros is its title.
-- Assumes nothing.
use Rattle.shelf.proofs.Titles.{in_front}
use Rattle.shelf.proofs.names.title_of.Goals as goal

pub returns : goal.returns
returns c = rw c.copy_from_slice.ensures.after (in_front 12 c.args.name.now c.requires)
