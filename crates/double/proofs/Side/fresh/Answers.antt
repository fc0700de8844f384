-- Twelve zeros are an empty line in its places.
-- Assumes nothing.
use Rattle.double.proofs.Side.fresh.Goals as goal
use Rattle.std.proofs.Common.{refl}
use Rattle.working.specs.Sections.{pad_with}

pub returns : goal.returns
unfolding pad_with
returns c = refl
