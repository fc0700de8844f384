-- No place is put at first, and one more is put behind those before it.
-- Assumes nothing.
use Rattle.figures.proofs.section_written.put_vehicles.Goals as goal
use Rattle.figures.specs.Written.{put_places}
use Rattle.std.proofs.Common.{refl}
use native.Mathlib.Numerals.{add-one}

pub loop-i-init : goal.loop-i-init
unfolding put_places
loop-i-init c = refl

pub loop-i-preserved : goal.loop-i-preserved
unfolding put_places
loop-i-preserved c = rw add-one (cc)
