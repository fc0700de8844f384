-- What is opened to compute a step of a double line, and the turns of a log.
-- Assumes nothing.
use Rattle.double.specs.Steps.{decode, step_of}
use Rattle.double.specs.WellMade.{well_made}
use Rattle.working.proofs.examples.Computing.{reading_computes}
use Rattle.working.specs.Sections.{pad_with}
use Rattle.working.specs.Turns.{turns_from}

unfoldable pub step_computes : Unit {0}
unfolding decode pad_with reading_computes step_of well_made
step_computes = tt

unfoldable pub turns_compute : Unit {0}
unfolding step_computes turns_from
turns_compute = tt
