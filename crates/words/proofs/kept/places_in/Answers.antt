-- One more vehicle stands at its place. At the end all that are present stand there, and the places behind them are unused.
-- Assumes nothing.
use Rattle.std.proofs.Common.{ap, arith, set, ◌∙◌}
use Rattle.words.proofs.VehiclesIn.{places_of}
use Rattle.words.proofs.kept.places_in.Goals as goal
use Rattle.words.specs.Words.{section_in}
use Rattle.working.proofs.laws.OwnPlaces.{place_next}
use Rattle.working.specs.Sections.{pad_to, pad_with, vehicles_of}
use lib.Seq.{take_all}
use mathlib.Core.Path.{ap₂}

pub loop-i-init : goal.loop-i-init
unfolding pad_with
loop-i-init c = rw c.unused-places.ensures

pub loop-i-preserved : goal.loop-i-preserved
loop-i-preserved c =
    ap₂ (λ t v. set t c.loop-i.i v) c.loop-i.invariant c.at_place.ensures ∙ place_next (vehicles_of (section_in c.args.words.now)) c.loop-i.i (omega arith)

pub returns : goal.returns
returns c =
    let w = c.args.words.now in
    c.loop-i.invariant ∙ ap (pad_to 24) (take_all c.loop-i.i (vehicles_of (section_in w)) (omega arith)) ∙ places_of w
