-- The place of one more vehicle is put.
-- Assumes nothing.
use Rattle.position.proofs.Places.{put_next}
use Rattle.position.proofs.sections.places_in.Goals as goal
use Rattle.std.proofs.Common.{ap, arith, refl, replicate, rules, ◌*◌, ◌∙◌}
use Rattle.words.specs.Words.{section_in}
use Rattle.working.specs.Entries.{pasted}
use Rattle.working.specs.Positions.{places_bytes, vehicle_bytes}
use Rattle.working.specs.Sections.{vehicles_of}
use mathlib.Core.Path.{ap₂}

pub loop-i-init : goal.loop-i-init
unfolding places_bytes
loop-i-init c = record { long = refl; so_far = refl }

pub loop-i-preserved : goal.loop-i-preserved
loop-i-preserved c =
    let vehicles = vehicles_of (section_in c.args.words.now) in
    let i = c.loop-i.i in
    let bytes = c.vehicle_bytes.ensures ∙ ap vehicle_bytes c.vehicle.ensures in
    let next = c.put_bytes.ensures ∙ ap₂ (λ t v. pasted t (10 * i) v) c.loop-i.invariant.so_far bytes
    ∙ put_next vehicles i (replicate 41 0) (omega arith) (omega arith) in
    record { long = search rules; so_far = next }
