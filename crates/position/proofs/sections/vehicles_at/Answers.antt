-- One more vehicle stands at its place.
-- Assumes nothing.
use Rattle.position.proofs.Places.{length-vehicles_from, vehicle_there}
use Rattle.position.proofs.sections.vehicles_at.Goals as goal
use Rattle.position.specs.Reading.{vehicles_from}
use Rattle.std.proofs.Common.{ap, arith, drop, length, min, rules, set, sym, take, ◌*◌, ◌/◌, ◌<◌, ◌∙◌, ◌≡◌}
use Rattle.working.proofs.laws.OwnPlaces.{place_next}
use Rattle.working.specs.Positions.{vehicle_in}
use Rattle.working.specs.Sections.{pad_to, pad_with}
use lib.Seq.{take_all}
use mathlib.Core.Path.{ap₂}

pub loop-i-init : goal.loop-i-init
unfolding pad_with
loop-i-init c = rw c.unused-places.ensures

pub loop-i-preserved : goal.loop-i-preserved
loop-i-preserved c =
    let bytes = c.args.bytes.now in
    let count = c.min-count.result in
    let i = c.loop-i.i in
    let less : i < length (vehicles_from count bytes) = omega (arith, length-vehicles_from count bytes) in
    let there : c.unwrap.result.now ≡ take 10 (drop (10 * i) bytes) = search rules in
    let vehicle = c.vehicle_in.ensures ∙ ap vehicle_in there ∙ sym (vehicle_there count i bytes (omega arith)) in
    ap₂ (λ t v. set t i v) c.loop-i.invariant vehicle ∙ place_next (vehicles_from count bytes) i less

pub returns : goal.returns
returns c =
    let bytes = c.args.bytes.now in
    let count = c.min-count.result in
    let all = take_all c.loop-i.i (vehicles_from count bytes) (omega (arith, length-vehicles_from count bytes)) in
    let most : count ≡ min (min c.args.count 24) (length bytes / 10) = c.min-count.ensures ∙ ap (λ n. min n (length bytes / 10)) c.min.ensures in
    c.loop-i.invariant ∙ ap (pad_to 24) all ∙ ap (λ n. pad_to 24 (vehicles_from n bytes)) most
