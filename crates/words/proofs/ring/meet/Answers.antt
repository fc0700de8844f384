-- Two that may meet are both present; each has then met another, and else nothing is altered.
-- Assumes nothing.
use Rattle.std.proofs.Common.{ap, arith, length, refl, sym, ◌+◌, ◌<◌, ◌∙◌}
use Rattle.words.proofs.Becoming.{becomes_as}
use Rattle.words.proofs.Ends.{both_met, met_length}
use Rattle.words.proofs.VehiclesIn.{may_meet_in, present_length}
use Rattle.words.proofs.ring.meet.Goals as goal
use Rattle.words.specs.Words.{section_in}
use Rattle.working.specs.Reasons.{may_meet}
use Rattle.working.specs.Sections.{vehicles_of, with_vehicles}
use Rattle.working.specs.Steps.{met_at}

pub overflow_add-i : goal.overflow_add-i
overflow_add-i c = omega (arith, c.in-Some.ensures, present_length c.args.words.now)

pub put_met-requires-then-may : goal.put_met-requires-then-may
put_met-requires-then-may c =
    let l = vehicles_of (section_in c.args.words.now) in
    let both : c.in-Some.i + 1 < length l = may_meet_in l c.in-Some.i (sym c.may_meet-may.ensures ∙ c.if-may.true) in
    omega (arith, met_length c.args.to c.in-Some.i c.put_met.ensures)

pub returns-then-may : goal.returns-then-may
returns-then-may c =
    let s = section_in c.args.words.now in
    let found = sym c.in-Some.ensures.0 in
    let met = both_met c.args.to c.in-Some.i c.put_met.ensures c.put_met-then-may.ensures in
    record {
      may = c.may_meet-may.ensures ∙ ap (may_meet (vehicles_of s)) found;
      words = rw c.if-may.true (becomes_as met (ap (λ i. with_vehicles s (met_at c.args.to i (vehicles_of s))) found) refl);
    }
