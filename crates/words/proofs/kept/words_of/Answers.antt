-- One more vehicle enters at B's end; and then the two desks are put.
-- Assumes nothing.
use Rattle.section.proofs.Passes.{take_present}
use Rattle.std.proofs.Common.{ap, arith, length, min, rules, ◌%◌, ◌+◌, ◌∙◌, ◌≡◌}
use Rattle.words.proofs.Keeping.{own-desk, own_next}
use Rattle.words.proofs.kept.words_of.Goals as goal
use Rattle.words.specs.Words.{slots}
use Rattle.working.specs.Sections.{emptied}
use Rattle.working.specs.declared.Station.TheVariants.{A, B}

pub loop-i-preserved : goal.loop-i-preserved
loop-i-preserved c =
    let s = c.args.s in
    let long : length s.vehicles ≡ 24 = search rules in
    let at = c.on-slot.ensures ∙ ap (λ k. (k + c.loop-i.i) % slots) c.start_in.ensures in
    own_next (emptied s.force s.refused) s.vehicles c.loop-i.i c.loop-i.invariant (omega arith) long at c.on-slot.result.in_ring c.put_vehicle.ensures

pub returns : goal.returns
returns c =
    let s = c.args.s in
    let long : length s.vehicles ≡ 24 = search rules in
    let all : c.loop-i.i ≡ min s.len 24 = omega arith in
    let present = rw (all, take_present s.vehicles s.len 24 long) at c.loop-i.invariant in
    own-desk B s.b (own-desk A s.a present c.put_desk.ensures.0) c.put_desk-2.ensures.0
