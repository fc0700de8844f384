-- Fewer than 24 vehicles have been surveyed, so there is room for one more, and it stands in front of them; at the end all have been.
-- Assumes nothing.
use Rattle.section.proofs.Passes.{fewer_passed, one_passed, passed, whole_passed}
use Rattle.section.proofs.Tallies.{room}
use Rattle.section.proofs.made.survey_of.Goals as goal
use Rattle.section.specs.Made.{survey_of}
use Rattle.std.proofs.Common.{ap, arith, ◌∙◌}
use Rattle.std.proofs.lemmas.Iterator.Adapters.{YieldsList-from_rev_slice}
use Rattle.std.proofs.lemmas.Iterator.Consumers.{YieldsList-end, YieldsList-turn}

pub seen-survey-requires : goal.seen-survey-requires
seen-survey-requires c =
    let a = c.args in
    let l = c.loop-v in
    let turn = YieldsList-turn (YieldsList-from_rev_slice a.vehicles.now (cc)) l.yielded _ l.yielded_by _ _ _ c.in-Some.is c.next.ensures.steps in
    rw l.invariant (room a.last_a a.last_b (passed l.yielded) (omega (arith, fewer_passed l.yielded a.vehicles.now turn.0)))

pub loop-v-preserved : goal.loop-v-preserved
loop-v-preserved c = rw one_passed (rw (c.seen-survey.ensures, c.loop-v.invariant))

pub returns : goal.returns
returns c =
    let a = c.args in
    let l = c.loop-v in
    let end = YieldsList-end (YieldsList-from_rev_slice a.vehicles.now (cc)) l.yielded _ l.yielded_by _ _ c.in-None.is c.next.ensures.steps in
    l.invariant ∙ ap (survey_of a.last_a a.last_b) (whole_passed l.yielded a.vehicles.now end.0)
