-- Refused in force, and else all is made anew.
-- Assumes nothing.
use Rattle.double.specs.Steps.{Begin}
use Rattle.doubleentering.proofs.Answering.{declared}
use Rattle.doubleentering.proofs.Sides.{force_is}
use Rattle.doubleentering.proofs.kinds.enter_begin.Goals as goal
use Rattle.std.proofs.Common.{Bool, ap, refl, sym, true, ◌∙◌}
use Rattle.working.specs.Reasons.{begin_tests}
use Rattle.working.specs.Refusals.{first_of}

pub returns : goal.returns
returns c =
    let is = ap (λ (f : Bool). first_of (begin_tests f)) (c.in_force.ensures ∙ sym (force_is c.args.words.now)) in
    declared Begin true c.begin_verdict.result (sym (c.begin_verdict.ensures ∙ is)) refl refl c.declare.ensures
