-- Refused out of force or with a train on either line, and else all is made anew.
-- Assumes nothing.
use Rattle.double.specs.Steps.{Resume}
use Rattle.doubleentering.proofs.Answering.{declared}
use Rattle.doubleentering.proofs.Sides.{force_is}
use Rattle.doubleentering.proofs.kinds.enter_resume.Goals as goal
use Rattle.std.proofs.Common.{Bool, ap₂, false, refl, sym, ℕ, ◌∙◌}
use Rattle.working.specs.Reasons.{resume_tests}
use Rattle.working.specs.Refusals.{first_of}

pub returns : goal.returns
returns c =
    let force = c.in_force.ensures ∙ sym (force_is c.args.words.now) in
    let is = ap₂ (λ (f : Bool) (n : ℕ). first_of (resume_tests f n)) force c.present.ensures in
    declared Resume false c.resume_verdict.result (sym (c.resume_verdict.ensures ∙ is)) refl refl c.declare.ensures
