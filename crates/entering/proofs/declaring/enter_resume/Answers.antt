-- Refused out of force or with a vehicle present, and else all is made anew.
-- Assumes nothing.
use Rattle.entering.proofs.Becoming.{declared}
use Rattle.entering.proofs.declaring.enter_resume.Goals as goal
use Rattle.std.proofs.Common.{Bool, ap₂, false, sym, ℕ, ◌∙◌}
use Rattle.working.specs.Reasons.{resume_tests}
use Rattle.working.specs.Refusals.{first_of}

pub returns : goal.returns
returns c =
    let is = ap₂ (λ (f : Bool) (n : ℕ). first_of (resume_tests f n)) c.in_force.ensures c.present.ensures in
    declared false c.resume_verdict.result (sym (c.resume_verdict.ensures ∙ is)) c.declare.ensures
