-- Refused in force, and else all is made anew.
-- Assumes nothing.
use Rattle.entering.proofs.Becoming.{declared}
use Rattle.entering.proofs.declaring.enter_begin.Goals as goal
use Rattle.std.proofs.Common.{ap, sym, true, ◌∙◌}
use Rattle.working.specs.Reasons.{begin_tests}
use Rattle.working.specs.Refusals.{first_of}

pub returns : goal.returns
returns c = declared true c.begin_verdict.result (sym (c.begin_verdict.ensures ∙ ap (λ f. first_of (begin_tests f)) c.in_force.ensures)) c.declare.ensures
