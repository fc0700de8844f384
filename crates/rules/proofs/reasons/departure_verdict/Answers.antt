-- A refusal by the kind's own tests stands, and where they refuse nothing 17 to 19 decide.
-- Assumes nothing.
use Rattle.rules.proofs.reasons.departure_verdict.Goals as goal
use Rattle.std.proofs.Common.{Err, ap, sym, ◌∙◌}
use Rattle.std.proofs.lemmas.Result.{err_from_is_err_and}
use Rattle.working.proofs.laws.Scans.{first_passes, first_refuses}

pub returns-in_err-own : goal.returns-in_err-own
returns-in_err-own c tests is =
    let p = err_from_is_err_and c.from_residual.result c.from_residual.ensures.1 in
    p.1 ∙ ap Err p.2 ∙ sym (first_refuses tests _ (sym is ∙ c.in_err-own.was))

pub returns : goal.returns
returns c tests is = c.last_verdict.ensures ∙ sym (first_passes tests _ (sym is ∙ c.in_ok-own.was))
