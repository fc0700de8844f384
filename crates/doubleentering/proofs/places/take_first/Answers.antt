-- One less is on the line, and every number has moved up.
-- Assumes nothing.
use Rattle.doubleentering.proofs.Sides.{first_taken_lem}
use Rattle.doubleentering.proofs.places.take_first.Goals as goal
use Rattle.std.proofs.Common.{ap, min, ◌-◌, ◌∙◌}
use Rattle.working.specs.declared.Desk.{Desk}

pub returns : goal.returns
returns c =
    let is = c.saturating_sub.ensures ∙ ap (◌- 1) c.min.ensures ∙ ap (λ (d : Desk). min d.sent 12 - 1) c.desk-d.ensures in
    first_taken_lem c.args.at c.saturating_sub.result is c.put_sent.ensures.0 c.put_sent.ensures.1 c.move_up.ensures
