-- Refused with 7, then with 22, and else the two have met.
-- Assumes nothing.
use Rattle.entering.proofs.Becoming.{meet_allowed, meet_out_of_force, meet_refused, met_by}
use Rattle.entering.proofs.declaring.enter_meet.Goals as goal
use Rattle.std.proofs.Common.{sym, ◌∙◌}

pub returns-then-not-in_force : goal.returns-then-not-in_force
returns-then-not-in_force c = meet_out_of_force _ _ _ _ (sym c.in_force.ensures ∙ c.if-not-in_force.true)

pub returns-then-not-meet : goal.returns-then-not-meet
returns-then-not-meet c =
    meet_refused _ _ _ _ (sym c.in_force.ensures ∙ c.if-not-in_force.false)
    (met_by c.station_of-to.ensures c.station_of-sender.ensures c.if-not-meet.true c.meet.ensures)

pub returns : goal.returns
returns c =
    meet_allowed _ _ _ _ (sym c.in_force.ensures ∙ c.if-not-in_force.false)
    (met_by c.station_of-to.ensures c.station_of-sender.ensures c.if-not-meet.false c.meet.ensures) c.accepted.ensures
