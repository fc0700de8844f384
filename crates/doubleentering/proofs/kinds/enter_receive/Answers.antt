-- The tests are the definition's, and where none holds the clock is put here and the first taken off the other's line.
-- Assumes nothing.
use Rattle.doubleentering.proofs.Answering.{not_next, not_taken, taken_in_lem}
use Rattle.doubleentering.proofs.kinds.enter_receive.Goals as goal
use Rattle.entering.proofs.Becoming.{look, passed_on}

pub returns-in_err-station_verdict : goal.returns-in_err-station_verdict
returns-in_err-station_verdict c =
    let l = look c.args.e c.station_of-at.ensures c.desk-d.ensures c.in_force.ensures c.station_verdict.ensures in
    not_taken l c.station_of-sender.ensures c.in_err-station_verdict.was (passed_on c.from_residual.ensures.1)

pub returns-then-not-is_next : goal.returns-then-not-is_next
returns-then-not-is_next c =
    let l = look c.args.e c.station_of-at.ensures c.desk-d.ensures c.in_force.ensures c.station_verdict.ensures in
    not_next l c.station_of-sender.ensures c.in_ok-station_verdict.was c.is_next.ensures c.if-not-is_next.true

pub returns : goal.returns
returns c =
    let l = look c.args.e c.station_of-at.ensures c.desk-d.ensures c.in_force.ensures c.station_verdict.ensures in
    taken_in_lem l c.station_of-sender.ensures c.in_ok-station_verdict.was c.is_next.ensures c.if-not-is_next.false c.accepted.ensures c.other.ensures
    c.put_clock.ensures.0 c.put_clock.ensures.1 c.take_first.ensures
