-- The tests are the definition's, and where none holds the train is the last on its line.
-- Assumes nothing.
use Rattle.doubleentering.proofs.Answering.{has_left, may_leave, may_not_leave}
use Rattle.doubleentering.proofs.kinds.enter_train.Goals as goal
use Rattle.entering.proofs.Becoming.{look, passed_on, station_by}
use Rattle.std.proofs.Common.{ap, arith, refl}
use Rattle.working.specs.declared.Desk.{Desk}

pub returns-in_err-departure_verdict : goal.returns-in_err-departure_verdict
returns-in_err-departure_verdict c =
    let l = look c.args.e c.station_of-at.ensures c.desk-d.ensures c.in_force.ensures c.station_verdict.ensures in
    may_not_leave l (c.departure_verdict.ensures (station_by l) c.station_verdict.ensures) c.in_err-departure_verdict.was
    (passed_on c.from_residual.ensures.1)

pub overflow_add-form : goal.overflow_add-form
overflow_add-form c =
    let l = look c.args.e c.station_of-at.ensures c.desk-d.ensures c.in_force.ensures c.station_verdict.ensures in
    omega (arith, may_leave l (c.departure_verdict.ensures (station_by l) c.station_verdict.ensures) c.in_ok-departure_verdict.was)

pub put_train-requires : goal.put_train-requires
put_train-requires c =
    let l = look c.args.e c.station_of-at.ensures c.desk-d.ensures c.in_force.ensures c.station_verdict.ensures in
    let may = may_leave l (c.departure_verdict.ensures (station_by l) c.station_verdict.ensures) c.in_ok-departure_verdict.was in
    (ap (λ (d : Desk). d.sent) c.desk-d.ensures, may.room)

pub returns : goal.returns
returns c =
    let l = look c.args.e c.station_of-at.ensures c.desk-d.ensures c.in_force.ensures c.station_verdict.ensures in
    has_left l (c.departure_verdict.ensures (station_by l) c.station_verdict.ensures) c.in_ok-departure_verdict.was refl c.put_train.ensures
