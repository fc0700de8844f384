-- The tests are the definition's, and where none holds the guest leaves and the enquiry is answered.
-- Assumes nothing.
use Rattle.entering.proofs.Becoming.{act_done, first_refused, left_with, look, may_leave, own-refused, pass, passed_on, unaltered}
use Rattle.entering.proofs.departures.enter_return.Goals as goal
use Rattle.std.proofs.Common.{arith}
use Rattle.words.proofs.Becoming.{desk_then}
use Rattle.words.specs.Words.{with_clears, with_guest}
use Rattle.working.specs.Reasons.{return_tests}

pub returns-in_err-station_verdict : goal.returns-in_err-station_verdict
returns-in_err-station_verdict c =
    let l = look c.args.e c.station_of-at.ensures c.desk-d.ensures c.in_force.ensures c.station_verdict.ensures in
    first_refused l c.in_err-station_verdict.was (passed_on c.from_residual.ensures.1) (unaltered _)

pub returns-in_err-departure_verdict : goal.returns-in_err-departure_verdict
returns-in_err-departure_verdict c =
    let l = look c.args.e c.station_of-at.ensures c.desk-d.ensures c.in_force.ensures c.station_verdict.ensures in
    own-refused (pass l c.in_ok-station_verdict.was (c.departure_verdict.ensures (return_tests l.desk c.args.e.granted) c.return_verdict.ensures)) c.in_err-departure_verdict.was
    (passed_on c.from_residual-in_err-departure_verdict.ensures.1) (unaltered _)

pub overflow_add-form : goal.overflow_add-form
overflow_add-form c =
    let tests = return_tests c.desk-d.result c.args.e.granted in
    omega (arith, (may_leave tests c.desk-d.result c.args.e.time (c.departure_verdict.ensures tests c.return_verdict.ensures) c.in_ok-departure_verdict.was).0)

pub overflow_add-sent : goal.overflow_add-sent
overflow_add-sent c =
    let tests = return_tests c.desk-d.result c.args.e.granted in
    omega (arith, (may_leave tests c.desk-d.result c.args.e.time (c.departure_verdict.ensures tests c.return_verdict.ensures) c.in_ok-departure_verdict.was).1)

pub returns : goal.returns
returns c =
    let l = look c.args.e c.station_of-at.ensures c.desk-d.ensures c.in_force.ensures c.station_verdict.ensures in
    act_done (pass l c.in_ok-station_verdict.was (c.departure_verdict.ensures (return_tests l.desk c.args.e.granted) c.return_verdict.ensures)) c.in_ok-departure_verdict.was
    (record {
      answer = rw c.clear_forms.ensures;
      words = rw (← c.return_clears.ensures)
          (left_with l c.vehicle_for-v.ensures c.depart.ensures (λ d. with_clears c.return_clears.result (with_guest 0 d))
          (desk_then l.at (with_guest 0) (with_clears c.return_clears.result) c.put_guest.ensures c.put_clears.ensures));
    })
