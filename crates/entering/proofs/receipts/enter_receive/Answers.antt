-- The tests are the definition's, and where none holds the vehicle is received and the desk altered by it.
-- Assumes nothing.
use Rattle.entering.proofs.Becoming.{act_done, first_refused, look, own-refused, pass, passed_on, unaltered, vehicles_and_desk}
use Rattle.entering.proofs.receipts.enter_receive.Goals as goal
use Rattle.words.specs.Words.{start_on}
use Rattle.working.specs.Effects.{arrive_desk}
use Rattle.working.specs.Sections.{remove_at}

pub returns-in_err-station_verdict : goal.returns-in_err-station_verdict
returns-in_err-station_verdict c =
    let l = look c.args.e c.station_of-at.ensures c.desk-d.ensures c.in_force.ensures c.station_verdict.ensures in
    first_refused l c.in_err-station_verdict.was (passed_on c.from_residual.ensures.1) (unaltered _)

pub returns-in_err-receive_verdict : goal.returns-in_err-receive_verdict
returns-in_err-receive_verdict c =
    let l = look c.args.e c.station_of-at.ensures c.desk-d.ensures c.in_force.ensures c.station_verdict.ensures in
    own-refused (pass l c.in_ok-station_verdict.was (rw (← c.nearest-v.ensures, ← c.station_of-sender.ensures) c.receive_verdict.ensures)) c.in_err-receive_verdict.was
    (passed_on c.from_residual-in_err-receive_verdict.ensures.1) (unaltered _)

pub returns : goal.returns
returns c =
    let l = look c.args.e c.station_of-at.ensures c.desk-d.ensures c.in_force.ensures c.station_verdict.ensures in
    act_done (pass l c.in_ok-station_verdict.was (rw (← c.nearest-v.ensures, ← c.station_of-sender.ensures) c.receive_verdict.ensures)) c.in_ok-receive_verdict.was
    (record {
      answer = c.accepted.ensures;
      words = rw (← c.nearest-v.ensures)
          (vehicles_and_desk l.at (remove_at l.at) (λ start. start_on l.at start 1) (λ d. arrive_desk l.at d c.args.e.time c.nearest-v.result) l.desk_is
          c.remove.ensures c.arrive.ensures);
    })
