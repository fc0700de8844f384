-- `put` stores clock, last form number, sent and the interval's number in their four words; the first three fit their types, and the interval is read back from its number.
-- Assumes nothing.
use Rattle.std.proofs.Common.{arith}
use Rattle.words.proofs.DeskWords.{desk_becomes, interval_back, put_next, ring-kept}
use Rattle.words.proofs.desks.put_entered.Goals as goal
use Rattle.working.specs.Sections.{with_entered}

pub returns : goal.returns
returns c =
    let a = c.args in
    let since = c.interval_number.ensures in
    let back = interval_back a.interval (omega arith) in
    let all = put_next (put_next (put_next c.put.ensures c.put-2.ensures) c.put-3.ensures) c.put-4.ensures in (
      desk_becomes (with_entered a.clock a.last a.sent a.interval) all
          (rw (since.0, back) (grind arith)) (λ d. rw since.0),
      ring-kept all,
    )
