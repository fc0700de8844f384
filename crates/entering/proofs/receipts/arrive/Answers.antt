-- The vehicle is received, and then its reply is read.
-- Assumes nothing.
use Rattle.entering.proofs.Becoming.{desk_is}
use Rattle.entering.proofs.receipts.arrive.Goals as goal
use Rattle.words.proofs.Becoming.{desk_then}
use Rattle.working.specs.Effects.{arrive_desk, receipt_desk, replied}

pub returns : goal.returns
unfolding arrive_desk
returns c =
    let a = c.args in
    desk_is a.at (rw c.granted_in.ensures)
    (desk_then a.at (λ d. receipt_desk a.at d a.time a.v) (replied c.granted_in.result) c.take_in.ensures c.put_reply.ensures)
