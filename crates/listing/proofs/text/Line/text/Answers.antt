-- One more byte is put behind those before it.
-- Assumes nothing.
use Rattle.listing.proofs.Putting.{◌next◌}
use Rattle.listing.proofs.text.Line.text.Goals as goal
use Rattle.std.proofs.Common.{add-one, arith}
use Rattle.std.proofs.Math.Seq.{take-suc}

pub loop-byte-preserved : goal.loop-byte-preserved
loop-byte-preserved c =
    let i = c.loop-byte.byte-index in
    let more = take-suc c.args.bytes.now i 0 c.loop-byte-test.true in
    record { put = rw (add-one i, more) (c.loop-byte.invariant.put next c.push.ensures); place = omega (arith, c.push.ensures.puts.place) }
