-- `reading::fill_patiently` meets its contract: what was read lies at the front of the room, and is what the reader no longer has. The measure is the room left and the interrupted
-- reads still allowed.
-- Assumes nothing.
use Rattle.input.proofs.reading.fill_patiently.Given as goal
use Rattle.std.proofs.Common.{length, take, ◌+◌, ◌-◌, ◌≤◌}
use Rattle.std.specs.Io.KnownBytes.{Consumes}

abbrev pub invariant-loop-done : goal.invariant-loop-done
invariant-loop-done g l = record {
  consumed : Consumes (g.R.Read.remaining l.initial.source) (g.R.Read.remaining l.source) (take l.done l.room);
  within : l.done ≤ length l.room;
}

abbrev pub decreases-loop-done : goal.decreases-loop-done
decreases-loop-done g l = (length l.room - l.done) + l.left
