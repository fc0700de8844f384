-- Both round trips for the double line: what the writer takes reads back as that entry, and what is read and written again leaves the log as it was.
-- They are `working`'s own, which hold by either table.
-- Assumes nothing.
use Rattle.working.proofs.theorems.ReadThenWritten as read
use Rattle.working.proofs.theorems.WrittenThenRead as written
use Rattle.working.specs.RoundTrips.{EntryReadThenWritten, EntryWrittenThenRead}
use Rattle.working.specs.declared.Table.TheVariants.{DoubleLine}

pub written_then_read : written.WrittenThenRead DoubleLine
written_then_read = written.written_then_read DoubleLine

pub read_then_written : read.ReadThenWritten DoubleLine
read_then_written = read.read_then_written DoubleLine

-- the same as demand 2 has them, by their names in specs/
pub entry_written_then_read : EntryWrittenThenRead DoubleLine
entry_written_then_read = written.entry_written_then_read DoubleLine

pub entry_read_then_written : EntryReadThenWritten DoubleLine
entry_read_then_written = read.entry_read_then_written DoubleLine
