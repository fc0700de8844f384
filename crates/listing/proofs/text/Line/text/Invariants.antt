-- `text::Line::text` meets its contract. The loop's invariant: the first of the bytes are put, as many as there were steps.
-- Assumes nothing.
use Rattle.listing.proofs.text.Line.text.Given as goal
use Rattle.listing.specs.Text.{Adds}
use Rattle.std.proofs.Common.{take, ◌+◌, ◌≡◌}

abbrev pub invariant-loop-byte : goal.invariant-loop-byte
invariant-loop-byte l = record { put : Adds l.fn.self (take l.byte-index l.bytes) l.self; place : l.self.at ≡ l.fn.self.at + l.byte-index }
