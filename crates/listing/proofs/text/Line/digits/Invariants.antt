-- `text::Line::digits` meets its contract. The loop's invariant: the digits above the unit are put, and the unit has as many zeros as digits are left before the last.
-- Assumes nothing.
use Rattle.listing.proofs.Decimal.{down_to}
use Rattle.listing.proofs.text.Line.digits.Given as goal
use Rattle.listing.specs.Text.{AddsAtMost}
use Rattle.std.proofs.Common.{◌*◌, ◌-◌, ◌^◌, ◌≡◌}

abbrev pub invariant-loop-done : goal.invariant-loop-done
invariant-loop-done l = record {
  zeros : l.unit ≡ 10 ^ (l.count - l._done);
  put : AddsAtMost l._done l.fn.self (down_to (l.unit * 10) l.n) l.self;
}
