-- One unit further down is one digit more, and behind those down to ten comes the last.
-- Assumes nothing.
use Rattle.listing.proofs.Decimal.{none_above, one_more_lem, tenfold, then_last}
use Rattle.listing.proofs.Putting.{none_added, ◌next◌}
use Rattle.listing.proofs.text.Line.digits.Goals as goal
use Rattle.std.proofs.Common.{arith, ◌*◌, ◌+◌, ◌-◌, ◌/◌, ◌≡◌}
use native.Mathlib.Nat.{one-le-pow}
use native.Mathlib.Numerals.{unary_clauses}

pub loop-done-init : goal.loop-done-init
loop-done-init c =
    let none = none_added c.args.self.now (omega (arith, c.requires.2)) in
    record { zeros = simp unary_clauses c.requires.0; put = record { adds = rw (none_above (c.args.first * 10) c.args.n c.requires.1) none; short = omega arith } }

pub loop-done-preserved : goal.loop-done-preserved
loop-done-preserved c =
    let unit = c.loop-done.unit in
    let left = c.args.count - c.loop-done._done in
    let tenth = tenfold left (c.args.count - (c.loop-done._done + 1)) (omega arith) in
    let whole : unit / 10 * 10 ≡ unit = omega arith in
    let more = one_more_lem unit c.args.n (omega (arith, one-le-pow left 10 (omega arith))) in
    record { zeros = omega arith; put = record { adds = rw (whole, more) (c.loop-done.invariant.put.adds next c.digit.ensures.adds); short = omega arith } }

pub digit-requires : goal.digit-requires
digit-requires c = (omega (arith, one-le-pow (c.args.count - c.loop-done._done) 10 (omega arith)), omega (arith, c.requires.2))

pub returns : goal.returns
returns c =
    let last : c.args.count - c.loop-done._done ≡ 0 = omega arith in
    let one : c.loop-done.unit ≡ 1 = rw last at c.loop-done.invariant.zeros in
    let others = rw one at c.loop-done.invariant.put.adds in
    record { adds = rw (then_last c.args.n, ← c.last_digit.ensures) (others next c.push.ensures); short = omega (arith, c.push.ensures.puts.place) }
