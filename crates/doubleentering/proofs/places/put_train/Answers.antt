-- The desk's figures are put, and the number behind those on the line.
-- Assumes nothing.
use Rattle.doubleentering.proofs.Numbers.{place-put}
use Rattle.doubleentering.proofs.Sides.{train_put}
use Rattle.doubleentering.proofs.places.put_train.Goals as goal
use Rattle.std.proofs.Common.{arith, length, rules, ◌%◌, ◌≡◌}
use Rattle.words.specs.Words.{word_count}
use native.Mathlib.Nat.{mod-eq_of_lt}

pub returns : goal.returns
returns c =
    let a = c.args in
    let u = c.put_departure.new.words in
    let long : length u ≡ word_count = search rules in
    let form : a.form % 65536 ≡ a.form = mod-eq_of_lt (omega arith) in
    let stored = rw form at (place-put u long a.at a.sent a.form (omega arith)) in
    let left = c.put_departure.ensures in
    rw c.line_from.ensures.0 (train_put a.at a.time a.form a.sent c.requires.0 c.requires.1 left.0 left.1 stored)
