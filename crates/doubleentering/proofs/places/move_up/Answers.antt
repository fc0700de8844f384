-- Eleven words are copied to the place before them.
-- Assumes nothing.
use Rattle.doubleentering.proofs.Numbers.{line_moved}
use Rattle.doubleentering.proofs.places.move_up.Goals as goal
use Rattle.std.proofs.Common.{arith, length, rules, ◌≡◌}
use Rattle.words.specs.Words.{word_count}

pub returns : goal.returns
returns c =
    let w = c.args.words.now in
    let long : length w ≡ word_count = search rules in
    let copied = rw c.line_from-from.ensures.0 at c.copy_within.ensures.by_index in
    line_moved w _ c.args.at (record {
      long = long;
      same = c.copy_within.ensures.len;
      below = λ k d less. copied.1 k d (omega arith);
      moved = λ k d from less. copied.0 k d (omega arith) (omega arith);
      behind = λ k d past. copied.2 k d (omega arith);
    })
