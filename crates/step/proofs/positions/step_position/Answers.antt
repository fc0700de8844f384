-- The bytes are a position, and the words stand for the section that they say, which is well made.
-- Assumes nothing.
use Rattle.std.proofs.Common.{length, rules, sym, ◌∙◌, ◌≡◌}
use Rattle.step.proofs.positions.step_position.Goals as goal
use Rattle.working.proofs.theorems.Positions.{position_is, read_then_written}

pub entered-given-requires : goal.entered-given-requires
entered-given-requires c =
    let told = c.if-not-read.false in
    rw (c.read.ensures.says told) (position_is c.args.position.now (sym c.read.ensures.is ∙ told)).well

pub copy_from_slice-requires : goal.copy_from_slice-requires
copy_from_slice-requires c =
    let size : length c.position_in-written.result ≡ 281 = search rules in
    (read_then_written c.args.position.now (sym c.read.ensures.is ∙ c.if-not-read.false)).0 ∙ sym size
