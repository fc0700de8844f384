-- One more vehicle differs from those passed where its key is missing among theirs, and its key is noted with them.
-- Assumes nothing.
use Rattle.section.proofs.Keys.{one_noted}
use Rattle.section.proofs.Passes.{one_before}
use Rattle.section.proofs.made.forms_differ.Goals as goal
use Rattle.std.proofs.Common.{arith, ◌∙◌}
use Rattle.working.specs.Sections.{unused}
use mathlib.Core.Bool.{◌&&◌}
use mathlib.Core.Path.{ap₂}

pub loop-i-preserved : goal.loop-i-preserved
loop-i-preserved c =
    let l = c.loop-i in
    let v = c.key_of-key.ensures in
    rw (one_before c.args.vehicles.now l.i unused (omega arith) (omega arith)) (record {
      so_far = ap₂ ◌&&◌ (c.lacks-differ.ensures ∙ l.invariant.noted.noted _ _ v) l.invariant.so_far;
      noted = one_noted _ _ l.invariant.noted (omega arith) (omega arith) v;
    })
