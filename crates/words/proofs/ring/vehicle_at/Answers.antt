-- The ring lies behind the other words.
-- Assumes nothing.
use Rattle.std.proofs.Common.{sym, ◌*◌, ◌+◌, ◌∙◌}
use Rattle.words.proofs.ring.vehicle_at.Goals as goal
use Rattle.words.specs.Words.{ring_from, vehicle_in}
use lib.Seq.{get_or-drop}
use mathlib.Core.Path.{ap₂}

pub returns : goal.returns
returns c =
    let w = c.args.words.now in
    let slot = c.args.slot.number in
    c.vehicle_in.ensures ∙ sym (ap₂ vehicle_in (get_or-drop ring_from w (2 * slot) 0) (get_or-drop ring_from w (2 * slot + 1) 0))
