-- One vehicle less, and its slot unused.
-- Assumes nothing.
use Rattle.std.proofs.Common.{ap, ◌-◌, ◌∙◌}
use Rattle.words.proofs.Ends.{remove_becomes}
use Rattle.words.proofs.ring.remove.Goals as goal

pub returns : goal.returns
returns c =
    let others = c.saturating_sub-others.ensures ∙ ap (λ n. n - 1) c.present_in.ensures.0 in
    remove_becomes c.args.at c.args.words.now others c.move_start.ensures (rw c.start_in-start.ensures at c.at_end.ensures) c.at_end.result.in_ring
    (rw c.unused.ensures at c.put_vehicle.ensures)
