-- The first word stored is that of the vehicle that has met another.
-- Assumes nothing.
use Rattle.std.proofs.Common.{ap, length, rules, set, ◌%◌, ◌*◌, ◌+◌, ◌∙◌, ◌≡◌}
use Rattle.words.proofs.Ends.{met_becomes}
use Rattle.words.proofs.ring.put_met.Goals as goal
use Rattle.words.specs.Words.{first_word, ring_from, slots, word_count}
use Rattle.working.specs.Steps.{redirected}

pub returns : goal.returns
returns c =
    let a = c.args in
    let w = a.words.now in
    let long : length w ≡ word_count = search rules in
    let there = c.on-slot.ensures ∙ ap (λ k. (k + a.i) % slots) c.start_in.ensures in
    let word = c.first_word.ensures ∙ ap first_word (c.met-v.ensures ∙ ap (redirected a.to) c.vehicle_at.ensures) in
    met_becomes a.to a.i w c.present_in-present.ensures.0 c.requires there long
    (ap (set (set w 0 c.present_in-present.result) (ring_from + 2 * c.on-slot.result.number)) word)
