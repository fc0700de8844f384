-- A place that begins with a kind is passed, and the first that begins with a zero ends the vehicles; where none does, there are 24.
-- Assumes nothing.
use Rattle.position.proofs.Places.{first_ended}
use Rattle.position.proofs.sections.present_at.Goals as goal
use Rattle.std.proofs.Common.{rules, tests, ◌*◌, ◌≡◌}
use Rattle.std.proofs.lemmas.Iterator.{first_from_Range}
use Rattle.working.specs.Positions.{byte_at}

pub returns : goal.returns
returns c =
    let p = c.args.p.now in
    let met = first_from_Range _ _ _ c.find.result (λ i. byte_at p (10 * i) ≡ 0) (λ i. byte_at p (10 * i) ≡ 0 → ⊥) c.find.ensures.ran
    (λ x q k. search (rules, tests)) (λ x q k. search (rules, tests)) in
    first_ended p c.find.result c.unwrap_or.result met c.unwrap_or.ensures
