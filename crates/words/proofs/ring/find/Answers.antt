-- The first place at which the vehicle named stands.
-- Assumes nothing.
use Rattle.std.proofs.Common.{arith, get_or, refl, rules, ◌≡◌}
use Rattle.std.proofs.lemmas.Iterator.Search.{position_from_yields_List}
use Rattle.std.proofs.lemmas.Iterator.{YieldsList-from_range}
use Rattle.std.specs.List.{position, range_with_len}
use Rattle.words.proofs.VehiclesIn.{find_first}
use Rattle.words.proofs.ring.find.Goals as goal
use Rattle.words.specs.Words.{section_in}
use Rattle.working.specs.Reasons.{is_named}
use Rattle.working.specs.Sections.{unused, vehicles_of}

pub returns : goal.returns
returns c =
    let a = c.args in
    let l = vehicles_of (section_in a.words.now) in
    let n = c.present_in.result in
    let there : c.position.result ≡ position (λ i. is_named a.sender a.form (get_or l i unused)) (range_with_len 0 n) =
    position_from_yields_List (λ i. is_named a.sender a.form (get_or l i unused)) _ _ _ c.position.ensures.ran (YieldsList-from_range 0 n n refl (omega arith)) (λ x b q k. search rules) in
    rw there (find_first a.sender a.form l c.present_in.ensures.0)
