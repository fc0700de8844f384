-- The places are tested as the definition tests them, the last first.
-- Assumes nothing.
use Rattle.section.proofs.Passes.{fold_back}
use Rattle.section.proofs.made.all_blank.Goals as goal
use Rattle.section.specs.Made.{all_blank}
use Rattle.std.proofs.Common.{Bool, refl, rules, true, ◌∙◌}
use Rattle.std.proofs.lemmas.Iterator.Adapters.{YieldsList-from_rev_slice}
use Rattle.std.proofs.lemmas.Iterator.Consumers.{fold_from_yields_List}
use Rattle.working.specs.WellMade.{is_blank}
use Rattle.working.specs.declared.Vehicle.{Vehicle}
use borrow.Author.Tests.{tests}
use mathlib.Core.Bool.{◌&&◌}

abbrev so_far : Bool → Vehicle → Bool
so_far blank v = is_blank v && blank

pub returns : goal.returns
returns c =
    let l = c.args.places.now in
    fold_from_yields_List _ so_far true c.fold.result c.fold.ensures.ran (YieldsList-from_rev_slice l (cc)) (λ a x r q k. search (rules, tests))
    ∙ fold_back so_far all_blank (λ x l. refl) l
