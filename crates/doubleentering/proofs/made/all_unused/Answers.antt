-- The places are tested as the definition tests them, the last first.
-- Assumes nothing.
use Rattle.doubleentering.proofs.made.all_unused.Goals as goal
use Rattle.section.proofs.Passes.{fold_back}
use Rattle.std.proofs.Common.{Bool, List, refl, rules, true, ℕ, ◌∙◌}
use Rattle.std.proofs.lemmas.Iterator.Adapters.{YieldsList-from_rev_slice}
use Rattle.std.proofs.lemmas.Iterator.Consumers.{fold_from_yields_List}
use Rattle.working.specs.Entries.{every}
use Rattle.working.specs.WellMade.{zero_tests}
use borrow.Author.Tests.{tests}
use lib.Dec.{eqb}
use mathlib.Core.Bool.{◌&&◌}

abbrev so_far : Bool → ℕ → Bool
so_far unused number = eqb number 0 && unused

abbrev zeros : List ℕ → Bool
zeros l = every (zero_tests l)

pub returns : goal.returns
returns c =
    let l = c.args.places.now in
    fold_from_yields_List _ so_far true c.fold.result c.fold.ensures.ran (YieldsList-from_rev_slice l (cc)) (λ a x r q k. search (rules, tests))
    ∙ fold_back so_far zeros (λ x l. refl) l
