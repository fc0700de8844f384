-- Each key is tested as the definition tests it, the last first.
-- Assumes nothing.
use Rattle.section.proofs.Passes.{fold_back}
use Rattle.section.proofs.made.lacks.Goals as goal
use Rattle.section.specs.Made.{lacks}
use Rattle.std.proofs.Common.{Bool, refl, rules, true, ℕ, ◌∙◌}
use Rattle.std.proofs.lemmas.Iterator.Adapters.{YieldsList-from_rev_slice}
use Rattle.std.proofs.lemmas.Iterator.Consumers.{fold_from_yields_List}
use borrow.Author.Tests.{tests}
use lib.Dec.{eqb}
use mathlib.Core.Bool.{not, ◌&&◌}

abbrev so_far : ℕ → Bool → ℕ → Bool
so_far key none m = not (eqb m key) && none

pub returns : goal.returns
returns c =
    let l = c.args.keys.now in
    let key = c.args.key in
    fold_from_yields_List _ (so_far key) true c.fold.result c.fold.ensures.ran (YieldsList-from_rev_slice l (cc)) (λ a x r q k. search (rules, tests))
    ∙ fold_back (so_far key) (lacks key) (λ x l. refl) l
