-- The fold compares each byte with 0, as the definition does.
-- Assumes nothing.
use Rattle.shelf.proofs.Titles.{zero_so_far, zero_with}
use Rattle.shelf.proofs.names.is_zero.Goals as goal
use Rattle.std.proofs.Common.{rules, tests, true, ◌∙◌}
use Rattle.std.proofs.lemmas.Iterator.Consumers.{fold_from_yields_List}
use Rattle.std.proofs.lemmas.Iterator.{YieldsList-from_slice}

pub returns : goal.returns
returns c =
    let bytes = c.args.bytes.now in
    fold_from_yields_List _ zero_with true c.fold.result c.fold.ensures.ran (YieldsList-from_slice bytes (cc)) (λ a x r q k. search (rules, tests)) ∙ zero_so_far true bytes
