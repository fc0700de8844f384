-- The capital letters that stand first are as many as `take_while` gives.
-- Assumes nothing.
use Rattle.shelf.proofs.Titles.{few_first, letters_first}
use Rattle.shelf.proofs.names.letters_in.Goals as goal
use Rattle.std.proofs.Common.{rules, tests, ◌∙◌}
use Rattle.std.proofs.lemmas.Iterator.Consumers.{count_from_yields_List}
use Rattle.std.proofs.lemmas.Iterator.Search.{YieldsList-from_take_while}
use Rattle.std.proofs.lemmas.Iterator.{YieldsList-from_slice}
use Rattle.std.proofs.lemmas.List.Folds.{length-prefix_len}
use Rattle.working.specs.Shelves.{is_letter}

pub returns : goal.returns
returns c =
    let bytes = c.args.bytes.now in
    let count = count_from_yields_List c.take_while.result _ c.count.ensures.ran
    (YieldsList-from_take_while _ is_letter (YieldsList-from_slice bytes (cc)) c.take_while.ensures.closure c.take_while.ensures.done (λ x b q k. search (rules, tests)))
    ∙ length-prefix_len is_letter bytes in
    (count ∙ letters_first bytes, rw (count, letters_first) (few_first bytes))
