-- The words from a station's first on are the words of its desk, with others behind them.
-- Assumes nothing.
use Rattle.std.proofs.Common.{arith, length, rules, sym, ◌∙◌, ◌≡◌}
use Rattle.words.proofs.DeskWords.{desk-fits, desk_at_lem, desk_first}
use Rattle.words.proofs.desks.desk.Goals as goal
use Rattle.words.specs.Words.{desk_from, word_count}

pub returns : goal.returns
returns c =
    let w = c.args.words.now in
    let long : length w ≡ word_count = search rules in
    rw (c.desk_in.ensures, c.desk_from.ensures.0)
    (desk_first w (desk_from c.args.at) _ (omega (arith, desk-fits c.args.at)) (omega (arith, desk-fits c.args.at)) ∙ sym (desk_at_lem w c.args.at))
