-- One more figure is put in its place. At the end the words of the desk are its figures, and each fits its type, so that the desk is read back.
-- Assumes nothing.
use Rattle.std.proofs.Common.{ap, arith, drop, length, rules, take, ◌++◌, ◌+◌, ◌≡◌}
use Rattle.words.proofs.DeskWords.{Same, desk_back, desk_becomes, figure_next, figures-all, interval_back, put_as, put_next, ring-kept}
use Rattle.words.proofs.Packing.{one_back_lem}
use Rattle.words.proofs.Written.{words_count}
use Rattle.words.proofs.desks.put_desk.Goals as goal
use Rattle.words.specs.Words.{desk_from, desk_read, desk_words, desk_words_in}
use Rattle.working.specs.WellMade.{desk_length, interval_number, one_if}

pub loop-i-preserved : goal.loop-i-preserved
loop-i-preserved c =
    let a = c.args in
    let f = c.figures-figures.result in
    let t = desk_words_in a.words.now a.at in
    let count : length t ≡ desk_length = words_count (desk_from a.at) desk_length a.words.now in
    let long : length f ≡ desk_length = search rules in
    let i = c.loop-i.i in
    let next = figure_next f t i (omega arith) (omega arith) in
    put_as (λ u. take (i + 1) f ++ drop (i + 1) u) (put_next c.loop-i.invariant c.put.ensures) next

pub returns : goal.returns
returns c =
    let a = c.args in
    let f = c.figures-figures.result in
    let t = desk_words_in a.words.now a.at in
    let count : length t ≡ desk_length = words_count (desk_from a.at) desk_length a.words.now in
    let long : length f ≡ desk_length = search rules in
    let d = a.d in
    let shown = c.figures-figures.ensures in
    let same : Same (desk_words (desk_read (desk_words d))) (desk_words d) =
    omega (arith, c.well_formed, ap one_if (one_back_lem d.out), ap interval_number (interval_back d.interval shown.1)) in
    let whole : c.loop-i.i ≡ desk_length = omega arith in
    let all = put_as (λ u. f) (rw whole at c.loop-i.invariant) (figures-all f t desk_length (omega arith) (omega arith)) in
    (desk_becomes (λ z. d) all (rw shown.0 (desk_back d shown.1 same)) (λ z. shown.0), ring-kept all)
