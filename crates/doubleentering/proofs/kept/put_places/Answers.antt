-- One more number is put in its place, and at the end each place has its own.
-- Assumes nothing.
use Rattle.doubleentering.proofs.Numbers.{place-put, places_as, places_count, places_then}
use Rattle.doubleentering.proofs.kept.put_places.Goals as goal
use Rattle.doubleentering.specs.DoubleWords.{places_in}
use Rattle.std.proofs.Common.{Fits, arith, drop, length, rules, take, ◌%◌, ◌++◌, ◌+◌, ◌∙◌, ◌≡◌}
use Rattle.words.proofs.DeskWords.{figure_next, figures-all}
use Rattle.words.specs.Words.{ring_in}
use lib.ListN.{get_or}
use mir.Syntax.{w16}
use native.Mathlib.Nat.{mod-eq_of_lt}

pub loop-i-preserved : goal.loop-i-preserved
loop-i-preserved c =
    let at = c.args.at in
    let numbers = c.args.numbers in
    let i = c.loop-i.i in
    let so_far = c.loop-i.invariant in
    let long : length numbers ≡ 12 = search rules in
    let fits : Fits w16 (get_or numbers i 0) = search rules in
    let small : get_or numbers i 0 % 65536 ≡ get_or numbers i 0 = mod-eq_of_lt (omega arith) in
    let t = places_in (ring_in c.args.words.now) at in
    let count = places_count c.args.words.now so_far.long at in
    let stored = rw small at (place-put c.loop-i.words (so_far.same ∙ so_far.long) at i (get_or numbers i 0) (omega arith)) in
    let next = figure_next numbers t i (omega arith) (omega arith) in
    rw c.line_from-from.ensures.0 (places_as (λ s. take (i + 1) numbers ++ drop (i + 1) s) (places_then so_far stored) next)

pub returns : goal.returns
returns c =
    let numbers = c.args.numbers in
    let w = c.args.words.now in
    let long : length numbers ≡ 12 = search rules in
    let whole : c.loop-i.i ≡ 12 = omega arith in
    let all = rw whole at c.loop-i.invariant in
    let count = places_count w c.loop-i.invariant.long c.args.at in
    places_as (λ t. numbers) all (figures-all numbers (places_in (ring_in w) c.args.at) 12 (omega arith) (omega arith))
