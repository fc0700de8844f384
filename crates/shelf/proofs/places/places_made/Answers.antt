-- A place of zeros asks for zeros behind it, and any other is used well.
-- Assumes nothing.
use Rattle.shelf.proofs.Titles.{to_end}
use Rattle.shelf.proofs.Walk.{made_next}
use Rattle.shelf.proofs.places.places_made.Goals as goal
use Rattle.std.proofs.Common.{ap, arith, refl, sym, ◌*◌, ◌-◌, ◌∙◌, ◌≡◌}
use Rattle.working.specs.Shelves.{is_zero, places_made}

pub returns-then-is_zero : goal.returns-then-is_zero
returns-then-is_zero c =
    let shelf = c.args.shelf.now in
    let i = c.loop-i.i in
    c.is_zero-then-is_zero.ensures ∙ ap is_zero (to_end shelf (293 * i) 4688 (omega arith))
    ∙ sym (c.loop-i.invariant ∙ made_next shelf i (omega arith) c.if-is_zero.ensures refl)

pub returns-then-not-is_used_well : goal.returns-then-not-is_used_well
returns-then-not-is_used_well c =
    sym (c.loop-i.invariant ∙ made_next c.args.shelf.now c.loop-i.i (omega arith) c.if-is_zero.ensures c.if-not-is_used_well.ensures)

pub loop-i-preserved : goal.loop-i-preserved
loop-i-preserved c = c.loop-i.invariant ∙ made_next c.args.shelf.now c.loop-i.i (omega arith) c.if-is_zero.ensures c.if-not-is_used_well.ensures

pub returns : goal.returns
unfolding places_made
returns c =
    let none : 16 - c.loop-i.i ≡ 0 = omega arith in
    sym (c.loop-i.invariant ∙ rw none)
