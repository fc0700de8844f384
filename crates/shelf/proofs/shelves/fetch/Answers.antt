-- Its tests are the definition's, in their order, so that the first that holds is the verdict; where none does, the position is copied to the buffer's front. Past its end a shelf
-- has no byte, which is read as 0, so that a name without a place is refused by the third test.
-- Assumes nothing.
use Rattle.shelf.proofs.Verdicts.{at_place, fetched, long-shelf, short_name}
use Rattle.shelf.proofs.shelves.fetch.Goals as goal
use Rattle.std.proofs.Common.{arith, length, length-drop, refl, sym, ◌*◌, ◌+◌, ◌-◌, ◌≡◌}
use Rattle.working.specs.Positions.{byte_at}
use borrow.Author.Tests.{eq-eqb, le-ltb, ne_eqb}
use lib.ListN.{get_or-eq_default, length-take}

pub title_of-requires : goal.title_of-requires
title_of-requires c = short_name _ (sym c.if-not-is_name.ensures)

pub returns-in_default-place_for : goal.returns-in_default-place_for
returns-in_default-place_for c =
    let shelf = c.args.shelf.now in
    let same = c.in-Some.ensures.1 in
    let long : length shelf ≡ 4688 = long-shelf shelf c.in-Some.ensures.0 in
    let none = eq-eqb (byte_at shelf (293 * 16)) 0 (get_or-eq_default shelf 0 (omega arith)) in
    let place = at_place shelf c.args.name.now (sym (rw same at c.in_default-place_for.ensures)) c.title_of.ensures in
    rw (c.in-Some.ensures.0, sym c.if-not-is_name.ensures, place, none) (refl, refl)

pub copy_from_slice-requires : goal.copy_from_slice-requires
copy_from_slice-requires c = simp (length-take, length-drop) (omega arith)

pub returns : goal.returns
returns c =
    let shelf = c.args.shelf.now in
    let buffer = c.args.buffer.now in
    let found = c.in-Some-place_for.place in
    let same = c.in-Some.ensures.1 in
    let long : length shelf ≡ 4688 = long-shelf shelf c.in-Some.ensures.0 in
    let used = ne_eqb (byte_at shelf (293 * found)) 0 (rw same at c.if-places-place-eq0.false) in
    let room = le-ltb (length buffer) 281 c.if-buffer-lt-POSITION.false in
    let place = at_place shelf c.args.name.now (rw same at c.in-Some-place_for.ensures.0) c.title_of.ensures in
    rw (c.in-Some.ensures.0, sym c.if-not-is_name.ensures, place, used, room, c.copy_from_slice.ensures.after, same)
    (refl, fetched shelf buffer found (293 * found + 293 - (293 * found + 12)) (omega arith) (omega arith))
