-- Each copy is a paste of the whole shelf, and the second is behind the first.
-- Assumes nothing.
use Rattle.shelf.proofs.shelves.put_place.Goals as goal
use Rattle.std.proofs.Common.{List, arith, length, ℕ, ◌*◌, ◌+◌, ◌-◌, ◌∙◌, ◌≡◌}
use Rattle.working.proofs.laws.Pastes.{paste_twice}
use Rattle.working.specs.Entries.{pasted}
use borrow.Rule.Slice.PartMut.{put_mid}
use lib.Seq.{drop-drop}
use mathlib.Core.Path.{ap₂}

-- as many bytes in the place of k
part_put : (room bytes : List ℕ) (at k : ℕ) → k ≡ length bytes → put_mid at k room bytes ≡ pasted room at bytes
part_put room bytes at k long = rw (long, drop-drop (length bytes) at room)

pub returns : goal.returns
returns c =
    let shelf = c.args.shelf.now in
    let title = c.args.title.now in
    let position = c.args.position.now in
    let at = 293 * c.args.place in
    let twelve : 12 ≡ length title = omega arith in
    rw (c.copy_from_slice.ensures.after, c.copy_from_slice-2.ensures.after)
    (part_put (put_mid at (at + 12 - at) shelf title) position (at + 12) (at + 293 - (at + 12)) (omega arith)
    ∙ ap₂ (λ t n. pasted t (at + n) position) (part_put shelf title at (at + 12 - at) (omega arith)) twelve
    ∙ paste_twice shelf at title position (omega arith))
