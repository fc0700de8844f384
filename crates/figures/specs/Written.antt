-- docs/CASES.md: the bytes that a section's figures are written as, and bytes put at a place. A vehicle, a desk and the counts have the bytes of a position.
use Rattle.figures.specs.Figures.{section_length}
use Rattle.std.specs.Prelude.{List, [], cond, get_or, leb, length, replicate, suc, zero, ℕ, ◌%◌, ◌*◌, ◌+◌, ◌∷◌}
use Rattle.working.specs.Entries.{pasted}
use Rattle.working.specs.Positions.{counts_bytes, desk_bytes, vehicle_bytes}
use Rattle.working.specs.Sections.{unused}
use Rattle.working.specs.WellMade.{is_blank, one_if}
use Rattle.working.specs.declared.Section.{Section}
use Rattle.working.specs.declared.Vehicle.{Vehicle}

-- the ten bytes of a place; "an OPEN with asked 0 and 0 in every other figure is the unused place and is written with kind 0", so with zeros alone
abbrev pub vehicle_figures : Vehicle → List ℕ
vehicle_figures v = cond (is_blank v) (replicate 10 0) (vehicle_bytes v)

-- bytes in the place of those that stand from an offset on, where all of them have room there
unfoldable pub put_at : List ℕ → ℕ → List ℕ → List ℕ
put_at room at bytes = cond (leb (at + length bytes) (length room)) (pasted room at bytes) room

-- so many places, one behind another, at the front
unfoldable pub put_places : ℕ → List Vehicle → List ℕ → List ℕ
put_places zero places room = room
put_places (suc count) places room = put_at (put_places count places room) (count * 10) (vehicle_figures (get_or places count unused))

-- the bytes of a section, each where `section_in` reads it
unfoldable pub case_bytes : Section → List ℕ
case_bytes s =
    let placed = put_places 24 s.vehicles (replicate section_length 0) in
    let present = put_at placed 240 (s.len % 256 ∷ one_if s.force ∷ []) in
    put_at (put_at (put_at present 242 (counts_bytes s.refused)) 254 (desk_bytes s.a)) 268 (desk_bytes s.b)
