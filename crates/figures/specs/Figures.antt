-- docs/CASES.md: what the figures of a section say, and those of an entry. A vehicle, a desk and the counts have the bytes of a position.
use Rattle.std.specs.Prelude.{List, [], drop, eqb, suc, take, zero, ℕ, ◌+◌, ◌∷◌}
use Rattle.working.specs.Positions.{byte_at, counts_in, desk_in, two_at, vehicle_in}
use Rattle.working.specs.declared.Counts.{Counts}
use Rattle.working.specs.declared.Desk.{Desk}
use Rattle.working.specs.declared.Entry.{Entry}
use Rattle.working.specs.declared.Section.{Section}
use Rattle.working.specs.declared.Vehicle.{Vehicle}

-- the bytes of a section, and of the longest head of a case: a section's and two more
abbrev pub section_length : ℕ
section_length = 282

abbrev pub longest_head : ℕ
longest_head = section_length + 2

-- the vehicle, the counts and the desk that the bytes from a place on say: ten, twelve, fourteen
abbrev pub vehicle_at : List ℕ → ℕ → Vehicle
vehicle_at figures at = vehicle_in (take 10 (drop at figures))

abbrev pub counts_at : List ℕ → ℕ → Counts
counts_at figures at = counts_in (take 12 (drop at figures))

abbrev pub desk_at : List ℕ → ℕ → Desk
desk_at figures at = desk_in (take 14 (drop at figures))

-- so many places of the same size, one behind another, each as it is read
unfoldable pub each_at : {A : Type 0} → (ℕ → A) → ℕ → ℕ → ℕ → List A
each_at read size zero at = []
each_at read size (suc count) at = read at ∷ each_at read size count (at + size)

-- "24 × 10"
abbrev pub places_in : List ℕ → List Vehicle
places_in figures = each_at (vehicle_at figures) 10 24 0

-- the bytes of a section
abbrev pub section_in : List ℕ → Section
section_in figures = record {
  vehicles = places_in figures;
  len = byte_at figures 240;
  force = eqb (byte_at figures 241) 1;
  refused = counts_at figures 242;
  a = desk_at figures 254;
  b = desk_at figures 268;
}

-- "an entry of 12 bytes (map 1, kind 1, station 1, time 2, view 1, class 1, asked 1, granted 1, sender 1, number 2)"
abbrev pub entry_in : List ℕ → Entry
entry_in head = record {
  map = byte_at head 0;
  kind = byte_at head 1;
  station = byte_at head 2;
  time = two_at head 3;
  view = byte_at head 5;
  class = byte_at head 6;
  asked = byte_at head 7;
  granted = byte_at head 8;
  sender = byte_at head 9;
  number = two_at head 10;
}
