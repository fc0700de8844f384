-- Document 02, T-05: the section of a double line, its two sides, and the fresh section.
use Rattle.double.specs.declared.Section.{Section}
use Rattle.double.specs.declared.Side.{Side}
use Rattle.std.specs.Prelude.{Bool, List, None, Option, [], false, length, take, ℕ}
use Rattle.working.specs.Sections.{none_refused, one_more_of, pad_with}
use Rattle.working.specs.declared.Counts.{Counts}
use Rattle.working.specs.declared.Station.TheVariants.{A, B}
use Rattle.working.specs.declared.Station.{Station}

-- ---- a side

-- "each line's form numbers as sent"
abbrev pub line_of : Side → List ℕ
line_of d = take d.len d.numbers

-- a side with the line l
abbrev pub side : ℕ → ℕ → Option ℕ → List ℕ → Side
side clock last interval l = record { clock = clock; last = last; interval = interval; numbers = pad_with 0 12 l; len = length l }

-- the same side with another line, and at another minute
abbrev pub with_line : Side → List ℕ → Side
with_line d l = side d.clock d.last d.interval l

abbrev pub with_clock : Side → ℕ → Side
with_clock d time = record { clock = time; last = d.last; interval = d.interval; numbers = d.numbers; len = d.len }

-- ---- the two sides

abbrev pub side_of : Section → Station → Side
side_of s A = s.a
side_of s B = s.b

abbrev pub with_side : Section → Station → Side → Section
with_side s A d = record { force = s.force; refused = s.refused; a = d; b = s.b }
with_side s B d = record { force = s.force; refused = s.refused; a = s.a; b = d }

-- the section with one more entry refused; the counts are those of T-01
abbrev pub count_refusal : Option Station → Section → Section
count_refusal whose s = record { force = s.force; refused = one_more_of whose s.refused; a = s.a; b = s.b }

-- ---- the fresh section

abbrev pub fresh_side : Side
fresh_side = side 0 0 None []

-- all but the counts as fresh, in force or not
abbrev pub emptied : Bool → Counts → Section
emptied force counts = record { force = force; refused = counts; a = fresh_side; b = fresh_side }

-- "not in force and all else is zero or none"
abbrev pub fresh : Section
fresh = emptied false none_refused
