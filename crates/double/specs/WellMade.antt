-- Document 02, T-05: when a section is well made; "else it is well made as in 01".
use Rattle.double.specs.Sections.{line_of}
use Rattle.double.specs.declared.Section.{Section}
use Rattle.double.specs.declared.Side.{Side}
use Rattle.std.specs.Prelude.{Bool, List, [], drop, leb, ltb, true, ℕ, ◌&&◌, ◌||◌, ◌∷◌}
use Rattle.working.specs.Entries.{every}
use Rattle.working.specs.WellMade.{interval_number, not_later, zero_tests}

-- strictly rising, all above `below` and none above `last`
abbrev pub rising : ℕ → ℕ → List ℕ → Bool
rising below last [] = true
rising below last (n ∷ l) = (ltb below n && leb n last) && rising n last l

abbrev pub side_tests : Side → List Bool
side_tests d =
    leb d.last 9999  -- "last form number, 0 to 9,999"
    ∷ leb d.len 12
    ∷ rising 0 d.last (line_of d)  -- "form numbers are 1 to the desk's last"; "as sent, rising"
    ∷ every (zero_tests (drop d.len d.numbers))  -- "unused places are zero"
    ∷ not_later d.interval d.clock  -- "a running interval is not later than the clock"
    ∷ []

abbrev pub side_made : Side → Bool
side_made d = every (side_tests d)

abbrev pub is_fresh_side : Side → Bool
is_fresh_side d = every (zero_tests (d.clock ∷ d.last ∷ interval_number d.interval ∷ d.len ∷ []))

abbrev pub made_tests : Section → List Bool
made_tests s =
    side_made s.a
    ∷ side_made s.b
    ∷ (s.force || (is_fresh_side s.a && is_fresh_side s.b))  -- "not in force, all but the count is as fresh"
    ∷ []

unfoldable pub well_made : Section → Bool
well_made s = every (made_tests s)
