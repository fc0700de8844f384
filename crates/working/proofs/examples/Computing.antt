-- What is opened to compute an example: the definitions on the way from bytes to what they say, on to a step's answer and section, and on to a log's turns; a position and the
-- section that it says; and a shelf.
-- An `unfolding` line that names one of them opens all that stands on its line.
-- Assumes nothing.
use Rattle.working.specs.Effects.{arrive_desk}
use Rattle.working.specs.Entries.{entry_in, judge, length_of, map_fits, ranges_hold, read_at}
use Rattle.working.specs.Events.{decode}
use Rattle.working.specs.Positions.{counts_bytes, counts_in, desk_bytes, desk_in, is_position, places_bytes, position_of, same_bytes, section_at, vehicle_bytes, vehicle_in, vehicles_in}
use Rattle.working.specs.Sections.{pad_with}
use Rattle.working.specs.Shelves.{is_among, is_name, is_shelf, is_title, is_zero, letters_in, place_for, places_made, used_well}
use Rattle.working.specs.Steps.{entered, step_of}
use Rattle.working.specs.Turns.{turns_from}
use Rattle.working.specs.WellMade.{well_made}

unfoldable pub reading_computes : Unit {0}
unfolding decode entry_in judge length_of map_fits ranges_hold read_at
reading_computes = tt

unfoldable pub step_computes : Unit {0}
unfolding arrive_desk entered pad_with reading_computes step_of well_made
step_computes = tt

unfoldable pub turns_compute : Unit {0}
unfolding step_computes turns_from
turns_compute = tt

unfoldable pub positions_compute : Unit {0}
unfolding counts_bytes counts_in desk_bytes desk_in is_position places_bytes position_of same_bytes section_at step_computes vehicle_bytes vehicle_in vehicles_in
positions_compute = tt

unfoldable pub shelves_compute : Unit {0}
unfolding is_among is_name is_shelf is_title is_zero letters_in place_for places_made positions_compute used_well
shelves_compute = tt
