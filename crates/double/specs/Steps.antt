-- Document 02, T-05: what an entry of a double line says, what it is refused for, in rising order, what it does where it is accepted, and the step on a section and
-- bytes. S is the entry's station, O the other.
use Rattle.double.specs.Sections.{count_refusal, emptied, line_of, side, side_of, with_clock, with_line, with_side}
use Rattle.double.specs.WellMade.{well_made}
use Rattle.double.specs.declared.Section.{Section}
use Rattle.double.specs.declared.Side.{Side}
use Rattle.std.specs.Prelude.{Bool, Err, List, None, Ok, Option, Some, [], cond, drop, eqb, false, not, true, ℕ, ◌&&◌, ◌++◌, ◌+◌, ◌∷◌}
use Rattle.working.specs.Answers.{accept}
use Rattle.working.specs.Entries.{read_at}
use Rattle.working.specs.Events.{Bad, Said, Says, said_as, station_of}
use Rattle.working.specs.Reasons.{begin_tests, last_tests, resume_tests, station_tests}
use Rattle.working.specs.Refusals.{Test, Verdict, first_of}
use Rattle.working.specs.Sections.{number_at, other_at}
use Rattle.working.specs.Turns.{Working}
use Rattle.working.specs.declared.Entry.{Entry}
use Rattle.working.specs.declared.Read.{Read}
use Rattle.working.specs.declared.Refusal.TheVariants.{IllMade, NotNearest}
use Rattle.working.specs.declared.Refusal.{Refusal}
use Rattle.working.specs.declared.Speed.TheVariants.{Both, NoSpeed}
use Rattle.working.specs.declared.Station.{Station}
use Rattle.working.specs.declared.Stepped.{Stepped}
use Rattle.working.specs.declared.Table.TheVariants.{DoubleLine}

-- ---- what an entry says

pub data Event : Type 0 where
  Begin : Event
  Depart : (station : Station) (time : ℕ) → Event
  Receive : (station : Station) (time : ℕ) (sender : Station) (form : ℕ) → Event
  Resume : Event

-- "with kinds 1, 5, 6 and 8"
abbrev pub event_of : Entry → Event
event_of e =
    cond (eqb e.kind 1) Begin
    (cond (eqb e.kind 5) (Depart (station_of e.station) e.time)
    (cond (eqb e.kind 6) (Receive (station_of e.station) e.time (station_of e.sender) e.number)
    Resume))

abbrev pub Decoded : Type 0
Decoded = Said Event

abbrev pub decoded_as : Read → Decoded
decoded_as read = said_as event_of read

unfoldable pub decode : List ℕ → Decoded
decode bytes = decoded_as (read_at DoubleLine bytes 0)

-- ---- refusals

abbrev pub same_station : Station → Station → Bool
same_station x y = eqb (number_at x) (number_at y)

-- n is the first of a line
abbrev pub is_first : ℕ → List ℕ → Bool
is_first n [] = false
is_first n (m ∷ l) = eqb m n

-- a RECEIVE: "20 for any arrival but the first still on it", the line of O
abbrev pub receive_tests : Section → Station → Station → ℕ → List Test
receive_tests s x sender form = (not (same_station sender (other_at x) && is_first form (line_of (side_of s (other_at x)))), NotNearest) ∷ []

abbrev pub tests_of : Section → Event → List Test
tests_of s Begin = begin_tests s.force  -- 6
tests_of s (Depart x time) =
    station_tests s.force (side_of s x).clock time  -- 7, 9
    ++ last_tests (side_of s x).len (side_of s x).last (side_of s x).interval time  -- "17 when twelve are present on that line", 18, 19
tests_of s (Receive x time sender form) = station_tests s.force (side_of s x).clock time ++ receive_tests s x sender form  -- 7, 9, 20
tests_of s Resume = resume_tests s.force (s.a.len + s.b.len)  -- 7, and 8: "resumption only when nothing is in either line"

-- ---- effects

abbrev pub accepted : Section → Stepped Section
accepted s = record { answer = accept 0 0 NoSpeed; section = s }

-- "each departure on T/C 602 (forms 256 alone) with both speeds, 25 km/h straight and 10 km/h where the view is obstructed"
abbrev pub on_order : ℕ → Section → Stepped Section
on_order form s = record { answer = accept form 256 (Both 25 10); section = s }

-- "takes the next form number of S", which is then the last on its line, "and starts the interval"
abbrev pub departed : Side → ℕ → Side
departed d time = side time (d.last + 1) (Some time) (line_of d ++ (d.last + 1) ∷ [])

-- the first on O's line is no longer there; "The interval never lapses by a receipt."
abbrev pub cleared : Side → Side
cleared d = with_line d (drop 1 (line_of d))

abbrev pub received : Section → Station → ℕ → Section
received s x time = with_side (with_side s x (with_clock (side_of s x) time)) (other_at x) (cleared (side_of s (other_at x)))

abbrev pub effect_of : Section → Event → Stepped Section
effect_of s Begin = accepted (emptied true s.refused)
effect_of s (Depart x time) = on_order ((side_of s x).last + 1) (with_side s x (departed (side_of s x) time))
effect_of s (Receive x time sender form) = accepted (received s x time)
effect_of s Resume = accepted (emptied false s.refused)

-- ---- the step

-- whose a refused step is, as by T-01: "those of no station (refusals 1 to 4, BEGIN, RESUME ..)"; every other is its entry's station's
abbrev pub whose_is : Decoded → Option Station
whose_is (Bad why) = None
whose_is (Says Begin) = None
whose_is (Says (Depart x time)) = Some x
whose_is (Says (Receive x time sender form)) = Some x
whose_is (Says Resume) = None

-- "A refusal adds 1 to the count and alters nothing else"
abbrev pub refused : Section → Decoded → Refusal → Stepped Section
refused s step why = record { answer = Err why; section = count_refusal (whose_is step) s }

abbrev pub settled : Section → Decoded → Verdict → Stepped Section → Stepped Section
settled s step (Err why) r = refused s step why
settled s step (Ok _) r = r

abbrev pub on_decoded : Section → Decoded → Stepped Section
on_decoded s (Bad why) = refused s (Bad why) why
on_decoded s (Says event) = settled s (Says event) (first_of (tests_of s event)) (effect_of s event)

-- "5 is tested first, then rising numbers"; it alters nothing
abbrev pub if_made : Bool → Section → Stepped Section → Stepped Section
if_made true s after = after
if_made false s after = record { answer = Err IllMade; section = s }

unfoldable pub step_of : Section → List ℕ → Stepped Section
step_of s bytes = if_made (well_made s) s (on_decoded s (decode bytes))

-- what is worked: the double line's table, and this step
abbrev pub double : Working Section
double = record { table = DoubleLine; answer = λ s bytes. (step_of s bytes).answer; after = λ s bytes. (step_of s bytes).section }
