-- A double line section in the words that a run keeps in lent memory, where a single line section has the same (`words`, specs/Words.antt):
--
--   word        | holds
--   1 to 4      | in force, and entries refused for A, for B and of no station
--   of a desk   | clock, last form number and interval; and how many are on the station's line where a single line counts departures
--   the ring's  | A's twelve places of form numbers, then B's
--
-- All other words are passed by.
use Rattle.double.specs.Sections.{line_of, side_of, with_side}
use Rattle.double.specs.Steps.{Begin, Decoded, Depart, Event, Receive, Resume, on_decoded}
use Rattle.double.specs.declared.Section.{Section}
use Rattle.double.specs.declared.Side.{Side}
use Rattle.std.specs.Prelude.{Bool, Err, List, Ok, drop, eqb, false, get_or, length, map, take, true, ℕ, ◌%◌, ◌++◌, ◌≡◌}
use Rattle.words.specs.Words.{counts_in, desk_in, ring_from, ring_in, word_count}
use Rattle.working.specs.Answers.{Answer}
use Rattle.working.specs.Events.{Says}
use Rattle.working.specs.Sections.{other_at, pad_with}
use Rattle.working.specs.declared.Desk.{Desk}
use Rattle.working.specs.declared.Station.TheVariants.{A, B}
use Rattle.working.specs.declared.Station.{Station}

-- ---- the lines

-- where a station's places begin in the ring
abbrev pub places_from : Station → ℕ
places_from A = 0
places_from B = 12

-- the form numbers in a station's twelve places of the ring, two bytes of each word
abbrev pub places_in : List ℕ → Station → List ℕ
places_in ring x = map (λ (word : ℕ). word % 65536) (take 12 (drop (places_from x) ring))

-- a side by its desk and the numbers in its places: the first of them, as many as are on the line
abbrev pub side_by : Desk → List ℕ → Side
side_by d places = record { clock = d.clock; last = d.last; interval = d.interval; numbers = pad_with 0 12 (take d.sent places); len = d.sent }

abbrev pub side_in : List ℕ → Station → Side
side_in w x = side_by (desk_in w x) (places_in (ring_in w) x)

-- the section that words stand for
unfoldable pub double_in : List ℕ → Section
double_in w = record { force = eqb (get_or w 1 0) 1; refused = counts_in w; a = side_in w A; b = side_in w B }

-- ---- a section put into words

-- of its lines nothing but the trains on them is kept; a well-made section has nothing else there
abbrev pub trimmed_side : Side → Side
trimmed_side d = record { clock = d.clock; last = d.last; interval = d.interval; numbers = pad_with 0 12 (line_of d); len = d.len }

abbrev pub trimmed : Section → Section
trimmed s = record { force = s.force; refused = s.refused; a = trimmed_side s.a; b = trimmed_side s.b }

-- ---- what a function makes of the words that it is lent

-- the numbers in a station's places alone are altered
pub record PlacesBecome (before after : List ℕ) (x : Station) (f : List ℕ → List ℕ) : Type 0 where
  pub long : length before ≡ word_count
  pub same : length after ≡ length before
  pub figures : take ring_from after ≡ take ring_from before
  pub places : places_in (ring_in after) x ≡ f (places_in (ring_in before) x)
  pub others : places_in (ring_in after) (other_at x) ≡ places_in (ring_in before) (other_at x)

-- each number is that of the place behind it, and the last place keeps its own
abbrev pub moved_up : List ℕ → List ℕ
moved_up l = take 11 (drop 1 l) ++ drop 11 l

-- a station's side alone is altered
abbrev pub SideBecomes : List ℕ → List ℕ → Station → (Side → Side) → Type 0
SideBecomes before after x f = double_in after ≡ with_side (double_in before) x (f (side_of (double_in before) x))

-- what the words are before a refusal is counted: by the answer as they were, or words that stand for the section after it
abbrev pub Puts : Answer → List ℕ → Section → List ℕ → Type 0
Puts (Err why) before s after = after ≡ before
Puts (Ok order) before s after = double_in after ≡ s

-- an entry that is taken, before a refusal is counted
pub record Tries (before : List ℕ) (event : Event) (given : Answer) (after : List ℕ) : Type 0 where
  pub answer : given ≡ (on_decoded (double_in before) (Says event)).answer
  pub words : let t = on_decoded (double_in before) (Says event) in Puts t.answer before t.section after

-- the answer to an entry, and to what was read at some place, with the section after it
pub record Answers (before : List ℕ) (decoded : Decoded) (given : Answer) (after : List ℕ) : Type 0 where
  pub answer : given ≡ (on_decoded (double_in before) decoded).answer
  pub section : double_in after ≡ (on_decoded (double_in before) decoded).section

abbrev pub Enters : List ℕ → Event → Answer → List ℕ → Type 0
Enters before event given after = Answers before (Says event) given after

-- which events declare, and have their refusal counted with it
abbrev pub is_declared : Event → Bool
is_declared Begin = true
is_declared (Depart x time) = false
is_declared (Receive x time sender form) = false
is_declared Resume = true

-- an entry that is taken, where BEGIN and RESUME have counted what they refuse
abbrev pub Comes : List ℕ → Event → Answer → List ℕ → Type 0
Comes before Begin given after = Enters before Begin given after
Comes before (Depart x time) given after = Tries before (Depart x time) given after
Comes before (Receive x time sender form) given after = Tries before (Receive x time sender form) given after
Comes before Resume given after = Enters before Resume given after
