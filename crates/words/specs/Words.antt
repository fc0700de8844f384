-- A section in words, as a run keeps it in lent memory:
--
--   word        | holds
--   0           | how many vehicles are present
--   1           | 1 in force, else 0
--   2, 3, 4     | entries refused for A, for B, and of no station
--   5           | the ring's start: the slot of the vehicle nearest A
--   from 6 on   | A's desk, a word for each of its figures (`desk_figures`), then B's
--   the last 64 | the ring: 32 slots of two words; place i is slot (start + i) % 32
--
-- A slot's first word, from its low end: form number (two bytes), sender, heading, met (1 or 0), class (a byte each).
-- Its second word: what the vehicle left on (0 OPEN, 1 THROUGH, 2 RETURN, 3 TRAIN, 4 a TRAIN endorsed as the last), granted, asked, given up (a byte each). Two zeros
-- are an unused place.
use Rattle.std.specs.Prelude.{Bool, List, None, Option, Some, [], drop, eqb, false, get_or, min, suc, true, zero, ℕ, ◌%◌, ◌*◌, ◌++◌, ◌+◌, ◌-◌, ◌/◌, ◌^◌, ◌∷◌, ◌≡◌, ◌≤◌}
use Rattle.working.specs.Reasons.{find_of, may_meet}
pub use Rattle.working.specs.Sections.{with_clears, with_guest, with_out, with_waiting}
use Rattle.working.specs.Effects.{received}
use Rattle.working.specs.Sections.{desk_of, pad_to, place_of, unused, vehicles_of, with_desk, with_entered, with_vehicles}
use Rattle.working.specs.Steps.{met_at}
use Rattle.working.specs.WellMade.{desk_figures, desk_length, numbers_of, one_if}
use Rattle.working.specs.declared.Counts.{Counts}
use Rattle.working.specs.declared.Desk.{Desk}
use Rattle.working.specs.declared.Movement.TheVariants.{LastTrain, Open, Return, Through, Train}
use Rattle.working.specs.declared.Movement.{Movement}
use Rattle.working.specs.declared.Section.{Section}
use Rattle.working.specs.declared.Station.TheVariants.{A, B}
use Rattle.working.specs.declared.Station.{Station}
use Rattle.working.specs.declared.Vehicle.{Vehicle}

-- ---- how many words

-- where the counts begin; the word of the ring's start, behind them; and where the desks begin
abbrev pub counts_from : ℕ
counts_from = 2

abbrev pub start_place : ℕ
start_place = counts_from + 3

abbrev pub desks_from : ℕ
desks_from = start_place + 1

-- where a station's words begin
abbrev pub desk_from : Station → ℕ
desk_from A = desks_from
desk_from B = desks_from + desk_length

abbrev pub ring_from : ℕ
ring_from = desks_from + 2 * desk_length

abbrev pub slots : ℕ
slots = 32

abbrev pub word_count : ℕ
word_count = ring_from + 2 * slots

-- n words from one on
abbrev pub words_from : ℕ → ℕ → List ℕ → List ℕ
words_from i zero w = []
words_from i (suc n) w = get_or w i 0 ∷ words_from (i + 1) n w

-- ---- a vehicle in two words

-- a byte of a word, counted from its low end
abbrev pub byte_of : ℕ → ℕ → ℕ
byte_of word i = word / 256 ^ i % 256

-- what a vehicle left on, by number, with asked, granted and given up
abbrev pub left_on : ℕ → ℕ → ℕ → ℕ → Movement
left_on zero asked granted given_up = Open asked
left_on (suc zero) asked granted given_up = Through
left_on (suc (suc zero)) asked granted given_up = Return asked granted
left_on (suc (suc (suc zero))) asked granted given_up = Train asked granted
left_on (suc (suc (suc (suc n)))) asked granted given_up = LastTrain asked granted given_up

abbrev pub movement_in : ℕ → Movement
movement_in second = left_on (second % 256) (byte_of second 2) (byte_of second 1) (byte_of second 3)

abbrev pub vehicle_in : ℕ → ℕ → Vehicle
vehicle_in first second = record {
  movement = movement_in second;
  sender = byte_of first 2;
  form = first % 65536;
  heading = byte_of first 3;
  met = eqb (byte_of first 4) 1;
  class = byte_of first 5;
}

abbrev pub first_word : Vehicle → ℕ
first_word v = v.form + v.sender * 256 ^ 2 + v.heading * 256 ^ 3 + one_if v.met * 256 ^ 4 + v.class * 256 ^ 5

abbrev pub packed : ℕ → ℕ → ℕ → ℕ → ℕ
packed left asked granted given_up = left + granted * 256 + asked * 256 ^ 2 + given_up * 256 ^ 3

abbrev pub movement_word : Movement → ℕ
movement_word (Open asked) = packed 0 asked 0 0
movement_word Through = packed 1 0 0 0
movement_word (Return asked granted) = packed 2 asked granted 0
movement_word (Train asked granted) = packed 3 asked granted 0
movement_word (LastTrain asked granted given_up) = packed 4 asked granted given_up

abbrev pub second_word : Vehicle → ℕ
second_word v = movement_word v.movement

-- ---- the ring

-- n vehicles round the ring, from one on
abbrev pub round : (ℕ → Vehicle) → ℕ → ℕ → List Vehicle
round at i zero = []
round at i (suc n) = at (i % slots) ∷ round at (i + 1) n

-- the ring's words, behind all others, and the vehicle in a slot of theirs
abbrev pub ring_in : List ℕ → List ℕ
ring_in w = drop ring_from w

abbrev pub vehicle_at : List ℕ → ℕ → Vehicle
vehicle_at ring slot = vehicle_in (get_or ring (2 * slot) 0) (get_or ring (2 * slot + 1) 0)

abbrev pub start_in : List ℕ → ℕ
start_in w = get_or w start_place 0 % slots

-- as many vehicles as there are places for
abbrev pub present_in : List ℕ → ℕ
present_in w = min (get_or w 0 0) 24

abbrev pub vehicles_in : List ℕ → List Vehicle
vehicles_in w = round (vehicle_at (ring_in w)) (start_in w) (present_in w)

-- the places of a section slot by slot, the first of them in the slot at the start; past the places a slot is unused
unfoldable pub by_slot : List Vehicle → ℕ → List Vehicle
by_slot places start = round (λ i. get_or places i unused) (slots - start) slots

unfoldable pub slot_words : List Vehicle → List ℕ
slot_words [] = []
slot_words (v ∷ l) = first_word v ∷ second_word v ∷ slot_words l

-- the ring's start moved n slots on at A's end, and left where it is at B's
abbrev pub start_on : Station → ℕ → ℕ → ℕ
start_on A start n = (start + n) % slots
start_on B start n = start

-- so many slots on is one slot back
abbrev pub one_back : ℕ
one_back = slots - 1

-- ---- a desk

abbrev pub interval_in : ℕ → Option ℕ
interval_in zero = None
interval_in (suc minute) = Some (minute % 65536)

abbrev pub desk_read : List ℕ → Desk
desk_read t = record {
  clock = get_or t 0 0 % 65536;
  last = get_or t 1 0 % 65536;
  sent = get_or t 2 0 % 256;
  interval = interval_in (get_or t 3 0);
  out = eqb (get_or t 4 0) 1;
  guest = get_or t 5 0 % 256;
  clears = record { asked = get_or t 6 0 % 256; holds = get_or t 7 0 % 256; owes = get_or t 8 0 % 256 };
  waiting = get_or t 9 0 % 256;
}

abbrev pub desk_words : Desk → List ℕ
desk_words d = numbers_of (desk_figures d)

-- the words of a station's desk, and the desk that they stand for
abbrev pub desk_words_in : List ℕ → Station → List ℕ
desk_words_in w x = words_from (desk_from x) desk_length w

abbrev pub desk_in : List ℕ → Station → Desk
desk_in w x = desk_read (desk_words_in w x)

-- ---- the counts

-- the place of a count, and what it is
abbrev pub count_place : Option Station → ℕ
count_place whose = counts_from + place_of whose

abbrev pub count_in : List ℕ → Option Station → ℕ
count_in w whose = get_or w (count_place whose) 0 % 4294967296

abbrev pub counts_in : List ℕ → Counts
counts_in w = record { a = count_in w (Some A); b = count_in w (Some B); none = count_in w None }

abbrev pub count_words : Counts → List ℕ
count_words c = c.a ∷ c.b ∷ c.none ∷ []

-- ---- the section that words stand for, and the words of a section whose ring starts at a slot

unfoldable pub section_in : List ℕ → Section
section_in w = record {
  vehicles = pad_to 24 (vehicles_in w);
  len = get_or w 0 0;
  force = eqb (get_or w 1 0) 1;
  refused = counts_in w;
  a = desk_in w A;
  b = desk_in w B;
}

unfoldable pub words_of : Section → ℕ → List ℕ
words_of s start =
    s.len ∷ one_if s.force ∷ count_words s.refused ++ start ∷ desk_words s.a ++ desk_words s.b ++ slot_words (by_slot s.vehicles start)

-- the words are some section's own: of all that stand for it, from that start on, those that a definition names
abbrev pub Own : List ℕ → Type 0
Own w = w ≡ words_of (section_in w) (start_in w)

-- they are a section's own, with the ring's start at the first slot
pub record OwnWords (w : List ℕ) (s : Section) : Type 0 where
  pub section : section_in w ≡ s
  pub start : start_in w ≡ 0
  pub words : w ≡ words_of s 0
  pub fits : s.len ≤ 24

-- ---- what a function makes of the words that it is lent

-- They stand for a section, with the ring's start at a slot; and a section's own words become that section's own.
pub record Becomes (before after : List ℕ) (s : Section) (slot : ℕ) : Type 0 where
  pub section : section_in after ≡ s
  pub start : start_in after ≡ slot
  pub own : s.len ≤ 24 → Own before → after ≡ words_of s slot

-- the vehicles alone are altered, and the ring's start with them
abbrev pub VehiclesBecome : List ℕ → List ℕ → (List Vehicle → List Vehicle) → (ℕ → ℕ) → Type 0
VehiclesBecome before after f start = Becomes before after (with_vehicles (section_in before) (f (vehicles_of (section_in before)))) (start (start_in before))

-- MEET, where the pair may meet
abbrev pub met_if : Bool → Section → Station → ℕ → Section
met_if true s x i = with_vehicles s (met_at x i (vehicles_of s))
met_if false s x i = s

pub record Met (before after : List ℕ) (x sender : Station) (form : ℕ) (r : Bool) : Type 0 where
  pub may : r ≡ may_meet (vehicles_of (section_in before)) (find_of sender form (vehicles_of (section_in before)))
  pub words : Becomes before after (met_if r (section_in before) x (find_of sender form (vehicles_of (section_in before)))) (start_in before)

-- a station's desk alone is altered
abbrev pub DeskBecomes : List ℕ → List ℕ → Station → (Desk → Desk) → Type 0
DeskBecomes before after x f = Becomes before after (with_desk (section_in before) x (f (desk_of (section_in before) x))) (start_in before)

-- the ring's words are as they were
abbrev pub RingKept : List ℕ → List ℕ → Type 0
RingKept before after = ring_in after ≡ ring_in before

-- the minute of the last entry alone, and the departures counted alone
abbrev pub with_clock : ℕ → Desk → Desk
with_clock time d = with_entered time d.last d.sent d.interval d

abbrev pub with_sent : ℕ → Desk → Desk
with_sent sent d = with_entered d.clock d.last sent d.interval d

-- a departure takes a form number and starts the interval; a receipt stops it
abbrev pub with_departure : ℕ → ℕ → ℕ → Desk → Desk
with_departure time form sent = with_entered time form sent (Some time)

abbrev pub with_receipt : ℕ → ℕ → Desk → Desk
with_receipt time sent d = received d time sent
