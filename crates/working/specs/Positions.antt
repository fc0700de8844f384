-- T-06, "A position is kept as 281 bytes, high byte first .. the section's figures in document 01's order, later ones last in their vehicle or desk":
--
--   offset   | bytes   | what
--   10 i     | 10      | vehicle i from A, and zeros in an unused place
--   240      | 1       | in force
--   241      | 12      | entries refused for A, for B and of no station, 4 each
--   253, 267 | 14 each | desk A, desk B
--
-- and what a step makes of it for a host program.
use Rattle.std.specs.Prelude.{Bool, Err, List, None, Ok, Option, Some, cond, drop, eqb, false, get_or, length, ltb, not, replicate, suc, take, true, zero}
use Rattle.std.specs.Prelude.{[], ℕ, ◌%◌, ◌&&◌, ◌*◌, ◌++◌, ◌+◌, ◌/◌, ◌∷◌, ◌≡◌, ◌≤◌}
use Rattle.working.specs.Answers.{Answer}
use Rattle.working.specs.Entries.{pasted}
use Rattle.working.specs.Refusals.{Test, Verdict, first_of, number_of, refusal_in}
use Rattle.working.specs.Sections.{pad_to, vehicles_of}
use Rattle.working.specs.Steps.{step_of}
use Rattle.working.specs.WellMade.{one_if, well_made}
use Rattle.working.specs.declared.Counts.{Counts}
use Rattle.working.specs.declared.Desk.{Desk}
use Rattle.working.specs.declared.Movement.TheVariants.{LastTrain, Open, Return, Through, Train}
use Rattle.working.specs.declared.Movement.{Movement}
use Rattle.working.specs.declared.Refusal.TheVariants.{BufferTooShort, NoPosition}
use Rattle.working.specs.declared.Section.{Section}
use Rattle.working.specs.declared.Speed.TheVariants.{Booked, Both, Kmh, NoSpeed, Walking}
use Rattle.working.specs.declared.Speed.{Speed}
use Rattle.working.specs.declared.Vehicle.{Vehicle}

-- ---- numbers, "high byte first"

-- a number in two bytes, "form numbers, clock and minutes", and in four, "each count"
abbrev pub in_two : ℕ → List ℕ
in_two n = n / 256 ∷ n % 256 ∷ []

abbrev pub in_four : ℕ → List ℕ
in_four n = n / 16777216 ∷ n / 65536 % 256 ∷ n / 256 % 256 ∷ n % 256 ∷ []

-- the byte at a place, and the numbers that two and four from there on stand for
abbrev pub byte_at : List ℕ → ℕ → ℕ
byte_at bytes at = get_or bytes at 0

abbrev pub two_at : List ℕ → ℕ → ℕ
two_at bytes at = byte_at bytes at * 256 + byte_at bytes (at + 1)

abbrev pub four_at : List ℕ → ℕ → ℕ
four_at bytes at = two_at bytes at * 65536 + two_at bytes (at + 2)

-- ---- a vehicle

-- what a vehicle left on: the kind by its number in an entry, 2, 3, 4, 5 or 9, asked, granted and given up; 0 for what the kind has not
abbrev pub movement_bytes : Movement → List ℕ
movement_bytes (Open asked) = 2 ∷ asked ∷ 0 ∷ 0 ∷ []
movement_bytes Through = 3 ∷ 0 ∷ 0 ∷ 0 ∷ []
movement_bytes (Return asked granted) = 4 ∷ asked ∷ granted ∷ 0 ∷ []
movement_bytes (Train asked granted) = 5 ∷ asked ∷ granted ∷ 0 ∷ []
movement_bytes (LastTrain asked granted given_up) = 9 ∷ asked ∷ granted ∷ given_up ∷ []

abbrev pub movement_of : ℕ → ℕ → ℕ → ℕ → Movement
movement_of kind asked granted given_up =
    cond (eqb kind 3) Through
    (cond (eqb kind 4) (Return asked granted)
    (cond (eqb kind 5) (Train asked granted)
    (cond (eqb kind 9) (LastTrain asked granted given_up)
    (Open asked))))

-- ten bytes: kind 1, sender 1, form number 2, heading 1, met 1, class 1, asked 1, granted 1, given up 1
unfoldable pub vehicle_bytes : Vehicle → List ℕ
vehicle_bytes v =
    byte_at (movement_bytes v.movement) 0
    ∷ v.sender
    ∷ in_two v.form
    ++ v.heading
    ∷ one_if v.met
    ∷ v.class
    ∷ byte_at (movement_bytes v.movement) 1
    ∷ byte_at (movement_bytes v.movement) 2
    ∷ byte_at (movement_bytes v.movement) 3
    ∷ []

-- the vehicle that ten bytes say
unfoldable pub vehicle_in : List ℕ → Vehicle
vehicle_in bytes = record {
  movement = movement_of (byte_at bytes 0) (byte_at bytes 7) (byte_at bytes 8) (byte_at bytes 9);
  sender = byte_at bytes 1;
  form = two_at bytes 2;
  heading = byte_at bytes 4;
  met = eqb (byte_at bytes 5) 1;
  class = byte_at bytes 6;
}

-- so many places: the vehicles, and zeros in the unused ones behind them
unfoldable pub places_bytes : ℕ → List Vehicle → List ℕ
places_bytes zero l = []
places_bytes (suc n) [] = replicate 10 0 ++ places_bytes n []
places_bytes (suc n) (v ∷ l) = vehicle_bytes v ++ places_bytes n l

-- the vehicles present are the places before the first zero place: a vehicle's place begins with its kind, which is never 0
unfoldable pub vehicles_in : ℕ → List ℕ → List Vehicle
vehicles_in zero bytes = []
vehicles_in (suc n) bytes = cond (eqb (byte_at bytes 0) 0) [] (vehicle_in (take 10 bytes) ∷ vehicles_in n (drop 10 bytes))

-- ---- the counts and a desk

unfoldable pub counts_bytes : Counts → List ℕ
counts_bytes counts = in_four counts.a ++ (in_four counts.b ++ in_four counts.none)

unfoldable pub counts_in : List ℕ → Counts
counts_in bytes = record { a = four_at bytes 0; b = four_at bytes 4; none = four_at bytes 8 }

-- "a 0 (then zeros) or 1 before the interval"
abbrev pub running_of : Option ℕ → ℕ
running_of None = 0
running_of (Some minute) = 1

abbrev pub minute_of : Option ℕ → ℕ
minute_of None = 0
minute_of (Some minute) = minute

abbrev pub interval_bytes : Option ℕ → List ℕ
interval_bytes interval = running_of interval ∷ in_two (minute_of interval)

abbrev pub interval_of : ℕ → ℕ → Option ℕ
interval_of running minute = cond (eqb running 1) (Some minute) None

-- fourteen bytes: clock 2, last 2, sent 1, interval 1 + 2, out 1, guest 1, asked 1, holds 1, owes 1, waiting 1
unfoldable pub desk_bytes : Desk → List ℕ
desk_bytes d =
    in_two d.clock
    ++ (in_two d.last
    ++ (d.sent
    ∷ interval_bytes d.interval
    ++ (one_if d.out ∷ d.guest ∷ d.clears.asked ∷ d.clears.holds ∷ d.clears.owes ∷ d.waiting ∷ [])))

unfoldable pub desk_in : List ℕ → Desk
desk_in bytes = record {
  clock = two_at bytes 0;
  last = two_at bytes 2;
  sent = byte_at bytes 4;
  interval = interval_of (byte_at bytes 5) (two_at bytes 6);
  out = eqb (byte_at bytes 8) 1;
  guest = byte_at bytes 9;
  clears = record { asked = byte_at bytes 10; holds = byte_at bytes 11; owes = byte_at bytes 12 };
  waiting = byte_at bytes 13;
}

-- ---- the position of a section

unfoldable pub position_of : Section → List ℕ
position_of s = places_bytes 24 (vehicles_of s) ++ (one_if s.force ∷ (counts_bytes s.refused ++ (desk_bytes s.a ++ desk_bytes s.b)))

-- the section that bytes say, where they are a position
unfoldable pub section_at : List ℕ → Section
section_at bytes = record {
  vehicles = pad_to 24 (vehicles_in 24 bytes);
  len = length (vehicles_in 24 bytes);
  force = eqb (byte_at bytes 240) 1;
  refused = counts_in (take 12 (drop 241 bytes));
  a = desk_in (take 14 (drop 253 bytes));
  b = desk_in (take 14 (drop 267 bytes));
}

-- two lists of bytes are the same
unfoldable pub same_bytes : List ℕ → List ℕ → Bool
same_bytes [] [] = true
same_bytes [] (c ∷ cs) = false
same_bytes (b ∷ bs) [] = false
same_bytes (b ∷ bs) (c ∷ cs) = eqb b c && same_bytes bs cs

-- Bytes are a position that are a well-made section's own, as it is written: 281 of them, flags 0 or 1, a stopped interval three zeros, zeros behind the vehicles
-- present and for what a kind has not. So no section has two writings.
unfoldable pub is_position : List ℕ → Bool
is_position bytes = same_bytes bytes (position_of (section_at bytes)) && well_made (section_at bytes)

-- ---- the step on a position, for a host

-- a speed as a number: its case, and its figures
abbrev pub speed_number : Speed → ℕ
speed_number NoSpeed = 0
speed_number Walking = 65536
speed_number (Kmh n) = 131072 + n
speed_number Booked = 196608
speed_number (Both straight elsewhere) = 262144 + 256 * straight + elsewhere

-- form number, forms and speed as numbers, at the front of those lent; a refused step leaves them as they were
abbrev pub answer_in : Answer → List ℕ → List ℕ
answer_in (Err why) numbers = numbers
answer_in (Ok given) numbers = pasted numbers 0 (given.form ∷ given.forms ∷ speed_number given.speed ∷ [])

-- 26, then 23: fewer than three numbers
abbrev pub step_tests : List ℕ → List ℕ → List Test
step_tests position numbers =
    (not (is_position position), NoPosition)  -- 26
    ∷ (ltb (length numbers) 3, BufferTooShort)  -- 23
    ∷ []

-- what is refused alters nothing
abbrev pub if_allowed : {T : Type 0} → Verdict → T → T → T
if_allowed (Err why) before after = before
if_allowed (Ok _) before after = after

-- The step on a position is the step on its section, written again: the number that it answers, the position after it, and the numbers after it.
pub record StepsPosition (position entry numbers : List ℕ) (answer : ℕ) (positionAfter numbersAfter : List ℕ) : Type 0 where
  pub answered :
      answer
      ≡ if_allowed (first_of (step_tests position numbers)) (refusal_in (first_of (step_tests position numbers))) (refusal_in (step_of (section_at position) entry).answer)
  pub left : positionAfter ≡ if_allowed (first_of (step_tests position numbers)) position (position_of (step_of (section_at position) entry).section)
  pub put : numbersAfter ≡ if_allowed (first_of (step_tests position numbers)) numbers (answer_in (step_of (section_at position) entry).answer numbers)

-- ---- what is shown

-- A section written and read is the same section; its array has 24 places, as its type says.
abbrev pub WrittenThenRead : Type 0
WrittenThenRead = (s : Section) → length s.vehicles ≡ 24 → well_made s ≡ true → (is_position (position_of s) ≡ true) × (section_at (position_of s) ≡ s)

-- Bytes that read are 281, and are written as the same bytes.
abbrev pub ReadThenWritten : Type 0
ReadThenWritten = (bytes : List ℕ) → is_position bytes ≡ true → (length bytes ≡ 281) × (position_of (section_at bytes) ≡ bytes)

-- The step on a section's position leaves the position of the section after it.
abbrev pub StepWritten : Type 0
StepWritten = (s : Section) → length s.vehicles ≡ 24 → well_made s ≡ true → (entry numbers : List ℕ) → 3 ≤ length numbers
    → StepsPosition (position_of s) entry numbers (refusal_in (step_of s entry).answer) (position_of (step_of s entry).section) (answer_in (step_of s entry).answer numbers)

-- Two speeds that have the same number are the same, of figures that are bytes.
abbrev pub is_figures : Speed → Bool
is_figures NoSpeed = true
is_figures Walking = true
is_figures (Kmh n) = ltb n 256
is_figures Booked = true
is_figures (Both straight elsewhere) = ltb straight 256 && ltb elsewhere 256

abbrev pub SpeedsTold : Type 0
SpeedsTold = (x y : Speed) → is_figures x ≡ true → is_figures y ≡ true → speed_number x ≡ speed_number y → x ≡ y
