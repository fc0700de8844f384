-- Document 01, "The section": when a section is well made, clause by clause.
use Rattle.std.specs.Prelude.{Bool, List, None, Option, Some, [], cond, drop, eqb, false, leb, length, not, true, ℕ, ◌&&◌, ◌++◌, ◌+◌, ◌||◌, ◌∷◌}
use Rattle.working.specs.Entries.{every}
use Rattle.working.specs.Sections.{desk_of, fresh_desk, number_at, vehicles_of}
use Rattle.working.specs.declared.Desk.{Desk}
use Rattle.working.specs.declared.Movement.TheVariants.{LastTrain, Open, Return, Through, Train}
use Rattle.working.specs.declared.Movement.{Movement}
use Rattle.working.specs.declared.Section.{Section}
use Rattle.working.specs.declared.Station.TheVariants.{A, B}
use Rattle.working.specs.declared.Station.{Station}
use Rattle.working.specs.declared.Vehicle.{Vehicle}

-- ---- the vehicles

-- a test holds of every vehicle
abbrev pub all : (Vehicle → Bool) → List Vehicle → Bool
all p [] = true
all p (v ∷ l) = p v && all p l

-- a figure of each vehicle, added up
abbrev pub sum_over : (Vehicle → ℕ) → List Vehicle → ℕ
sum_over f [] = 0
sum_over f (v ∷ l) = f v + sum_over f l

-- v was sent by station number n
abbrev pub is_from : ℕ → Vehicle → Bool
is_from n v = eqb v.sender n

-- OPEN or THROUGH
abbrev pub is_open_or_through : Movement → Bool
is_open_or_through (Open asked) = true
is_open_or_through Through = true
is_open_or_through (Return asked granted) = false
is_open_or_through (Train asked granted) = false
is_open_or_through (LastTrain asked granted given_up) = false

-- "class is 1 to 5 on OPEN and RETURN, 1 on THROUGH, 0 on TRAIN; OPEN has asked 1 to 8 and granted 0, THROUGH both 0"; else asked and granted are at most 8;
-- T-03: "recorded as a TRAIN but for the kind", and given up is "0 to 7, there only"
abbrev pub movement_tests : Movement → ℕ → List Bool
movement_tests (Open asked) class = leb 1 class ∷ leb class 5 ∷ leb 1 asked ∷ leb asked 8 ∷ []
movement_tests Through class = eqb class 1 ∷ []
movement_tests (Return asked granted) class = leb 1 class ∷ leb class 5 ∷ leb asked 8 ∷ leb granted 8 ∷ []
movement_tests (Train asked granted) class = eqb class 0 ∷ leb asked 8 ∷ leb granted 8 ∷ []
movement_tests (LastTrain asked granted given_up) class = eqb class 0 ∷ leb asked 8 ∷ leb granted 8 ∷ leb given_up 7 ∷ []

abbrev pub vehicle_tests : Vehicle → List Bool
vehicle_tests v =
    (eqb v.sender 1 || eqb v.sender 2)
    ∷ (eqb v.heading 1 || eqb v.heading 2)
    ∷ (v.met || not (eqb v.heading v.sender))  -- "unmet vehicles head away from their sender"
    ∷ (is_open_or_through v.movement || not v.met)  -- "RETURN and TRAIN are unmet"
    ∷ every (movement_tests v.movement v.class)
    ∷ []

abbrev pub shaped : Vehicle → Bool
shaped v = every (vehicle_tests v)

-- "A's vehicles all stand nearer A than B's"
abbrev pub ordered : List Vehicle → Bool
ordered [] = true
ordered (v ∷ l) = cond (is_from 1 v) (ordered l) (all (is_from 2) (v ∷ l))

-- "form numbers .. differ among one sender's vehicles"
abbrev pub same_form : Vehicle → Vehicle → Bool
same_form v w = eqb v.sender w.sender && eqb v.form w.form

abbrev pub differ : List Vehicle → Bool
differ [] = true
differ (v ∷ l) = all (λ w. not (same_form v w)) l && differ l

-- "unused places are zero"
abbrev pub is_blank_movement : Movement → Bool
is_blank_movement (Open asked) = eqb asked 0
is_blank_movement Through = false
is_blank_movement (Return asked granted) = false
is_blank_movement (Train asked granted) = false
is_blank_movement (LastTrain asked granted given_up) = false

abbrev pub is_blank : Vehicle → Bool
is_blank v = every (is_blank_movement v.movement ∷ eqb v.sender 0 ∷ eqb v.form 0 ∷ eqb v.heading 0 ∷ not v.met ∷ eqb v.class 0 ∷ [])

-- ---- a desk

abbrev pub one_if : Bool → ℕ
one_if true = 1
one_if false = 0

-- how many of the vehicles station number n sent
abbrev pub count_from : ℕ → List Vehicle → ℕ
count_from n l = sum_over (λ v. one_if (is_from n v)) l

-- "form numbers are 1 to the desk's last"
abbrev pub numbered : ℕ → ℕ → Vehicle → Bool
numbered n last v = not (is_from n v) || (leb 1 v.form && leb v.form last)

-- "a running interval is not later than the clock"
abbrev pub not_later : Option ℕ → ℕ → Bool
not_later None clock = true
not_later (Some minute) clock = leb minute clock

-- none is 0, and a minute is one more than itself
abbrev pub interval_number : Option ℕ → ℕ
interval_number None = 0
interval_number (Some minute) = minute + 1

-- a figure as a number, and its range
pub data Range : Type 0 where
  any : Range
  up_to : ℕ → Range

abbrev pub Figure : Type 0
Figure = ℕ × Range

-- the figures of a desk, in document 01's order, later ones last
abbrev pub desk_figures : Desk → List Figure
desk_figures d =
    (d.clock, any)  -- "minute of its last accepted entry"
    ∷ (d.last, up_to 9999)  -- "last form number, 0 to 9,999"
    ∷ (d.sent, up_to 12)  -- "departures counted, 0 to 12"
    ∷ (interval_number d.interval, any)  -- "running interval: none, or the minute of the last departure"
    ∷ (one_if d.out, any)  -- "whether its own opener is away"
    ∷ (d.guest, up_to 5)  -- "0, or the class of the other station's opener standing here"
    ∷ (d.clears.asked, up_to 8)  -- "trains the other station has enquired for, unanswered, 0 to 8"
    ∷ (d.clears.holds, up_to 8)  -- "line clears for its own trains, 0 to 8"
    ∷ (d.clears.owes, up_to 8)  -- "line clears given and not yet arrived, 0 to 8"
    ∷ (d.waiting, up_to 8)  -- T-02: "the clears the receiving station keeps waiting (0 to 8)"
    ∷ []

abbrev pub numbers_of : List Figure → List ℕ
numbers_of [] = []
numbers_of (f ∷ fs) = f.0 ∷ numbers_of fs

-- how many they are
abbrev pub desk_length : ℕ
desk_length = length (desk_figures fresh_desk)

-- "ranges hold"
abbrev pub within : ℕ → Range → Bool
within n any = true
within n (up_to most) = leb n most

abbrev pub figure_tests : List Figure → List Bool
figure_tests [] = []
figure_tests (f ∷ fs) = within f.0 f.1 ∷ figure_tests fs

-- the desk of station number n, beside the vehicles present
abbrev pub desk_tests : ℕ → Desk → List Vehicle → List Bool
desk_tests n d l =
    figure_tests (desk_figures d)
    ++ leb (count_from n l) d.sent  -- "each sent is at least that station's vehicles present"
    ∷ not_later d.interval d.clock
    ∷ all (numbered n d.last) l
    ∷ []

abbrev pub desk_made : Section → Station → Bool
desk_made s x = every (desk_tests (number_at x) (desk_of s x) (vehicles_of s))

-- ---- the section

-- "all else is zero or none"
abbrev pub zero_tests : List ℕ → List Bool
zero_tests [] = []
zero_tests (n ∷ ns) = eqb n 0 ∷ zero_tests ns

abbrev pub is_fresh_desk : Desk → Bool
is_fresh_desk d = every (zero_tests (numbers_of (desk_figures d)))

-- "not in force, all but the count is as fresh": the vehicles and the desks; in force or not itself, and the three counts, are left out
abbrev pub is_idle : Section → Bool
is_idle s = every (eqb s.len 0 ∷ is_fresh_desk s.a ∷ is_fresh_desk s.b ∷ [])

abbrev pub made_tests : Section → List Bool
made_tests s =
    leb s.len 24
    ∷ all is_blank (drop s.len s.vehicles)
    ∷ all shaped (vehicles_of s)
    ∷ ordered (vehicles_of s)
    ∷ differ (vehicles_of s)
    ∷ desk_made s A
    ∷ desk_made s B
    ∷ (s.force || is_idle s)
    ∷ []

-- "A section is well made if ranges hold" and so on
unfoldable pub well_made : Section → Bool
well_made s = every (made_tests s)
