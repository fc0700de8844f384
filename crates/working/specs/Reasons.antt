-- Document 01, "Reasons by who causes them", with T-02 on refusal 16, T-03 on kind 9 and T-08 on refusal 11: what each kind is refused for, in rising order.
-- Refusals 1 to 4 stand in Entries.
use Rattle.std.specs.Prelude.{Bool, List, None, Option, Some, [], cond, eqb, false, get_or, leb, length, ltb, not, suc, ℕ, ◌&&◌, ◌++◌, ◌+◌, ◌||◌, ◌∷◌}
use Rattle.working.specs.Acts as acts
use Rattle.working.specs.Acts.{Act}
use Rattle.working.specs.Entries.{every}
use Rattle.working.specs.Refusals.{Test}
use Rattle.working.specs.Sections.{number_at, unused}
use Rattle.working.specs.WellMade.{is_open_or_through}
use Rattle.working.specs.declared.Desk.{Desk}
use Rattle.working.specs.declared.Refusal.TheVariants.{AlreadyInForce, BeforeClock, FormsUsed, GrantNotAllowed, GuestHere, HoldsLineClear, IntervalRunning, MayNotEnter}
use Rattle.working.specs.declared.Refusal.TheVariants.{MayNotMeet, NoGuest, NoLineClear, NotInForce, NotNearest, OpenerAway, OwesLineClear, TwelveSent, VehiclePresent}
use Rattle.working.specs.declared.Station.{Station}
use Rattle.working.specs.declared.Vehicle.{Vehicle}

-- ---- whoever declares

abbrev pub begin_tests : Bool → List Test
begin_tests force = (force, AlreadyInForce) ∷ []  -- 6

abbrev pub resume_tests : Bool → ℕ → List Test
resume_tests force present =
    (not force, NotInForce)  -- 7
    ∷ (ltb 0 present, VehiclePresent)  -- 8
    ∷ []

-- ---- the station master

-- "19 interval running, under 30 minutes"
abbrev pub is_under : Option ℕ → ℕ → Bool
is_under None time = false
is_under (Some minute) time = ltb time (minute + 30)

-- every act of a station, whose clock is this, is put to these first
abbrev pub station_tests : Bool → ℕ → ℕ → List Test
station_tests force clock time =
    (not force, NotInForce)  -- 7
    ∷ (ltb time clock, BeforeClock)  -- 9
    ∷ []

-- OPEN and THROUGH
abbrev pub open_tests : Desk → List Test
open_tests d =
    (d.out, OpenerAway)  -- 10
    ∷ (ltb 0 d.clears.holds, HoldsLineClear)  -- 11
    ∷ (ltb 0 d.clears.owes, OwesLineClear)  -- 12
    ∷ (ltb 0 d.guest, GuestHere)  -- 13
    ∷ []

-- T-08: "drop that test from RETURN", which was 11, "and keep 11 for OPEN and THROUGH"
abbrev pub return_tests : Desk → ℕ → List Test
return_tests d granted =
    (eqb d.guest 0, NoGuest)  -- 14
    ∷ (ltb d.clears.asked granted, GrantNotAllowed)  -- 16
    ∷ []

-- 16: "granted above asked at S"; T-02: "A TRAIN that leaves holds above 0 may now carry granted. .. On a TRAIN, a grant while the station owes is 16."
abbrev pub train_tests : Desk → ℕ → List Test
train_tests d granted =
    (eqb d.clears.holds 0, NoLineClear)  -- 15
    ∷ (ltb d.clears.asked granted || (ltb 0 granted && ltb 0 d.clears.owes), GrantNotAllowed)  -- 16
    ∷ []

-- every departure is put to these last, by how many count, the last form number and the interval
abbrev pub last_tests : ℕ → ℕ → Option ℕ → ℕ → List Test
last_tests counted last interval time =
    (leb 12 counted, TwelveSent)  -- 17
    ∷ (leb 9999 last, FormsUsed)  -- 18
    ∷ (is_under interval time, IntervalRunning)  -- 19
    ∷ []

-- a departure's tests: those of its kind between the two that all have
abbrev pub depart_tests : Bool → Desk → ℕ → List Test → List Test
depart_tests force d time own = station_tests force d.clock time ++ (own ++ last_tests d.sent d.last d.interval time)

-- ---- those on the line

abbrev pub is_named : Station → ℕ → Vehicle → Bool
is_named sender form v = eqb v.sender (number_at sender) && eqb v.form form

-- "S's own must be OPEN or THROUGH, unmet or heading to S; O's must head to S"
abbrev pub may_enter : Station → Vehicle → Bool
may_enter x v =
    cond (eqb v.sender (number_at x))
    (is_open_or_through v.movement && (not v.met || eqb v.heading (number_at x)))
    (eqb v.heading (number_at x))

-- v is the vehicle nearest S
abbrev pub receive_tests : Station → Station → ℕ → Vehicle → List Test
receive_tests x sender form v =
    (not (is_named sender form v), NotNearest)  -- 20
    ∷ (not (may_enter x v), MayNotEnter)  -- 21
    ∷ []

-- what an act of station x, whose desk is d and whose nearest vehicle is v, is put to
abbrev pub tests_of : Act → Station → Bool → Desk → ℕ → Vehicle → List Test
tests_of (acts.Open view class asked) x force d time v = depart_tests force d time (open_tests d)
tests_of (acts.Through view) x force d time v = depart_tests force d time (open_tests d)
tests_of (acts.Return asked granted) x force d time v = depart_tests force d time (return_tests d granted)
-- T-03: "Kind 9, .. has the map and the refusals of TRAIN"
tests_of (acts.Train endorsed view asked granted) x force d time v = depart_tests force d time (train_tests d granted)
tests_of (acts.Receive sender form) x force d time v = station_tests force d.clock time ++ receive_tests x sender form v

-- the place of the vehicle named, or how many there are where it is not present
abbrev pub find_of : Station → ℕ → List Vehicle → ℕ
find_of sender form [] = 0
find_of sender form (v ∷ l) = cond (is_named sender form v) 0 (suc (find_of sender form l))

-- the vehicle at place i is present "and heads to B, its neighbour towards B heads to A, and both are OPEN or THROUGH"
abbrev pub meeting_tests : List Vehicle → ℕ → List Bool
meeting_tests l i =
    ltb (i + 1) (length l)
    ∷ eqb (get_or l i unused).heading 2
    ∷ eqb (get_or l (i + 1) unused).heading 1
    ∷ is_open_or_through (get_or l i unused).movement
    ∷ is_open_or_through (get_or l (i + 1) unused).movement
    ∷ []

abbrev pub may_meet : List Vehicle → ℕ → Bool
may_meet l i = every (meeting_tests l i)

abbrev pub meet_tests : Bool → List Vehicle → ℕ → List Test
meet_tests force l i =
    (not force, NotInForce)  -- 7
    ∷ (not (may_meet l i), MayNotMeet)  -- 22
    ∷ []
