-- When a section is well made, document 01's sentence clause by clause, as two tables. Every section of the first breaks one clause, at one end of a range where
-- there is a range, and nothing else: each is answered 5 and left as it was. Those of the second stand at the limits: none is answered 5.
-- The bytes handed over are none, for which a well-made section gives 1; 5 comes first.
-- The paper's figures stand in the rows as they are, so that a misreading that definition and code share shows here.
-- Assumes nothing.
use Prim.Native.Nat.{suc, ℕ}
use Rattle.std.specs.Prelude.{Err, None, Ok, Some}
use Rattle.working.proofs.examples.Computing.{step_computes}
use Rattle.working.proofs.examples.Literals.{counts, figures, vehicle, with_asked, with_clock, with_last, with_owes, with_sent, working}
use Rattle.working.specs.Answers.{Answer}
use Rattle.working.specs.Refusals.{number_of}
use Rattle.working.specs.Sections.{fresh_desk, none_refused, number_at, other_at, pad_to, with_guest, with_holds, with_interval, with_out, with_waiting}
use Rattle.working.specs.Steps.{step_of}
use Rattle.working.specs.declared.Desk.{Desk}
use Rattle.working.specs.declared.Movement.TheVariants.{LastTrain, Open, Return, Through, Train}
use Rattle.working.specs.declared.Movement.{Movement}
use Rattle.working.specs.declared.Section.{Section}
use Rattle.working.specs.declared.Station.TheVariants.{A, B}
use Rattle.working.specs.declared.Station.{Station}
use Rattle.working.specs.declared.Vehicle.{Vehicle}
use lib.Dec.{eqb}
use lib.ListN.{length, set}
use mathlib.Core.Bool.{cond, false, true}
use mathlib.Core.List.{List, [], ◌++◌, ◌∷◌}
use mathlib.Core.Path.{refl, ◌≡◌}

-- ---- what the rows are made of

-- a desk at its 40th minute: last form number 5, two sent, the interval running since that minute
abbrev used : Desk
used = figures 40 5 2 (Some 40) false 0 0 0 0

-- in force, with these vehicles and this desk at station x; the other's desk is fresh
abbrev in_force : Station → List Vehicle → Desk → Section
in_force A present d = working none_refused present d fresh_desk
in_force B present d = working none_refused present fresh_desk d

-- not in force, with this desk at station x
abbrev idle : Station → Desk → Section
idle A d = record { vehicles = pad_to 24 []; len = 0; force = false; refused = none_refused; a = d; b = fresh_desk }
idle B d = record { vehicles = pad_to 24 []; len = 0; force = false; refused = none_refused; a = fresh_desk; b = d }

-- a vehicle of station x under form number 5, unmet, heading to the other station
abbrev away : Station → Movement → ℕ → Vehicle
away x movement class = vehicle movement (number_at x) 5 (number_at (other_at x)) false class

abbrev engine : Station → ℕ → Vehicle
engine x form = vehicle Through (number_at x) form (number_at (other_at x)) false 1

-- in force, with one vehicle of station x, well made but for that vehicle
abbrev with_one : Station → Vehicle → Section
with_one x v = in_force x (v ∷ []) used

-- in force, with nothing present and this in one of the 24 unused places
abbrev unused_holds : ℕ → Vehicle → Section
unused_holds place v = record { vehicles = set (pad_to 24 []) place v; len = 0; force = true; refused = none_refused; a = fresh_desk; b = fresh_desk }

-- A1 to A12 and B1 to B12, from A to B
abbrev full_section : List Vehicle
full_section =
    engine A 12 ∷ engine A 11 ∷ engine A 10 ∷ engine A 9 ∷ engine A 8 ∷ engine A 7 ∷ engine A 6 ∷ engine A 5 ∷ engine A 4 ∷ engine A 3 ∷ engine A 2 ∷ engine A 1
    ∷ engine B 1 ∷ engine B 2 ∷ engine B 3 ∷ engine B 4 ∷ engine B 5 ∷ engine B 6 ∷ engine B 7 ∷ engine B 8 ∷ engine B 9 ∷ engine B 10 ∷ engine B 11 ∷ engine B 12 ∷ []

abbrev twelve : Desk
twelve = figures 330 12 12 (Some 330) false 0 0 0 0

-- so many vehicles counted where 24 stand
abbrev counted : ℕ → Section
counted n = record { vehicles = full_section; len = n; force = true; refused = none_refused; a = twelve; b = twelve }

-- ---- ill made

-- what is the same for A and for B
abbrev ill_at : Station → List Section
ill_at x =
    -- "last form number, 0 to 9,999"
    in_force x [] (with_last 10000 used)
    -- "sent: departures counted, 0 to 12"
    ∷ in_force x [] (with_sent 13 used)
    -- "guest: 0, or the class of the other station's opener standing here"
    ∷ in_force x [] (with_guest 6 used)
    -- asked, holds, owes and what waits, each "0 to 8"
    ∷ in_force x [] (with_asked 9 used)
    ∷ in_force x [] (with_holds 9 used)
    ∷ in_force x [] (with_owes 9 used)
    ∷ in_force x [] (with_waiting 9 used)
    -- "a running interval is not later than the clock"
    ∷ in_force x [] (with_interval (Some 41) used)
    -- "each sent is at least that station's vehicles present"
    ∷ in_force x (engine x 5 ∷ []) (with_sent 0 used)
    ∷ in_force x (engine x 4 ∷ engine x 5 ∷ []) (with_sent 1 used)
    -- "form numbers are 1 to the desk's last and differ among one sender's vehicles"
    ∷ with_one x (engine x 0)
    ∷ with_one x (engine x 6)
    ∷ in_force x (engine x 5 ∷ engine x 5 ∷ []) used
    ∷ in_force x (engine x 5 ∷ engine x 4 ∷ engine x 5 ∷ []) (with_sent 3 used)
    -- "unmet vehicles head away from their sender"; a heading is a station
    ∷ with_one x (vehicle Through (number_at x) 5 (number_at x) false 1)
    ∷ with_one x (vehicle (Train 0 0) (number_at x) 5 (number_at x) false 0)
    ∷ with_one x (vehicle (LastTrain 0 0 0) (number_at x) 5 (number_at x) false 0)
    ∷ with_one x (vehicle Through (number_at x) 5 0 false 1)
    ∷ with_one x (vehicle Through (number_at x) 5 3 false 1)
    -- "RETURN and TRAIN are unmet", T-03's kind 9 as well
    ∷ with_one x (vehicle (Return 0 0) (number_at x) 5 (number_at (other_at x)) true 1)
    ∷ with_one x (vehicle (Train 0 0) (number_at x) 5 (number_at (other_at x)) true 0)
    ∷ with_one x (vehicle (LastTrain 0 0 0) (number_at x) 5 (number_at (other_at x)) true 0)
    -- "class is 1 to 5 on OPEN and RETURN, 1 on THROUGH, 0 on TRAIN"
    ∷ with_one x (away x (Open 1) 0)
    ∷ with_one x (away x (Open 1) 6)
    ∷ with_one x (away x (Return 0 0) 0)
    ∷ with_one x (away x (Return 0 0) 6)
    ∷ with_one x (away x Through 0)
    ∷ with_one x (away x Through 2)
    ∷ with_one x (away x (Train 0 0) 1)
    ∷ with_one x (away x (LastTrain 0 0 0) 1)
    -- "OPEN has asked 1 to 8"; asked and granted are at most 8 on RETURN and TRAIN, 0 being none
    ∷ with_one x (away x (Open 0) 1)
    ∷ with_one x (away x (Open 9) 1)
    ∷ with_one x (away x (Return 9 0) 1)
    ∷ with_one x (away x (Return 0 9) 1)
    ∷ with_one x (away x (Train 9 0) 0)
    ∷ with_one x (away x (Train 0 9) 0)
    ∷ with_one x (away x (LastTrain 9 0 0) 0)
    ∷ with_one x (away x (LastTrain 0 9 0) 0)
    -- T-03: given up is "0 to 7"
    ∷ with_one x (away x (LastTrain 0 0 8) 0)
    -- "not in force, all but the count is as fresh"
    ∷ idle x (with_clock 1 fresh_desk)
    ∷ idle x (with_last 1 fresh_desk)
    ∷ idle x (with_sent 1 fresh_desk)
    ∷ idle x (with_interval (Some 0) fresh_desk)
    ∷ idle x (with_out true fresh_desk)
    ∷ idle x (with_guest 1 fresh_desk)
    ∷ idle x (with_asked 1 fresh_desk)
    ∷ idle x (with_holds 1 fresh_desk)
    ∷ idle x (with_owes 1 fresh_desk)
    ∷ idle x (with_waiting 1 fresh_desk)
    ∷ []

-- "unused places are zero": each figure of an unused place, at one of the 24 places
abbrev ill_unused : ℕ → List Section
ill_unused place =
    unused_holds place (vehicle (Open 1) 0 0 0 false 0)
    ∷ unused_holds place (vehicle Through 0 0 0 false 0)
    ∷ unused_holds place (vehicle (Return 0 0) 0 0 0 false 0)
    ∷ unused_holds place (vehicle (Train 0 0) 0 0 0 false 0)
    ∷ unused_holds place (vehicle (LastTrain 0 0 0) 0 0 0 false 0)
    ∷ unused_holds place (vehicle (Open 0) 1 0 0 false 0)
    ∷ unused_holds place (vehicle (Open 0) 0 1 0 false 0)
    ∷ unused_holds place (vehicle (Open 0) 0 0 1 false 0)
    ∷ unused_holds place (vehicle (Open 0) 0 0 0 true 0)
    ∷ unused_holds place (vehicle (Open 0) 0 0 0 false 1)
    ∷ []

abbrev ill_made : List Section
ill_made =
    -- "up to 24 vehicles"
    counted 25
    -- "A's vehicles all stand nearer A than B's"
    ∷ working none_refused (engine B 5 ∷ engine A 5 ∷ []) used used
    ∷ working none_refused (engine A 5 ∷ engine B 5 ∷ engine A 4 ∷ []) used used
    -- a sender is a station
    ∷ working none_refused (vehicle Through 0 5 2 false 1 ∷ []) used used
    ∷ working none_refused (vehicle Through 3 5 2 false 1 ∷ []) used used
    -- an unused place behind those present
    ∷ counted 23
    ∷ ill_unused 0 ++ ill_unused 23 ++ ill_at A ++ ill_at B

-- ---- well made, at every limit

abbrev at_limits_of : Station → List Section
at_limits_of x =
    -- every figure of a desk at its largest, and the interval at the clock
    in_force x [] (with_waiting 8 (figures 65535 9999 12 (Some 65535) true 5 8 8 8))
    ∷ in_force x [] (with_guest 1 used)
    ∷ in_force x [] (with_interval (Some 0) used)
    ∷ in_force x [] (with_interval None used)
    ∷ in_force x [] (with_out true used)
    -- sent at least the vehicles present
    ∷ in_force x (engine x 5 ∷ []) (with_sent 1 used)
    ∷ in_force x (engine x 4 ∷ engine x 5 ∷ []) (with_sent 2 used)
    -- form numbers from 1 to the desk's last
    ∷ with_one x (engine x 1)
    ∷ with_one x (engine x 5)
    ∷ in_force x (engine x 1 ∷ engine x 9999 ∷ []) (with_last 9999 used)
    -- met, OPEN and THROUGH head either way
    ∷ with_one x (vehicle Through (number_at x) 5 1 true 1)
    ∷ with_one x (vehicle Through (number_at x) 5 2 true 1)
    ∷ with_one x (vehicle (Open 1) (number_at x) 5 1 true 1)
    ∷ with_one x (vehicle (Open 1) (number_at x) 5 2 true 1)
    -- class, asked, granted and given up at both ends
    ∷ with_one x (away x (Open 1) 1)
    ∷ with_one x (away x (Open 8) 5)
    ∷ with_one x (away x Through 1)
    ∷ with_one x (away x (Return 0 0) 1)
    ∷ with_one x (away x (Return 8 8) 5)
    ∷ with_one x (away x (Train 0 0) 0)
    ∷ with_one x (away x (Train 8 8) 0)
    ∷ with_one x (away x (LastTrain 0 0 0) 0)
    ∷ with_one x (away x (LastTrain 8 8 7) 0)
    ∷ []

abbrev at_limits : List Section
at_limits =
    -- "not in force, all but the count is as fresh"; the three counts at both ends
    idle A fresh_desk
    ∷ record { vehicles = pad_to 24 []; len = 0; force = false; refused = counts 4294967295 4294967295 4294967295; a = fresh_desk; b = fresh_desk }
    ∷ working none_refused [] fresh_desk fresh_desk
    ∷ working (counts 4294967295 4294967295 4294967295) [] fresh_desk fresh_desk
    -- "up to 24 vehicles in order from A to B", twelve of each
    ∷ counted 24
    -- form numbers differ among one sender's vehicles only
    ∷ working none_refused (engine A 5 ∷ engine B 5 ∷ []) used used
    ∷ at_limits_of A ++ at_limits_of B

-- ---- the tables hold

abbrev pub number_in : Answer → ℕ
number_in (Err why) = number_of why
number_in (Ok _) = 0

-- the rows, counted from n, at which no bytes give another answer than this
abbrev rows_not : ℕ → ℕ → List Section → List ℕ
rows_not expected n [] = []
rows_not expected n (s ∷ l) = cond (eqb (number_in (step_of s []).answer) expected) (rows_not expected (suc n) l) (n ∷ rows_not expected (suc n) l)

abbrev after_each : List Section → List Section
after_each [] = []
after_each (s ∷ l) = (step_of s []).section ∷ after_each l

-- each of 124 sections is answered 5
pub all_five : (rows_not 5 1 ill_made ≡ []) × (length ill_made ≡ 124)
unfolding step_computes
all_five = (refl, refl)

-- "5 and 23: nothing" is altered
pub five_alters_nothing : after_each ill_made ≡ ill_made
unfolding step_computes
five_alters_nothing = refl

-- each of 52 sections is answered as no bytes are: 1, and not 5
pub none_five : (rows_not 1 1 at_limits ≡ []) × (length at_limits ≡ 52)
unfolding step_computes
none_five = (refl, refl)
