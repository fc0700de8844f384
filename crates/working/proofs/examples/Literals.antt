-- Entries as bytes, and vehicles, desks and sections in figures, written out for the tables and the examples: short names for document 01's layouts, and nothing of
-- what a step does.
-- Assumes nothing.
use Prim.Native.Nat.{ℕ}
use Rattle.std.specs.Prelude.{Option}
use Rattle.working.specs.Answers.{Answer, accept}
use Rattle.working.specs.Sections.{fresh_desk, pad_to, with_clears, with_entered, with_figures}
use Rattle.working.specs.WellMade.{desk_figures, numbers_of}
use Rattle.working.specs.declared.Counts.{Counts}
use Rattle.working.specs.declared.Desk.{Desk}
use Rattle.working.specs.declared.Movement.TheVariants.{LastTrain, Open, Return, Through, Train}
use Rattle.working.specs.declared.Movement.{Movement}
use Rattle.working.specs.declared.Section.{Section}
use Rattle.working.specs.declared.Speed.TheVariants.{NoSpeed}
use Rattle.working.specs.declared.Vehicle.{Vehicle}
use lib.Dec.{eqb}
use lib.ListN.{length}
use mathlib.Core.Bool.{Bool, false, true, ◌&&◌}
use mathlib.Core.List.{List, [], ◌++◌, ◌∷◌}

-- ---- entries as bytes: station, the time's low byte, and the rest in the fields' order

abbrev pub begin : List ℕ
begin = 0x01 ∷ 1 ∷ []

abbrev pub resume : List ℕ
resume = 0x01 ∷ 8 ∷ []

abbrev pub opens_as : ℕ → ℕ → ℕ → ℕ → ℕ → List ℕ
opens_as station minute view class asked = 0x3F ∷ 2 ∷ station ∷ 0 ∷ minute ∷ view ∷ class ∷ asked ∷ []

-- with a light engine
abbrev pub opens : ℕ → ℕ → ℕ → ℕ → List ℕ
opens station minute view asked = opens_as station minute view 1 asked

-- a THROUGH's minute in two bytes, since twelve of them take more than 255 minutes
abbrev pub through : ℕ → ℕ → ℕ → List ℕ
through station high low = 0x1F ∷ 3 ∷ station ∷ high ∷ low ∷ 1 ∷ 1 ∷ []

abbrev pub returns : ℕ → ℕ → ℕ → List ℕ
returns station minute granted = 0x47 ∷ 4 ∷ station ∷ 0 ∷ minute ∷ granted ∷ []

abbrev pub returns_asking : ℕ → ℕ → ℕ → ℕ → List ℕ
returns_asking station minute asked granted = 0x67 ∷ 4 ∷ station ∷ 0 ∷ minute ∷ asked ∷ granted ∷ []

abbrev pub train : ℕ → ℕ → List ℕ
train station minute = 0x0F ∷ 5 ∷ station ∷ 0 ∷ minute ∷ 1 ∷ []

abbrev pub train_granting : ℕ → ℕ → ℕ → List ℕ
train_granting station minute granted = 0x4F ∷ 5 ∷ station ∷ 0 ∷ minute ∷ 1 ∷ granted ∷ []

abbrev pub last_train : ℕ → ℕ → List ℕ
last_train station minute = 0x0F ∷ 9 ∷ station ∷ 0 ∷ minute ∷ 1 ∷ []

abbrev pub receive : ℕ → ℕ → ℕ → ℕ → List ℕ
receive station minute sender number = 0x87 ∷ 6 ∷ station ∷ 0 ∷ minute ∷ sender ∷ 0 ∷ number ∷ []

abbrev pub meet : ℕ → ℕ → ℕ → List ℕ
meet station sender number = 0x83 ∷ 7 ∷ station ∷ sender ∷ 0 ∷ number ∷ []

-- the answer of an entry that hands over no form: "Other kinds 0, form number 0", no speed
abbrev pub plain : Answer
plain = accept 0 0 NoSpeed

-- ---- a vehicle, in document 01's order: what it left on, with sender, form number, heading, met or not, class

abbrev pub vehicle : Movement → ℕ → ℕ → ℕ → Bool → ℕ → Vehicle
vehicle movement sender form heading met class = record { movement = movement; sender = sender; form = form; heading = heading; met = met; class = class }

-- ---- a desk, in document 01's order, with nothing waiting, and with one figure put in the place of another

abbrev pub figures : ℕ → ℕ → ℕ → Option ℕ → Bool → ℕ → ℕ → ℕ → ℕ → Desk
figures clock last sent interval out guest asked holds owes =
    with_figures clock last sent interval out guest (record { asked = asked; holds = holds; owes = owes }) fresh_desk

abbrev pub with_clock : ℕ → Desk → Desk
with_clock n d = with_entered n d.last d.sent d.interval d

abbrev pub with_last : ℕ → Desk → Desk
with_last n d = with_entered d.clock n d.sent d.interval d

abbrev pub with_sent : ℕ → Desk → Desk
with_sent n d = with_entered d.clock d.last n d.interval d

abbrev pub with_asked : ℕ → Desk → Desk
with_asked n d = with_clears (record { asked = n; holds = d.clears.holds; owes = d.clears.owes }) d

abbrev pub with_owes : ℕ → Desk → Desk
with_owes n d = with_clears (record { asked = d.clears.asked; holds = d.clears.holds; owes = n }) d

-- ---- so many refused for A, for B, and of no station; and a section in force: these refused, these vehicles from A to B, these desks

abbrev pub counts : ℕ → ℕ → ℕ → Counts
counts a b none = record { a = a; b = b; none = none }

abbrev pub working : Counts → List Vehicle → Desk → Desk → Section
working refused present a b = record { vehicles = pad_to 24 present; len = length present; force = true; refused = refused; a = a; b = b }

-- ---- every figure of a section in one row of numbers, so that two sections can be compared by computation

abbrev bit : Bool → ℕ
bit false = 0
bit true = 1

-- the kind's number, asked, granted and given up
abbrev movement_figures : Movement → List ℕ
movement_figures (Open asked) = 2 ∷ asked ∷ 0 ∷ 0 ∷ []
movement_figures Through = 3 ∷ 0 ∷ 0 ∷ 0 ∷ []
movement_figures (Return asked granted) = 4 ∷ asked ∷ granted ∷ 0 ∷ []
movement_figures (Train asked granted) = 5 ∷ asked ∷ granted ∷ 0 ∷ []
movement_figures (LastTrain asked granted given_up) = 9 ∷ asked ∷ granted ∷ given_up ∷ []

abbrev vehicle_figures : List Vehicle → List ℕ
vehicle_figures [] = []
vehicle_figures (v ∷ l) = movement_figures v.movement ++ v.sender ∷ v.form ∷ v.heading ∷ bit v.met ∷ v.class ∷ vehicle_figures l

-- every figure that a section has: the tables compare sections by these, so that one which is missing here is compared by none of them
abbrev pub all_figures : Section → List ℕ
all_figures s =
    s.len ∷ bit s.force ∷ s.refused.a ∷ s.refused.b ∷ s.refused.none ∷ numbers_of (desk_figures s.a) ++ numbers_of (desk_figures s.b) ++ vehicle_figures s.vehicles

abbrev same_figures : List ℕ → List ℕ → Bool
same_figures [] [] = true
same_figures [] (m ∷ ms) = false
same_figures (n ∷ ns) [] = false
same_figures (n ∷ ns) (m ∷ ms) = eqb n m && same_figures ns ms

abbrev pub same_section : Section → Section → Bool
same_section s t = same_figures (all_figures s) (all_figures t)
