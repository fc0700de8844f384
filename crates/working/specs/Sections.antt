-- Document 01, "The section": the two stations, the vehicles in order from A to B, the desks, and the fresh section.
use Rattle.std.specs.Prelude.{Bool, List, None, Option, Some, [], cond, drop, eqb, false, get_or, length, ltb, suc, take, zero, ℕ, ◌++◌, ◌+◌, ◌-◌, ◌∷◌}
use Rattle.working.specs.declared.Clears.{Clears}
use Rattle.working.specs.declared.Counts.{Counts}
use Rattle.working.specs.declared.Desk.{Desk}
use Rattle.working.specs.declared.Movement.TheVariants.{Open}
use Rattle.working.specs.declared.Section.{Section}
use Rattle.working.specs.declared.Station.TheVariants.{A, B}
use Rattle.working.specs.declared.Station.{Station}
use Rattle.working.specs.declared.Vehicle.{Vehicle}

-- "Station 1 is A, 2 is B"
abbrev pub number_at : Station → ℕ
number_at A = 1
number_at B = 2

abbrev pub other_at : Station → Station
other_at A = B
other_at B = A

-- ---- the places

-- an unused place: zero in every figure
abbrev pub unused : Vehicle
unused = record { movement = Open 0; sender = 0; form = 0; heading = 0; met = false; class = 0 }

-- the first n of l, and places with `blank` where l has fewer
unfoldable pub pad_with : {T : Type 0} → T → ℕ → List T → List T
pad_with blank zero l = []
pad_with blank (suc n) [] = blank ∷ pad_with blank n []
pad_with blank (suc n) (v ∷ l) = v ∷ pad_with blank n l

abbrev pub pad_to : ℕ → List Vehicle → List Vehicle
pad_to n l = pad_with unused n l

-- "up to 24 vehicles in order from A to B": the vehicles present, and the section with others in their place
abbrev pub vehicles_of : Section → List Vehicle
vehicles_of s = take s.len s.vehicles

abbrev pub with_vehicles : Section → List Vehicle → Section
with_vehicles s l = record { vehicles = pad_to 24 l; len = length l; force = s.force; refused = s.refused; a = s.a; b = s.b }

-- a vehicle enters at a station's end; the one there leaves; the one there, or the unused place where there is none
abbrev pub insert_at : Station → Vehicle → List Vehicle → List Vehicle
insert_at A v l = v ∷ l
insert_at B v l = l ++ v ∷ []

abbrev pub remove_at : Station → List Vehicle → List Vehicle
remove_at A l = drop 1 l
remove_at B l = take (length l - 1) l

abbrev pub nearest_at : Station → List Vehicle → Vehicle
nearest_at A l = get_or l 0 unused
nearest_at B l = get_or l (length l - 1) unused

-- ---- the desks

-- a desk with these in place of its own figures; one that is not among them stays as it was
abbrev pub with_figures : ℕ → ℕ → ℕ → Option ℕ → Bool → ℕ → Clears → Desk → Desk
with_figures clock last sent interval out guest clears d =
    record { clock = clock; last = last; sent = sent; interval = interval; out = out; guest = guest; clears = clears; waiting = d.waiting }

-- what every departure and every receipt alters, and what tells the kinds apart
abbrev pub with_entered : ℕ → ℕ → ℕ → Option ℕ → Desk → Desk
with_entered clock last sent interval d = with_figures clock last sent interval d.out d.guest d.clears d

abbrev pub with_interval : Option ℕ → Desk → Desk
with_interval interval d = with_entered d.clock d.last d.sent interval d

abbrev pub with_out : Bool → Desk → Desk
with_out out d = with_figures d.clock d.last d.sent d.interval out d.guest d.clears d

abbrev pub with_guest : ℕ → Desk → Desk
with_guest guest d = with_figures d.clock d.last d.sent d.interval d.out guest d.clears d

abbrev pub with_clears : Clears → Desk → Desk
with_clears clears d = with_figures d.clock d.last d.sent d.interval d.out d.guest clears d

abbrev pub with_holds : ℕ → Desk → Desk
with_holds holds d = with_clears (record { asked = d.clears.asked; holds = holds; owes = d.clears.owes }) d

abbrev pub with_waiting : ℕ → Desk → Desk
with_waiting waiting d =
    record { clock = d.clock; last = d.last; sent = d.sent; interval = d.interval; out = d.out; guest = d.guest; clears = d.clears; waiting = waiting }

abbrev pub desk_of : Section → Station → Desk
desk_of s A = s.a
desk_of s B = s.b

abbrev pub with_desk : Section → Station → Desk → Section
with_desk s A d = record { vehicles = s.vehicles; len = s.len; force = s.force; refused = s.refused; a = d; b = s.b }
with_desk s B d = record { vehicles = s.vehicles; len = s.len; force = s.force; refused = s.refused; a = s.a; b = d }

-- ---- the counts of refused entries

-- "Keep three counts: entries refused for A, for B, and those of no station": one of them
abbrev pub count_of : Counts → Option Station → ℕ
count_of c (Some A) = c.a
count_of c (Some B) = c.b
count_of c None = c.none

abbrev pub total : Counts → ℕ
total c = c.a + c.b + c.none

-- two are the same, told by the place of their count
abbrev pub place_of : Option Station → ℕ
place_of (Some A) = 0
place_of (Some B) = 1
place_of None = 2

abbrev pub is_same : Option Station → Option Station → Bool
is_same whose other = eqb (place_of whose) (place_of other)

-- "Each stops at its own largest value."
abbrev pub one_more : ℕ → ℕ
one_more n = cond (ltb n 4294967295) (n + 1) n

abbrev pub one_more_of : Option Station → Counts → Counts
one_more_of (Some A) c = record { a = one_more c.a; b = c.b; none = c.none }
one_more_of (Some B) c = record { a = c.a; b = one_more c.b; none = c.none }
one_more_of None c = record { a = c.a; b = c.b; none = one_more c.none }

-- the section with one more entry refused
abbrev pub count_refusal : Option Station → Section → Section
count_refusal whose s = record { vehicles = s.vehicles; len = s.len; force = s.force; refused = one_more_of whose s.refused; a = s.a; b = s.b }

-- ---- the fresh section

abbrev pub no_clears : Clears
no_clears = record { asked = 0; holds = 0; owes = 0 }

abbrev pub fresh_desk : Desk
fresh_desk = record { clock = 0; last = 0; sent = 0; interval = None; out = false; guest = 0; clears = no_clears; waiting = 0 }

abbrev pub none_refused : Counts
none_refused = record { a = 0; b = 0; none = 0 }

-- all but the counts as fresh, in force or not
abbrev pub emptied : Bool → Counts → Section
emptied force counts = record { vehicles = pad_to 24 []; len = 0; force = force; refused = counts; a = fresh_desk; b = fresh_desk }

-- "The fresh section is not in force and all else is zero or none."
abbrev pub fresh : Section
fresh = emptied false none_refused
