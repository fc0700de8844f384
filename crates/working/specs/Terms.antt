-- Document 01, the end of "Each entry's effect": the terms in which demand 3 is put, in that order, with T-02 and T-03 on line clears. What a list of steps is stands in Runs.
use Rattle.std.specs.Prelude.{Bool, Err, List, None, Ok, Option, Some, [], cond, eqb, false, get_or, true, ℕ, ◌%◌, ◌&&◌, ◌∷◌, ◌≡◌}
use Rattle.working.specs.Acts as acts
use Rattle.working.specs.Acts.{Act}
use Rattle.working.specs.Answers.{Answer}
use Rattle.working.specs.Effects.{granted_in, is_slow}
use Rattle.working.specs.Events.{At, Bad, Begin, Decoded, Meet, Resume, Says, decode}
use Rattle.working.specs.Runs.{Done}
use Rattle.working.specs.Sections.{number_at, other_at, unused, vehicles_of}
use Rattle.working.specs.Turns.{is_accepted}
use Rattle.working.specs.WellMade.{is_from, one_if, sum_over}
use Rattle.working.specs.declared.Movement.TheVariants.{LastTrain, Open, Return, Through, Train}
use Rattle.working.specs.declared.Movement.{Movement}
use Rattle.working.specs.declared.Section.{Section}
use Rattle.working.specs.declared.Speed.{Speed}
use Rattle.working.specs.declared.Station.{Station}
use Rattle.working.specs.declared.Vehicle.{Vehicle}

-- ---- "An entry's answer is its refusal number, or its form number, forms and speed"

-- the form number in an answer, 0 in a refusal
abbrev pub form_in : Answer → ℕ
form_in (Err why) = 0
form_in (Ok given) = given.form

-- ---- "Two vehicles head towards one another where the one nearer A heads to B and the other to A, neighbours or not."

-- the vehicle at a place, counted from A: of two places the lower is nearer A
abbrev pub vehicle_at : Section → ℕ → Vehicle
vehicle_at s i = get_or (vehicles_of s) i unused

-- ---- a vehicle's departure, and what it left on

-- the kinds of a departure, and the kind that a vehicle's record has
pub data Kind : Type 0 where
  OPEN THROUGH RETURN TRAIN LAST-TRAIN : Kind

abbrev pub kind_in : Movement → Kind
kind_in (Open asked) = OPEN
kind_in Through = THROUGH
kind_in (Return asked granted) = RETURN
kind_in (Train asked granted) = TRAIN
kind_in (LastTrain asked granted given_up) = LAST-TRAIN

-- an accepted departure: its station and kind, and its answer's form number, forms and speed
pub record Departure : Type 0 where
  pub station : Station
  pub kind : Kind
  pub number : ℕ
  pub forms : ℕ
  pub speed : Speed

abbrev pub kind_of : Act → Option Kind
kind_of (acts.Open view class asked) = Some OPEN
kind_of (acts.Through view) = Some THROUGH
kind_of (acts.Return asked granted) = Some RETURN
kind_of (acts.Train endorsed view asked granted) = Some (cond endorsed LAST-TRAIN TRAIN)
kind_of (acts.Receive sender form) = None

abbrev pub departure_with : Station → Option Kind → Answer → Option Departure
departure_with x None answer = None
departure_with x (Some kind) (Err why) = None
departure_with x (Some kind) (Ok given) = Some (record { station = x; kind = kind; number = given.form; forms = given.forms; speed = given.speed })

-- a step's departure, where it is one and was accepted
abbrev pub departure_by : Decoded → Answer → Option Departure
departure_by (Bad why) answer = None
departure_by (Says Begin) answer = None
departure_by (Says (At x time act)) answer = departure_with x (kind_of act) answer
departure_by (Says (Meet x sender form)) answer = None
departure_by (Says Resume) answer = None

-- p, where its "station is the vehicle's sender" and its "answer has the vehicle's form number"
abbrev pub if_of : Vehicle → Option Departure → Option Departure
if_of v None = None
if_of v (Some p) = cond (eqb (number_at p.station) v.sender && eqb p.number v.form) (Some p) None

abbrev pub later_or : Option Departure → Option Departure → Option Departure
later_or (Some p) earlier = Some p
later_or None earlier = earlier

-- "A vehicle's departure is the last accepted departure of the list whose station is the vehicle's sender and whose answer has the vehicle's form number."
abbrev pub departure_of : List Done → Vehicle → Option Departure
departure_of [] v = None
departure_of (d ∷ l) v = later_or (departure_of l v) (if_of v (departure_by (decode d.bytes) d.answer))

-- "it left on T/B 602 at 15 km/h or less where that answer's forms contain T/B 602 and that answer's speed is 15, 10 or walking pace"; T/B 602 is the 1 of the sum
abbrev pub left_slowly : Option Departure → Bool
left_slowly None = false
left_slowly (Some p) = eqb (p.forms % 2) 1 && is_slow p.speed

-- ---- line clears

-- T-03: a TRAIN endorsed as the last "counts as a train"
abbrev pub is_train : Kind → Bool
is_train OPEN = false
is_train THROUGH = false
is_train RETURN = false
is_train TRAIN = true
is_train LAST-TRAIN = true

abbrev pub left_on_train : Option Departure → Bool
left_on_train None = false
left_on_train (Some p) = is_train p.kind

-- a figure of a station's vehicles, 0 of the other's
abbrev pub of_station : Station → (Vehicle → ℕ) → Vehicle → ℕ
of_station x f v = cond (is_from (number_at x) v) (f v) 0

-- "A station's trains are its vehicles that left on TRAIN." T-03: one endorsed as the last "counts as a train"
abbrev pub trains_of : List Done → Section → Station → ℕ
trains_of l s x = sum_over (of_station x (λ v. one_if (left_on_train (departure_of l v)))) (vehicles_of s)

-- "Line clears on the way to a station are the granted carried by the other's vehicles in the section."
abbrev pub on_the_way_to : Section → Station → ℕ
on_the_way_to s x = sum_over (of_station (other_at x) (λ v. granted_in v.movement)) (vehicles_of s)

-- T-03: the line clears that a vehicle gives up, and those that a station's vehicles in the section carry
abbrev pub given_up_in : Movement → ℕ
given_up_in (Open asked) = 0
given_up_in Through = 0
given_up_in (Return asked granted) = 0
given_up_in (Train asked granted) = 0
given_up_in (LastTrain asked granted given_up) = given_up

abbrev pub given_up_by : Section → Station → ℕ
given_up_by s x = sum_over (of_station x (λ v. given_up_in v.movement)) (vehicles_of s)

-- ---- neighbouring entries

-- a step that is an accepted entry of station x and no MEET: an OPEN, THROUGH, RETURN, TRAIN, LAST TRAIN or RECEIVE. "BEGIN and RESUME belong to neither station."
pub record AcceptedAt (d : Done) (x : Station) (act : Act) : Type 0 where
  pub time : ℕ
  pub entry : decode d.bytes ≡ Says (At x time act)
  pub accepted : is_accepted d.answer ≡ true

abbrev pub is_some : Option Kind → Bool
is_some None = false
is_some (Some kind) = true

abbrev pub is_departure : Act → Bool
is_departure act = is_some (kind_of act)

-- "The second of two entries receives what the first sent where the first is a departure and the second a RECEIVE that names the first's station as sender and the form
-- number in the first's answer."
abbrev pub ReceivesIt : Act → Station → Answer → Act → Type 0
ReceivesIt first x answer second = (is_departure first ≡ true) × (second ≡ acts.Receive x (form_in answer))
