-- Document 01, "Each entry's effect", with T-02 on the reply that a vehicle brings, T-03 on a TRAIN endorsed as the last and T-07 on a follower's speed: speeds, forms,
-- and the desk after a departure and after a receipt. S is the entry's station, O the other.
use Rattle.std.specs.Prelude.{Bool, None, Some, cond, eqb, false, ltb, true, ℕ, ◌+◌, ◌-◌, ◌||◌}
use Rattle.working.specs.Acts as acts
use Rattle.working.specs.Acts.{Act}
use Rattle.working.specs.Sections.{number_at, other_at, with_clears, with_entered, with_guest, with_holds, with_out, with_waiting}
use Rattle.working.specs.declared.Clears.{Clears}
use Rattle.working.specs.declared.Desk.{Desk}
use Rattle.working.specs.declared.Movement.TheVariants.{LastTrain, Open, Return, Through, Train}
use Rattle.working.specs.declared.Movement.{Movement}
use Rattle.working.specs.declared.Refusal.{Refusal}
use Rattle.working.specs.declared.Speed.TheVariants.{Booked, Both, Kmh, NoSpeed, Walking}
use Rattle.working.specs.declared.Speed.{Speed}
use Rattle.working.specs.declared.Station.TheVariants.{A, B}
use Rattle.working.specs.declared.Station.{Station}
use Rattle.working.specs.declared.Vehicle.{Vehicle}
use Rattle.working.specs.declared.View.TheVariants.{Clear, Impaired, Night}
use Rattle.working.specs.declared.View.{View}

-- ---- speeds

-- "OPEN and THROUGH 15, 10 or walking pace (counted below 10) by view 1, 2, 3"
abbrev pub open_speed : View → Speed
open_speed Clear = Kmh 15
open_speed Night = Kmh 10
open_speed Impaired = Walking

-- a train that follows another; T-07: "25 for straight with a clear view and 10 for elsewhere; in views 2 and 3 both are 10"
abbrev pub follow_speed : View → Speed
follow_speed Clear = Both 25 10
follow_speed Night = Both 10 10
follow_speed Impaired = Both 10 10

-- "TRAIN booked if sent was 0"
abbrev pub train_speed : Bool → View → Speed
train_speed true view = Booked
train_speed false view = follow_speed view

-- "15 km/h or less": "15, 10 or walking pace"
abbrev pub is_slow : Speed → Bool
is_slow NoSpeed = false
is_slow Walking = true
is_slow (Kmh k) = eqb k 15 || eqb k 10
is_slow Booked = false
is_slow (Both straight elsewhere) = false  -- none of the three, so not 10/10 either: T/B 602 has one figure

-- ---- forms, a sum

-- "8 T/G 602 (UP), 16 T/H 602 (DN)"
abbrev pub way_form : Station → ℕ
way_form A = 8
way_form B = 16

-- "OPEN 7. THROUGH 1."
abbrev pub open_forms : ℕ
open_forms = 7

abbrev pub through_forms : ℕ
through_forms = 1

-- "RETURN and TRAIN: 8 or 16, 32, 128 if booked else 64, 2 if asked, 4 if granted"
abbrev pub clear_forms : Station → Bool → ℕ → ℕ → ℕ
clear_forms x booked asked granted = way_form x + 32 + cond booked 128 64 + cond (ltb 0 asked) 2 0 + cond (ltb 0 granted) 4 0

-- ---- departures

-- "puts the vehicle at S's end heading to O, unmet"
abbrev pub vehicle_for : Station → ℕ → Movement → ℕ → Vehicle
vehicle_for x form movement class = record { movement = movement; sender = number_at x; form = form; heading = number_at (other_at x); met = false; class = class }

-- "takes the next form number of S"
abbrev pub next_form : Desk → ℕ
next_form d = d.last + 1

-- "takes the next form number of S, .. adds 1 to sent and starts the interval"
abbrev pub departed : Desk → ℕ → Desk
departed d time = with_entered time (next_form d) (d.sent + 1) (Some time) d

-- n where it is above 0, else what stood there
abbrev pub if_any : ℕ → ℕ → ℕ
if_any n before = cond (ltb 0 n) n before

-- "OPEN: out is set."
abbrev pub open_desk : Desk → ℕ → Desk
open_desk d time = with_out true (departed d time)

-- "THROUGH: nothing more."
abbrev pub through_desk : Desk → ℕ → Desk
through_desk d time = departed d time

-- "RETURN: guest and asked at S cleared; .. granted above 0 becomes S's owes"
abbrev pub return_clears : Clears → ℕ → Clears
return_clears c granted = record { asked = 0; holds = c.holds; owes = if_any granted c.owes }

abbrev pub return_desk : Desk → ℕ → ℕ → Desk
return_desk d time granted = with_clears (return_clears d.clears granted) (with_guest 0 (departed d time))

-- "TRAIN: holds falls by 1"; T-03, endorsed as the last: "the sender's holds becomes 0"
abbrev pub clears_left : Bool → ℕ → ℕ
clears_left endorsed holds = cond endorsed 0 (holds - 1)

-- "TRAIN: .. granted above 0 becomes owes and clears S's asked"
abbrev pub train_clears : Bool → Clears → ℕ → Clears
train_clears endorsed c granted = record { asked = cond (ltb 0 granted) 0 c.asked; holds = clears_left endorsed c.holds; owes = if_any granted c.owes }

abbrev pub train_desk : Bool → Desk → ℕ → ℕ → Desk
train_desk endorsed d time granted = with_clears (train_clears endorsed d.clears granted) (departed d time)

-- T-03: "Its vehicle, recorded as a TRAIN but for the kind, .. carries the holds before it, less 1"
abbrev pub train_movement : Bool → ℕ → ℕ → ℕ → Movement
train_movement false holds asked granted = Train asked granted
train_movement true holds asked granted = LastTrain asked granted (holds - 1)

-- ---- receipts

-- "stops S's interval"
abbrev pub received : Desk → ℕ → ℕ → Desk
received d time sent = with_entered time d.last sent None d

-- "S's own OPEN or THROUGH: sent falls by 1, papers cancelled, OPEN clears out." No other of S's own may enter.
abbrev pub own_desk : Desk → ℕ → Movement → Desk
own_desk d time (Open asked) = with_out false (received d time (d.sent - 1))
own_desk d time Through = received d time (d.sent - 1)
own_desk d time (Return asked granted) = d
own_desk d time (Train asked granted) = d
own_desk d time (LastTrain asked granted given_up) = d

-- an OPEN "makes .. asked"
abbrev pub opened_clears : Clears → ℕ → Clears
opened_clears c asked = record { asked = asked; holds = c.holds; owes = c.owes }

-- "RETURN and TRAIN set .. asked if above 0"
abbrev pub brought_clears : Clears → ℕ → ℕ → Clears
brought_clears c asked owes = record { asked = if_any asked c.asked; holds = c.holds; owes = owes }

-- "One from O: sent becomes 0, and OPEN makes guest and asked; RETURN clears out; TRAIN lowers owes by 1, not below 0";
-- T-03, one endorsed as the last: "the receiver's owes becomes 0 on its arrival"
abbrev pub other_desk : Desk → ℕ → ℕ → Movement → Desk
other_desk d time class (Open asked) = with_clears (opened_clears d.clears asked) (with_guest class (received d time 0))
other_desk d time class Through = received d time 0
other_desk d time class (Return asked granted) = with_clears (brought_clears d.clears asked d.clears.owes) (with_out false (received d time 0))
other_desk d time class (Train asked granted) = with_clears (brought_clears d.clears asked (d.clears.owes - 1)) (received d time 0)
other_desk d time class (LastTrain asked granted given_up) = with_clears (brought_clears d.clears asked 0) (received d time 0)

-- a receipt's own effect, by whose vehicle it is
abbrev pub receipt_desk : Station → Desk → ℕ → Vehicle → Desk
receipt_desk x d time v = cond (eqb v.sender (number_at x)) (own_desk d time v.movement) (other_desk d time v.class v.movement)

-- the line clears that a vehicle grants
abbrev pub granted_in : Movement → ℕ
granted_in (Open asked) = 0
granted_in Through = 0
granted_in (Return asked granted) = granted
granted_in (Train asked granted) = granted
granted_in (LastTrain asked granted given_up) = granted

-- T-02: "At a receipt a grant above 0 takes the place of the clears the receiving station keeps waiting"
abbrev pub granted_desk : ℕ → Desk → Desk
granted_desk granted d = with_waiting (if_any granted d.waiting) d

-- T-02: "where its own owes is 0 after it, holds is set to those waiting, if any, and none is left waiting. Otherwise no receipt alters holds."
abbrev pub released_desk : Desk → Desk
released_desk d =
    with_holds (cond (eqb d.clears.owes 0) (if_any d.waiting d.clears.holds) d.clears.holds)
    (with_waiting (cond (eqb d.clears.owes 0) 0 d.waiting) d)

-- the reply that a vehicle brings, and what waits
abbrev pub replied : ℕ → Desk → Desk
replied granted d = released_desk (granted_desk granted d)

-- any receipt, in this order: its own effect, in which a train lowers owes; the reply that the vehicle brings; and what waits
unfoldable pub arrive_desk : Station → Desk → ℕ → Vehicle → Desk
arrive_desk x d time v = replied (granted_in v.movement) (receipt_desk x d time v)

-- ---- each kind

-- the forms and the speed on a driver's order
pub record Order : Type 0 where
  pub forms : ℕ
  pub speed : Speed

-- a departure: the desk after it, the vehicle that leaves, and its driver's order
pub record Departing : Type 0 where
  pub desk : Desk
  pub vehicle : Vehicle
  pub order : Order

-- what a station's act comes to: a refusal, a departure, or a receipt with the desk after it
pub data Plan : Type 0 where
  Refuse : Refusal → Plan
  Depart : Departing → Plan
  Arrive : Desk → Plan

-- an act of station x, whose desk is d and whose nearest vehicle is v, where no test refuses it
abbrev pub effect_of : Act → Station → Desk → ℕ → Vehicle → Plan
effect_of (acts.Open view class asked) x d time v = Depart (record {
  desk = open_desk d time;
  vehicle = vehicle_for x (next_form d) (Open asked) class;
  order = record { forms = open_forms; speed = open_speed view };
})
effect_of (acts.Through view) x d time v = Depart (record {
  desk = through_desk d time;
  vehicle = vehicle_for x (next_form d) Through 1;
  order = record { forms = through_forms; speed = open_speed view };
})
effect_of (acts.Return asked granted) x d time v = Depart (record {
  desk = return_desk d time granted;
  vehicle = vehicle_for x (next_form d) (Return asked granted) d.guest;
  order = record { forms = clear_forms x true asked granted; speed = Booked };
})
effect_of (acts.Train endorsed view asked granted) x d time v = Depart (record {
  desk = train_desk endorsed d time granted;
  vehicle = vehicle_for x (next_form d) (train_movement endorsed d.clears.holds asked granted) 0;
  order = record { forms = clear_forms x (eqb d.sent 0) asked granted; speed = train_speed (eqb d.sent 0) view };
})
effect_of (acts.Receive sender form) x d time v = Arrive (arrive_desk x d time v)
