-- T-04, "Show each choice by itself equal to document 01's for every view". The step is defined with two choices of a speed, `open_speed` and `follow_speed` (Effects),
-- which go down para 8010 and para 8021 by the cases of a view. Here are document 01's two sentences by the view's number, as it has them, and what is shown of each choice,
-- by itself, for every view: that for T/B 602 is its sentence's speed; that for a follower, which T-07 gave both figures of para 8021, has its sentence's figure for the view,
-- and beside it the 10 that the sentence has in every view but 1. And who has two figures: a follower, on T/409, and nobody else.
use Rattle.std.specs.Prelude.{Bool, cond, eqb, false, not, true, ℕ, ◌%◌, ◌/◌, ◌≡◌}
use Rattle.working.specs.Acts as acts
use Rattle.working.specs.Acts.{Act}
use Rattle.working.specs.Effects.{Arrive, Depart, Order, Plan, Refuse, effect_of, follow_speed, open_speed}
use Rattle.working.specs.declared.Desk.{Desk}
use Rattle.working.specs.declared.Speed.TheVariants.{Booked, Both, Kmh, NoSpeed, Walking}
use Rattle.working.specs.declared.Speed.{Speed}
use Rattle.working.specs.declared.Station.{Station}
use Rattle.working.specs.declared.Vehicle.{Vehicle}
use Rattle.working.specs.declared.View.TheVariants.{Clear, Impaired, Night}
use Rattle.working.specs.declared.View.{View}

-- "view 1 clear day, 2 night or obstructed, 3 impaired weather"
abbrev pub view_number : View → ℕ
view_number Clear = 1
view_number Night = 2
view_number Impaired = 3

-- "OPEN and THROUGH 15, 10 or walking pace (counted below 10) by view 1, 2, 3"
abbrev pub open_speed_01 : ℕ → Speed
open_speed_01 view = cond (eqb view 1) (Kmh 15) (cond (eqb view 2) (Kmh 10) Walking)

-- "25 in view 1 and 10 otherwise", in km/h
abbrev pub follow_figure_01 : ℕ → ℕ
follow_figure_01 view = cond (eqb view 1) 25 10

-- on T/B 602, para 8010
abbrev pub Tb602SpeedAs01 : Type 0
Tb602SpeedAs01 = (view : View) → open_speed view ≡ open_speed_01 (view_number view)

-- of a follower, para 8021: in view 1 its 25, and in views 2 and 3 its 10; and beside it its 10 "otherwise"
abbrev pub FollowerSpeedAs01 : Type 0
FollowerSpeedAs01 = (view : View) → follow_speed view ≡ Both (follow_figure_01 (view_number view)) (follow_figure_01 2)

-- ---- who has two figures

-- a follower: a TRAIN, endorsed or not, of a station whose sent is not 0
abbrev pub follows : Act → Desk → Bool
follows (acts.Open view class asked) d = false
follows (acts.Through view) d = false
follows (acts.Return asked granted) d = false
follows (acts.Train endorsed view asked granted) d = not (eqb d.sent 0)
follows (acts.Receive sender form) d = false

abbrev pub has_two : Speed → Bool
has_two NoSpeed = false
has_two Walking = false
has_two (Kmh k) = false
has_two Booked = false
has_two (Both straight elsewhere) = true

-- T/409 is the 64 of the sum, T/B 602 the 1
pub record TwoOn (follower : Bool) (order : Order) : Type 0 where
  pub speed : has_two order.speed ≡ follower
  pub caution : eqb (order.forms / 64 % 2) 1 ≡ follower
  pub unopened : follower ≡ true → eqb (order.forms % 2) 1 ≡ false

abbrev pub TwoIn : Bool → Plan → Type 0
TwoIn follower (Refuse why) = Unit {0}
TwoIn follower (Depart p) = TwoOn follower p.order
TwoIn follower (Arrive d) = Unit {0}

-- whatever departs: its order has two figures, and T/409, exactly where it follows another, and T/B 602 then never
abbrev pub FollowersHaveTwo : Type 0
FollowersHaveTwo = (act : Act) (x : Station) (d : Desk) (time : ℕ) (v : Vehicle) → TwoIn (follows act d) (effect_of act x d time v)
