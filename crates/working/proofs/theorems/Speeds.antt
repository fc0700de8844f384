-- T-04 and T-07: for every view the choice of a speed for T/B 602 is document 01's (`tb602_speed_as_01`), and that for a follower has document 01's figure and its 10
-- beside it (`follower_speed_as_01`); an entry with a view's number is read as that view (`read_as_numbered`); and whatever departs has two figures exactly where it follows
-- another, which is where it has T/409 (`followers_have_two`). A view has three cases, a sum of forms two for each part, and in each of them both sides come to the same by
-- computing.
-- Assumes nothing.
use Prim.Native.Nat.{◌%◌, ◌+◌, ◌/◌}
use Rattle.working.specs.Acts as acts
use Rattle.working.specs.Effects.{open_speed, train_speed, way_form}
use Rattle.working.specs.Events.{view_of}
use Rattle.working.specs.Speeds.{FollowerSpeedAs01, FollowersHaveTwo, Tb602SpeedAs01, has_two, view_number}
use Rattle.working.specs.declared.Station.TheVariants.{A, B}
use Rattle.working.specs.declared.Station.{Station}
use Rattle.working.specs.declared.View.TheVariants.{Clear, Impaired, Night}
use Rattle.working.specs.declared.View.{View}
use lib.Dec.{eqb, ltb}
use mathlib.Core.Bool.{Bool, cond, false, false≢true, not, true}
use mathlib.Core.Path.{refl, ◌≡◌}

pub tb602_speed_as_01 : Tb602SpeedAs01
tb602_speed_as_01 Clear = refl
tb602_speed_as_01 Night = refl
tb602_speed_as_01 Impaired = refl

pub follower_speed_as_01 : FollowerSpeedAs01
follower_speed_as_01 Clear = refl
follower_speed_as_01 Night = refl
follower_speed_as_01 Impaired = refl

pub read_as_numbered : (view : View) → view_of (view_number view) ≡ view
read_as_numbered Clear = refl
read_as_numbered Night = refl
read_as_numbered Impaired = refl

-- ---- who has two figures

each : (P : Bool → Bool → Type 0) → P true true → P true false → P false true → P false false → (b c : Bool) → P b c
each P h i j k true true = h
each P h i j k true false = i
each P h i j k false true = j
each P h i j k false false = k

abbrev Caution : Station → Bool → Bool → Bool → Type 0
Caution x booked asks grants =
    let forms = way_form x + 32 + cond booked 128 64 + cond asks 2 0 + cond grants 4 0 in
    (eqb (forms / 64 % 2) 1 ≡ not booked) × (eqb (forms % 2) 1 ≡ false)

caution : (x : Station) (booked asks grants : Bool) → Caution x booked asks grants
caution A true = each (Caution A true) (refl, refl) (refl, refl) (refl, refl) (refl, refl)
caution A false = each (Caution A false) (refl, refl) (refl, refl) (refl, refl) (refl, refl)
caution B true = each (Caution B true) (refl, refl) (refl, refl) (refl, refl) (refl, refl)
caution B false = each (Caution B false) (refl, refl) (refl, refl) (refl, refl) (refl, refl)

train_two : (booked : Bool) (view : View) → has_two (train_speed booked view) ≡ not booked
train_two true view = refl
train_two false Clear = refl
train_two false Night = refl
train_two false Impaired = refl

open_two : (view : View) → has_two (open_speed view) ≡ false
open_two Clear = refl
open_two Night = refl
open_two Impaired = refl

pub followers_have_two : FollowersHaveTwo
followers_have_two (acts.Open view class asked) x d time v = record { speed = open_two view; caution = refl; unopened = λ is. absurd (false≢true is) }
followers_have_two (acts.Through view) x d time v = record { speed = open_two view; caution = refl; unopened = λ is. absurd (false≢true is) }
followers_have_two (acts.Return asked granted) x d time v =
    let forms = caution x true (ltb 0 asked) (ltb 0 granted) in
    record { speed = refl; caution = forms.0; unopened = λ is. forms.1 }
followers_have_two (acts.Train endorsed view asked granted) x d time v =
    let forms = caution x (eqb d.sent 0) (ltb 0 asked) (ltb 0 granted) in
    record { speed = train_two (eqb d.sent 0) view; caution = forms.0; unopened = λ is. forms.1 }
followers_have_two (acts.Receive sender form) x d time v = tt
