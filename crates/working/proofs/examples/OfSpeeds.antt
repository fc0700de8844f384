-- What T-04 and T-07 say of the choices of a speed, drawn from the theorems: each of the three views in figures, and the order of each kind that departs, whatever its view, its
-- desk and what it asks and grants.
-- Assumes nothing.
use Prim.Native.Nat.{ℕ, ◌%◌, ◌/◌}
use Rattle.working.proofs.examples.Literals.{with_sent}
use Rattle.working.proofs.theorems.Speeds.{follower_speed_as_01, followers_have_two, tb602_speed_as_01}
use Rattle.working.specs.Acts as acts
use Rattle.working.specs.Effects.{clear_forms, follow_speed, open_speed}
use Rattle.working.specs.Speeds.{has_two}
use Rattle.working.specs.declared.Desk.{Desk}
use Rattle.working.specs.declared.Speed.TheVariants.{Booked, Both, Kmh, Walking}
use Rattle.working.specs.declared.Speed.{Speed}
use Rattle.working.specs.declared.Station.{Station}
use Rattle.working.specs.declared.Vehicle.{Vehicle}
use Rattle.working.specs.declared.View.TheVariants.{Clear, Impaired, Night}
use Rattle.working.specs.declared.View.{View}
use lib.Dec.{eqb}
use mathlib.Core.Bool.{Bool, false, true}
use mathlib.Core.Path.{refl, ◌≡◌}

-- ---- the two choices, view by view

-- "OPEN and THROUGH 15, 10 or walking pace (counted below 10) by view 1, 2, 3"
on_tb602 : (open_speed Clear ≡ Kmh 15) × (open_speed Night ≡ Kmh 10) × (open_speed Impaired ≡ Walking)
on_tb602 = (tb602_speed_as_01 Clear, tb602_speed_as_01 Night, tb602_speed_as_01 Impaired)

-- T-07: "25 for straight with a clear view and 10 for elsewhere; in views 2 and 3 both are 10"
of_a_follower : (follow_speed Clear ≡ Both 25 10) × (follow_speed Night ≡ Both 10 10) × (follow_speed Impaired ≡ Both 10 10)
of_a_follower = (follower_speed_as_01 Clear, follower_speed_as_01 Night, follower_speed_as_01 Impaired)

-- ---- who has two figures

-- an order has two figures, and T/409, the 64 of the sum, or neither
abbrev Ordered : Bool → ℕ → Speed → Type 0
Ordered two forms speed = (has_two speed ≡ two) × (eqb (forms / 64 % 2) 1 ≡ two)

module _ (view : View) (class asked granted : ℕ) (endorsed : Bool) (x : Station) (d : Desk) (time : ℕ) (v : Vehicle) where
  -- an OPEN, a THROUGH, a RETURN and the first TRAIN, endorsed or not, have neither
  one_figure_lem : Ordered false 7 (open_speed view)
      × Ordered false 1 (open_speed view)
      × Ordered false (clear_forms x true asked granted) Booked
      × Ordered false (clear_forms x true asked granted) Booked
  one_figure_lem =
      let open_order = followers_have_two (acts.Open view class asked) x d time v in
      let through-order = followers_have_two (acts.Through view) x d time v in
      let return-order = followers_have_two (acts.Return asked granted) x d time v in
      let train-order = followers_have_two (acts.Train endorsed view asked granted) x (with_sent 0 d) time v in (
        (open_order.speed, open_order.caution),
        (through-order.speed, through-order.caution),
        (return-order.speed, return-order.caution),
        (train-order.speed, train-order.caution),
      )

  -- a TRAIN, endorsed or not, that follows one, and one that follows eleven have both, and no T/B 602, the 1 of the sum
  two_figures : Ordered true (clear_forms x false asked granted) (follow_speed view)
      × Ordered true (clear_forms x false asked granted) (follow_speed view)
      × (eqb (clear_forms x false asked granted % 2) 1 ≡ false)
  two_figures =
      let second = followers_have_two (acts.Train endorsed view asked granted) x (with_sent 1 d) time v in
      let twelfth = followers_have_two (acts.Train endorsed view asked granted) x (with_sent 11 d) time v in
      ((second.speed, second.caution), (twelfth.speed, twelfth.caution), second.unopened refl)
