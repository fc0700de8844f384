-- Each vehicle present has its departure in the list of steps, of the kind that its record says; an OPEN or THROUGH left on T/B 602 at 15 km/h or less.
-- A step that is no accepted departure adds none; one that is takes a form number that no vehicle present has.
-- Assumes nothing.
use Prim.Native.Nat.{suc, ℕ, ◌+◌}
use Rattle.std.specs.Prelude.{Err, None, Option, Some}
use Rattle.working.proofs.invariant.Changes.{Change, Sound, arrival, departure, emptying, meeting, refusal, well_at}
use Rattle.working.proofs.invariant.Invariant.{owed_over, train_one, weigh}
use Rattle.working.proofs.invariant.Made.{vehicles_after, vehicles_with}
use Rattle.working.proofs.invariant.Plans.{Departs}
use Rattle.working.proofs.invariant.Sides.{moves_of, moves_weight}
use Rattle.working.proofs.laws.Clauses.{Numbered}
use Rattle.working.proofs.laws.Every.{Every, every_map}
use Rattle.working.proofs.laws.Vehicles.{eqb_sym, every-end, every-insert, every_redirect, number_same}
use Rattle.working.specs.Acts.{Act}
use Rattle.working.specs.Answers.{accept}
use Rattle.working.specs.Effects.{Departing, arrive_desk}
use Rattle.working.specs.Events.{At, Bad, Begin, Decoded, Meet, Resume, Says, decode}
use Rattle.working.specs.Runs.{Done}
use Rattle.working.specs.Sections.{desk_of, insert_at, number_at, vehicles_of}
use Rattle.working.specs.Steps.{met_at, redirect_at, redirected}
use Rattle.working.specs.Terms.{Departure, Kind, departure_by, departure_of, departure_with, given_up_in, if_of, kind_in, kind_of, later_or, left_on_train, left_slowly, of_station}
use Rattle.working.specs.WellMade.{is_open_or_through, one_if, sum_over}
use Rattle.working.specs.declared.Movement.{Movement}
use Rattle.working.specs.declared.Refusal.{Refusal}
use Rattle.working.specs.declared.Section.{Section}
use Rattle.working.specs.declared.Station.{Station}
use Rattle.working.specs.declared.Stepped.{Stepped}
use Rattle.working.specs.declared.Vehicle.{Vehicle}
use borrow.Author.Tests.{eq-eqb, ne_eqb}
use lib.Dec.{eqb}
use mathlib.Core.Bool.{Bool, cond, false, true, ◌&&◌}
use mathlib.Core.List.{List, [], ◌++◌, ◌∷◌}
use mathlib.Core.Path.{ap, ap₂, refl, sym, ◌∙◌, ◌≡◌}
use native.Mathlib.Omega.{arith}

-- ---- a vehicle and its departure

pub record Told (h : List Done) (v : Vehicle) : Type 0 where
  pub by : Departure
  pub is : departure_of h v ≡ Some by
  pub kind : by.kind ≡ kind_in v.movement
  pub slowly : is_open_or_through v.movement ≡ true → left_slowly (Some by) ≡ true

later_none : (q : Option Departure) → later_or q None ≡ q
later_none None = refl
later_none (Some p) = refl

later_assoc : (a b c : Option Departure) → later_or (later_or a b) c ≡ later_or a (later_or b c)
later_assoc None b c = refl
later_assoc (Some p) b c = refl

-- one more step at the end of the list
departure_snoc : (h : List Done) (d : Done) (v : Vehicle)
    → departure_of (h ++ d ∷ []) v ≡ later_or (if_of v (departure_by (decode d.bytes) d.answer)) (departure_of h v)
departure_snoc [] d v = sym (later_none (if_of v (departure_by (decode d.bytes) d.answer)))
departure_snoc (k ∷ h) d v =
    ap (λ (q : Option Departure). later_or q (if_of v (departure_by (decode k.bytes) k.answer))) (departure_snoc h d v)
    ∙ later_assoc (if_of v (departure_by (decode d.bytes) d.answer)) (departure_of h v) (if_of v (departure_by (decode k.bytes) k.answer))

-- heading and met do not tell
departure_redirected : (h : List Done) (z : Station) (v : Vehicle) → departure_of h (redirected z v) ≡ departure_of h v
departure_redirected [] z v = refl
departure_redirected (d ∷ h) z v = ap₂ later_or (departure_redirected h z v) (go (departure_by (decode d.bytes) d.answer))
  where
    go : (q : Option Departure) → if_of (redirected z v) q ≡ if_of v q
    go None = refl
    go (Some p) = refl

told-redirected : (h : List Done) (z : Station) (v : Vehicle) → Told h v → Told h (redirected z v)
told-redirected h z v t = record { by = t.by; is = departure_redirected h z v ∙ t.is; kind = t.kind; slowly = t.slowly }

module _ (h : List Done) (d : Done) where
  -- the step's departure is not the vehicle's
  told_still : (v : Vehicle) → if_of v (departure_by (decode d.bytes) d.answer) ≡ None → Told h v → Told (h ++ d ∷ []) v
  told_still v e t = record {
    by = t.by;
    is = departure_snoc h d v ∙ ap (λ (q : Option Departure). later_or q (departure_of h v)) e ∙ t.is;
    kind = t.kind;
    slowly = t.slowly;
  }

  -- the step is no accepted departure
  none_more : departure_by (decode d.bytes) d.answer ≡ None → (l : List Vehicle) → Every (Told h) l → Every (Told (h ++ d ∷ [])) l
  none_more e l = every_map (Told h) (Told (h ++ d ∷ [])) (λ v. told_still v (ap (if_of v) e)) l

  -- it is one, with the next form number of its station
  module _ (p : Departure) (last : ℕ) (e : departure_by (decode d.bytes) d.answer ≡ Some p) (n : p.number ≡ last + 1) where
    not_its : (v : Vehicle) → Numbered (number_at p.station) last v → if_of v (departure_by (decode d.bytes) d.answer) ≡ None
    not_its v number = ap (if_of v) e ∙ ap (λ (b : Bool). cond b (Some p) None) (by (eqb (number_at p.station) v.sender) refl)
      where
        by : (b : Bool) → eqb (number_at p.station) v.sender ≡ b → (b && eqb p.number v.form) ≡ false
        by true is = ne_eqb p.number v.form (λ same. omega (arith, number (eqb_sym v.sender (number_at p.station) ∙ is)))
        by false is = refl

    one_more_lem : (l : List Vehicle) → Every (Numbered (number_at p.station) last) l → Every (Told h) l → Every (Told (h ++ d ∷ [])) l
    one_more_lem [] number t = tt
    one_more_lem (v ∷ l) number t = (told_still v (not_its v number.0) t.0, one_more_lem l number.1 t.1)

-- a refused step is none
refused_none : (e : Decoded) (why : Refusal) → departure_by e (Err why) ≡ None
refused_none (Bad k) why = refl
refused_none (Says Begin) why = refl
refused_none (Says (At x t act)) why = go (kind_of act)
  where
    go : (k : Option Kind) → departure_with x k (Err why) ≡ None
    go None = refl
    go (Some k) = refl
refused_none (Says (Meet x y n)) why = refl
refused_none (Says Resume) why = refl

-- ---- every step keeps it

told_depart : (h : List Done) (d : Done) (s : Section) → Sound s → Every (Told h) (vehicles_of s)
    → (x : Station) (time : ℕ) (act : Act) (p : Departing) → Departs act x (desk_of s x) p
    → decode d.bytes ≡ Says (At x time act) → d.answer ≡ accept p.vehicle.form p.order.forms p.order.speed
    → Every (Told (h ++ d ∷ [])) (insert_at x p.vehicle (vehicles_of s))
told_depart h d s g told x time act p leaves q a =
    let v = p.vehicle in
    let this : Departure = record { station = x; kind = kind_in v.movement; number = v.form; forms = p.order.forms; speed = p.order.speed } in
    let by : departure_by (decode d.bytes) d.answer ≡ Some this = rw (q, a, leaves.kind) in
    let its : if_of v (departure_by (decode d.bytes) d.answer) ≡ Some this = rw (by, leaves.sender, number_same x, eq-eqb v.form v.form refl) in
    every-insert (Told (h ++ d ∷ [])) x v (vehicles_of s)
    (record { by = this; is = departure_snoc h d v ∙ ap (λ (k : Option Departure). later_or k (departure_of h v)) its; kind = refl; slowly = leaves.slowly })
    (one_more_lem h d this (desk_of s x).last by leaves.form (vehicles_of s) (well_at s x g).own.number told)

pub told_change : (h : List Done) (d : Done) (s : Section) (e : Decoded) (r : Stepped Section) → Sound s → Change s e r → decode d.bytes ≡ e
    → d.answer ≡ r.answer
    → Every (Told h) (vehicles_of s) → Every (Told (h ++ d ∷ [])) (vehicles_of r.section)
told_change h d s e r g (refusal k why) q a t = none_more h d (ap (departure_by (decode d.bytes)) a ∙ refused_none (decode d.bytes) why) (vehicles_of s) t
told_change h d s e r g (emptying k force) q a t = tt
told_change h d s e r g (departure x time act {p} f leaves w) q a t =
    rw (vehicles_after s x p.desk (insert_at x p.vehicle (vehicles_of s)) w.fits) (told_depart h d s g t x time act p leaves q a)
told_change h d s e r g (arrival x time y n k f may w) q a t =
    rw (vehicles_after s x (arrive_desk x (desk_of s x) time k.vehicle) k.others w.fits)
    (none_more h d (rw q) k.others (every-end (Told h) x k.vehicle k.others (rw k.whole at t)).0)
told_change h d s e r g (meeting x y n i f w) q a t =
    rw (vehicles_with 24 (met_at x i (vehicles_of s)) w.fits)
    (none_more h d (rw q) (met_at x i (vehicles_of s))
    (every_redirect (Told h) x (told-redirected h x) (suc i) (redirect_at x i (vehicles_of s)) (every_redirect (Told h) x (told-redirected h x) i (vehicles_of s) t)))

-- ---- what the departures say of the vehicles present

-- a figure of what each left on, added up over one station's vehicles
pub carried : (f : Movement → ℕ) (y : Station) (l : List Vehicle) → sum_over (of_station y (λ v. f v.movement)) l ≡ weigh f (moves_of y l)
carried f y l = moves_weight y (λ v. f v.movement) f l (alike l)
  where
    alike : (l : List Vehicle) → Every (λ v. f v.movement ≡ f v.movement) l
    alike [] = tt
    alike (v ∷ l) = (refl, alike l)

weigh_both : (f g : Movement → ℕ) (l : List Movement) → weigh (λ m. f m + g m) l ≡ weigh f l + weigh g l
weigh_both f g [] = refl
weigh_both f g (m ∷ l) = omega (arith, weigh_both f g l)

-- the trains, as the list of steps tells them, and what they give up
pub owed-told : (h : List Done) (y : Station) (l : List Vehicle) → Every (Told h) l
    → sum_over (of_station y (λ v. one_if (left_on_train (departure_of h v)))) l + sum_over (of_station y (λ v. given_up_in v.movement)) l ≡ owed_over (moves_of y l)
owed-told h y l t =
    let trains = moves_weight y (λ v. one_if (left_on_train (departure_of h v))) train_one l (every_map (Told h) _ (λ v k. rw (k.is, k.kind)) l t) in
    ap₂ ◌+◌ trains (carried given_up_in y l) ∙ sym (weigh_both train_one given_up_in (moves_of y l))
