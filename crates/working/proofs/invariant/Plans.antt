-- What a station's act comes to: refused, a departure, or a receipt. Of a departure one record says all that later proofs use: the desk's figures, that the invariant
-- is kept, and what stands beside it in a list that document 01 accepts, and that an OPEN or THROUGH leaves on T/B 602 at 15 km/h or less. The tests that passed say
-- the rest.
-- Assumes nothing.
use Prim.Native.Nat.{ℕ, ◌%◌, ◌+◌, ◌<◌, ◌≤◌}
use Rattle.std.specs.Prelude.{Some}
use Rattle.working.proofs.invariant.Invariant.{Halves, hauled, is_open, kept_return, kept_slow, kept_train, uses}
use Rattle.working.proofs.invariant.ReplyLast.{Allowed01, ReplyLast, replies_return, replies_slow, replies_train}
use Rattle.working.proofs.laws.Clauses.{Bounds, Few, MovementMade, Shape}
use Rattle.working.proofs.laws.Ranges.{ActMade}
use Rattle.working.proofs.laws.Reasons.{OpenPasses, depart_passes, open_passes, receive_passes, return_passes, train_passes}
use Rattle.working.proofs.laws.Scans.{scanned}
use Rattle.working.proofs.laws.Tests.{NoneHolds, and, clash, either_most}
use Rattle.working.specs.Acts as acts
use Rattle.working.specs.Acts.{Act}
use Rattle.working.specs.Effects.{Arrive, Depart, Departing, Order, Plan, Refuse, arrive_desk, departed, is_slow, next_form, open_forms, open_speed, through_forms, train_movement, vehicle_for}
use Rattle.working.specs.Reasons.{depart_tests, is_named, may_enter, open_tests, receive_tests, return_tests, station_tests, train_tests}
use Rattle.working.specs.Refusals.{Test, first_of}
use Rattle.working.specs.Sections.{number_at, with_figures, with_out}
use Rattle.working.specs.Steps.{plan_of, unless_refused}
use Rattle.working.specs.Terms.{LAST-TRAIN, TRAIN, kind_in, kind_of}
use Rattle.working.specs.WellMade.{is_open_or_through, not_later}
use Rattle.working.specs.declared.Clears.{Clears}
use Rattle.working.specs.declared.Desk.{Desk}
use Rattle.working.specs.declared.Movement.TheVariants.{Open, Return, Through}
use Rattle.working.specs.declared.Movement.{Movement}
use Rattle.working.specs.declared.Refusal.{Refusal}
use Rattle.working.specs.declared.Station.TheVariants.{A, B}
use Rattle.working.specs.declared.Station.{Station}
use Rattle.working.specs.declared.Vehicle.{Vehicle}
use Rattle.working.specs.declared.View.TheVariants.{Clear, Impaired, Night}
use Rattle.working.specs.declared.View.{View}
use borrow.Author.Tests.{le-leb}
use lib.Dec.{eqb, ltb}
use mathlib.Core.Bool.{Bool, cond, false, false≢true, or-true, true, ◌&&◌}
use mathlib.Core.List.{List, ◌++◌, ◌∷◌}
use mathlib.Core.Path.{refl, ◌≡◌}
use native.Mathlib.Omega.{arith}

-- a departure p by act from station x, whose desk was d
pub record Departs (act : Act) (x : Station) (d : Desk) (p : Departing) : Type 0 where
  pub last : p.desk.last ≡ d.last + 1
  pub sent : p.desk.sent ≡ d.sent + 1
  pub room : d.sent < 12
  pub unused : d.last < 9999
  pub bounds : Bounds p.desk
  pub interval : not_later p.desk.interval p.desk.clock ≡ true
  pub sender : p.vehicle.sender ≡ number_at x
  pub form : p.vehicle.form ≡ d.last + 1
  pub shape : Shape p.vehicle
  pub keeps : (o : Desk) (mine theirs : List Movement) → Halves d o mine theirs → Halves p.desk o (p.vehicle.movement ∷ mine) theirs
  pub replies : (o : Desk) (mine theirs : List Movement) → Halves d o mine theirs → Allowed01 act d → ReplyLast d mine → ReplyLast p.desk (p.vehicle.movement ∷ mine)
  pub kind : kind_of act ≡ Some (kind_in p.vehicle.movement)
  pub slowly : is_open_or_through p.vehicle.movement ≡ true → (eqb (p.order.forms % 2) 1 && is_slow p.order.speed) ≡ true

pub data Fate (act : Act) (x : Station) (force : Bool) (d : Desk) (t : ℕ) (v : Vehicle) : Plan → Type 0 where
  refuses : (why : Refusal) → Fate act x force d t v (Refuse why)
  departs : {p : Departing} → force ≡ true → Departs act x d p → Fate act x force d t v (Depart p)
  arrives : (y : Station) (n : ℕ) → act ≡ acts.Receive y n → force ≡ true → is_named y n v ≡ true → may_enter x v ≡ true
      → Fate act x force d t v (Arrive (arrive_desk x d t v))

-- ---- what is the same for every departure

-- a vehicle that leaves x is one that the section may have
shape_for : (x : Station) (n : ℕ) (m : Movement) (class : ℕ) → MovementMade m class → Shape (vehicle_for x n m class)
shape_for A n m class made = record { sender = refl; heading = refl; away = refl; unmet = or-true (is_open_or_through m); moves = made }
shape_for B n m class made = record { sender = refl; heading = refl; away = refl; unmet = or-true (is_open_or_through m); moves = made }

-- the desk after a departure, with what tells the kinds apart
abbrev leaves : Desk → ℕ → Bool → ℕ → Clears → Desk
leaves d t out guest clears = with_figures t (next_form d) (d.sent + 1) (Some t) out guest clears d

-- what each kind has of its own
record Leaves (act : Act) (d e : Desk) (m : Movement) (class : ℕ) (order : Order) : Type 0 where
  bounds : Bounds e
  made : MovementMade m class
  keeps : (o : Desk) (mine theirs : List Movement) → Halves d o mine theirs → Halves e o (m ∷ mine) theirs
  replies : (o : Desk) (mine theirs : List Movement) → Halves d o mine theirs → Allowed01 act d → ReplyLast d mine → ReplyLast e (m ∷ mine)
  kind : kind_of act ≡ Some (kind_in m)
  slowly : is_open_or_through m ≡ true → (eqb (order.forms % 2) 1 && is_slow order.speed) ≡ true

-- a departure whose kind's own tests passed
departs_by : (act : Act) (x : Station) (force : Bool) (d : Desk) (t : ℕ) (v : Vehicle) (own : List Test) (out : Bool) (guest : ℕ) (clears : Clears) (m : Movement) (class : ℕ) (order : Order)
    → (NoneHolds own → Leaves act d (leaves d t out guest clears) m class order)
    → Fate act x force d t v (unless_refused (first_of (depart_tests force d t own))
    (Depart (record { desk = leaves d t out guest clears; vehicle = vehicle_for x (next_form d) m class; order = order })))
departs_by act x force d t v own out guest clears m class order shows =
    let plan : Plan = Depart (record { desk = leaves d t out guest clears; vehicle = vehicle_for x (next_form d) m class; order = order }) in
    scanned (λ r. Fate act x force d t v (unless_refused r plan)) (depart_tests force d t own) refuses
    (λ n.
    let p = depart_passes force d t own n in
    let k = shows p.own in
    departs p.begun
    (record {
      last = refl;
      sent = refl;
      room = p.last.room;
      unused = p.last.unused;
      bounds = k.bounds;
      interval = le-leb t t (omega arith);
      sender = refl;
      form = refl;
      shape = shape_for x (next_form d) m class k.made;
      keeps = k.keeps;
      replies = k.replies;
      kind = k.kind;
      slowly = k.slowly;
    }))

-- ---- each kind

open_slow : (w : View) → is_slow (open_speed w) ≡ true
open_slow Clear = refl
open_slow Night = refl
open_slow Impaired = refl

-- OPEN and THROUGH, on forms that are odd: the 1 of T/B 602 is among them
slow_fate : (act : Act) (x : Station) (force : Bool) (d : Desk) (t : ℕ) (v : Vehicle) (out : Bool) (m : Movement) (class forms : ℕ) (w : View)
    → Bounds d
    → is_open_or_through m ≡ true → (OpenPasses d → out ≡ is_open m) → MovementMade m class → kind_of act ≡ Some (kind_in m) → eqb (forms % 2) 1 ≡ true
    → Fate act x force d t v (unless_refused (first_of (depart_tests force d t (open_tests d)))
    (Depart (record {
      desk = with_out out (departed d t);
      vehicle = vehicle_for x (next_form d) m class;
      order = record { forms = forms; speed = open_speed w };
    })))
slow_fate act x force d t v out m class forms w b is out-is made kind odd =
    departs_by act x force d t v (open_tests d) _ _ _ m class _
    (λ n.
    let p = open_passes d n in
    record {
      bounds = omega arith;
      made = made;
      keeps = λ o mine theirs h. kept_slow d o t out m mine theirs h p is (out-is p);
      replies = λ o mine theirs h allowed. replies_slow d o t out m mine theirs h p;
      kind = kind;
      slowly = λ q. and (eqb (forms % 2) 1) (is_slow (open_speed w)) odd (open_slow w);
    })

pub fate : (act : Act) (x : Station) (force : Bool) (d : Desk) (t : ℕ) (v : Vehicle) → ActMade act → Bounds d
    → Fate act x force d t v (plan_of act x force d t v)
fate (acts.Open w class asked) x force d t v made b =
    slow_fate (acts.Open w class asked) x force d t v true (Open asked) class open_forms w b refl (λ p. refl) made refl refl
fate (acts.Through w) x force d t v made b = slow_fate (acts.Through w) x force d t v d.out Through 1 through_forms w b refl (λ p. p.out) (omega arith) refl refl
fate (acts.Return asked granted) x force d t v few b =
    departs_by (acts.Return asked granted) x force d t v (return_tests d granted) _ _ _ (Return asked granted) d.guest _
    (λ n.
    let guest = return_passes d granted n in
    let owes : d.clears.owes ≤ 8 = omega arith in
    record {
      bounds = omega (arith, either_most (ltb 0 granted) few.granted owes);
      made = omega (arith, guest);
      keeps = λ o mine theirs h. kept_return d o t asked granted mine theirs h guest;
      replies = λ o mine theirs h allowed. replies_return d o t asked granted mine theirs h guest;
      kind = refl;
      slowly = λ q. absurd (false≢true q);
    })
fate (acts.Train endorsed w asked granted) x force d t v few b =
    departs_by (acts.Train endorsed w asked granted) x force d t v (train_tests d granted) _ _ _ (train_movement endorsed d.clears.holds asked granted) 0 _
    (λ n.
    let p = train_passes d granted n in
    let s = uses endorsed d.clears.holds asked granted p.holds in
    let none : 0 ≤ 8 = omega arith in
    let enquired : d.clears.asked ≤ 8 = omega arith in
    let owes : d.clears.owes ≤ 8 = omega arith in
    record {
      bounds = omega (arith, s.sum, either_most (ltb 0 granted) none enquired, either_most (ltb 0 granted) few.granted owes);
      made = train_made endorsed d.clears.holds few (omega arith);
      keeps = λ o mine theirs h. kept_train d o endorsed t granted _ mine theirs h p s;
      replies = λ o mine theirs h. replies_train d o endorsed t granted _ mine theirs h p;
      kind = train_kind endorsed;
      slowly = λ q. absurd (clash q (hauled (train_movement endorsed d.clears.holds asked granted) s.train).fast);
    })
  where
    train_made : (endorsed : Bool) (holds : ℕ) → Few asked granted → holds ≤ 8 → MovementMade (train_movement endorsed holds asked granted) 0
    train_made false holds few most = omega arith
    train_made true holds few most = omega arith

    train_kind : (endorsed : Bool) → Some (cond endorsed LAST-TRAIN TRAIN) ≡ Some (kind_in (train_movement endorsed d.clears.holds asked granted))
    train_kind false = refl
    train_kind true = refl
fate (acts.Receive y k) x force d t v made b =
    scanned (λ r. Fate (acts.Receive y k) x force d t v (unless_refused r (Arrive (arrive_desk x d t v)))) (station_tests force d.clock t ++ receive_tests x y k v) refuses
    (λ n.
    let p = receive_passes force d t x y k v n in
    arrives y k refl p.begun p.named p.enters)
