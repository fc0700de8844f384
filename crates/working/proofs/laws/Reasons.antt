-- What is known where no reason applies: each list of tests of specs/Reasons as a record that names what later proofs use of it.
-- Assumes nothing.
use Prim.Native.Nat.{suc, ℕ, ◌<◌}
use Rattle.std.specs.Prelude.{Option}
use Rattle.working.proofs.laws.Tests.{NoneHolds, each_holds, no_test, none_of_both, or_right, some_test}
use Rattle.working.specs.Reasons.{depart_tests, is_named, last_tests, may_enter, may_meet, meet_tests, meeting_tests, open_tests, receive_tests, return_tests, station_tests, train_tests}
use Rattle.working.specs.Refusals.{Test}
use Rattle.working.specs.Sections.{unused}
use Rattle.working.specs.WellMade.{is_open_or_through}
use Rattle.working.specs.declared.Desk.{Desk}
use Rattle.working.specs.declared.Station.{Station}
use Rattle.working.specs.declared.Vehicle.{Vehicle}
use borrow.Author.Tests.{leb-false, lt-ltb, not-false}
use lib.Dec.{ltb}
use lib.ListN.{get_or}
use mathlib.Core.Bool.{Bool, false, true, ◌&&◌}
use mathlib.Core.List.{List, ◌++◌}
use mathlib.Core.Path.{◌≡◌}
use native.Mathlib.Numerals.{add-one}
use native.Mathlib.Omega.{arith}

-- ---- a station's acts

pub record OpenPasses (d : Desk) : Type 0 where
  pub out : d.out ≡ false
  pub holds : d.clears.holds ≡ 0
  pub owes : d.clears.owes ≡ 0
  pub guest : d.guest ≡ 0

pub open_passes : (d : Desk) → NoneHolds (open_tests d) → OpenPasses d
open_passes d n = search no_test

pub return_passes : (d : Desk) (granted : ℕ) → NoneHolds (return_tests d granted) → 0 < d.guest
return_passes d granted n = some_test d.guest n.0

pub record TrainPasses (d : Desk) (granted : ℕ) : Type 0 where
  pub holds : 0 < d.clears.holds
  pub free : 0 < granted → d.clears.owes ≡ 0

pub train_passes : (d : Desk) (granted : ℕ) → NoneHolds (train_tests d granted) → TrainPasses d granted
train_passes d granted (holds, (grant, end)) =
    let while-owing = or_right (ltb d.clears.asked granted) (ltb 0 granted && ltb 0 d.clears.owes) grant in
    record { holds = some_test _ holds; free = λ some. no_test _ (rw (lt-ltb 0 granted some) at while-owing) }

pub record LastPasses (counted last : ℕ) : Type 0 where
  pub room : counted < 12
  pub unused : last < 9999

pub last_passes : (counted last : ℕ) (i : Option ℕ) (t : ℕ) → NoneHolds (last_tests counted last i t) → LastPasses counted last
last_passes counted last i t n = omega (arith, leb-false)

-- a departure's tests, of which those in the middle are its kind's own
pub record DepartPasses (force : Bool) (d : Desk) (kind : List Test) : Type 0 where
  pub begun : force ≡ true
  pub own : NoneHolds kind
  pub last : LastPasses d.sent d.last

pub depart_passes : (force : Bool) (d : Desk) (t : ℕ) (own : List Test) → NoneHolds (depart_tests force d t own) → DepartPasses force d own
depart_passes force d t own n =
    let tests = last_tests d.sent d.last d.interval t in
    let (first, later) = none_of_both (station_tests force d.clock t) (own ++ tests) n in
    let last = none_of_both own tests later in
    search (last_passes, not-false)

pub record ReceivePasses (force : Bool) (x sender : Station) (form : ℕ) (v : Vehicle) : Type 0 where
  pub begun : force ≡ true
  pub named : is_named sender form v ≡ true
  pub enters : may_enter x v ≡ true

pub receive_passes : (force : Bool) (d : Desk) (t : ℕ) (x sender : Station) (form : ℕ) (v : Vehicle)
    → NoneHolds (station_tests force d.clock t ++ receive_tests x sender form v) → ReceivePasses force x sender form v
receive_passes force d t x sender form v n =
    let both = none_of_both (station_tests force d.clock t) (receive_tests x sender form v) n in
    search not-false

-- ---- a MEET

pub record MeetPasses (force : Bool) (l : List Vehicle) (i : ℕ) : Type 0 where
  pub begun : force ≡ true
  pub may : may_meet l i ≡ true

pub meet_passes : (force : Bool) (l : List Vehicle) (i : ℕ) → NoneHolds (meet_tests force l i) → MeetPasses force l i
meet_passes force l i n = search not-false

-- the two that meet are OPEN or THROUGH
pub record Meets (l : List Vehicle) (i : ℕ) : Type 0 where
  pub first : is_open_or_through (get_or l i unused).movement ≡ true
  pub second : is_open_or_through (get_or l (suc i) unused).movement ≡ true

pub meets : (l : List Vehicle) (i : ℕ) → may_meet l i ≡ true → Meets l i
meets l i may =
    let e = each_holds (meeting_tests l i) may in
    search (← add-one i)
