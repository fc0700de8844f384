-- Well made, clause by clause: each list of tests of specs/WellMade as a record that names them, and back.
-- Assumes nothing.
use Prim.Native.Nat.{ℕ, ◌≤◌}
use Rattle.working.proofs.laws.Every.{Every, all-every, every-all}
use Rattle.working.proofs.laws.Tests.{Each, and, both, each_holds, every_holds}
use Rattle.working.specs.Entries.{every}
use Rattle.working.specs.Sections.{desk_of, number_at, vehicles_of}
use Rattle.working.specs.WellMade.{Figure, Range, all, any, count_from, desk_figures, desk_tests, differ, is_blank, is_blank_movement, is_from, is_idle, is_open_or_through, made_tests}
use Rattle.working.specs.WellMade.{movement_tests, not_later, numbered, ordered, shaped, up_to, vehicle_tests, well_made}
use Rattle.working.specs.declared.Desk.{Desk}
use Rattle.working.specs.declared.Movement.TheVariants.{LastTrain, Open, Return, Through, Train}
use Rattle.working.specs.declared.Movement.{Movement}
use Rattle.working.specs.declared.Section.{Section}
use Rattle.working.specs.declared.Station.TheVariants.{A, B}
use Rattle.working.specs.declared.Station.{Station}
use Rattle.working.specs.declared.Vehicle.{Vehicle}
use borrow.Author.Tests.{eq-eqb, eqb-true, le-leb, leb-true, not-true}
use lib.Dec.{eqb, leb}
use lib.ListN.{drop}
use mathlib.Core.Bool.{Bool, false, false≢true, not, true, ◌&&◌, ◌||◌}
use mathlib.Core.List.{List, [], ◌∷◌}
use mathlib.Core.Path.{refl, ◌≡◌}
use native.Mathlib.Omega.{arith}

-- ---- what a vehicle left on

-- a class c from `low` to `high`, asked a, at least `some`, and granted g
pub record Carried (low high some c a g : ℕ) : Type 0 where
  pub least : low ≤ c
  pub most : c ≤ high
  pub asks : some ≤ a
  pub asked : a ≤ 8
  pub granted : g ≤ 8

-- asked and granted alone
abbrev pub Few : ℕ → ℕ → Type 0
Few a g = Carried 0 0 0 0 a g

abbrev pub MovementMade : Movement → ℕ → Type 0
MovementMade (Open a) c = Carried 1 5 1 c a 0
MovementMade Through c = Carried 1 1 0 c 0 0
MovementMade (Return a g) c = Carried 1 5 0 c a g
MovementMade (Train a g) c = Carried 0 0 0 c a g
MovementMade (LastTrain a g u) c = Carried 0 0 0 c a g × (u ≤ 7)

pub movement_made_lem : (m : Movement) (c : ℕ) → every (movement_tests m c) ≡ true → MovementMade m c
movement_made_lem m c h = by m (each_holds (movement_tests m c) h)
  where
    by : (m : Movement) → Each (movement_tests m c) → MovementMade m c
    by (Open a) e = omega (arith, leb-true)
    by Through e = omega (arith, eqb-true)
    by (Return a g) e = omega (arith, leb-true)
    by (Train a g) e = omega (arith, eqb-true, leb-true)
    by (LastTrain a g u) e = omega (arith, eqb-true, leb-true)

pub movement_tests_lem : (m : Movement) (c : ℕ) → MovementMade m c → every (movement_tests m c) ≡ true
movement_tests_lem m c h = every_holds (movement_tests m c) (by m h)
  where
    by : (m : Movement) → MovementMade m c → Each (movement_tests m c)
    by (Open a) h = omega (arith, le-leb)
    by Through h = omega (arith, eq-eqb)
    by (Return a g) h = omega (arith, le-leb)
    by (Train a g) h = omega (arith, eq-eqb, le-leb)
    by (LastTrain a g u) h = omega (arith, eq-eqb, le-leb)

-- ---- a vehicle

pub record Shape (v : Vehicle) : Type 0 where
  pub sender : (eqb v.sender 1 || eqb v.sender 2) ≡ true
  pub heading : (eqb v.heading 1 || eqb v.heading 2) ≡ true
  pub away : (v.met || not (eqb v.heading v.sender)) ≡ true
  pub unmet : (is_open_or_through v.movement || not v.met) ≡ true
  pub moves : MovementMade v.movement v.class

pub shape_of : (v : Vehicle) → shaped v ≡ true → Shape v
shape_of v h = let e = each_holds (vehicle_tests v) h in search movement_made_lem depth 12

pub shape_tests : (v : Vehicle) → Shape v → shaped v ≡ true
shape_tests v s = every_holds (vehicle_tests v) (search movement_tests_lem)

-- ---- an unused place

pub record Blank (v : Vehicle) : Type 0 where
  pub movement : v.movement ≡ Open 0
  pub sender : v.sender ≡ 0
  pub form : v.form ≡ 0
  pub heading : v.heading ≡ 0
  pub met : v.met ≡ false
  pub class : v.class ≡ 0

blank_movement : (m : Movement) → is_blank_movement m ≡ true → m ≡ Open 0
blank_movement (Open a) h = rw (eqb-true a 0 h)
blank_movement Through h = absurd (false≢true h)
blank_movement (Return a g) h = absurd (false≢true h)
blank_movement (Train a g) h = absurd (false≢true h)
blank_movement (LastTrain a g u) h = absurd (false≢true h)

pub blank-made : (v : Vehicle) → is_blank v ≡ true → Blank v
blank-made v h =
    let tests = is_blank_movement v.movement ∷ eqb v.sender 0 ∷ eqb v.form 0 ∷ eqb v.heading 0 ∷ not v.met ∷ eqb v.class 0 ∷ [] in
    let e = each_holds tests h in
    search (blank_movement, eqb-true, not-true) depth 12

-- ---- form numbers

abbrev pub Numbered : ℕ → ℕ → Vehicle → Type 0
Numbered n last v = is_from n v ≡ true → (1 ≤ v.form) × (v.form ≤ last)

numbered_made : (n last : ℕ) (v : Vehicle) → numbered n last v ≡ true → Numbered n last v
numbered_made n last v h from = let p = both (leb 1 v.form) (leb v.form last) (rw from at h) in omega (arith, leb-true)

numbered_tests : (n last : ℕ) (v : Vehicle) → Numbered n last v → numbered n last v ≡ true
numbered_tests n last v f = by (is_from n v) refl
  where
    by : (b : Bool) → is_from n v ≡ b → (not b || (leb 1 v.form && leb v.form last)) ≡ true
    by true from = let p = f from in and (leb 1 v.form) (leb v.form last) (omega (arith, le-leb)) (omega (arith, le-leb))
    by false from = refl

-- ---- a desk

abbrev In : ℕ → Range → Type 0
In n any = Unit {0}
In n (up_to most) = n ≤ most

abbrev Within : List Figure → Type 0
Within [] = Unit {0}
Within (f ∷ fs) = In f.0 f.1 × Within fs

-- its figures in range, but for those that a departure counts: form number and sent
abbrev pub Bounds : Desk → Type 0
Bounds d = Within (drop 3 (desk_figures d))

-- the desk of station number n beside the vehicles l
pub record DeskMade (n : ℕ) (d : Desk) (l : List Vehicle) : Type 0 where
  pub last : d.last ≤ 9999
  pub sent : d.sent ≤ 12
  pub present : count_from n l ≤ d.sent
  pub bounds : Bounds d
  pub interval : not_later d.interval d.clock ≡ true
  pub number : Every (Numbered n d.last) l

pub desk-made : (n : ℕ) (d : Desk) (l : List Vehicle) → every (desk_tests n d l) ≡ true → DeskMade n d l
desk-made n d l h = let e = each_holds (desk_tests n d l) h in search (leb-true, all-every, numbered_made, arith) depth 24

pub desk_tests_lem : (n : ℕ) (d : Desk) (l : List Vehicle) → DeskMade n d l → every (desk_tests n d l) ≡ true
desk_tests_lem n d l m = every_holds (desk_tests n d l) (search (le-leb, every-all, numbered_tests, arith) depth 24)

-- ---- the section

pub record SectionMade (s : Section) : Type 0 where
  pub fits : s.len ≤ 24
  pub blank : all is_blank (drop s.len s.vehicles) ≡ true
  pub shape : Every Shape (vehicles_of s)
  pub order : ordered (vehicles_of s) ≡ true
  pub distinct : differ (vehicles_of s) ≡ true
  pub a : DeskMade 1 s.a (vehicles_of s)
  pub b : DeskMade 2 s.b (vehicles_of s)
  pub idle : (s.force || is_idle s) ≡ true

pub section-made : (s : Section) → well_made s ≡ true → SectionMade s
unfolding well_made
section-made s h = let e = each_holds (made_tests s) h in search (leb-true, all-every, shape_of, desk-made, arith) depth 12

pub section_tests : (s : Section) → SectionMade s → well_made s ≡ true
unfolding well_made
section_tests s m = every_holds (made_tests s) (search (le-leb, every-all, shape_tests, desk_tests_lem) depth 12)

pub desk_of_lem : (s : Section) (x : Station) → SectionMade s → DeskMade (number_at x) (desk_of s x) (vehicles_of s)
desk_of_lem s A m = m.a
desk_of_lem s B m = m.b
