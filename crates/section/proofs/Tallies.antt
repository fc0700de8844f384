-- A tally never counts more vehicles than it has seen, so a survey of fewer than 24 has room for one more.
-- Assumes nothing.
use Prim.Native.Nat.{ℕ, ◌<◌, ◌≤◌}
use Rattle.section.specs.Made.{Room, survey_of}
use Rattle.working.specs.WellMade.{count_from, is_from, one_if}
use Rattle.working.specs.declared.Vehicle.{Vehicle}
use lib.ListN.{length}
use mathlib.Core.Bool.{Bool, false, true}
use mathlib.Core.List.{List, [], ◌∷◌}
use native.Mathlib.Omega.{arith}

pub one_most : (b : Bool) → one_if b ≤ 1
one_most true = omega arith
one_most false = omega arith

count_most : (n : ℕ) (l : List Vehicle) → count_from n l ≤ length l
count_most n [] = omega arith
count_most n (v ∷ l) = omega (arith, one_most (is_from n v), count_most n l)

pub room : (lastA lastB : ℕ) (l : List Vehicle) → length l < 24 → Room (survey_of lastA lastB l)
room lastA lastB l h = record { a = omega (arith, count_most 1 l); b = omega (arith, count_most 2 l) }
