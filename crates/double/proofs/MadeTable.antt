-- When a double line's section is well made, T-05's sentence clause by clause, as two tables. Every section of the first breaks one clause, at one end of a range where there
-- is a range, and nothing else: each is answered 5 and left as it was. Those of the second stand at the limits: none is answered 5.
-- The bytes handed over are none, for which a well-made section gives 1; 5 comes first. The paper's figures stand in the rows as they are.
-- Assumes nothing.
use Prim.Native.Nat.{suc, ℕ}
use Rattle.double.proofs.Computing.{step_computes}
use Rattle.double.specs.Sections.{emptied, fresh_side, side}
use Rattle.double.specs.Steps.{step_of}
use Rattle.double.specs.declared.Section.{Section}
use Rattle.double.specs.declared.Side.{Side}
use Rattle.std.specs.Prelude.{None, Some}
use Rattle.working.proofs.examples.Literals.{counts}
use Rattle.working.proofs.examples.MadeTable.{number_in}
use Rattle.working.specs.Sections.{none_refused}
use Rattle.working.specs.declared.Station.TheVariants.{A, B}
use Rattle.working.specs.declared.Station.{Station}
use lib.Dec.{eqb}
use lib.ListN.{length}
use mathlib.Core.Bool.{Bool, cond, false, true}
use mathlib.Core.List.{List, [], ◌++◌, ◌∷◌}
use mathlib.Core.Path.{refl, ◌≡◌}

-- ---- what the rows are made of

-- in force or not, with this side at station x; the other's is fresh
abbrev with_one : Bool → Station → Side → Section
with_one force A d = record { force = force; refused = none_refused; a = d; b = fresh_side }
with_one force B d = record { force = force; refused = none_refused; a = fresh_side; b = d }

abbrev in_force : Station → Side → Section
in_force x d = with_one true x d

abbrev idle : Station → Side → Section
idle x d = with_one false x d

-- a side at its 40th minute, last form number 20, the interval running since that minute, with these places and so many of them used
abbrev placed : List ℕ → ℕ → Side
placed places used = record { clock = 40; last = 20; interval = Some 40; numbers = places; len = used }

-- the same with a line
abbrev lined : List ℕ → Side
lined l = side 40 20 (Some 40) l

-- ---- ill made, the same for A and for B

abbrev ill_at : Station → List Section
ill_at x =
    -- "last form number, 0 to 9,999"
    in_force x (side 40 10000 (Some 40) [])
    -- twelve on a line
    ∷ in_force x (lined (1 ∷ 2 ∷ 3 ∷ 4 ∷ 5 ∷ 6 ∷ 7 ∷ 8 ∷ 9 ∷ 10 ∷ 11 ∷ 12 ∷ 13 ∷ []))
    -- "form numbers are 1 to the desk's last"
    ∷ in_force x (lined (0 ∷ []))
    ∷ in_force x (lined (21 ∷ []))
    ∷ in_force x (lined (19 ∷ 21 ∷ []))
    -- "as sent, rising": falling, and twice the same
    ∷ in_force x (lined (2 ∷ 1 ∷ []))
    ∷ in_force x (lined (2 ∷ 2 ∷ []))
    ∷ in_force x (lined (1 ∷ 3 ∷ 2 ∷ []))
    ∷ in_force x (lined (1 ∷ 3 ∷ 3 ∷ []))
    -- "unused places are zero": the first, the last, and the one behind those used
    ∷ in_force x (placed (1 ∷ 0 ∷ 0 ∷ 0 ∷ 0 ∷ 0 ∷ 0 ∷ 0 ∷ 0 ∷ 0 ∷ 0 ∷ 0 ∷ []) 0)
    ∷ in_force x (placed (0 ∷ 0 ∷ 0 ∷ 0 ∷ 0 ∷ 0 ∷ 0 ∷ 0 ∷ 0 ∷ 0 ∷ 0 ∷ 1 ∷ []) 0)
    ∷ in_force x (placed (1 ∷ 2 ∷ 0 ∷ 0 ∷ 0 ∷ 0 ∷ 0 ∷ 0 ∷ 0 ∷ 0 ∷ 0 ∷ 0 ∷ []) 1)
    ∷ in_force x (placed (1 ∷ 2 ∷ 3 ∷ 4 ∷ 5 ∷ 6 ∷ 7 ∷ 8 ∷ 9 ∷ 10 ∷ 11 ∷ 12 ∷ []) 11)
    -- "a running interval is not later than the clock"
    ∷ in_force x (side 40 20 (Some 41) [])
    -- "not in force, all but the count is as fresh": clock, last, interval, and a number on the line, for which last is not 0 either
    ∷ idle x (side 1 0 None [])
    ∷ idle x (side 0 1 None [])
    ∷ idle x (side 0 0 (Some 0) [])
    ∷ idle x (side 0 1 None (1 ∷ []))
    ∷ idle x (record { clock = 0; last = 0; interval = None; numbers = 0 ∷ 0 ∷ 0 ∷ 0 ∷ 0 ∷ 0 ∷ 0 ∷ 0 ∷ 0 ∷ 0 ∷ 0 ∷ 0 ∷ []; len = 1 })
    ∷ idle x (record { clock = 0; last = 0; interval = None; numbers = 1 ∷ 0 ∷ 0 ∷ 0 ∷ 0 ∷ 0 ∷ 0 ∷ 0 ∷ 0 ∷ 0 ∷ 0 ∷ 0 ∷ []; len = 0 })
    ∷ []

-- ---- well made, at every limit

abbrev at_limits_of : Station → List Section
at_limits_of x =
    -- every figure at its largest, the interval at the clock, and twelve on the line
    in_force x (side 65535 9999 (Some 65535) (9988 ∷ 9989 ∷ 9990 ∷ 9991 ∷ 9992 ∷ 9993 ∷ 9994 ∷ 9995 ∷ 9996 ∷ 9997 ∷ 9998 ∷ 9999 ∷ []))
    ∷ in_force x (lined [])
    -- form numbers from 1 to the last, rising, with gaps or without
    ∷ in_force x (lined (1 ∷ []))
    ∷ in_force x (lined (20 ∷ []))
    ∷ in_force x (lined (1 ∷ 2 ∷ 20 ∷ []))
    ∷ in_force x (lined (1 ∷ 2 ∷ 3 ∷ 4 ∷ 5 ∷ 6 ∷ 7 ∷ 8 ∷ 9 ∷ 10 ∷ 11 ∷ 12 ∷ []))
    -- the interval
    ∷ in_force x (side 40 20 (Some 0) [])
    ∷ in_force x (side 40 20 None [])
    ∷ in_force x (side 0 0 (Some 0) [])
    ∷ []

abbrev at_limits : List Section
at_limits =
    -- fresh, in force and not, with the three counts at both ends
    emptied false none_refused
    ∷ emptied false (counts 4294967295 4294967295 4294967295)
    ∷ emptied false (counts 1 0 0)
    ∷ emptied false (counts 0 1 0)
    ∷ emptied false (counts 0 0 1)
    ∷ emptied true none_refused
    ∷ emptied true (counts 4294967295 4294967295 4294967295)
    -- one form number on both lines
    ∷ record { force = true; refused = none_refused; a = lined (5 ∷ []); b = lined (5 ∷ []) }
    ∷ at_limits_of A ++ at_limits_of B

-- ---- the tables hold

-- the rows, counted from n, at which no bytes give another answer than this
abbrev rows_not : ℕ → ℕ → List Section → List ℕ
rows_not expected n [] = []
rows_not expected n (s ∷ l) = cond (eqb (number_in (step_of s []).answer) expected) (rows_not expected (suc n) l) (n ∷ rows_not expected (suc n) l)

abbrev after_each : List Section → List Section
after_each [] = []
after_each (s ∷ l) = (step_of s []).section ∷ after_each l

abbrev ill_made : List Section
ill_made = ill_at A ++ ill_at B

-- each of 40 sections is answered 5
all_five : (rows_not 5 1 ill_made ≡ []) × (length ill_made ≡ 40)
unfolding step_computes
all_five = (refl, refl)

-- "5 and 23: nothing" is altered
five_alters_nothing : after_each ill_made ≡ ill_made
unfolding step_computes
five_alters_nothing = refl

-- each of 26 sections is answered as no bytes are: 1, and not 5
none_five : (rows_not 1 1 at_limits ≡ []) × (length at_limits ≡ 26)
unfolding step_computes
none_five = (refl, refl)
