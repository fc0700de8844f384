-- Demand 3 is not empty: lists, by computation, with two opposed vehicles, with a line clear on the way, and with two neighbours that change places.
-- Assumes nothing.
use Rattle.working.proofs.examples.Computing.{reading_computes, step_computes}
use Rattle.working.proofs.examples.Literals.{begin, opens, receive, returns}
use Rattle.working.proofs.laws.Lists.{Todo, after, done, runs}
use Rattle.working.proofs.laws.Vehicles.{other_differs}
use Rattle.working.proofs.theorems.Demand3.{demand3}
use Rattle.working.specs.Acts as acts
use Rattle.working.specs.Answers.{accept}
use Rattle.working.specs.Runs.{Done, Run, by_value, in_place}
use Rattle.working.specs.Sections.{desk_of, fresh, number_at}
use Rattle.working.specs.Terms.{AcceptedAt, is_departure, on_the_way_to, vehicle_at}
use Rattle.working.specs.declared.Speed.TheVariants.{Kmh, NoSpeed, Walking}
use Rattle.working.specs.declared.Station.TheVariants.{A, B}
use Rattle.working.specs.declared.View.TheVariants.{Clear, Impaired}
use mathlib.Core.Bool.{true, true≢false}
use mathlib.Core.List.{List, [], ◌∷◌}
use mathlib.Core.Path.{ap, refl, ◌≡◌}

-- BEGIN, an OPEN from each station, A's altered in memory and B's returned
abbrev two : List Todo
two = record { form = by_value; bytes = begin } ∷ record { form = in_place; bytes = opens 1 5 1 2 } ∷ record { form = by_value; bytes = opens 2 9 3 1 } ∷ []

-- ---- two opposed vehicles

opposed_there : ((after fresh two).len ≡ 2) × ((vehicle_at (after fresh two) 0).heading ≡ number_at B) × ((vehicle_at (after fresh two) 1).heading ≡ number_at A)
unfolding step_computes
opposed_there = (refl, refl, refl)

-- ---- a line clear on the way

-- A's opener is received at B, whose RETURN grants the two trains asked for
abbrev granting : List Todo
granting =
    record { form = by_value; bytes = begin } ∷ record { form = by_value; bytes = opens 1 5 1 2 }
    ∷ record { form = by_value; bytes = receive 2 60 1 1 } ∷ record { form = by_value; bytes = returns 2 61 2 } ∷ []

on_the_way : (on_the_way_to (after fresh granting) A ≡ 2) × ((desk_of (after fresh granting) B).clears.owes ≡ 2) × ((after fresh granting).force ≡ true)
unfolding step_computes
on_the_way = (refl, refl, refl)

-- ---- two neighbours that change places

abbrev first : Done
first = record { form = in_place; bytes = opens 1 5 1 2; answer = accept 1 7 (Kmh 15) }

abbrev second : Done
second = record { form = by_value; bytes = opens 2 9 3 1; answer = accept 1 7 Walking }

abbrev begins : Done
begins = record { form = by_value; bytes = begin; answer = accept 0 0 NoSpeed }

is_list : done fresh two ≡ begins ∷ first ∷ second ∷ []
unfolding step_computes
is_list = refl

first_accepted : AcceptedAt first A (acts.Open Clear 1 2)
unfolding reading_computes
first_accepted = record { time = 5; entry = refl; accepted = refl }

second_accepted : AcceptedAt second B (acts.Open Impaired 1 1)
unfolding reading_computes
second_accepted = record { time = 9; entry = refl; accepted = refl }

-- the list with the two in the other order ends in the same section
pub swapped_list : Run fresh (begins ∷ second ∷ first ∷ []) (after fresh two)
swapped_list =
    (demand3 (runs fresh two)).swap (begins ∷ []) first second [] A B (acts.Open Clear 1 2) (acts.Open Impaired 1 1) is_list first_accepted second_accepted
    (other_differs A) (λ r. true≢false (ap is_departure r.1))
