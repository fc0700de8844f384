-- Demand 3, one statement about every list of steps from a fresh section; proofs/theorems/Demand3 proves it of every run. In plain words, clause by clause, beside document
-- 01: docs/THEOREM.md. Its terms are document 01's, and stand in that order in Terms; a list of steps, and its run, in Runs; the step, in Steps.
use Rattle.std.specs.Prelude.{List, Some, true, ℕ, ◌++◌, ◌+◌, ◌<◌, ◌∷◌, ◌≡◌}
use Rattle.working.specs.Acts.{Act}
use Rattle.working.specs.Runs.{Done, Run, results, results_of}
use Rattle.working.specs.Sections.{desk_of, fresh, number_at, other_at}
use Rattle.working.specs.Terms.{AcceptedAt, Departure, ReceivesIt, departure_of, given_up_by, kind_in, left_slowly, on_the_way_to, trains_of, vehicle_at}
use Rattle.working.specs.declared.Section.{Section}
use Rattle.working.specs.declared.Station.TheVariants.{A, B}
use Rattle.working.specs.declared.Station.{Station}

pub record Demand3 {l : List Done} {s : Section} (run : Run fresh l s) : Type 0 where
  -- each step, accepted or refused, has the answer and the section that the definitions fix for it
  pub each : results run ≡ results_of fresh l
  -- every vehicle present has its departure in the list, of the kind that its record says
  pub departed : (i : ℕ) → i < s.len → (p : Departure) × (departure_of l (vehicle_at s i) ≡ Some p) × (p.kind ≡ kind_in (vehicle_at s i).movement)
  -- any two vehicles heading towards one another both left on T/B 602 at 15 km/h or less
  pub opposed : (i j : ℕ) → i < j → j < s.len → (vehicle_at s i).heading ≡ number_at B → (vehicle_at s j).heading ≡ number_at A
      → (left_slowly (departure_of l (vehicle_at s i)) ≡ true) × (left_slowly (departure_of l (vehicle_at s j)) ≡ true)
  -- line clears owed by each station = those the other holds + those waiting at the other + the other's trains in the section + the line clears given up that these
  -- carry + line clears on the way to the other; T-02: "the sum of clears owed counts those waiting as well", T-03: those given up "are added beside the train"
  pub owed : s.force ≡ true → (x : Station)
      → (desk_of s x).clears.owes
      ≡ (desk_of s (other_at x)).clears.holds + (desk_of s (other_at x)).waiting + trains_of l s (other_at x) + given_up_by s (other_at x) + on_the_way_to s (other_at x)
  -- two neighbours change places: every entry has the same answer, and the section is the same in every figure
  pub swap : (before : List Done) (d e : Done) (after : List Done) (x y : Station) (first second : Act) → l ≡ before ++ d ∷ e ∷ after
      → AcceptedAt d x first → AcceptedAt e y second → (x ≡ y → ⊥) → (ReceivesIt first x d.answer second → ⊥)
      → Run fresh (before ++ e ∷ d ∷ after) s
