-- What is shown beside demand 3 of lists and of logs, drawn from the theorems, on any list, section or log: that no step reads 5, and what a train in the section says of line clears;
-- that a step reads its first entry alone; and that a log is the list of its own entries.
-- Assumes nothing.
use Prim.Native.Nat.{ℕ, ◌+◌, ◌<◌}
use Rattle.std.specs.Prelude.{Err}
use Rattle.working.proofs.examples.Computing.{step_computes}
use Rattle.working.proofs.examples.Consequences.{handed}
use Rattle.working.proofs.examples.Literals.{begin, opens}
use Rattle.working.proofs.theorems.Corollaries.{last_train_owed, never_five, owing_above_asked, train_owed}
use Rattle.working.proofs.theorems.FirstEntry.{answer_alone, first_alone}
use Rattle.working.proofs.theorems.OwnBytes.{joined, own-demand3, own-results, own_as_with_11, own_join}
use Rattle.working.specs.Guests.{step_with_11}
use Rattle.working.specs.Runs.{Done, Run, StepForm, end_by, results_of, steps_of}
use Rattle.working.specs.Sections.{desk_of, fresh, nearest_at, number_at, other_at, vehicles_of}
use Rattle.working.specs.Steps.{step_of}
use Rattle.working.specs.Terms.{given_up_by, is_train, kind_in, on_the_way_to, trains_of}
use Rattle.working.specs.Turns.{is_accepted, run_of, section_after, single, turns_of}
use Rattle.working.specs.WellMade.{is_from}
use Rattle.working.specs.declared.Movement.TheVariants.{LastTrain}
use Rattle.working.specs.declared.Refusal.TheVariants.{IllMade}
use Rattle.working.specs.declared.Section.{Section}
use Rattle.working.specs.declared.Station.{Station}
use lib.ListN.{length}
use mathlib.Core.Bool.{false≢true, true}
use mathlib.Core.List.{List, [], ◌++◌, ◌∷◌}
use mathlib.Core.Path.{ap, refl, sym, ◌∙◌, ◌≡◌}
use native.Mathlib.Omega.{arith}

-- ---- of a list from fresh

-- no step of it reads 5, in whatever form and wherever it stands
none_reads_5 : {s : Section} (before : List Done) (f : StepForm) (bytes : List ℕ) (behind : List Done) → Run fresh (before ++ handed f bytes (Err IllMade) ∷ behind) s → ⊥
none_reads_5 before f bytes behind run = false≢true (never_five run before (handed f bytes (Err IllMade)) behind refl)

module _ {l : List Done} {s : Section} (run : Run fresh l s) (x : Station) where
  -- a station that owes nothing has no train of the other nearest
  none_owed : 0 < length (vehicles_of s) → is_from (number_at (other_at x)) (nearest_at x (vehicles_of s)) ≡ true → is_train (kind_in (nearest_at x (vehicles_of s)).movement) ≡ true
      → (desk_of s x).clears.owes ≡ 0 → ⊥
  none_owed there from train none = omega (arith, train_owed run x there from train)

  -- where the nearest is the other's LAST TRAIN that gives up two, the station owes three
  three_owed : (asked granted : ℕ) → 0 < length (vehicles_of s) → is_from (number_at (other_at x)) (nearest_at x (vehicles_of s)) ≡ true
      → (nearest_at x (vehicles_of s)).movement ≡ LastTrain asked granted 2 → (desk_of s x).clears.owes ≡ 3
  three_owed asked granted there from last = rw last at (last_train_owed run x there from (rw last))

  -- a station that holds and owes may not grant what is asked: it is above what is asked, be it one
  not_granted : 0 < (desk_of s x).clears.holds → 0 < (desk_of s x).clears.owes → (desk_of s x).clears.asked ≡ 0
  not_granted holds owes = omega (arith, owing_above_asked run x 1 holds owes (omega arith))

-- ---- a step reads its first entry alone

-- whatever the section, and whatever stands behind: a BEGIN, an OPEN; and whatever bytes are accepted, and on a fresh section a map of 0, which is no entry
first_read : (s : Section) (rest : List ℕ) → (step_of s (begin ++ rest) ≡ step_of s (begin ++ 0x3F ∷ [])) × (step_of s (opens 1 10 1 2 ++ rest) ≡ step_of s (opens 1 10 1 2))
unfolding step_computes
first_read s rest = (first_alone s (begin ++ 0x3F ∷ []) rest 2 refl, first_alone s (opens 1 10 1 2) rest 8 refl)

accepted_alone : (s : Section) (bytes rest : List ℕ) → is_accepted (step_of s bytes).answer ≡ true → step_of s (bytes ++ rest) ≡ step_of s bytes
accepted_alone s bytes rest accepted = answer_alone s bytes rest (λ ends. false≢true (rw ends at accepted))

no_entry_alone : (rest : List ℕ) → step_of fresh (0 ∷ rest) ≡ step_of fresh (0 ∷ [])
unfolding step_computes
no_entry_alone rest = answer_alone fresh (0 ∷ []) rest (λ ends. let z : ◌≡◌ {A = ℕ} 0 1 = cc in omega arith)

-- ---- a log is the list of its own entries

module _ (f : StepForm) (log : List ℕ) where
  abbrev ended : Section
  ended = section_after fresh (turns_of single fresh log)

  -- logs that are the same list are the same log
  same_log : (s : Section) (other : List ℕ) → steps_of f s log ≡ steps_of f s other → log ≡ other
  same_log s other same = sym (own_join f s log) ∙ ap joined same ∙ own_join f s other

  -- its answers and sections are those of the list
  same-results : run_of fresh log ≡ results_of fresh (steps_of f fresh log)
  same-results = sym (own-results f fresh log) ∙ (own-demand3 f log).each

  -- line clears owed by each station, at its end
  owed_at_its_end : ended.force ≡ true → (x : Station)
      → (desk_of ended x).clears.owes
      ≡ (desk_of ended (other_at x)).clears.holds + (desk_of ended (other_at x)).waiting + trains_of (steps_of f fresh log) ended (other_at x)
      + given_up_by ended (other_at x) + on_the_way_to ended (other_at x)
  owed_at_its_end = (own-demand3 f log).owed

  -- it ends as before T-08
  ends_as_with_11 : ended ≡ end_by step_with_11 fresh (steps_of f fresh log)
  ends_as_with_11 = (own_as_with_11 f log).end
