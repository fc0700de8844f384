-- A reply sent ahead of the last train, T-02 on lists from fresh, for either station: it waits while the receiving station owes, and is held when the last train is in.
-- Document 01 refused it with 16; and of a list that document 01 accepts throughout every answer is as before.
-- Assumes nothing.
use Prim.Native.Nat.{ℕ, ◌+◌, ◌<◌}
use Rattle.std.specs.Prelude.{Err}
use Rattle.working.proofs.examples.Computing.{step_computes}
use Rattle.working.proofs.examples.Consequences.{Owed, following, holding, list, owed}
use Rattle.working.proofs.examples.Literals.{receive, train, train_granting}
use Rattle.working.proofs.laws.Lists.{after, done, runs}
use Rattle.working.proofs.theorems.AsBefore.{answered_as_before}
use Rattle.working.specs.Answers.{accept}
use Rattle.working.specs.Document01.{decode01, followers_two, step_of_01}
use Rattle.working.specs.Effects.{way_form}
use Rattle.working.specs.Runs.{accepts_by, end_by, results, results_by}
use Rattle.working.specs.Sections.{desk_of, fresh, number_at, other_at}
use Rattle.working.specs.Steps.{step_of}
use Rattle.working.specs.Terms.{LAST-TRAIN, kind_in, vehicle_at}
use Rattle.working.specs.declared.Refusal.TheVariants.{GrantNotAllowed}
use Rattle.working.specs.declared.Speed.TheVariants.{Booked}
use Rattle.working.specs.declared.Station.TheVariants.{A, B}
use Rattle.working.specs.declared.Station.{Station}
use mathlib.Core.Bool.{false, true}
use mathlib.Core.List.{List, [], ◌++◌, ◌∷◌}
use mathlib.Core.Path.{refl, ◌≡◌}

-- station x holds two line clears and is asked for three (Consequences). It sends the reply ahead, with the first of its two trains; the other receives that train while it
-- owes the second, and then the second
abbrev ahead : Station → List (List ℕ)
ahead x = holding x ++ train_granting (number_at x) 91 3 ∷ train (number_at x) 121 ∷ []

abbrev waiting : Station → List (List ℕ)
waiting x = ahead x ++ receive (number_at (other_at x)) 150 (number_at x) 2 ∷ []

abbrev all_in : Station → List (List ℕ)
all_in x = waiting x ++ receive (number_at (other_at x)) 160 (number_at x) 3 ∷ []

-- ---- it waits, and is held

-- sent ahead, the three are on the way; they wait at the other while it owes the second train; and it holds them when that one is in
sent_ahead : (x : Station)
    → Owed (ahead x) x 3 0 0 0 0 3
    × Owed (ahead x) (other_at x) 2 0 0 2 0 0
    × Owed (waiting x) x 3 0 3 0 0 0
    × Owed (waiting x) (other_at x) 1 0 0 1 0 0
    × Owed (all_in x) x 3 3 0 0 0 0
    × Owed (all_in x) (other_at x) 0 0 0 0 0 0
unfolding step_computes
sent_ahead A = (owed (ahead A) A refl, owed (ahead A) B refl, owed (waiting A) A refl, owed (waiting A) B refl, owed (all_in A) A refl, owed (all_in A) B refl)
sent_ahead B = (owed (ahead B) B refl, owed (ahead B) A refl, owed (waiting B) B refl, owed (waiting B) A refl, owed (all_in B) B refl, owed (all_in B) A refl)

-- ---- document 01 refused it

abbrev replying : Station → List ℕ
replying x = train_granting (number_at x) 91 3

refused-before : (x : Station)
    → ((step_of_01 (after fresh (list (holding x))) (replying x)).answer ≡ Err GrantNotAllowed)
    × (accepts_by step_of_01 fresh (done fresh (list (ahead x))) ≡ false)
unfolding decode01 step_computes step_of_01
refused-before A = (refl, refl)
refused-before B = (refl, refl)

accepted_throughout : (x : Station) → accepts_by step_of fresh (done fresh (list (all_in x))) ≡ true
unfolding step_computes
accepted_throughout A = refl
accepted_throughout B = refl

accepted_now : (x : Station) → (step_of (after fresh (list (holding x))) (replying x)).answer ≡ accept 2 (way_form x + 164) Booked
unfolding step_computes
accepted_now A = refl
accepted_now B = refl

-- ---- and a list that it accepts throughout, with a reply on the last train, is answered as before

-- the reply on the last of the two trains, and both are in
abbrev with_the_last : Station → List (List ℕ)
with_the_last x = following x ++ receive (number_at (other_at x)) 150 (number_at x) 2 ∷ receive (number_at (other_at x)) 160 (number_at x) 3 ∷ []

accepted-before : (x : Station) → accepts_by step_of_01 fresh (done fresh (list (with_the_last x))) ≡ true
unfolding decode01 step_computes step_of_01
accepted-before A = refl
accepted-before B = refl

-- every answer and every section, the section at the end, that nothing waits and that no vehicle left on kind 9, by the theorem
answered-before : (x : Station)
    → let l = list (with_the_last x) in
    (results (runs fresh l) ≡ results_by (followers_two step_of_01) fresh (done fresh l))
    × (after fresh l ≡ end_by step_of_01 fresh (done fresh l))
    × ((y : Station) → (desk_of (after fresh l) y).waiting ≡ 0)
    × ((i : ℕ) → i < (after fresh l).len → kind_in (vehicle_at (after fresh l) i).movement ≡ LAST-TRAIN → ⊥)
answered-before x =
    let l = list (with_the_last x) in
    let k = answered_as_before (done fresh l) (after fresh l) (runs fresh l) (accepted-before x) in
    (k.each, k.end, k.waiting, k.unendorsed)
