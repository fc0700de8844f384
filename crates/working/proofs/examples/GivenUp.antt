-- Line clears given up, T-03 on lists from fresh: a LAST TRAIN carries those that its station held and has no trains for, and they stand in the sum until it is in; then
-- the receiving station owes none, and holds what waited there or what the LAST TRAIN grants. Document 01 refused it with 2. For either station but where A is named.
-- Assumes nothing.
use Prim.Native.Nat.{ℕ, ◌+◌}
use Rattle.std.specs.Prelude.{Err, None, Some}
use Rattle.working.proofs.examples.Computing.{step_computes}
use Rattle.working.proofs.examples.Consequences.{Left, Owed, departure, handed, left, list, owed}
use Rattle.working.proofs.examples.Literals.{figures, last_train, opens_as, plain, receive, returns, returns_asking, same_section, vehicle, working}
use Rattle.working.proofs.laws.Lists.{after, done, runs}
use Rattle.working.proofs.laws.Vehicles.{other_differs}
use Rattle.working.proofs.theorems.Demand3.{demand3}
use Rattle.working.specs.Acts as acts
use Rattle.working.specs.Answers.{accept}
use Rattle.working.specs.Document01.{decode01, step_of_01}
use Rattle.working.specs.Effects.{way_form}
use Rattle.working.specs.Entries.{every}
use Rattle.working.specs.Runs.{Done, Run, accepts_by, by_value, in_place}
use Rattle.working.specs.Sections.{fresh, none_refused, number_at, other_at, with_waiting}
use Rattle.working.specs.Steps.{step_of}
use Rattle.working.specs.Terms.{LAST-TRAIN}
use Rattle.working.specs.declared.Movement.TheVariants.{LastTrain}
use Rattle.working.specs.declared.Refusal.TheVariants.{UnknownKind}
use Rattle.working.specs.declared.Speed.TheVariants.{Booked, Both}
use Rattle.working.specs.declared.Station.TheVariants.{A, B}
use Rattle.working.specs.declared.Station.{Station}
use Rattle.working.specs.declared.View.TheVariants.{Clear}
use mathlib.Core.Bool.{false, false≢true, true}
use mathlib.Core.List.{List, [], ◌++◌, ◌∷◌}
use mathlib.Core.Path.{refl, ◌≡◌}
use native.Mathlib.Omega.{arith}

-- ---- in the sum

-- station x asks for four and is granted three; it sends a LAST TRAIN, which asks for seven
abbrev three_held : Station → List (List ℕ)
three_held x =
    opens_as (number_at x) 0 2 5 4
    ∷ receive (number_at (other_at x)) 1 (number_at x) 1
    ∷ returns (number_at (other_at x)) 2 3
    ∷ receive (number_at x) 1 (number_at (other_at x)) 1
    ∷ []

abbrev last_entry : Station → List ℕ
last_entry x = 0x2F ∷ 9 ∷ number_at x ∷ 0 ∷ 1 ∷ 3 ∷ 7 ∷ []

abbrev last_sent : Station → List (List ℕ)
last_sent x = three_held x ++ last_entry x ∷ []

-- the train is in
abbrev last_taken : Station → List (List ℕ)
last_taken x = last_sent x ++ receive (number_at (other_at x)) 3 (number_at x) 2 ∷ []

-- the other owes three: held, then the train and the two that it gives up, then none
in_the_sum : (x : Station)
    → Owed (three_held x) (other_at x) 3 3 0 0 0 0
    × Owed (last_sent x) (other_at x) 3 0 0 1 2 0
    × Owed (last_sent x) x 0 0 0 0 0 0
    × Owed (last_taken x) (other_at x) 0 0 0 0 0 0
unfolding step_computes
in_the_sum A = (owed (three_held A) B refl, owed (last_sent A) B refl, owed (last_sent A) A refl, owed (last_taken A) B refl)
in_the_sum B = (owed (three_held B) A refl, owed (last_sent B) A refl, owed (last_sent B) B refl, owed (last_taken B) A refl)

-- its record, and its departure in the list
its_departure : (x : Station) → Left (last_sent x) 0 (LastTrain 7 0 2) (departure x LAST-TRAIN 2 (way_form x + 162) Booked)
unfolding step_computes
its_departure A = left (last_sent A) 0 1 refl (omega arith) refl refl
its_departure B = left (last_sent B) 0 1 refl (omega arith) refl refl

-- ---- released

-- station x is granted seven and asked for one; its first train grants the one, and asks for five; the other receives it; then x sends a LAST TRAIN
abbrev replying : Station → List (List ℕ)
replying x =
    opens_as (number_at x) 3 1 2 7
    ∷ receive (number_at (other_at x)) 1 (number_at x) 1
    ∷ returns_asking (number_at (other_at x)) 1 1 7
    ∷ receive (number_at x) 3 (number_at (other_at x)) 1
    ∷ (0x6F ∷ 5 ∷ number_at x ∷ 0 ∷ 3 ∷ 1 ∷ 5 ∷ 1 ∷ [])
    ∷ []

abbrev one_waits : Station → List (List ℕ)
one_waits x = replying x ++ receive (number_at (other_at x)) 3 (number_at x) 2 ∷ []

abbrev last_behind : Station → List (List ℕ)
last_behind x = one_waits x ++ last_train (number_at x) 33 ∷ []

abbrev last_in : Station → List (List ℕ)
last_in x = last_behind x ++ receive (number_at (other_at x)) 6 (number_at x) 3 ∷ []

-- the other owes six, and one waits there; of the six one is the LAST TRAIN and five are given up; when it is in, the other owes none and holds the one
released_by_the_last : (x : Station)
    → Owed (one_waits x) (other_at x) 6 6 0 0 0 0
    × Owed (one_waits x) x 1 0 1 0 0 0
    × Owed (last_behind x) (other_at x) 6 0 0 1 5 0
    × Owed (last_behind x) x 1 0 1 0 0 0
    × Owed (last_in x) (other_at x) 0 0 0 0 0 0
    × Owed (last_in x) x 1 1 0 0 0 0
unfolding step_computes
released_by_the_last A =
    (owed (one_waits A) B refl, owed (one_waits A) A refl, owed (last_behind A) B refl, owed (last_behind A) A refl, owed (last_in A) B refl, owed (last_in A) A refl)
released_by_the_last B =
    (owed (one_waits B) A refl, owed (one_waits B) B refl, owed (last_behind B) A refl, owed (last_behind B) B refl, owed (last_in B) A refl, owed (last_in B) B refl)

-- its own grant is held at once: granted three and asked for one, x sends a LAST TRAIN that grants the one
abbrev last_replies : Station → List (List ℕ)
last_replies x =
    opens_as (number_at x) 0 1 1 3
    ∷ receive (number_at (other_at x)) 1 (number_at x) 1
    ∷ returns_asking (number_at (other_at x)) 2 1 3
    ∷ receive (number_at x) 1 (number_at (other_at x)) 1
    ∷ (0x4F ∷ 9 ∷ number_at x ∷ 0 ∷ 2 ∷ 1 ∷ 1 ∷ [])
    ∷ []

abbrev reply_held : Station → List (List ℕ)
reply_held x = last_replies x ++ receive (number_at (other_at x)) 3 (number_at x) 2 ∷ []

held_at_once : (x : Station)
    → Owed (last_replies x) (other_at x) 3 0 0 1 2 0
    × Owed (last_replies x) x 1 0 0 0 0 1
    × Owed (reply_held x) (other_at x) 0 0 0 0 0 0
    × Owed (reply_held x) x 1 1 0 0 0 0
unfolding step_computes
held_at_once A = (owed (last_replies A) B refl, owed (last_replies A) A refl, owed (reply_held A) B refl, owed (reply_held A) A refl)
held_at_once B = (owed (last_replies B) A refl, owed (last_replies B) B refl, owed (reply_held B) A refl, owed (reply_held B) B refl)

-- the sections behind A's LAST TRAIN, on the line and in, in every figure
in_figures :
    every
    (same_section (after fresh (list (last_behind A)))
    (working none_refused (vehicle (LastTrain 0 0 5) 1 3 2 false 0 ∷ []) (figures 33 3 2 (Some 33) false 0 0 0 1) (with_waiting 1 (figures 3 1 0 None false 0 5 0 6)))
    ∷ same_section (after fresh (list (last_in A))) (working none_refused [] (figures 33 3 2 (Some 33) false 0 0 0 1) (figures 6 1 0 None false 0 5 1 0))
    ∷ [])
    ≡ true
unfolding step_computes
in_figures = refl

-- ---- it changes places with its neighbour

-- B receives A's first train, and A sends its LAST TRAIN: in the other order every answer is the same, and the section at the end
abbrev first_in : Done
first_in = handed by_value (receive 2 3 1 2) plain

abbrev last_out : Done
last_out = handed in_place (last_train 1 33) (accept 3 104 (Both 25 10))

abbrev last_arrives : Done
last_arrives = handed by_value (receive 2 6 1 3) plain

exchanged : Run fresh (done fresh (list (replying A)) ++ last_out ∷ first_in ∷ last_arrives ∷ []) (after fresh (list (last_in A)))
unfolding step_computes
exchanged =
    (demand3 (runs fresh (list (last_in A)))).swap (done fresh (list (replying A))) first_in last_out (last_arrives ∷ []) B A (acts.Receive A 2) (acts.Train true Clear 0 0) refl
    (record { time = 3; entry = refl; accepted = refl })
    (record { time = 33; entry = refl; accepted = refl })
    (other_differs B) (λ r. false≢true r.0)

-- ---- none of these is refused, and document 01 refused a list with one

accepted_throughout : (x : Station) → (accepts_by step_of fresh (done fresh (list (last_taken x))) ≡ true) × (accepts_by step_of fresh (done fresh (list (last_in x))) ≡ true)
unfolding step_computes
accepted_throughout A = (refl, refl)
accepted_throughout B = (refl, refl)

refused-before : (x : Station)
    → ((step_of_01 (after fresh (list (three_held x))) (last_entry x)).answer ≡ Err UnknownKind)
    × (accepts_by step_of_01 fresh (done fresh (list (last_sent x))) ≡ false)
unfolding decode01 step_computes step_of_01
refused-before A = (refl, refl)
refused-before B = (refl, refl)
