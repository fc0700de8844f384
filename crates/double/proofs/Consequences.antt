-- What each clause of the theorem about every list says of lists that are written out, drawn from the theorem; and what the counts of a log are. A clause gives first a fact of
-- every list, over figures that nothing computes, so that a weaker clause does not give it; then come lists in T-05's figures.
-- Assumes nothing.
use Prim.Native.Nat.{ℕ, ◌+◌, ◌≤◌}
use Rattle.double.proofs.Computing.{step_computes, turns_compute}
use Rattle.double.proofs.Counted.{logs_counted}
use Rattle.double.proofs.Examples.{answers, order, todo, train, twelve}
use Rattle.double.proofs.InOrder.{in_order}
use Rattle.double.proofs.Lists.{after, done, runs}
use Rattle.double.specs.Counts.{refused_in}
use Rattle.double.specs.InOrder.{departures, receipts}
use Rattle.double.specs.Runs.{Run, results}
use Rattle.double.specs.Sections.{emptied, fresh, fresh_side, line_of, side, side_of}
use Rattle.double.specs.Steps.{double}
use Rattle.double.specs.declared.Section.{Section}
use Rattle.std.specs.Prelude.{Err, None, Option, Some}
use Rattle.working.proofs.examples.Consequences.{handed}
use Rattle.working.proofs.examples.Literals.{begin, counts, plain, receive, resume}
use Rattle.working.proofs.laws.Lists.{Todo}
use Rattle.working.specs.Answers.{Answer, accept}
use Rattle.working.specs.Runs.{StepForm, by_value, in_place}
use Rattle.working.specs.Sections.{count_of, number_at, other_at, total}
use Rattle.working.specs.Turns.{accepted_in, answers_in, entries_in, section_after, turns_of}
use Rattle.working.specs.declared.Refusal.TheVariants.{AlreadyInForce, BeforeClock, EndsInside, IntervalRunning, NotInForce, NotNearest, UnknownKind, VehiclePresent}
use Rattle.working.specs.declared.Speed.TheVariants.{NoSpeed}
use Rattle.working.specs.declared.Station.TheVariants.{A, B}
use Rattle.working.specs.declared.Station.{Station}
use lib.Dec.{lit≤}
use lib.ListN.{length}
use mathlib.Core.Bool.{false, true}
use mathlib.Core.List.{List, [], ◌++◌, ◌∷◌}
use mathlib.Core.Path.{ap₂, refl, sym, ◌∙◌, ◌≡◌}

-- ---- each step has the answer and the section that T-05 fixes for it

-- no bytes, BEGIN, a TRAIN of A: whatever the forms, and whatever answers a run of these bytes is said to have
each_fixed : {f g h : StepForm} {a b c : Answer} {s : Section}
    (run : Run fresh (handed f [] a ∷ handed g begin b ∷ handed h (train 1 0 10) c ∷ []) s)
    → results run ≡ record { answer = Err EndsInside; section = emptied false (counts 0 0 1) }
    ∷ record { answer = plain; section = emptied true (counts 0 0 1) }
    ∷ record { answer = order 1; section = record { force = true; refused = counts 0 0 1; a = side 10 1 (Some 10) (1 ∷ []); b = fresh_side } }
    ∷ []
unfolding step_computes
each_fixed run = (in_order run).each

-- ---- what departed, what was received, and what is on the line

-- "receipts .. name": the number that the entry names, and for a departure of the station the number in its answer; of steps that no run has
named : (receipts A [] (handed by_value (receive 1 0 2 7) plain ∷ handed in_place (receive 1 0 1 8) plain ∷ handed by_value (receive 2 0 1 9) plain ∷ []) ≡ 7 ∷ 8 ∷ [])
    × (departures B [] (handed by_value (train 2 0 0) (accept 7 0 NoSpeed) ∷ handed in_place (train 1 0 0) (accept 8 0 NoSpeed) ∷ []) ≡ 7 ∷ [])
unfolding step_computes
named = (refl, refl)

-- of every list and either station x: what the other sent, what x received of it, and what is on the other's line
in_line : (l : List Todo) (x : Station) {sent got rest : List ℕ} → departures (other_at x) [] (done fresh l) ≡ sent → receipts x [] (done fresh l) ≡ got
    → line_of (side_of (after fresh l) (other_at x)) ≡ rest → sent ≡ got ++ rest
in_line l x sent got rest = sym sent ∙ (in_order (runs fresh l)).order x ∙ ap₂ ◌++◌ got rest

-- a list with these, and that the first are the second and then the third
abbrev InLine : List (List ℕ) → Station → List ℕ → List ℕ → List ℕ → Type 0
InLine l x sent got rest =
    (departures (other_at x) [] (done fresh (todo l)) ≡ sent) × (receipts x [] (done fresh (todo l)) ≡ got) × (line_of (side_of (after fresh (todo l)) (other_at x)) ≡ rest) × (sent ≡ got ++ rest)

lined : (l : List (List ℕ)) (x : Station) {sent got rest : List ℕ} → departures (other_at x) [] (done fresh (todo l)) ≡ sent → receipts x [] (done fresh (todo l)) ≡ got
    → line_of (side_of (after fresh (todo l)) (other_at x)) ≡ rest → InLine l x sent got rest
lined l x sent got rest = (sent, got, rest, in_line (todo l) x sent got rest)

-- the other sends three, x one; x receives the first two
abbrev between : Station → List (List ℕ)
between x =
    let own : ℕ = number_at x in
    let other : ℕ = number_at (other_at x) in
    begin
    ∷ train other 0 0
    ∷ train own 0 5
    ∷ train other 0 29  -- 19
    ∷ train other 0 30
    ∷ receive own 50 other 2  -- 20: the second before the first
    ∷ receive own 50 own 1  -- 20: its own number, which the other's first has too
    ∷ receive own 50 other 1
    ∷ receive own 50 other 1  -- 20: the first, again
    ∷ []  -- 1
    ∷ begin  -- 6: it empties nothing
    ∷ train other 0 60
    ∷ receive own 49 other 2  -- 9
    ∷ receive own 70 other 2
    ∷ []

between_answers : (x : Station) → answers fresh (between x) ≡
    plain ∷ order 1 ∷ order 1 ∷ Err IntervalRunning ∷ order 2 ∷ Err NotNearest ∷ Err NotNearest ∷ plain ∷ Err NotNearest ∷ Err EndsInside
    ∷ Err AlreadyInForce ∷ order 3 ∷ Err BeforeClock ∷ plain ∷ []
unfolding step_computes
between_answers A = refl
between_answers B = refl

between_in_line : (x : Station)
    → InLine (between x) x (1 ∷ 2 ∷ 3 ∷ []) (1 ∷ 2 ∷ []) (3 ∷ [])
    × InLine (between x) (other_at x) (1 ∷ []) [] (1 ∷ [])
unfolding step_computes
between_in_line A = (lined (between A) A refl refl refl, lined (between A) B refl refl refl)
between_in_line B = (lined (between B) B refl refl refl, lined (between B) A refl refl refl)

-- "since the last accepted BEGIN": the numbers begin anew behind it, and what departed and was received before it is not among those since
abbrev anew : Station → List (List ℕ)
anew x =
    let own : ℕ = number_at x in
    let other : ℕ = number_at (other_at x) in
    begin
    ∷ train other 0 0
    ∷ train other 0 30
    ∷ receive own 40 other 1
    ∷ resume  -- 8
    ∷ receive own 60 other 2
    ∷ resume
    ∷ (0x07 ∷ 9 ∷ 1 ∷ 0 ∷ 0 ∷ [])  -- 2
    ∷ begin
    ∷ train other 0 10
    ∷ receive own 20 other 2  -- 20: the second of those before
    ∷ train own 0 20
    ∷ receive other 30 own 1
    ∷ train other 0 40
    ∷ receive own 50 other 1
    ∷ []

anew_answers : (x : Station) → answers fresh (anew x) ≡
    plain ∷ order 1 ∷ order 2 ∷ plain ∷ Err VehiclePresent ∷ plain ∷ plain ∷ Err UnknownKind ∷ plain ∷ order 1 ∷ Err NotNearest ∷ order 1 ∷ plain ∷ order 2 ∷ plain ∷ []
unfolding step_computes
anew_answers A = refl
anew_answers B = refl

anew_in_line : (x : Station)
    → InLine (anew x) x (1 ∷ 2 ∷ []) (1 ∷ []) (2 ∷ [])
    × InLine (anew x) (other_at x) (1 ∷ []) (1 ∷ []) []
unfolding step_computes
anew_in_line A = (lined (anew A) A refl refl refl, lined (anew A) B refl refl refl)
anew_in_line B = (lined (anew B) B refl refl refl, lined (anew B) A refl refl refl)

-- the thirteen of A that departed are the one received and the twelve on the line
thirteen_in_line :
    InLine (twelve ++ receive 2 100 1 1 ∷ train 1 1 104 ∷ []) B
    (1 ∷ 2 ∷ 3 ∷ 4 ∷ 5 ∷ 6 ∷ 7 ∷ 8 ∷ 9 ∷ 10 ∷ 11 ∷ 12 ∷ 13 ∷ [])
    (1 ∷ [])
    (2 ∷ 3 ∷ 4 ∷ 5 ∷ 6 ∷ 7 ∷ 8 ∷ 9 ∷ 10 ∷ 11 ∷ 12 ∷ 13 ∷ [])
unfolding step_computes
thirteen_in_line = lined (twelve ++ receive 2 100 1 1 ∷ train 1 1 104 ∷ []) B refl refl refl

-- ---- the counts of a log

-- of every log of at most 4,294,967,295 bytes: its counts, and the turns refused that are theirs; entries, and those accepted
counted_as : (log : List ℕ) (whose : Option Station) {c r : ℕ} → length log ≤ 4294967295 → count_of (section_after fresh (turns_of double fresh log)).refused whose ≡ c
    → refused_in whose (turns_of double fresh log) ≡ r → c ≡ r
counted_as log whose short c r = sym c ∙ (logs_counted log short).each whose ∙ r

summed : (log : List ℕ) {entries accepted all : ℕ} → length log ≤ 4294967295 → entries_in (turns_of double fresh log) ≡ entries → accepted_in (turns_of double fresh log) ≡ accepted
    → total (section_after fresh (turns_of double fresh log)).refused ≡ all → entries ≡ accepted + all
summed log short entries accepted all = sym entries ∙ (logs_counted log short).sum ∙ ap₂ ◌+◌ accepted all

-- one refused for A, two for B, three of no station, one of them cut, though its bytes have B's number
abbrev pub refusals : List ℕ
refusals = train 1 0 0 ++ begin ++ begin ++ receive 2 0 1 1 ++ train 2 0 10 ++ train 2 0 20 ++ resume ++ 0x07 ∷ 5 ∷ 2 ∷ []

refusals_answers : answers_in (turns_of double fresh refusals) ≡
    Err NotInForce ∷ plain ∷ Err AlreadyInForce ∷ Err NotNearest ∷ order 1 ∷ Err IntervalRunning ∷ Err VehiclePresent ∷ Err EndsInside ∷ []
unfolding turns_compute
refusals_answers = refl

refusals_counted : (refused_in (Some A) (turns_of double fresh refusals) ≡ 1) × (refused_in (Some B) (turns_of double fresh refusals) ≡ 2)
    × (refused_in None (turns_of double fresh refusals) ≡ 3) × ((section_after fresh (turns_of double fresh refusals)).refused ≡ counts 1 2 3)
unfolding turns_compute
refusals_counted = (refl, refl, refl, refl)

-- and by the theorem, which gives the three from the section's counts, and eight entries from two accepted
refusals_told : (1 ≡ refused_in (Some A) (turns_of double fresh refusals)) × (2 ≡ refused_in (Some B) (turns_of double fresh refusals))
    × (3 ≡ refused_in None (turns_of double fresh refusals)) × (entries_in (turns_of double fresh refusals) ≡ 2 + 6)
unfolding turns_compute
refusals_told =
    let short : length refusals ≤ 4294967295 = lit≤ tt in
    (counted_as refusals (Some A) short refl refl, counted_as refusals (Some B) short refl refl, counted_as refusals None short refl refl, summed refusals short refl refl refl)
