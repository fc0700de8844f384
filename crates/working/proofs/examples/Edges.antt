-- The edges of document 01, (a) to (l), as one table, and that every row holds, by computation.
-- A row has the section that the entry finds, which is what a list of entries left from fresh, the entry's bytes, the answer expected, and the section that the entry
-- leaves, every figure of it as document 01 has it.
-- (f) starts from a named well-made section, `worn`, whose station A has used form 9,998: its list from fresh has some twenty thousand entries, a THROUGH and its
-- receipt for each number, and is run by the second program's generator, not written out here.
-- Assumes nothing.
use Prim.Native.Nat.{suc, ℕ, ◌+◌}
use Rattle.std.specs.Prelude.{Err, None, Option, Some}
use Rattle.working.proofs.examples.Computing.{step_computes}
use Rattle.working.proofs.examples.Literals.{begin, counts, figures, meet, opens, plain, receive, resume, returns, same_section, through, train, vehicle, working}
use Rattle.working.specs.Answers.{Answer, accept}
use Rattle.working.specs.Document01.{decode01, step_of_01}
use Rattle.working.specs.Entries.{every}
use Rattle.working.specs.Sections.{fresh, fresh_desk, none_refused}
use Rattle.working.specs.Steps.{step_of}
use Rattle.working.specs.WellMade.{well_made}
use Rattle.working.specs.declared.Counts.{Counts}
use Rattle.working.specs.declared.Movement.TheVariants.{Open, Return, Through, Train}
use Rattle.working.specs.declared.Refusal.TheVariants.{BeforeClock, EndsInside, FormsUsed, GrantNotAllowed, IntervalRunning, MayNotEnter, NoGuest, NotNearest, OutOfRange}
use Rattle.working.specs.declared.Refusal.TheVariants.{TwelveSent, UnknownKind}
use Rattle.working.specs.declared.Refusal.{Refusal}
use Rattle.working.specs.declared.Section.{Section}
use Rattle.working.specs.declared.Speed.TheVariants.{Booked, Both, Kmh, Walking}
use Rattle.working.specs.declared.Speed.{Speed}
use Rattle.working.specs.declared.Station.TheVariants.{A, B}
use Rattle.working.specs.declared.Station.{Station}
use Rattle.working.specs.declared.Stepped.{Stepped}
use Rattle.working.specs.declared.Vehicle.{Vehicle}
use mathlib.Core.Bool.{cond, false, true}
use mathlib.Core.List.{List, [], ◌∷◌}
use mathlib.Core.Path.{refl, ◌≡◌}

pub record Edge : Type 0 where
  pub before : Section
  pub bytes : List ℕ
  pub expected : Answer
  pub leaves : Section

-- the section that a list of entries leaves
abbrev pub after : Section → List (List ℕ) → Section
after s [] = s
after s (bytes ∷ l) = after (step_of s bytes).section l

abbrev pub answers_by : (Section → List ℕ → Stepped Section) → List Edge → List Answer
answers_by step [] = []
answers_by step (r ∷ rows) = (step r.before r.bytes).answer ∷ answers_by step rows

abbrev pub answers_to : List Edge → List Answer
answers_to rows = answers_by step_of rows

abbrev pub expected_of : List Edge → List Answer
expected_of [] = []
expected_of (r ∷ rows) = r.expected ∷ expected_of rows

-- the rows, counted from n, that leave another section than the table has
abbrev pub leaving_another_by : (Section → List ℕ → Stepped Section) → ℕ → List Edge → List ℕ
leaving_another_by step n [] = []
leaving_another_by step n (r ∷ rows) =
    cond (same_section (step r.before r.bytes).section r.leaves) (leaving_another_by step (suc n) rows) (n ∷ leaving_another_by step (suc n) rows)

abbrev pub rows_leaving_another : ℕ → List Edge → List ℕ
rows_leaving_another n rows = leaving_another_by step_of n rows

-- ---- the sections that the rows start from

abbrev pub begun : Section
begun = after fresh (begin ∷ [])

-- A's opener, with two trains asked for, stands at B; then its return granting both is back at A, which holds two line clears
unfoldable pub guest : Section
guest = after begun (opens 1 10 1 2 ∷ receive 2 70 1 1 ∷ [])

unfoldable pub holding : Section
holding = after guest (returns 2 75 2 ∷ receive 1 95 2 1 ∷ [])

-- eleven THROUGHs from A, 30 minutes apart, none received
eleven : Section
eleven = after begun
    (through 1 0 0 ∷ through 1 0 30 ∷ through 1 0 60 ∷ through 1 0 90 ∷ through 1 0 120 ∷ through 1 0 150 ∷ through 1 0 180 ∷ through 1 0 210 ∷ through 1 0 240
    ∷ through 1 1 14 ∷ through 1 1 44 ∷ [])

-- in force, with A's last form number 9,998 and nothing else
pub worn : Section
worn = working none_refused [] (figures 0 9998 0 None false 0 0 0 0) fresh_desk

-- A1 and B1 opened and met towards B
pub met : Section
met = after begun (opens 1 1 1 1 ∷ opens 2 1 1 1 ∷ meet 2 1 1 ∷ [])

-- ---- the table

abbrev pub row : Section → List ℕ → Answer → Section → Edge
row before bytes expected leaves = record { before = before; bytes = bytes; expected = expected; leaves = leaves }

-- "A refusal adds 1 to the count and alters nothing else": to the one that it belongs to, where that is below its largest value
abbrev plus_one : Option Station → Counts → Counts
plus_one (Some A) c = counts (c.a + 1) c.b c.none
plus_one (Some B) c = counts c.a (c.b + 1) c.none
plus_one None c = counts c.a c.b (c.none + 1)

abbrev pub refused : Option Station → Section → List ℕ → Refusal → Edge
refused whose s bytes why =
    row s bytes (Err why) (record { vehicles = s.vehicles; len = s.len; force = s.force; refused = plus_one whose s.refused; a = s.a; b = s.b })

-- vehicles on the way, unmet: A's OPEN and THROUGH, A's TRAIN, and B's RETURN of a light engine
abbrev opener : ℕ → ℕ → Vehicle
opener asked form = vehicle (Open asked) 1 form 2 false 1

abbrev engine : ℕ → Vehicle
engine form = vehicle Through 1 form 2 false 1

abbrev following : ℕ → Vehicle
following form = vehicle (Train 0 0) 1 form 2 false 0

abbrev replying : ℕ → ℕ → Vehicle
replying granted form = vehicle (Return 0 granted) 2 form 1 false 1

-- desks in figures: clock, last, sent, interval, out, guest, asked, holds, owes; the speed is a follower's in view 1
pub edges : Speed → List Edge
edges follower =
    -- (a) no bytes: 1; map 0: 2
    refused None fresh [] EndsInside
    ∷ refused None fresh (0 ∷ []) UnknownKind
    -- (b) asked 8 accepted, 9 or a present 0: 4
    ∷ row begun (opens 1 0 1 8) (accept 1 7 (Kmh 15)) (working none_refused (opener 8 1 ∷ []) (figures 0 1 1 (Some 0) true 0 0 0 0) fresh_desk)
    ∷ refused None begun (opens 1 0 1 9) OutOfRange
    ∷ refused None begun (opens 1 0 1 0) OutOfRange
    -- (c) time equal to the clock accepted, one less: 9
    ∷ row (after begun (opens 1 10 1 1 ∷ [])) (receive 1 10 1 1) plain (working none_refused [] (figures 10 1 0 None false 0 0 0 0) fresh_desk)
    ∷ refused (Some A) (after begun (opens 1 10 1 1 ∷ [])) (receive 1 9 1 1) BeforeClock
    -- (d) follower at 29 minutes: 19, at 30 accepted
    ∷ refused (Some A) (after holding (train 1 96 ∷ [])) (train 1 125) IntervalRunning
    ∷ row (after holding (train 1 96 ∷ [])) (train 1 126) (accept 3 104 follower)
    (working none_refused (following 3 ∷ following 2 ∷ []) (figures 126 3 2 (Some 126) false 0 0 0 0) (figures 75 1 1 (Some 75) false 0 0 0 2))
    -- (e) twelfth THROUGH with no receipt accepted, thirteenth: 17
    ∷ row eleven (through 1 1 74) (accept 12 1 (Kmh 15))
    (working none_refused
    (engine 12 ∷ engine 11 ∷ engine 10 ∷ engine 9 ∷ engine 8 ∷ engine 7 ∷ engine 6 ∷ engine 5 ∷ engine 4 ∷ engine 3 ∷ engine 2 ∷ engine 1 ∷ [])
    (figures 330 12 12 (Some 330) false 0 0 0 0) fresh_desk)
    ∷ refused (Some A) (after eleven (through 1 1 74 ∷ [])) (through 1 1 104) TwelveSent
    -- (f) form 9,999 issued, next: 18
    ∷ row worn (through 1 0 0) (accept 9999 1 (Kmh 15)) (working none_refused (engine 9999 ∷ []) (figures 0 9999 1 (Some 0) false 0 0 0 0) fresh_desk)
    ∷ refused (Some A) (after worn (through 1 0 0 ∷ [])) (through 1 0 30) FormsUsed
    -- (g) granted equal to asked accepted, one more: 16
    ∷ row guest (returns 2 75 2) (accept 1 180 Booked)
    (working none_refused (replying 2 1 ∷ []) (figures 10 1 1 (Some 10) true 0 0 0 0) (figures 75 1 1 (Some 75) false 0 0 0 2))
    ∷ refused (Some B) guest (returns 2 75 3) GrantNotAllowed
    -- (h) A1 and B1 opened, met towards B: A receiving A1: 21; B receiving A1: 20; B receiving B1 accepted
    ∷ refused (Some A) met (receive 1 2 1 1) MayNotEnter
    ∷ refused (Some B) met (receive 2 2 1 1) NotNearest
    ∷ row met (receive 2 2 2 1) plain
    (working none_refused (vehicle (Open 1) 1 1 2 true 1 ∷ []) (figures 1 1 1 (Some 1) true 0 0 0 0) (figures 2 1 0 None false 0 0 0 0))
    -- (i) RESUME with nothing in the section accepted though a clear is owed
    ∷ row holding resume plain fresh
    -- (j) OPEN in view 3: walking pace
    ∷ row begun (opens 1 0 3 1) (accept 1 7 Walking) (working none_refused (opener 1 1 ∷ []) (figures 0 1 1 (Some 0) true 0 0 0 0) fresh_desk)
    -- (k) RETURN with no guest: 14
    ∷ refused (Some A) begun (returns 1 0 1) NoGuest
    -- (l) own opener taken back: OPEN in that minute accepted
    ∷ row (after begun (opens 1 10 1 1 ∷ receive 1 12 1 1 ∷ [])) (opens 1 12 1 1) (accept 2 7 (Kmh 15))
    (working none_refused (opener 1 2 ∷ []) (figures 12 2 1 (Some 12) true 0 0 0 0) fresh_desk)
    ∷ []

-- ---- every row holds: the answers, and the sections after them in every figure

pub edges_hold : answers_to (edges (Both 25 10)) ≡ expected_of (edges (Both 25 10))
unfolding edges eleven guest holding met step_computes worn
edges_hold = refl

pub edges_leave : rows_leaving_another 1 (edges (Both 25 10)) ≡ []
unfolding edges eleven guest holding met step_computes worn
edges_leave = refl

-- and document 01's own step, which stays as a definition, holds to its own edges
pub edges_hold_01 : let rows = edges (Kmh 25) in (answers_by step_of_01 rows ≡ expected_of rows) × (leaving_another_by step_of_01 1 rows ≡ [])
unfolding decode01 edges eleven guest holding met step_computes step_of_01 worn
edges_hold_01 = (refl, refl)

-- the sections that the rows find, in figures
pub edges_find :
    every
    (same_section begun (working none_refused [] fresh_desk fresh_desk)
    ∷ same_section guest (working none_refused [] (figures 10 1 1 (Some 10) true 0 0 0 0) (figures 70 0 0 None false 1 2 0 0))
    ∷ same_section holding (working none_refused [] (figures 95 1 0 None false 0 0 2 0) (figures 75 1 1 (Some 75) false 0 0 0 2))
    ∷ same_section met
    (working none_refused (vehicle (Open 1) 1 1 2 true 1 ∷ vehicle (Open 1) 2 1 2 true 1 ∷ []) (figures 1 1 1 (Some 1) true 0 0 0 0) (figures 1 1 1 (Some 1) true 0 0 0 0))
    ∷ [])
    ≡ true
unfolding guest holding met step_computes
edges_find = refl

-- the section of (f) is well made, and in that of (i) B owes two line clears
pub worn_made : well_made worn ≡ true
unfolding step_computes worn
worn_made = refl

pub owed_at_resume : (holding.b.clears.owes ≡ 2) × (holding.len ≡ 0)
unfolding guest holding step_computes
owed_at_resume = (refl, refl)
