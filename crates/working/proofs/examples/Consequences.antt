-- What each clause of demand 3 says of lists that are written out, drawn from the theorem. A clause gives first a fact of every list, over figures that nothing
-- computes, so that a weaker clause does not give it; then come lists with document 01's figures in numbers.
-- Assumes nothing.
use Prim.Native.Nat.{ℕ, ◌%◌, ◌+◌, ◌<◌}
use Rattle.std.specs.Prelude.{Err, None, Option, Some}
use Rattle.working.proofs.examples.Computing.{step_computes}
use Rattle.working.proofs.examples.Literals.{begin, counts, figures, opens, plain, receive, resume, returns, returns_asking, same_section, through, train, train_granting, vehicle, working}
use Rattle.working.proofs.laws.Lists.{Todo, after, done, runs}
use Rattle.working.proofs.laws.Tests.{both}
use Rattle.working.proofs.laws.Vehicles.{other_differs}
use Rattle.working.proofs.theorems.Demand3.{demand3}
use Rattle.working.specs.Acts as acts
use Rattle.working.specs.Answers.{Answer, accept}
use Rattle.working.specs.Effects.{is_slow}
use Rattle.working.specs.Entries.{every}
use Rattle.working.specs.Runs.{Done, Run, StepForm, by_value, in_place, results}
use Rattle.working.specs.Sections.{desk_of, emptied, fresh, fresh_desk, none_refused, number_at, other_at}
use Rattle.working.specs.Terms.{AcceptedAt, Departure, Kind, OPEN, RETURN, ReceivesIt, THROUGH, TRAIN, departure_of, given_up_by, is_departure, kind_in, left_slowly, on_the_way_to}
use Rattle.working.specs.Terms.{trains_of, vehicle_at}
use Rattle.working.specs.declared.Movement.TheVariants.{Open, Return, Through, Train}
use Rattle.working.specs.declared.Movement.{Movement}
use Rattle.working.specs.declared.Refusal.TheVariants.{AlreadyInForce, EndsInside, NoGuest, UnknownKind}
use Rattle.working.specs.declared.Section.{Section}
use Rattle.working.specs.declared.Speed.TheVariants.{Booked, Both, Kmh, NoSpeed, Walking}
use Rattle.working.specs.declared.Speed.{Speed}
use Rattle.working.specs.declared.Station.TheVariants.{A, B}
use Rattle.working.specs.declared.Station.{Station}
use Rattle.working.specs.declared.Vehicle.{Vehicle}
use Rattle.working.specs.declared.View.TheVariants.{Clear, Impaired}
use borrow.Author.Tests.{eqb-true}
use lib.Dec.{eqb}
use mathlib.Core.Bool.{Bool, false, false≢true, true, true≢false, ◌||◌}
use mathlib.Core.List.{List, [], ◌++◌, ◌∷◌}
use mathlib.Core.Path.{ap, refl, sym, ◌∙◌, ◌≡◌}
use native.Mathlib.Omega.{arith}

-- ---- lists

-- bytes handed over, by value and in the owner's memory in turn
abbrev alternately : StepForm → List (List ℕ) → List Todo
alternately f [] = []
alternately by_value (bytes ∷ l) = record { form = by_value; bytes = bytes } ∷ alternately in_place l
alternately in_place (bytes ∷ l) = record { form = in_place; bytes = bytes } ∷ alternately by_value l

abbrev pub list : List (List ℕ) → List Todo
list l = alternately by_value (begin ∷ l)

abbrev pub handed : StepForm → List ℕ → Answer → Done
handed form bytes answer = record { form = form; bytes = bytes; answer = answer }

-- the vehicle at a place after a list, and its departure in that list
abbrev there : List Todo → ℕ → Vehicle
there l i = vehicle_at (after fresh l) i

abbrev left_by : List Todo → ℕ → Option Departure
left_by l i = departure_of (done fresh l) (there l i)

abbrev pub departure : Station → Kind → ℕ → ℕ → Speed → Departure
departure station kind number forms speed = record { station = station; kind = kind; number = number; forms = forms; speed = speed }

-- station x opens, asking for two trains. The other's RETURN asks for three and grants the two. x receives it, and sends both trains, the second granting the three.
abbrev granting : Station → List (List ℕ)
granting x = opens (number_at x) 0 1 2 ∷ receive (number_at (other_at x)) 60 (number_at x) 1 ∷ returns_asking (number_at (other_at x)) 61 3 2 ∷ []

abbrev pub holding : Station → List (List ℕ)
holding x = granting x ++ receive (number_at x) 90 (number_at (other_at x)) 1 ∷ []

abbrev running : Station → List (List ℕ)
running x = holding x ++ train (number_at x) 91 ∷ []

abbrev pub following : Station → List (List ℕ)
following x = running x ++ train_granting (number_at x) 121 3 ∷ []

-- ---- each step has the answer and the section that document 01 fixes for it

-- no bytes, BEGIN, an OPEN: whatever the forms, and whatever answers a run of these bytes is said to have
each_fixed : {f g h : StepForm} {a b c : Answer} {s : Section}
    (run : Run fresh (handed f [] a ∷ handed g begin b ∷ handed h (opens 1 10 1 2) c ∷ []) s)
    → results run ≡ record { answer = Err EndsInside; section = emptied false (counts 0 0 1) }
    ∷ record { answer = plain; section = emptied true (counts 0 0 1) }
    ∷ record { answer = accept 1 7 (Kmh 15); section = working (counts 0 0 1) (vehicle (Open 2) 1 1 2 false 1 ∷ []) (figures 10 1 1 (Some 10) true 0 0 0 0) fresh_desk }
    ∷ []
unfolding step_computes
each_fixed run = (demand3 run).each

-- ---- every vehicle present has its departure in the list, of the kind that its record says

no_vehicle_unknown : (l : List Todo) (i : ℕ) → i < (after fresh l).len → left_by l i ≡ None → ⊥
no_vehicle_unknown l i present unknown = let d = (demand3 (runs fresh l)).departed i present in let z : ◌≡◌ {A = ℕ} 0 1 = cc d.1 in omega arith

kind_of_record : (l : List Todo) (i : ℕ) {p : Departure} → i < (after fresh l).len → left_by l i ≡ Some p → p.kind ≡ kind_in (there l i).movement
kind_of_record l i present left = let d = (demand3 (runs fresh l)).departed i present in cc (d.1, d.2)

-- a vehicle's record, its departure, and that the two are of one kind
abbrev pub Left : List (List ℕ) → ℕ → Movement → Departure → Type 0
Left l i movement p = ((there (list l) i).movement ≡ movement) × (left_by (list l) i ≡ Some p) × (p.kind ≡ kind_in movement)

pub left : (l : List (List ℕ)) (i n : ℕ) {movement : Movement} {p : Departure}
    → (after fresh (list l)).len ≡ n → i < n → (there (list l) i).movement ≡ movement → left_by (list l) i ≡ Some p → Left l i movement p
left l i n many less record_is left_is = let k = kind_of_record (list l) i (omega arith) left_is in (record_is, left_is, cc)

-- an OPEN and a THROUGH; a RETURN that asks for 3 and grants 2; a TRAIN booked, behind it one at 25 km/h that grants 3
each-kind : Left (opens 1 10 1 2 ∷ []) 0 (Open 2) (departure A OPEN 1 7 (Kmh 15))
    × Left (through 2 0 10 ∷ []) 0 Through (departure B THROUGH 1 1 (Kmh 15))
    × Left (granting A) 0 (Return 3 2) (departure B RETURN 1 182 Booked)
    × Left (following A) 1 (Train 0 0) (departure A TRAIN 2 168 Booked)
    × Left (following A) 0 (Train 0 3) (departure A TRAIN 3 108 (Both 25 10))
unfolding step_computes
each-kind = (
  left (opens 1 10 1 2 ∷ []) 0 1 refl (omega arith) refl refl,
  left (through 2 0 10 ∷ []) 0 1 refl (omega arith) refl refl,
  left (granting A) 0 1 refl (omega arith) refl refl,
  left (following A) 1 2 refl (omega arith) refl refl,
  left (following A) 0 2 refl (omega arith) refl refl,
)

-- "the last accepted departure of the list": form number 1 of A is an OPEN taken back, then, behind RESUME and BEGIN, a THROUGH
abbrev twice : List (List ℕ)
twice = opens 1 10 1 2 ∷ receive 1 11 1 1 ∷ resume ∷ begin ∷ through 1 0 5 ∷ []

last_departure : Left twice 0 Through (departure A THROUGH 1 1 (Kmh 15))
unfolding step_computes
last_departure = left twice 0 1 refl (omega arith) refl refl

-- ---- any two vehicles heading towards one another both left on T/B 602 at 15 km/h or less

-- "forms contain T/B 602 and .. speed is 15, 10 or walking pace": 25 km/h is not slow, nor the booked speed, nor two figures, though both
-- be 10, and no forms without the 1 of T/B 602 count
slowly : List (Option Departure) → List Bool
slowly [] = []
slowly (p ∷ l) = left_slowly p ∷ slowly l

slow_bounds :
    slowly
    (Some (departure A OPEN 1 7 (Kmh 15))
    ∷ Some (departure B OPEN 1 7 (Kmh 10))
    ∷ Some (departure A OPEN 1 7 Walking)
    ∷ Some (departure B THROUGH 1 1 (Kmh 15))
    ∷ Some (departure A THROUGH 1 1 (Kmh 25))
    ∷ Some (departure A THROUGH 1 1 Booked)
    ∷ Some (departure A THROUGH 1 1 NoSpeed)
    ∷ Some (departure A THROUGH 1 1 (Both 10 10))
    ∷ Some (departure B OPEN 1 7 (Both 15 10))
    ∷ Some (departure A TRAIN 2 104 (Both 10 10))
    ∷ Some (departure A TRAIN 1 104 (Kmh 10))
    ∷ Some (departure A OPEN 1 6 (Kmh 15))
    ∷ None
    ∷ [])
    ≡ true ∷ true ∷ true ∷ true ∷ false ∷ false ∷ false ∷ false ∷ false ∷ false ∷ false ∷ false ∷ false ∷ []
unfolding slowly
slow_bounds = refl

data Slow : Speed → Type 0 where
  at_15 : Slow (Kmh 15)
  at_10 : Slow (Kmh 10)
  walking : Slow Walking

slow : (v : Speed) → is_slow v ≡ true → Slow v
slow NoSpeed e = absurd (false≢true e)
slow Walking e = walking
slow (Kmh k) e = by (eqb k 15) refl e
  where
    by : (b : Bool) → eqb k 15 ≡ b → (b || eqb k 10) ≡ true → Slow (Kmh k)
    by true is e = rw (eqb-true k 15 is) at_15
    by false is e = rw (eqb-true k 10 e) at_10
slow Booked e = absurd (false≢true e)
slow (Both straight elsewhere) e = absurd (false≢true e)

-- on T/B 602, the 1 of the sum, at one of the three speeds
abbrev OnTB602 : Departure → Type 0
OnTB602 p = (p.forms % 2 ≡ 1) × Slow p.speed

opposed_slow : (l : List Todo) (i j : ℕ) {p q : Departure} → i < j → j < (after fresh l).len → (there l i).heading ≡ 2 → (there l j).heading ≡ 1
    → left_by l i ≡ Some p → left_by l j ≡ Some q → OnTB602 p × OnTB602 q
opposed_slow l i j {p} {q} less present to-B to-A p-left q-left =
    let o : (left_slowly (left_by l i) ≡ true) × (left_slowly (left_by l j) ≡ true) =
    (demand3 (runs fresh l)).opposed i j (omega arith) (omega arith) to-B to-A in
    (on p (rw p-left at o.0), on q (rw q-left at o.1))
  where
    on : (p : Departure) → left_slowly (Some p) ≡ true → OnTB602 p
    on p e = let b = both (eqb (p.forms % 2) 1) (is_slow p.speed) e in (eqb-true (p.forms % 2) 1 b.0, slow p.speed b.1)

-- two vehicles heading towards one another, the departures of both, and that both left on T/B 602 at 15 km/h or less
abbrev Opposed : List (List ℕ) → ℕ → ℕ → Departure → Departure → Type 0
Opposed l i j p q =
    ((there (list l) i).heading ≡ 2) × ((there (list l) j).heading ≡ 1) × (left_by (list l) i ≡ Some p) × (left_by (list l) j ≡ Some q) × OnTB602 p × OnTB602 q

opposed : (l : List (List ℕ)) (i j n : ℕ) {p q : Departure} → (after fresh (list l)).len ≡ n → i < j → j < n → (there (list l) i).heading ≡ 2
    → (there (list l) j).heading ≡ 1
    → left_by (list l) i ≡ Some p → left_by (list l) j ≡ Some q → Opposed l i j p q
opposed l i j n many less present to-B to-A p-left q-left =
    let o = opposed_slow (list l) i j less (omega arith) to-B to-A p-left q-left in
    (to-B, to-A, p-left, q-left, o.0, o.1)

-- "neighbours or not": a THROUGH of A in view 2, one of B in view 1, a second of A in view 3, which stands nearer A than the first
abbrev three : List (List ℕ)
three =
    (0x1F ∷ 0x03 ∷ 0x01 ∷ 0x00 ∷ 0x00 ∷ 0x02 ∷ 0x01 ∷ [])
    ∷ (0x1F ∷ 0x03 ∷ 0x02 ∷ 0x00 ∷ 0x00 ∷ 0x01 ∷ 0x01 ∷ [])
    ∷ (0x1F ∷ 0x03 ∷ 0x01 ∷ 0x00 ∷ 0x1E ∷ 0x03 ∷ 0x01 ∷ [])
    ∷ []

neighbours_or_not : Opposed three 0 2 (departure A THROUGH 2 1 Walking) (departure B THROUGH 1 1 (Kmh 15))
    × Opposed three 1 2 (departure A THROUGH 1 1 (Kmh 10)) (departure B THROUGH 1 1 (Kmh 15))
unfolding step_computes
neighbours_or_not = (
  opposed three 0 2 3 refl (omega arith) (omega arith) refl refl refl refl,
  opposed three 1 2 3 refl (omega arith) (omega arith) refl refl refl refl,
)

-- a THROUGH opposed to an OPEN, and an OPEN to a THROUGH
through_and_open : Opposed (opens 1 5 3 2 ∷ through 2 0 9 ∷ []) 0 1 (departure A OPEN 1 7 Walking) (departure B THROUGH 1 1 (Kmh 15))
    × Opposed (opens 2 5 2 8 ∷ through 1 0 9 ∷ []) 0 1 (departure A THROUGH 1 1 (Kmh 15)) (departure B OPEN 1 7 (Kmh 10))
unfolding step_computes
through_and_open = (
  opposed (opens 1 5 3 2 ∷ through 2 0 9 ∷ []) 0 1 2 refl (omega arith) (omega arith) refl refl refl refl,
  opposed (opens 2 5 2 8 ∷ through 1 0 9 ∷ []) 0 1 2 refl (omega arith) (omega arith) refl refl refl refl,
)

-- ---- while the working is in force, line clears owed by each station = those the other holds + those waiting at the other + the other's trains in the section
-- + those given up that these carry + line clears on the way to the other

-- what the clause is about: owed by x, held by the other, waiting there, the other's trains, given up by these, on the way to the other
record Balance : Type 0 where
  force : Bool
  owes : ℕ
  holds : ℕ
  waits : ℕ
  trains : ℕ
  given_up : ℕ
  way : ℕ

abbrev balance_of : List Todo → Station → Balance
balance_of l x = record {
  force = (after fresh l).force;
  owes = (desk_of (after fresh l) x).clears.owes;
  holds = (desk_of (after fresh l) (other_at x)).clears.holds;
  waits = (desk_of (after fresh l) (other_at x)).waiting;
  trains = trains_of (done fresh l) (after fresh l) (other_at x);
  given_up = given_up_by (after fresh l) (other_at x);
  way = on_the_way_to (after fresh l) (other_at x);
}

balance : (l : List Todo) (x : Station) (b : Balance) → balance_of l x ≡ b → b.force ≡ true
    → b.owes ≡ b.holds + b.waits + b.trains + b.given_up + b.way
balance l x b e force =
    let o : (desk_of (after fresh l) x).clears.owes ≡ b.owes = ap (λ (z : Balance). z.owes) e in
    let h : (desk_of (after fresh l) (other_at x)).clears.holds ≡ b.holds = ap (λ (z : Balance). z.holds) e in
    let k : (desk_of (after fresh l) (other_at x)).waiting ≡ b.waits = ap (λ (z : Balance). z.waits) e in
    let t : trains_of (done fresh l) (after fresh l) (other_at x) ≡ b.trains = ap (λ (z : Balance). z.trains) e in
    let u : given_up_by (after fresh l) (other_at x) ≡ b.given_up = ap (λ (z : Balance). z.given_up) e in
    let w : on_the_way_to (after fresh l) (other_at x) ≡ b.way = ap (λ (z : Balance). z.way) e in
    omega (arith, (demand3 (runs fresh l)).owed (ap (λ (z : Balance). z.force) e ∙ force) x)

-- a list in force with these figures, and that the first is the sum of the rest
abbrev pub Owed : List (List ℕ) → Station → ℕ → ℕ → ℕ → ℕ → ℕ → ℕ → Type 0
Owed l x owes holds waits trains given_up way =
    (balance_of (list l) x ≡ record { force = true; owes = owes; holds = holds; waits = waits; trains = trains; given_up = given_up; way = way })
    × (owes ≡ holds + waits + trains + given_up + way)

pub owed : (l : List (List ℕ)) (x : Station) {owes holds waits trains given_up way : ℕ}
    → balance_of (list l) x ≡ record { force = true; owes = owes; holds = holds; waits = waits; trains = trains; given_up = given_up; way = way }
    → Owed l x owes holds waits trains given_up way
owed l x e = (e, balance (list l) x _ e refl)

-- x is the station that opened, and the other owes it two: on a RETURN on the way, then held, then one held and one on the line, then both on the line;
-- x owes the three that its last train takes along
either_station : (x : Station)
    → Owed (granting x) (other_at x) 2 0 0 0 0 2
    × Owed (holding x) (other_at x) 2 2 0 0 0 0
    × Owed (running x) (other_at x) 2 1 0 1 0 0
    × Owed (following x) (other_at x) 2 0 0 2 0 0
    × Owed (following x) x 3 0 0 0 0 3
unfolding step_computes
either_station A = (owed (granting A) B refl, owed (holding A) B refl, owed (running A) B refl, owed (following A) B refl, owed (following A) A refl)
either_station B = (owed (granting B) A refl, owed (holding B) A refl, owed (running B) A refl, owed (following B) A refl, owed (following B) B refl)

-- ---- two neighbours change places: each keeps the answer it had, every other place its own, and the section is the same

abbrev todos : List Done → List Todo
todos [] = []
todos (d ∷ l) = record { form = d.form; bytes = d.bytes } ∷ todos l

abbrev returned : List ℕ → Answer → Done
returned bytes answer = handed by_value bytes answer

abbrev in_memory : List ℕ → Answer → Done
in_memory bytes answer = handed in_place bytes answer

-- B and A open in view 3, then B and A take their own openers back
abbrev begins : List Done
begins = returned begin plain ∷ []

abbrev open_b : Done
open_b = returned (0x3F ∷ 0x02 ∷ 0x02 ∷ 0x00 ∷ 0x00 ∷ 0x03 ∷ 0x02 ∷ 0x06 ∷ []) (accept 1 7 Walking)

abbrev open_a : Done
open_a = in_memory (0x3F ∷ 0x02 ∷ 0x01 ∷ 0x00 ∷ 0x00 ∷ 0x03 ∷ 0x04 ∷ 0x05 ∷ []) (accept 1 7 Walking)

abbrev back_b : Done
back_b = in_memory (0x87 ∷ 0x06 ∷ 0x02 ∷ 0x00 ∷ 0x02 ∷ 0x02 ∷ 0x00 ∷ 0x01 ∷ []) plain

abbrev back_a : Done
back_a = returned (0x87 ∷ 0x06 ∷ 0x01 ∷ 0x00 ∷ 0x01 ∷ 0x01 ∷ 0x00 ∷ 0x01 ∷ []) plain

abbrev taken_back : List Todo
taken_back = todos (begins ++ open_b ∷ open_a ∷ back_b ∷ back_a ∷ [])

-- two receipts
receipts_exchanged : Run fresh (begins ++ open_b ∷ open_a ∷ back_a ∷ back_b ∷ []) (after fresh taken_back)
unfolding step_computes
receipts_exchanged =
    (demand3 (runs fresh taken_back)).swap (begins ++ open_b ∷ open_a ∷ []) back_b back_a [] B A (acts.Receive B 1) (acts.Receive A 1) refl
    (record { time = 2; entry = refl; accepted = refl })
    (record { time = 1; entry = refl; accepted = refl })
    (other_differs B) (λ r. false≢true r.0)

-- two departures, with the receipts of both behind them
departures_exchanged : Run fresh (begins ++ open_a ∷ open_b ∷ back_b ∷ back_a ∷ []) (after fresh taken_back)
unfolding step_computes
departures_exchanged =
    (demand3 (runs fresh taken_back)).swap begins open_b open_a (back_b ∷ back_a ∷ []) B A (acts.Open Impaired 2 6) (acts.Open Impaired 4 5) refl
    (record { time = 0; entry = refl; accepted = refl })
    (record { time = 0; entry = refl; accepted = refl })
    (other_differs B) (λ r. true≢false (ap is_departure r.1))

-- behind no bytes, which are refused, A opens, holds two line clears and sends its first train. A's second train and B's receipt of the first are neighbours, and
-- behind them come B's receipt of the second, bytes that are no entry, a THROUGH of B, RETURNs with no guest, two of B and one of A, and BEGIN again.
abbrev one_sent : List Done
one_sent =
    in_memory [] (Err EndsInside)
    ∷ returned begin plain
    ∷ in_memory (opens 1 0 1 2) (accept 1 7 (Kmh 15))
    ∷ returned (receive 2 60 1 1) plain
    ∷ in_memory (returns 2 61 2) (accept 1 180 Booked)
    ∷ returned (receive 1 90 2 1) plain
    ∷ in_memory (train 1 91) (accept 2 168 Booked)
    ∷ []

abbrev second_sent : Done
second_sent = returned (train 1 121) (accept 3 104 (Both 25 10))

abbrev first_taken : Done
first_taken = in_memory (receive 2 115 1 2) plain

abbrev behind : List Done
behind =
    returned (receive 2 150 1 3) plain
    ∷ in_memory (0 ∷ []) (Err UnknownKind)
    ∷ returned (through 2 0 155) (accept 2 1 (Kmh 15))
    ∷ in_memory (returns 2 160 1) (Err NoGuest)
    ∷ returned (returns 2 160 1) (Err NoGuest)
    ∷ returned (returns 1 160 1) (Err NoGuest)
    ∷ in_memory begin (Err AlreadyInForce)
    ∷ []

abbrev sent_then_taken : List Todo
sent_then_taken = todos (one_sent ++ second_sent ∷ first_taken ∷ behind)

abbrev taken_then_sent : List Todo
taken_then_sent = todos (one_sent ++ first_taken ∷ second_sent ∷ behind)

-- a TRAIN and a RECEIVE, and the same two from the other order
train_and_receipt_exchanged : Run fresh (one_sent ++ first_taken ∷ second_sent ∷ behind) (after fresh sent_then_taken)
    × Run fresh (one_sent ++ second_sent ∷ first_taken ∷ behind) (after fresh taken_then_sent)
unfolding step_computes
train_and_receipt_exchanged = (
  (demand3 (runs fresh sent_then_taken)).swap one_sent second_sent first_taken behind A B (acts.Train false Clear 0 0) (acts.Receive A 2) refl
      (record { time = 121; entry = refl; accepted = refl })
      (record { time = 115; entry = refl; accepted = refl })
      (other_differs A) (λ r. let e = r.1 in let z : ◌≡◌ {A = ℕ} 2 3 = cc in omega arith),
  (demand3 (runs fresh taken_then_sent)).swap one_sent first_taken second_sent behind B A (acts.Receive A 2) (acts.Train false Clear 0 0) refl
      (record { time = 115; entry = refl; accepted = refl })
      (record { time = 121; entry = refl; accepted = refl })
      (other_differs B) (λ r. false≢true r.0),
)

-- a THROUGH of A and one of B in view 3; then A takes its own back while B sends a second; then A receives B's first
abbrev through_a : Done
through_a = returned (through 1 0 10) (accept 1 1 (Kmh 15))

abbrev through_b : Done
through_b = in_memory (0x1F ∷ 0x03 ∷ 0x02 ∷ 0x00 ∷ 0x07 ∷ 0x03 ∷ 0x01 ∷ []) (accept 1 1 Walking)

abbrev own_at_a : Done
own_at_a = in_memory (receive 1 11 1 1) plain

abbrev second_b : Done
second_b = returned (through 2 0 37) (accept 2 1 (Kmh 15))

abbrev first_at_a : Done
first_at_a = in_memory (receive 1 50 2 1) plain

abbrev passing : List Todo
passing = todos (begins ++ through_a ∷ through_b ∷ own_at_a ∷ second_b ∷ first_at_a ∷ [])

-- two THROUGHs; and a receipt and a THROUGH
throughs_exchanged : Run fresh (begins ++ through_b ∷ through_a ∷ own_at_a ∷ second_b ∷ first_at_a ∷ []) (after fresh passing)
    × Run fresh (begins ++ through_a ∷ through_b ∷ second_b ∷ own_at_a ∷ first_at_a ∷ []) (after fresh passing)
unfolding step_computes
throughs_exchanged = (
  (demand3 (runs fresh passing)).swap begins through_a through_b (own_at_a ∷ second_b ∷ first_at_a ∷ []) A B (acts.Through Clear) (acts.Through Impaired) refl
      (record { time = 10; entry = refl; accepted = refl })
      (record { time = 7; entry = refl; accepted = refl })
      (other_differs A) (λ r. true≢false (ap is_departure r.1)),
  (demand3 (runs fresh passing)).swap (begins ++ through_a ∷ through_b ∷ []) own_at_a second_b (first_at_a ∷ []) A B (acts.Receive A 1) (acts.Through Clear) refl
      (record { time = 11; entry = refl; accepted = refl })
      (record { time = 37; entry = refl; accepted = refl })
      (other_differs A) (λ r. false≢true r.0),
)

-- an OPEN of A and a THROUGH of B
abbrev opening : List Todo
opening = todos (begins ++ open_a ∷ through_b ∷ [])

open_and_through_exchanged : Run fresh (begins ++ through_b ∷ open_a ∷ []) (after fresh opening)
unfolding step_computes
open_and_through_exchanged =
    (demand3 (runs fresh opening)).swap begins open_a through_b [] A B (acts.Open Impaired 4 5) (acts.Through Impaired) refl
    (record { time = 0; entry = refl; accepted = refl })
    (record { time = 7; entry = refl; accepted = refl })
    (other_differs A) (λ r. true≢false (ap is_departure r.1))

-- a RETURN with any other, either first: the clause excludes no kind. A list for it there is none: beside a RETURN there is no accepted entry of the other station but its receipt
-- (`none_before_return` and `none_behind_return`, theorems/ReturnAlone).
returns_exchanged : {l : List Done} {s : Section} → Run fresh l s → (before : List Done) (d e : Done) (behind : List Done) (x : Station) (asked granted : ℕ) (other : acts.Act)
    → (l ≡ before ++ d ∷ e ∷ behind → AcceptedAt d x (acts.Return asked granted) → AcceptedAt e (other_at x) other → (ReceivesIt (acts.Return asked granted) x d.answer other → ⊥)
    → Run fresh (before ++ e ∷ d ∷ behind) s)
    × (l ≡ before ++ e ∷ d ∷ behind → AcceptedAt e (other_at x) other → AcceptedAt d x (acts.Return asked granted) → Run fresh (before ++ d ∷ e ∷ behind) s)
returns_exchanged run before d e behind x asked granted other = (
  λ is p q apart. (demand3 run).swap before d e behind x (other_at x) (acts.Return asked granted) other is p q (other_differs x) apart,
  λ is q p. (demand3 run).swap before e d behind (other_at x) x other (acts.Return asked granted) is q p (λ same. other_differs x (sym same)) (λ r. true≢false (ap is_departure r.1)),
)

-- the sections that these lists end in, in figures
abbrev ended : Section
ended = working (counts 1 2 3) (vehicle Through 2 2 1 false 1 ∷ []) (figures 121 3 2 (Some 121) false 0 0 0 0) (figures 155 2 1 (Some 155) false 0 0 0 0)

exchanged_ends :
    every
    (same_section (after fresh taken_back) (working none_refused [] (figures 1 1 0 None false 0 0 0 0) (figures 2 1 0 None false 0 0 0 0))
    ∷ same_section (after fresh sent_then_taken) ended
    ∷ same_section (after fresh taken_then_sent) ended
    ∷ [])
    ≡ true
unfolding step_computes
exchanged_ends = refl

-- and those of the two above
passing_ends :
    every
    (same_section (after fresh passing) (working none_refused (vehicle Through 2 2 1 false 1 ∷ []) (figures 50 1 0 None false 0 0 0 0) (figures 37 2 2 (Some 37) false 0 0 0 0))
    ∷ same_section (after fresh opening)
    (working none_refused (vehicle (Open 5) 1 1 2 false 4 ∷ vehicle Through 2 1 1 false 1 ∷ []) (figures 0 1 1 (Some 0) true 0 0 0 0) (figures 7 1 1 (Some 7) false 0 0 0 0))
    ∷ [])
    ≡ true
unfolding step_computes
passing_ends = refl
