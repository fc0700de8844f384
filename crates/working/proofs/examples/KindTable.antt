-- What each kind is refused for, in rising order, and what it does to every figure of the section, the sentences of document 01, T-02, T-03 and T-08 row by row for either station.
-- The sections are written out: the desk that decides has a figure at each place that the kind must keep, and the other desk is full of figures that no entry of this
-- station may alter. A row has the section found, the bytes, the answer, and the section left, compared in every figure. Every section found is well made, or the answer
-- would be 5.
-- Assumes nothing.
use Prim.Native.Nat.{ℕ, ◌+◌}
use Rattle.std.specs.Prelude.{Err, None, Some}
use Rattle.working.proofs.examples.Computing.{step_computes}
use Rattle.working.proofs.examples.Edges.{Edge, answers_by, answers_to, expected_of, leaving_another_by, refused, row, rows_leaving_another}
use Rattle.working.proofs.examples.Literals.{begin, counts, figures, meet, opens_as, plain, receive, resume, vehicle, with_clock, with_owes, working}
use Rattle.working.specs.Answers.{accept}
use Rattle.working.specs.Document01.{decode01, step_of_01}
use Rattle.working.specs.Guests.{step_with_11}
use Rattle.working.specs.Sections.{fresh, fresh_desk, number_at, other_at, pad_to, with_waiting}
use Rattle.working.specs.declared.Desk.{Desk}
use Rattle.working.specs.declared.Movement.TheVariants.{LastTrain, Open, Return, Through, Train}
use Rattle.working.specs.declared.Movement.{Movement}
use Rattle.working.specs.declared.Refusal.TheVariants.{AlreadyInForce, BeforeClock, FormsUsed, GrantNotAllowed, GuestHere, HoldsLineClear, IntervalRunning, MayNotEnter}
use Rattle.working.specs.declared.Refusal.TheVariants.{EndsInside, IllMade, MayNotMeet, NoGuest, NoLineClear, NotInForce, NotNearest, OpenerAway, OwesLineClear, TwelveSent}
use Rattle.working.specs.declared.Refusal.TheVariants.{UnknownKind, VehiclePresent}
use Rattle.working.specs.declared.Section.{Section}
use Rattle.working.specs.declared.Speed.TheVariants.{Booked, Both, Kmh, Walking}
use Rattle.working.specs.declared.Speed.{Speed}
use Rattle.working.specs.declared.Station.TheVariants.{A, B}
use Rattle.working.specs.declared.Station.{Station}
use Rattle.working.specs.declared.Vehicle.{Vehicle}
use mathlib.Core.Bool.{Bool, false, true}
use mathlib.Core.List.{List, [], ◌++◌, ◌∷◌}
use mathlib.Core.Path.{refl, ◌≡◌}

-- ---- what the rows are made of

-- the other station's desk
abbrev theirs : Desk
theirs = with_waiting 4 (figures 50 3 1 (Some 50) true 2 6 7 8)

abbrev backwards : List Vehicle → List Vehicle → List Vehicle
backwards [] l = l
backwards (v ∷ r) l = backwards r (v ∷ l)

-- in force, some refused for each, this station's desk and the other's, and the vehicles from this station's end on
abbrev seen_from : Station → List Vehicle → Desk → Section
seen_from A present mine = working (counts 4 5 6) present mine theirs
seen_from B present mine = working (counts 4 5 6) (backwards present []) theirs mine

-- a vehicle of this station, and one of the other, unmet
abbrev own : Station → Movement → ℕ → ℕ → Vehicle
own x movement form class = vehicle movement (number_at x) form (number_at (other_at x)) false class

abbrev coming : Station → Movement → ℕ → Vehicle
coming x movement class = vehicle movement (number_at (other_at x)) 3 (number_at x) false class

-- entries at minute 100
abbrev opening : Station → ℕ → ℕ → ℕ → List ℕ
opening x view class asked = opens_as (number_at x) 100 view class asked

abbrev passing : Station → ℕ → List ℕ
passing x view = 0x1F ∷ 3 ∷ number_at x ∷ 0 ∷ 100 ∷ view ∷ 1 ∷ []

abbrev returning : Station → List ℕ
returning x = 0x07 ∷ 4 ∷ number_at x ∷ 0 ∷ 100 ∷ []

abbrev returning_with : Station → ℕ → ℕ → List ℕ
returning_with x asked granted = 0x67 ∷ 4 ∷ number_at x ∷ 0 ∷ 100 ∷ asked ∷ granted ∷ []

-- a TRAIN, kind 5, or one endorsed as the last, kind 9
abbrev running : ℕ → Station → ℕ → List ℕ
running kind x view = 0x0F ∷ kind ∷ number_at x ∷ 0 ∷ 100 ∷ view ∷ []

abbrev running_with : ℕ → Station → ℕ → ℕ → List ℕ
running_with kind x asked granted = 0x6F ∷ kind ∷ number_at x ∷ 0 ∷ 100 ∷ 1 ∷ asked ∷ granted ∷ []

-- ---- refusals, in rising order: a desk with every reason against the kind loses them one by one

-- OPEN, THROUGH: 9, 10, 11, 12, 13, 17, 18, 19
abbrev open_refused : Station → List ℕ → List Edge
open_refused x bytes =
    refused (Some x) fresh bytes NotInForce
    ∷ refused (Some x) (seen_from x [] (figures 101 9999 12 (Some 101) true 5 8 8 8)) bytes BeforeClock
    ∷ refused (Some x) (seen_from x [] (figures 100 9999 12 (Some 71) true 5 8 8 8)) bytes OpenerAway
    ∷ refused (Some x) (seen_from x [] (figures 100 9999 12 (Some 71) false 5 8 1 8)) bytes HoldsLineClear
    ∷ refused (Some x) (seen_from x [] (figures 100 9999 12 (Some 71) false 5 8 0 1)) bytes OwesLineClear
    ∷ refused (Some x) (seen_from x [] (figures 100 9999 12 (Some 71) false 1 8 0 0)) bytes GuestHere
    ∷ refused (Some x) (seen_from x [] (figures 100 9999 12 (Some 71) false 0 8 0 0)) bytes TwelveSent
    ∷ refused (Some x) (seen_from x [] (figures 100 9999 11 (Some 71) false 0 8 0 0)) bytes FormsUsed
    ∷ refused (Some x) (seen_from x [] (figures 100 9998 11 (Some 71) false 0 8 0 0)) bytes IntervalRunning
    ∷ []

-- RETURN: 9, 14, 16, 17, 18, 19; out set, owes above 0 and, T-08, holds above 0 are no reason
abbrev return_refused : Station → List Edge
return_refused x =
    refused (Some x) fresh (returning_with x 1 3) NotInForce
    ∷ refused (Some x) (seen_from x [] (figures 101 9999 12 (Some 101) true 0 2 8 8)) (returning_with x 1 3) BeforeClock
    ∷ refused (Some x) (seen_from x [] (figures 100 9999 12 (Some 71) true 0 2 8 8)) (returning_with x 1 3) NoGuest
    ∷ refused (Some x) (seen_from x [] (figures 100 9999 12 (Some 71) true 0 2 0 8)) (returning_with x 1 3) NoGuest
    ∷ refused (Some x) (seen_from x [] (figures 100 9999 12 (Some 71) true 1 2 8 8)) (returning_with x 1 3) GrantNotAllowed
    ∷ refused (Some x) (seen_from x [] (figures 100 9999 12 (Some 71) true 1 3 8 8)) (returning_with x 1 3) TwelveSent
    ∷ refused (Some x) (seen_from x [] (figures 100 9999 11 (Some 71) true 1 3 8 8)) (returning_with x 1 3) FormsUsed
    ∷ refused (Some x) (seen_from x [] (figures 100 9998 11 (Some 71) true 1 3 8 8)) (returning_with x 1 3) IntervalRunning
    ∷ []

-- TRAIN, endorsed as the last or not (kind 5 or 9): 9, 15, 16 for a grant above asked, 16 for a grant while owes is above 0, 17, 18, 19; out set, a guest, and a grant
-- that leaves holds above 0 are no reason
abbrev train_refused : ℕ → Station → List Edge
train_refused kind x =
    refused (Some x) fresh (running_with kind x 1 3) NotInForce
    ∷ refused (Some x) (seen_from x [] (figures 101 9999 12 (Some 101) true 1 2 0 8)) (running_with kind x 1 3) BeforeClock
    ∷ refused (Some x) (seen_from x [] (figures 100 9999 12 (Some 71) true 1 2 0 8)) (running_with kind x 1 3) NoLineClear
    ∷ refused (Some x) (seen_from x [] (figures 100 9999 12 (Some 71) true 1 2 1 0)) (running_with kind x 1 3) GrantNotAllowed
    ∷ refused (Some x) (seen_from x [] (figures 100 9999 12 (Some 71) true 1 3 1 1)) (running_with kind x 1 3) GrantNotAllowed
    ∷ refused (Some x) (seen_from x [] (figures 100 9999 12 (Some 71) true 1 3 2 1)) (running_with kind x 1 3) GrantNotAllowed
    ∷ refused (Some x) (seen_from x [] (figures 100 9999 12 (Some 71) true 1 3 2 0)) (running_with kind x 1 3) TwelveSent
    ∷ refused (Some x) (seen_from x [] (figures 100 9999 11 (Some 71) true 1 3 2 0)) (running_with kind x 1 3) FormsUsed
    ∷ refused (Some x) (seen_from x [] (figures 100 9998 11 (Some 71) true 1 3 2 0)) (running_with kind x 1 3) IntervalRunning
    ∷ []

-- a desk that may receive, where line clears wait while it owes; one that owes a single train, and one that owes none
abbrev mine : Desk
mine = with_waiting 4 (figures 90 7 3 (Some 90) true 3 6 2 7)

abbrev owing_one : Desk
owing_one = with_owes 1 mine

abbrev owing_none : Desk
owing_none = with_owes 0 mine

-- RECEIVE: 9; 20 none, or the nearest is not the one named; 21 S's own fast one, S's own met and heading away, O's met and heading away
abbrev receive_refused : Station → List Edge
receive_refused x =
    refused (Some x) fresh (receive (number_at x) 100 (number_at x) 7) NotInForce
    ∷ refused (Some x) (seen_from x [] (with_clock 101 mine)) (receive (number_at x) 100 (number_at x) 7) BeforeClock
    ∷ refused (Some x) (seen_from x [] mine) (receive (number_at x) 100 (number_at x) 7) NotNearest
    ∷ refused (Some x) (seen_from x (own x Through 6 1 ∷ own x Through 7 1 ∷ []) mine) (receive (number_at x) 100 (number_at x) 7) NotNearest
    ∷ refused (Some x) (seen_from x (own x (Train 0 0) 6 0 ∷ []) mine) (receive (number_at x) 100 (number_at x) 7) NotNearest
    ∷ refused (Some x) (seen_from x (own x Through 3 1 ∷ coming x Through 1 ∷ []) mine) (receive (number_at x) 100 (number_at (other_at x)) 3) NotNearest
    ∷ refused (Some x) (seen_from x (own x (Train 0 0) 7 0 ∷ []) mine) (receive (number_at x) 100 (number_at x) 7) MayNotEnter
    ∷ refused (Some x) (seen_from x (own x (LastTrain 0 0 3) 7 0 ∷ []) mine) (receive (number_at x) 100 (number_at x) 7) MayNotEnter
    ∷ refused (Some x) (seen_from x (own x (Return 0 0) 7 1 ∷ []) mine) (receive (number_at x) 100 (number_at x) 7) MayNotEnter
    ∷ refused (Some x) (seen_from x (vehicle Through (number_at x) 7 (number_at (other_at x)) true 1 ∷ []) mine) (receive (number_at x) 100 (number_at x) 7) MayNotEnter
    ∷ refused (Some x) (seen_from x (vehicle Through (number_at (other_at x)) 3 (number_at (other_at x)) true 1 ∷ []) mine)
    (receive (number_at x) 100 (number_at (other_at x)) 3) MayNotEnter
    ∷ []

-- ---- what an accepted entry does

-- a departure of S: one more sent, the next form number, the interval from that minute, the vehicle at S's end; a vehicle of O is on the line already, and what waits
-- goes on waiting
abbrev leaves : Station → Desk → List ℕ → ℕ → Speed → Movement → ℕ → Desk → Edge
leaves x before bytes forms speed movement class after =
    row (seen_from x (coming x Through 1 ∷ []) (with_waiting 4 before)) bytes (accept 8 forms speed)
    (seen_from x (own x movement 8 class ∷ coming x Through 1 ∷ []) (with_waiting 4 after))

-- "8 T/G 602 (UP), 16 T/H 602 (DN)"
abbrev way : Station → ℕ
way A = 8
way B = 16

abbrev departures : Station → List Edge
departures x =
    -- OPEN: 15, 10 or walking pace by view; asked at S stays
    leaves x (figures 90 7 2 (Some 70) false 0 5 0 0) (opening x 1 4 3) 7 (Kmh 15) (Open 3) 4 (figures 100 8 3 (Some 100) true 0 5 0 0)
    ∷ leaves x (figures 90 7 2 None false 0 5 0 0) (opening x 2 5 8) 7 (Kmh 10) (Open 8) 5 (figures 100 8 3 (Some 100) true 0 5 0 0)
    ∷ leaves x (figures 90 7 2 None false 0 5 0 0) (opening x 3 1 1) 7 Walking (Open 1) 1 (figures 100 8 3 (Some 100) true 0 5 0 0)
    -- THROUGH: nothing more
    ∷ leaves x (figures 90 7 2 (Some 70) false 0 5 0 0) (passing x 1) 1 (Kmh 15) Through 1 (figures 100 8 3 (Some 100) false 0 5 0 0)
    ∷ leaves x (figures 90 7 2 None false 0 5 0 0) (passing x 2) 1 (Kmh 10) Through 1 (figures 100 8 3 (Some 100) false 0 5 0 0)
    ∷ leaves x (figures 90 7 2 None false 0 5 0 0) (passing x 3) 1 Walking Through 1 (figures 100 8 3 (Some 100) false 0 5 0 0)
    -- RETURN: guest and asked cleared; granted above 0 becomes owes, also while S owes, else owes stays; out stays; booked, with 2 if asked and 4 if granted
    ∷ leaves x (figures 90 7 2 (Some 70) true 4 6 0 7) (returning x) (way x + 160) Booked (Return 0 0) 4 (figures 100 8 3 (Some 100) true 0 0 0 7)
    ∷ leaves x (figures 90 7 2 None true 5 6 0 7) (returning_with x 5 1) (way x + 166) Booked (Return 5 1) 5 (figures 100 8 3 (Some 100) true 0 0 0 1)
    -- T-08: holds above 0, where no list from fresh has a guest, is no reason, and stays
    ∷ leaves x (figures 90 7 2 (Some 70) true 4 6 8 7) (returning x) (way x + 160) Booked (Return 0 0) 4 (figures 100 8 3 (Some 100) true 0 0 8 7)
    ∷ leaves x (figures 90 7 2 None true 5 6 1 7) (returning_with x 5 1) (way x + 166) Booked (Return 5 1) 5 (figures 100 8 3 (Some 100) true 0 0 1 1)
    -- TRAIN: booked if sent was 0, else a follower, T-07: 25/10 in view 1 and 10/10 otherwise; without a grant asked and owes stay
    ∷ leaves x (figures 90 7 0 (Some 70) true 3 6 3 7) (running 5 x 1) (way x + 160) Booked (Train 0 0) 0 (figures 100 8 1 (Some 100) true 3 6 2 7)
    ∷ leaves x (figures 90 7 0 None true 3 6 3 7) (running 5 x 3) (way x + 160) Booked (Train 0 0) 0 (figures 100 8 1 (Some 100) true 3 6 2 7)
    ∷ leaves x (figures 90 7 2 None true 3 6 3 7) (running 5 x 1) (way x + 96) (Both 25 10) (Train 0 0) 0 (figures 100 8 3 (Some 100) true 3 6 2 7)
    ∷ leaves x (figures 90 7 2 None true 3 6 3 7) (running 5 x 2) (way x + 96) (Both 10 10) (Train 0 0) 0 (figures 100 8 3 (Some 100) true 3 6 2 7)
    ∷ leaves x (figures 90 7 2 None true 3 6 3 7) (running 5 x 3) (way x + 96) (Both 10 10) (Train 0 0) 0 (figures 100 8 3 (Some 100) true 3 6 2 7)
    -- a grant becomes owes, and clears asked, whatever is left of it, also on a TRAIN that leaves holds above 0
    ∷ leaves x (figures 90 7 2 None true 3 6 1 0) (running_with 5 x 2 1) (way x + 102) (Both 25 10) (Train 2 1) 0 (figures 100 8 3 (Some 100) true 3 0 0 1)
    ∷ leaves x (figures 90 7 2 None true 3 6 2 0) (running_with 5 x 2 1) (way x + 102) (Both 25 10) (Train 2 1) 0 (figures 100 8 3 (Some 100) true 3 0 1 1)
    -- T-03, endorsed as the last: "the sender's holds becomes 0", and its vehicle "carries the holds before it, less 1"; all else as TRAIN
    ∷ leaves x (figures 90 7 0 (Some 70) true 3 6 3 7) (running 9 x 1) (way x + 160) Booked (LastTrain 0 0 2) 0 (figures 100 8 1 (Some 100) true 3 6 0 7)
    ∷ leaves x (figures 90 7 0 None true 3 6 1 7) (running 9 x 3) (way x + 160) Booked (LastTrain 0 0 0) 0 (figures 100 8 1 (Some 100) true 3 6 0 7)
    ∷ leaves x (figures 90 7 2 None true 3 6 8 7) (running 9 x 1) (way x + 96) (Both 25 10) (LastTrain 0 0 7) 0 (figures 100 8 3 (Some 100) true 3 6 0 7)
    ∷ leaves x (figures 90 7 2 None true 3 6 2 7) (running 9 x 2) (way x + 96) (Both 10 10) (LastTrain 0 0 1) 0 (figures 100 8 3 (Some 100) true 3 6 0 7)
    ∷ leaves x (figures 90 7 2 None true 3 6 2 7) (running 9 x 3) (way x + 96) (Both 10 10) (LastTrain 0 0 1) 0 (figures 100 8 3 (Some 100) true 3 6 0 7)
    ∷ leaves x (figures 90 7 2 None true 3 6 1 0) (running_with 9 x 2 1) (way x + 102) (Both 25 10) (LastTrain 2 1 0) 0 (figures 100 8 3 (Some 100) true 3 0 0 1)
    ∷ leaves x (figures 90 7 2 None true 3 6 4 0) (running_with 9 x 2 1) (way x + 102) (Both 25 10) (LastTrain 2 1 3) 0 (figures 100 8 3 (Some 100) true 3 0 0 1)
    ∷ []

-- a receipt at S of its own vehicle, number 7, nearest it, with another behind; and of O's, number 3
abbrev back : Station → Desk → Vehicle → Desk → Edge
back x before v after =
    row (seen_from x (v ∷ coming x Through 1 ∷ []) before) (receive (number_at x) 100 (number_at x) 7) plain (seen_from x (coming x Through 1 ∷ []) after)

abbrev comes : Station → Desk → Vehicle → Desk → Edge
comes x before v after = row (seen_from x (v ∷ []) before) (receive (number_at x) 100 (number_at (other_at x)) 3) plain (seen_from x [] after)

abbrev receipts : Station → List Edge
receipts x =
    -- S's own OPEN or THROUGH, unmet, or met and heading to S: sent falls by 1, OPEN clears out
    back x mine (own x (Open 1) 7 1) (with_waiting 4 (figures 100 7 2 None false 3 6 2 7))
    ∷ back x mine (own x Through 7 1) (with_waiting 4 (figures 100 7 2 None true 3 6 2 7))
    ∷ back x mine (vehicle (Open 1) (number_at x) 7 (number_at x) true 1) (with_waiting 4 (figures 100 7 2 None false 3 6 2 7))
    -- one from O: sent becomes 0; OPEN makes guest and asked
    ∷ comes x mine (coming x (Open 8) 4) (with_waiting 4 (figures 100 7 0 None true 4 8 2 7))
    ∷ comes x mine (vehicle (Open 1) (number_at (other_at x)) 3 (number_at x) true 5) (with_waiting 4 (figures 100 7 0 None true 5 1 2 7))
    -- THROUGH: nothing more
    ∷ comes x mine (coming x Through 1) (with_waiting 4 (figures 100 7 0 None true 3 6 2 7))
    -- RETURN clears out; asked is set if above 0; without a grant holds stays, and what waits; a grant takes the place of what waits and is not added
    ∷ comes x mine (coming x (Return 0 0) 1) (with_waiting 4 (figures 100 7 0 None false 3 6 2 7))
    ∷ comes x mine (coming x (Return 1 3) 2) (with_waiting 3 (figures 100 7 0 None false 3 1 2 7))
    -- TRAIN lowers owes by 1, not below 0; the rest as RETURN
    ∷ comes x mine (coming x (Train 0 0) 0) (with_waiting 4 (figures 100 7 0 None true 3 6 2 6))
    ∷ comes x mine (coming x (Train 1 5) 0) (with_waiting 5 (figures 100 7 0 None true 3 1 2 6))
    ∷ comes x (with_waiting 0 owing_none) (coming x (Train 0 0) 0) (figures 100 7 0 None true 3 6 2 0)
    -- T-03, endorsed as the last: "the receiver's owes becomes 0", whatever it was and whatever is given up; asked as at a TRAIN
    ∷ comes x (with_waiting 0 mine) (coming x (LastTrain 0 0 0) 0) (figures 100 7 0 None true 3 6 2 0)
    ∷ comes x (with_waiting 0 mine) (coming x (LastTrain 1 0 3) 0) (figures 100 7 0 None true 3 1 2 0)
    ∷ comes x (with_waiting 0 owing_none) (coming x (LastTrain 0 0 7) 0) (figures 100 7 0 None true 3 6 2 0)
    ∷ []

-- T-02: "where its own owes is 0 after it, holds is set to those waiting, if any, and none is left waiting", at every receipt
abbrev releases : Station → List Edge
releases x =
    back x owing_none (own x (Open 1) 7 1) (figures 100 7 2 None false 3 6 4 0)
    ∷ back x owing_none (own x Through 7 1) (figures 100 7 2 None true 3 6 4 0)
    ∷ comes x owing_none (coming x (Open 8) 4) (figures 100 7 0 None true 4 8 4 0)
    ∷ comes x owing_none (coming x Through 1) (figures 100 7 0 None true 3 6 4 0)
    ∷ comes x owing_none (coming x (Return 0 0) 1) (figures 100 7 0 None false 3 6 4 0)
    ∷ comes x owing_none (coming x (Return 1 1) 2) (figures 100 7 0 None false 3 1 1 0)
    -- a TRAIN lowers owes first
    ∷ comes x owing_one (coming x (Train 0 0) 0) (figures 100 7 0 None true 3 6 4 0)
    ∷ comes x owing_one (coming x (Train 1 5) 0) (figures 100 7 0 None true 3 1 5 0)
    ∷ comes x owing_none (coming x (Train 0 0) 0) (figures 100 7 0 None true 3 6 4 0)
    -- one endorsed as the last leaves none owed
    ∷ comes x mine (coming x (LastTrain 0 0 3) 0) (figures 100 7 0 None true 3 6 4 0)
    ∷ comes x mine (coming x (LastTrain 1 5 3) 0) (figures 100 7 0 None true 3 1 5 0)
    ∷ comes x (with_waiting 0 mine) (coming x (LastTrain 0 1 0) 0) (figures 100 7 0 None true 3 6 1 0)
    ∷ comes x owing_none (coming x (LastTrain 0 0 0) 0) (figures 100 7 0 None true 3 6 4 0)
    -- and a RETURN does not lower it
    ∷ comes x owing_one (coming x (Return 0 0) 1) (with_waiting 4 (figures 100 7 0 None false 3 6 2 1))
    -- "if any": holds stays where nothing waits
    ∷ back x (with_waiting 0 owing_none) (own x Through 7 1) (figures 100 7 2 None true 3 6 2 0)
    ∷ comes x (with_waiting 0 owing_one) (coming x (Train 0 0) 0) (figures 100 7 0 None true 3 6 2 0)
    ∷ comes x (with_waiting 0 owing_none) (coming x (Return 0 0) 1) (figures 100 7 0 None false 3 6 2 0)
    ∷ []

-- ---- whoever declares, and a MEET

-- A2 and A1, then B1: A1 and B1 are the pair; A1 is named
abbrev present : Movement → ℕ → Bool → Movement → ℕ → Bool → List Vehicle
present m to met n head redirected = vehicle Through 1 2 2 false 1 ∷ vehicle m 1 1 to met 1 ∷ vehicle n 2 1 head redirected 1 ∷ []

abbrev meeting : List Vehicle → Section
meeting l = working (counts 4 5 6) l mine theirs

abbrev declared : List Edge
declared =
    -- BEGIN: 6; all but the counts as fresh
    refused None (seen_from A [] mine) begin AlreadyInForce
    ∷ row (record { vehicles = pad_to 24 []; len = 0; force = false; refused = counts 4 5 6; a = fresh_desk; b = fresh_desk }) begin plain (working (counts 4 5 6) [] fresh_desk fresh_desk)
    -- RESUME: 7, 8; as fresh but the counts
    ∷ refused None fresh resume NotInForce
    ∷ refused None (seen_from A (own A Through 7 1 ∷ []) mine) resume VehiclePresent
    ∷ row (seen_from A [] mine) resume plain (record { vehicles = pad_to 24 []; len = 0; force = false; refused = counts 4 5 6; a = fresh_desk; b = fresh_desk })
    -- MEET: 7; 22 unless the named one is present and heads to B, its neighbour towards B heads to A, and both are OPEN or THROUGH
    ∷ refused None fresh (meet 1 1 1) NotInForce
    ∷ refused None fresh (meet 2 1 1) NotInForce
    ∷ refused None (meeting []) (meet 1 1 1) MayNotMeet
    ∷ refused None (meeting []) (meet 2 1 1) MayNotMeet
    ∷ refused None (meeting (present Through 2 false Through 1 false)) (meet 1 1 3) MayNotMeet
    ∷ refused None (meeting (present Through 2 false Through 1 false)) (meet 1 1 2) MayNotMeet
    ∷ refused None (meeting (present Through 2 false Through 1 false)) (meet 1 2 1) MayNotMeet
    ∷ refused None (meeting (present Through 1 true Through 1 false)) (meet 1 1 1) MayNotMeet
    ∷ refused None (meeting (present Through 2 false Through 2 true)) (meet 1 1 1) MayNotMeet
    ∷ refused None (meeting (vehicle (Train 0 0) 1 1 2 false 0 ∷ vehicle Through 2 1 1 false 1 ∷ [])) (meet 1 1 1) MayNotMeet
    ∷ refused None (meeting (vehicle Through 1 1 2 false 1 ∷ vehicle (Train 0 0) 2 1 1 false 0 ∷ [])) (meet 1 1 1) MayNotMeet
    ∷ refused None (meeting (vehicle (LastTrain 0 0 3) 1 1 2 false 0 ∷ vehicle Through 2 1 1 false 1 ∷ [])) (meet 1 1 1) MayNotMeet
    ∷ refused None (meeting (vehicle Through 1 1 2 false 1 ∷ vehicle (LastTrain 0 0 3) 2 1 1 false 0 ∷ [])) (meet 1 1 1) MayNotMeet
    -- both then head to the station given and are met; no clock moves, and the third stays as it is
    ∷ row (meeting (present (Open 8) 2 false Through 1 false)) (meet 1 1 1) plain (meeting (present (Open 8) 1 true Through 1 true))
    ∷ row (meeting (present Through 2 true (Open 8) 1 true)) (meet 2 1 1) plain (meeting (present Through 2 true (Open 8) 2 true))
    -- two of one sender may meet, once one of them has redirected
    ∷ row (meeting (vehicle Through 1 2 2 false 1 ∷ vehicle Through 1 1 1 true 1 ∷ [])) (meet 2 1 2) plain
    (meeting (vehicle Through 1 2 2 true 1 ∷ vehicle Through 1 1 2 true 1 ∷ []))
    ∷ []

-- ---- the table holds

abbrev rows_for : Station → List Edge
rows_for x =
    open_refused x (opening x 1 1 1) ++ open_refused x (passing x 1) ++ return_refused x ++ train_refused 5 x ++ train_refused 9 x ++ receive_refused x ++ departures x ++ receipts x ++ releases x

abbrev kinds : List Edge
kinds = declared ++ rows_for A ++ rows_for B

pub kinds_hold : answers_to kinds ≡ expected_of kinds
unfolding step_computes
kinds_hold = refl

pub kinds_leave : rows_leaving_another 1 kinds ≡ []
unfolding step_computes
kinds_leave = refl

-- 19 also in the very minute of the departure before
abbrev same_minute : Station → List Edge
same_minute x =
    refused (Some x) (seen_from x [] (figures 100 9998 11 (Some 100) false 0 8 0 0)) (opening x 1 1 1) IntervalRunning
    ∷ refused (Some x) (seen_from x [] (figures 100 9998 11 (Some 100) false 0 8 0 0)) (passing x 1) IntervalRunning
    ∷ refused (Some x) (seen_from x [] (figures 100 9998 11 (Some 100) true 1 3 8 8)) (returning_with x 1 3) IntervalRunning
    ∷ refused (Some x) (seen_from x [] (figures 100 9998 11 (Some 100) true 1 3 2 0)) (running_with 5 x 1 3) IntervalRunning
    ∷ refused (Some x) (seen_from x [] (figures 100 9998 11 (Some 100) true 1 3 2 0)) (running_with 9 x 1 3) IntervalRunning
    ∷ []

pub same_minute_holds : let rows = same_minute A ++ same_minute B in (answers_to rows ≡ expected_of rows) × (rows_leaving_another 1 rows ≡ [])
unfolding step_computes
same_minute_holds = (refl, refl)

-- ---- document 01's own step, where T-02 altered it: "RETURN and TRAIN set holds to granted", 0 too and whatever is owed; 16 "granted above asked at S, or on a TRAIN
-- that leaves holds above 0", and not because the station owes

abbrev before02 : Station → List Edge
before02 x =
    comes x (with_waiting 0 mine) (coming x (Return 0 0) 1) (figures 100 7 0 None false 3 6 0 7)
    ∷ comes x (with_waiting 0 mine) (coming x (Return 1 5) 2) (figures 100 7 0 None false 3 1 5 7)
    ∷ comes x (with_waiting 0 mine) (coming x (Train 0 0) 0) (figures 100 7 0 None true 3 6 0 6)
    ∷ comes x (with_waiting 0 mine) (coming x (Train 1 5) 0) (figures 100 7 0 None true 3 1 5 6)
    ∷ comes x (with_waiting 0 mine) (coming x (Open 8) 4) (figures 100 7 0 None true 4 8 2 7)
    ∷ comes x (with_waiting 0 mine) (coming x Through 1) (figures 100 7 0 None true 3 6 2 7)
    ∷ back x (with_waiting 0 mine) (own x Through 7 1) (figures 100 7 2 None true 3 6 2 7)
    ∷ refused (Some x) (seen_from x [] (figures 100 9999 12 (Some 71) true 1 2 1 8)) (running_with 5 x 1 3) GrantNotAllowed
    ∷ refused (Some x) (seen_from x [] (figures 100 9999 12 (Some 71) true 1 3 2 0)) (running_with 5 x 1 3) GrantNotAllowed
    ∷ refused (Some x) (seen_from x [] (figures 100 9999 12 (Some 71) true 1 3 1 8)) (running_with 5 x 1 3) TwelveSent
    ∷ []

pub before_t02 : (answers_by step_of_01 (before02 A ++ before02 B) ≡ expected_of (before02 A ++ before02 B)) × (leaving_another_by step_of_01 1 (before02 A ++ before02 B) ≡ [])
unfolding decode01 step_computes step_of_01
before_t02 = (refl, refl)

-- ---- and where T-03 altered it: kind 9 "was refusal 2", also not in force, with a map that is not its own, and with a field out of its range; cut it is 1, and an
-- ill-made section comes first. Every other kind is entered as today, BEGIN, RESUME and MEET row by row

abbrev before03 : Station → List Edge
before03 x =
    refused None (seen_from x [] (figures 90 7 0 None true 3 6 3 0)) (running 9 x 1) UnknownKind
    ∷ refused None (seen_from x [] (figures 90 7 0 None true 3 6 3 0)) (running_with 9 x 2 1) UnknownKind
    ∷ refused None fresh (running 9 x 1) UnknownKind
    ∷ refused None fresh (0x01 ∷ 9 ∷ []) UnknownKind
    ∷ refused None fresh (running 9 x 4) UnknownKind
    ∷ refused None fresh (0x4F ∷ 9 ∷ number_at x ∷ 0 ∷ 100 ∷ 1 ∷ 1 ∷ []) UnknownKind
    ∷ refused None fresh (0x2F ∷ 9 ∷ number_at x ∷ 0 ∷ 100 ∷ 1 ∷ 1 ∷ []) UnknownKind
    ∷ row (seen_from x [] (figures 90 7 13 None true 3 6 3 0)) (running 9 x 1) (Err IllMade) (seen_from x [] (figures 90 7 13 None true 3 6 3 0))
    ∷ refused None fresh (0x0F ∷ 9 ∷ number_at x ∷ []) EndsInside
    ∷ []

pub before_t03 : let rows = declared ++ before03 A ++ before03 B in (answers_by step_of_01 rows ≡ expected_of rows) × (leaving_another_by step_of_01 1 rows ≡ [])
unfolding decode01 step_computes step_of_01
before_t03 = (refl, refl)

-- ---- and where T-07 altered it: a follower's speed, "25 in view 1 and 10 otherwise", had one figure; the first train was booked in every view, as today

abbrev before07 : Station → List Edge
before07 x =
    leaves x (figures 90 7 2 None true 3 6 3 0) (running 5 x 1) (way x + 96) (Kmh 25) (Train 0 0) 0 (figures 100 8 3 (Some 100) true 3 6 2 0)
    ∷ leaves x (figures 90 7 2 None true 3 6 3 0) (running 5 x 2) (way x + 96) (Kmh 10) (Train 0 0) 0 (figures 100 8 3 (Some 100) true 3 6 2 0)
    ∷ leaves x (figures 90 7 2 None true 3 6 3 0) (running 5 x 3) (way x + 96) (Kmh 10) (Train 0 0) 0 (figures 100 8 3 (Some 100) true 3 6 2 0)
    ∷ leaves x (figures 90 7 0 None true 3 6 3 0) (running 5 x 1) (way x + 160) Booked (Train 0 0) 0 (figures 100 8 1 (Some 100) true 3 6 2 0)
    ∷ leaves x (figures 90 7 0 None true 3 6 3 0) (running 5 x 2) (way x + 160) Booked (Train 0 0) 0 (figures 100 8 1 (Some 100) true 3 6 2 0)
    ∷ leaves x (figures 90 7 0 None true 3 6 3 0) (running 5 x 3) (way x + 160) Booked (Train 0 0) 0 (figures 100 8 1 (Some 100) true 3 6 2 0)
    ∷ []

pub before_t07 : let rows = before07 A ++ before07 B in (answers_by step_of_01 rows ≡ expected_of rows) × (leaving_another_by step_of_01 1 rows ≡ [])
unfolding decode01 step_computes step_of_01
before_t07 = (refl, refl)

-- ---- and where T-08 altered it: a RETURN read 11 where a line clear was held, behind 9 and before 14, also with a guest; so by the step before T-08

abbrev before08 : Station → List Edge
before08 x =
    refused (Some x) fresh (returning_with x 1 3) NotInForce
    ∷ refused (Some x) (seen_from x [] (figures 101 9999 12 (Some 101) true 0 2 1 8)) (returning_with x 1 3) BeforeClock
    ∷ refused (Some x) (seen_from x [] (figures 100 9999 12 (Some 71) true 0 2 1 8)) (returning_with x 1 3) HoldsLineClear
    ∷ refused (Some x) (seen_from x [] (figures 100 9998 11 None true 1 3 1 8)) (returning_with x 1 3) HoldsLineClear
    ∷ refused (Some x) (seen_from x [] (figures 100 9999 12 (Some 71) true 0 2 0 8)) (returning_with x 1 3) NoGuest
    ∷ refused (Some x) (seen_from x [] (figures 100 9999 12 (Some 71) true 1 2 0 8)) (returning_with x 1 3) GrantNotAllowed
    ∷ refused (Some x) (seen_from x [] (figures 100 9999 12 (Some 71) true 1 3 0 8)) (returning_with x 1 3) TwelveSent
    ∷ refused (Some x) (seen_from x [] (figures 100 9999 11 (Some 71) true 1 3 0 8)) (returning_with x 1 3) FormsUsed
    ∷ refused (Some x) (seen_from x [] (figures 100 9998 11 (Some 71) true 1 3 0 8)) (returning_with x 1 3) IntervalRunning
    ∷ []

pub before_t08 : let rows = before08 A ++ before08 B in
    (answers_by step_of_01 rows ≡ expected_of rows) × (leaving_another_by step_of_01 1 rows ≡ [])
    × (answers_by step_with_11 rows ≡ expected_of rows) × (leaving_another_by step_with_11 1 rows ≡ [])
unfolding decode01 step_computes step_of_01 step_with_11
before_t08 = (refl, refl, refl, refl)
